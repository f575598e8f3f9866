use Rattle.std.proofs.Common.{◌≡◌, ℕ, ◌+◌, ◌*◌, ◌/◌, take, ap, ◌∙◌, arith}
use Rattle.scrypt_kernel.specs.Pbkdf2.{pbkdf2, pbkdf2_block}
use Rattle.scrypt_kernel.proofs.Pbkdf2Facts.{pbkdf2-piece, pbkdf2_by_blocks}
use Rattle.scrypt.proofs.KeyFacts.{made_alike}
use Rattle.scrypt.proofs.laws.pbkdf2_is_its_blocks.Goals as goal

pub returns : goal.returns
returns c = record {
  same = λ password salt n.
      let count : ℕ = (n + 31) / 32 in
      let piece : pbkdf2 password salt n ≡ take n (pbkdf2 password salt (count * 32)) = pbkdf2-piece password salt 0 n (count * 32) (omega arith) in
      let blocks = pbkdf2_by_blocks password salt count
      ∙ made_alike (λ i. pbkdf2_block password salt (i + 1)) (pbkdf2_block password salt) 0 1 count (λ i below. ap (pbkdf2_block password salt) (omega arith)) in
      piece ∙ ap (take n) blocks;
}

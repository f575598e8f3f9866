use Rattle.std.proofs.Common.{ℕ, ◌+◌, ◌-◌, ◌*◌, length, sym, refl, ◌∙◌, arith}
use Rattle.std.proofs.lemmas.List.{ext_get_or}
use Rattle.std.proofs.lemmas.List.FromFn.{get_or-map-range_with_len, length-map-range_with_len}
use Rattle.scrypt_kernel.specs.{pbkdf2_byte, pbkdf2_from}
use Rattle.scrypt_kernel.proofs.CountFacts.{hashed_as, hashed_both}
use Rattle.scrypt_kernel.proofs.Pbkdf2Facts.{block_written}
use Rattle.scrypt_kernel.proofs.pbkdf2.Blocks.write.Goals as goal

pub loop-i-preserved : goal.loop-i-preserved
loop-i-preserved c = grind (arith, block_written, hashed_both)

pub returns : goal.returns
returns c = record {
  value = λ password salt derived.
      let at : ℕ = 32 * c.args.skipped in
      let long = length-map-range_with_len (pbkdf2_byte password salt) at (length c.args.out.now) in
      ext_get_or 0 c.loop-i.out (pbkdf2_from password salt at (length c.args.out.now)) (omega arith) (λ k h.
      c.loop-i.invariant.written password salt derived k (omega (arith, c.div_ceil-i-end.ensures)) (omega arith)
      ∙ sym (get_or-map-range_with_len (pbkdf2_byte password salt) at (length c.args.out.now) k (at + k) 0 (omega arith) refl));
  counted = λ password salt derived. grind (arith, hashed_as);
}

use Rattle.std.proofs.Common.{◌+◌, ◌*◌, ◌^◌, arith, ap, ◌∙◌}
use Rattle.std.proofs.lemmas.Nat.{one_shl}
use Rattle.scrypt_kernel.specs.{mixed_in, part}
use Rattle.scrypt_kernel.proofs.RoMixFacts.{adds_row}
use Rattle.scrypt_kernel.proofs.table.write_next.Goals as goal

pub returns-else-s-eq0-clause-words : goal.returns-else-s-eq0-clause-words
returns-else-s-eq0-clause-words g c =
    let row_is = rw (c.requires.chunks, c.words.ensures.value) at c.part.ensures.value in
    let mixed = rw (one_shl c.args.s 64 (omega arith)) at c.recompute.ensures.value in
    let long = c.recompute.auto.x ∙ c.requires.chunks in
    adds_row c.recompute.new.x (ap (λ a. c.args.m * a + a) long ∙ omega arith) (rw long (omega (arith, c.requires.last))) long
    c.write.ensures.words (λ k h. mixed k h ∙ ap (mixed_in _ _ (2 ^ c.args.s)) (ap (λ z. part c.args.len z k) row_is))

use Rattle.std.proofs.lemmas.List.{length-append, length-take-le, take_at}
use Rattle.std.proofs.Common.{◌≡◌, ◌+◌, ◌*◌, ◌++◌, append_assoc, length, ◌∙◌, ap, arith, refl}
use Rattle.scrypt_kernel.specs.{mixed_in, part}
use Rattle.scrypt_kernel.proofs.PartFacts.{part-take}
use Rattle.scrypt_kernel.proofs.RoMixFacts.{adds_row, one_mix}
use Rattle.scrypt_kernel.proofs.StepFacts.{behind}
use Rattle.scrypt_kernel.proofs.memory.mix_next.Goals as goal

pub returns-clause-words : goal.returns-clause-words
returns-clause-words g c =
    let n = g.O.OrderedBlocks.count in
    let len = c.args.len in
    let i = c.args.i in
    let all = c.args.memory.now in
    let rows = c.split_at_mut-rows.result.0.now in
    let row_len : c.count.result * len ≡ n * len = ap (λ n. n * len) c.count.ensures.value in
    let back_len = rw row_len at c.split_at_mut-rows.ensures.back_len in
    let full : length c.mix.new.output ≡ n * len = grind (arith, length-take-le) in
    let front_is = rw row_len at c.split_at_mut-rows.ensures.front in
    let row_is = rw row_len at c.part.ensures.value ∙ ap (λ z. part (n * len) z i) front_is
    ∙ part-take (n * len) i _ all (omega arith) in
    adds_row c.mix.new.output refl (omega (arith, c.requires.room)) full
    (rw (← append_assoc) (take_at (rows ++ c.mix.new.output) _ _ (omega (arith, row_len, c.split_at_mut-rows.ensures.front_len, length-append rows c.mix.new.output)))
    ∙ ap (λ z. z ++ c.mix.new.output) front_is)
    (λ k h. c.mix.ensures.value k h ∙ one_mix _ _ _
    ∙ ap (mixed_in _ _ 1) (c.of-last.ensures.parts k (omega (arith, h, c.count-2.ensures.value))
    ∙ ap (λ z. part len z k) row_is))

pub returns-clause-rest : goal.returns-clause-rest
returns-clause-rest g c = grind (arith, length-take-le, behind)

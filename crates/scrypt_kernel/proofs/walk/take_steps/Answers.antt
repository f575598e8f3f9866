use Rattle.std.proofs.Common.{◌≡◌, ◌*◌, arith, refl}
use Rattle.scrypt_kernel.proofs.WalkFacts.{more_steps, one_step}
use Rattle.scrypt_kernel.proofs.walk.take_steps.Goals as goal

pub pairs-preserved : goal.pairs-preserved
pairs-preserved g c =
    let lens = c.requires.lens in
    let one = one_step g.met.O.OrderedBlocks.inverse lens _ _ (omega (arith, c.pairs.auto.x, lens.chunks))
    c.step.ensures.value c.step.ensures.counted in
    let two = one_step g.met.O.OrderedBlocks.inverse lens _ _
    (omega (arith, c.step.auto.next, c.pairs.auto.next, lens.scratch, lens.chunks))
    c.step-in-pairs.ensures.value c.step-in-pairs.ensures.counted in
    more_steps lens.some (more_steps lens.some c.pairs.invariant one _ refl) two _ (omega arith)

pub returns-then-count-eq1 : goal.returns-then-count-eq1
returns-then-count-eq1 g c =
    let lens = c.requires.lens in
    let one = one_step g.met.O.OrderedBlocks.inverse lens _ _ (omega (arith, c.pairs.auto.x, lens.chunks))
    c.step-then-count-eq1.ensures.value c.step-then-count-eq1.ensures.counted in
    record { steps = rw c.copy_from_slice.ensures.after (more_steps lens.some c.pairs.invariant one _ (omega (arith, c.if-count-eq1.true))) }

pub returns-else-count-eq1 : goal.returns-else-count-eq1
returns-else-count-eq1 g c =
    let all : 2 * c.pairs._k ≡ c.args.count = omega (arith, c.if-count-eq1.false) in
    record { steps = rw all at c.pairs.invariant }

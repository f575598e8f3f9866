use Rattle.std.proofs.lemmas.List.{length-take-le}
use Rattle.std.proofs.Common.{◌≡◌, ◌+◌, ◌-◌, ◌*◌, ◌/◌, ℕ, ap, min, arith}
use Rattle.scrypt_kernel.proofs.CountFacts.{counted_both}
use Rattle.scrypt_kernel.proofs.StepFacts.{behind, mixing_front, mixing_longer, steps_walked}
use Rattle.scrypt_kernel.proofs.HashFacts.{more_blocks}
use Rattle.scrypt_kernel.proofs.steps.step_chunks.Goals as goal

pub returns-then-at-end-clause-mixed : goal.returns-then-at-end-clause-mixed
returns-then-at-end-clause-mixed g c b at =
    let used = ap (λ n. n * (32 * c.args.r)) c.count-n.ensures.value in
    let front = mixing_front c.args.scratch.now at (c.count-n.result * (32 * c.args.r)) (omega (arith, used)) in
    let filled = c.fill_on-at.ensures.mixed b (rw (← c.split_at_mut-x.ensures.front) at front) in
    let end : ℕ = c.args.done + c.min.result in
    let from : ℕ = c.fill_on-at.result in
    let walked = steps_walked g.met.O.OrderedBlocks.inverse _ _ (omega arith)
    filled c.take_steps.new.x end (end - from) (omega (arith, c.fill_on-at.ensures.done, c.if-at-end.true))
    (omega (arith, c.if-at-end.true)) c.take_steps.ensures.steps.walked in
    grind (arith, mixing_longer)

pub returns-else-at-end-clause-mixed : goal.returns-else-at-end-clause-mixed
returns-else-at-end-clause-mixed g c b at = grind (arith, mixing_front, mixing_longer)

pub returns-then-at-end-clause-counted : goal.returns-then-at-end-clause-counted
returns-then-at-end-clause-counted g c =
    let whole : 32 * c.args.r / 32 ≡ c.args.r = omega arith in
    let from : ℕ = c.fill_on-at.result in
    grind (arith, counted_both, more_blocks)

pub returns-then-at-end-clause-scratch_rest : goal.returns-then-at-end-clause-scratch_rest
returns-then-at-end-clause-scratch_rest g c = grind (arith, behind, length-take-le)

pub returns-else-at-end-clause-scratch_rest : goal.returns-else-at-end-clause-scratch_rest
returns-else-at-end-clause-scratch_rest g c = grind (arith, behind, length-take-le)

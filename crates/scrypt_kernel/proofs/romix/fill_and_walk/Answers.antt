use Rattle.std.proofs.Common.{refl, arith, zero-add}
use Rattle.std.proofs.lemmas.Nat.{one_shl}
use Rattle.scrypt_kernel.specs.RoMix.{ro_mix}
use Rattle.scrypt_kernel.proofs.CountFacts.{counted_none}
use Rattle.scrypt_kernel.proofs.WalkFacts.{filled_and_walked, no_cost, starts_walk}
use Rattle.scrypt_kernel.proofs.romix.fill_and_walk.Goals as goal

pub returns-clause-value : goal.returns-clause-value
unfolding ro_mix
returns-clause-value g c k h =
    let steps = rw (c.words.ensures.value, one_shl c.args.log_n 64 (omega (arith, c.requires.lens.small))) at c.take_steps.ensures.steps in
    rw zero-add at (steps.walked k h _ 0 (starts_walk c.fill.ensures.filled k h)).walked

pub returns-clause-counted : goal.returns-clause-counted
returns-clause-counted g c =
    let steps = rw (c.words.ensures.value, one_shl c.args.log_n 64 (omega (arith, c.requires.lens.small))) at c.take_steps.ensures.steps in
    let none = counted_none _ _ c.fill.new.cores (no_cost _ _ c.args.len c.args.log_n c.args.s) in
    let walked = rw zero-add at (steps.counted _ 0 c.fill.new.cores (starts_walk c.fill.ensures.filled 0 c.requires.lens.some) none) in
    filled_and_walked _ _ c.args.len c.args.log_n c.args.s _ refl c.fill.ensures.counted walked

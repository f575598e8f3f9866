use Rattle.std.proofs.Common.{ap₂, arith, ◌∙◌}
use Rattle.scrypt_kernel.specs.{mix_of}
use Rattle.scrypt_kernel.proofs.walk.mix_recomputed.Goals as goal

pub returns-clause-value : goal.returns-clause-value
returns-clause-value g c k h =
    c.mix.ensures.value k h ∙ ap₂ (mix_of _ _) (c.of.ensures.parts k (omega (arith, h, c.count.ensures.value)))
    (c.of-2.ensures.parts k (omega (arith, h, c.count-2.ensures.value)) ∙ c.recompute.ensures.value k h)

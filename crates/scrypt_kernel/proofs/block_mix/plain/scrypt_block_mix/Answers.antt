use Rattle.std.proofs.Common.{length, refl, ap, sym, ◌∙◌, arith}
use Rattle.scrypt_kernel.specs.BlockMix.{block_mix}
use Rattle.scrypt_kernel.proofs.OrderFacts.{permuted_in_place}
use Rattle.scrypt_kernel.proofs.PartFacts.{only_part}
use Rattle.scrypt_kernel.proofs.block_mix.plain.scrypt_block_mix.Goals as goal

pub returns-clause-value : goal.returns-clause-value
returns-clause-value c =
    sym (only_part (length c.args.input.now) c.mix.new.output (omega arith)) ∙ c.mix.ensures.value 0 (omega arith)
    ∙ permuted_in_place _ ∙ ap block_mix (permuted_in_place _ ∙ c.of.ensures.parts 0 (omega arith) ∙ only_part _ c.args.input.now refl)

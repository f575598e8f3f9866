use Rattle.std.proofs.Common.{arith}
use Rattle.std.proofs.lemmas.List.{length-take-le, take_at}
use Rattle.scrypt_kernel.proofs.BlockMixFacts.{turns_at}
use Rattle.scrypt_kernel.proofs.PartFacts.{part-take, part_after, part_append_front, part_inside}
use Rattle.scrypt_kernel.proofs.RoMixFacts.{part_of_row, place_inside}
use Rattle.scrypt_kernel.proofs.memory.take_turn_of_next.Goals as goal

pub returns-clause-turned : goal.returns-clause-turned
returns-clause-turned g c first before =
    grind (arith, take_at, part_of_row, part-take, place_inside, length-take-le, part_after, part_append_front, part_inside, turns_at)

use Rattle.std.proofs.Common.{length, arith}
use Rattle.scrypt_kernel.proofs.CountFacts.{counted_none}
use Rattle.scrypt_kernel.proofs.PartFacts.{length-part, part_inside}
use Rattle.scrypt_kernel.proofs.BlockMixFacts.{all_turns, no_turn}
use Rattle.scrypt_kernel.proofs.block_mix.mix.Goals as goal

pub turns-init : goal.turns-init
turns-init g c = grind (arith, counted_none, no_turn)

pub returns-clause-value : goal.returns-clause-value
returns-clause-value g c k h =
    let len = c.args.len in
    let room = part_inside len k g.O.OrderedBlocks.count (length c.args.output.now) h (omega (arith, c.requires.output)) in
    all_turns g.met.O.OrderedBlocks.inverse _ c.requires.row (c.read-x.ensures.long k h) _ _ _ (omega arith)
    (length-part len k c.turns.output (omega (arith, room))) (c.turns.invariant.mixed k h)

use Rattle.scrypt_kernel.proofs.BlockMixFacts.{one_more_turn}
use Rattle.scrypt_kernel.proofs.block_mix.take_turn.Goals as goal

pub returns-clause-mixed : goal.returns-clause-mixed
returns-clause-mixed g c k h before =
    let one = c.mix_block-x.ensures in
    let two = c.mix_block-x-2.ensures in
    one_more_turn g.met.O.OrderedBlocks.inverse _ c.requires.row (one.long k h) _ _ _ _ _ _ _ c.requires.inside before
    (one.value k h) (c.write.ensures.written k h) (λ j other. c.write.ensures.others k j h other)
    (two.value k h) (c.write-2.ensures.written k h) (λ j other. c.write-2.ensures.others k j h other)

use Rattle.std.proofs.Common.{length, arith}
use Rattle.scrypt_kernel.proofs.OrderFacts.{block_by_places}
use Rattle.scrypt_kernel.proofs.PartFacts.{only_part}
use Rattle.scrypt_kernel.proofs.order.diagonal.permute_block.Goals as goal

pub returns-clause-written : goal.returns-clause-written
returns-clause-written c =
    let whole = only_part (length c.args.x.now) c.write.new.x (omega arith) in
    let written = rw whole at (c.write.ensures.written 0 (omega arith)) in
    grind (arith, block_by_places)

pub returns-clause-others : goal.returns-clause-others
returns-clause-others c j other = grind (arith, only_part)

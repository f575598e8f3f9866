use Rattle.std.proofs.Common.{arith, ◌*◌}
use Rattle.scrypt_kernel.proofs.PartFacts.{part_put_same, part_put_other}
use Rattle.scrypt_kernel.proofs.words.put_words.Goals as goal

pub returns-clause-written : goal.returns-clause-written
returns-clause-written c =
    rw c.copy_from_slice.ensures.after
    (part_put_same 4 c.args.k c.args.x.now c.args.from.now (4 * c.args.k) _ (omega arith) (omega arith) c.told-from (omega (arith, c.requires)))

pub returns-clause-others : goal.returns-clause-others
returns-clause-others c =
    rw c.copy_from_slice.ensures.after
    (part_put_other 4 c.args.k c.args.x.now c.args.from.now (4 * c.args.k) _ (omega arith) (omega arith) c.told-from (omega (arith, c.requires)))

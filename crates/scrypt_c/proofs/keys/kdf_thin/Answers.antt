use Rattle.std.proofs.Common.{arith, length, rules}
use Rattle.scrypt.proofs.CostFacts.{whole_table_cost}
use Rattle.scrypt.specs.Terms.{workspace_of}
use Rattle.scrypt_c.specs.{AreBuffers}
use Rattle.scrypt_c.proofs.InBuffersFacts.{wiped_at_zero}
use Rattle.scrypt_c.proofs.keys.kdf_thin.Goals as goal

-- the buffers of a whole table are wiped whole
pub returns-then-s-eq0-clause-key : goal.returns-then-s-eq0-clause-key
returns-then-s-eq0-clause-key c =
    let new = c.scrypt_with_buffers-whole.new in
    let before = workspace_of c.args.chunks.now c.args.table.now c.args.scratch.now in
    let are : AreBuffers c.args.log_n c.args.r c.args.p c.args.s (length before.chunks) (length before.table) (length before.scratch) = grind arith in
    record {
      key = search rules;
      buffers = search rules;
      wiped = λ ok. wiped_at_zero c.args.log_n c.args.r c.args.p c.args.s before (workspace_of new.chunks new.table new.scratch) (search rules) are c.if-s-eq0.true (search rules);
      unchanged = search rules;
    }

-- no row is recomputed
pub returns-then-s-eq0-clause-work : goal.returns-then-s-eq0-clause-work
returns-then-s-eq0-clause-work c = rw (c.if-s-eq0.true, whole_table_cost) (search rules)

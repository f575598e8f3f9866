use Rattle.std.proofs.Common.{◌*◌, ◌-◌, length, true}
use Rattle.scrypt.specs.Terms.{AreCountedAs, CanGoOn, IsRestKept, IsUnderWay, WentOn, max_step, mixes_done}
use Rattle.scrypt.specs.Terms.{workspace_of}
use Rattle.scrypt_kernel.specs.Steps.{all_mixes}
use Rattle.scrypt.proofs.stepping.scrypt_in_steps.Given as goal

abbrev pub invariant-steps : goal.invariant-steps
invariant-steps g l = record {
  callable : goal.F-IsAlwaysCallable g l.go_on;
  going : CanGoOn g.W.Backend.most g.W.Backend.scalar l.params l.at l.table l.scratch;
  under_way : IsUnderWay l.password l.salt l.params l.at l.chunks l.table l.scratch;
  shown : WentOn (λ f done on h. goal.F-step g f done on h) (max_step l.params l.count (length l.fn.table) (length l.fn.scratch)) l.fn.go_on
      (mixes_done l.params l.at * (2 * l.params.r)) l.go_on;
  rest : IsRestKept l.params (workspace_of l.fn.chunks l.fn.table l.fn.scratch) (workspace_of l.chunks l.table l.scratch);
  counted : AreCountedAs true (mixes_done l.params l.at * (2 * l.params.r)) l.initial.cores l.cores;
}

abbrev pub decreases-steps : goal.decreases-steps
decreases-steps g l = l.params.p * all_mixes l.params.log_n - mixes_done l.params l.at

use Rattle.std.proofs.Common.{◌≡◌, ◌-◌, arith}
use Rattle.std.proofs.Math.Nat.{mul-le-mul_right}
use Rattle.std.proofs.lemmas.Nat.{one_shl}
use Rattle.scrypt_kernel.proofs.CountFacts.{counted_both}
use Rattle.scrypt_kernel.proofs.StepFacts.{drop_same, last_row_mixed, one_more_row_mixed, one_more_times}
use Rattle.scrypt_kernel.proofs.steps.fill_on.Goals as goal
use Rattle.scrypt_kernel.proofs.steps.fill_on.Goals.{then-m-log_n, else-m-log_n}

pub mixes-preserved : goal.mixes-preserved
mixes-preserved g c =
    let o = g.O.OrderedBlocks in
    let m = c.mixes.m in
    let every : c.args.log_n - 0 ≡ c.args.log_n = omega arith in
    let shifted = one_shl c.args.log_n 64 (omega (arith, c.requires.lens.small)) in
    let sum = one_more_times c.args.done m _ c.mixes.auto.m in
    elim c.if-m-log_n.branch [
      | then-m-log_n w ↦
          rw (w.table-is, w.x-is, w.cores-is) (record {
            mixed = λ b begun. grind (arith, one_more_row_mixed);
            rest = grind (arith, drop_same, mul-le-mul_right);
            counted = counted_both _ c.mixes.invariant.counted w.mix_next.ensures.counted sum;
          })
      | else-m-log_n w ↦ grind (arith, last_row_mixed, counted_both)
    ]

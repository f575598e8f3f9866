use Rattle.std.proofs.Common.{◌≡◌, ℕ, List, drop, ◌^◌, ◌-◌, ◌*◌, ◌/◌}
use Rattle.scrypt_kernel.specs.{AreCountedAs, IsMixing}
use Rattle.scrypt_kernel.proofs.steps.fill_on.Given as goal

abbrev pub invariant-mixes : goal.invariant-mixes
invariant-mixes g l =
    let o = g.O.OrderedBlocks in
    record {
      mixed : (b : ℕ → List ℕ) → IsMixing o.pivot o.count b l.len l.log_n l.done l.initial.table l.initial.x
          → IsMixing o.pivot o.count b l.len l.log_n l.m l.table l.x;
      rest : drop (2 ^ l.log_n * (o.count * l.len)) l.table ≡ drop (2 ^ l.log_n * (o.count * l.len)) l.initial.table;
      counted : AreCountedAs o.diagonal ((l.m - l.done) * (o.count * (2 * (l.len / 32)))) l.initial.cores l.cores;
    }

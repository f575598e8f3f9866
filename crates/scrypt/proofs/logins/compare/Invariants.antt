use Rattle.std.proofs.Common.{◌≡◌, ◌+◌, ◌++◌, length, map, take}
use Rattle.scrypt.specs.Terms.{AreHashed, Attempt, all_cost, all_of, attempts, compare_cost, mixed_of, verdict}
use Rattle.scrypt.specs.Terms.{with_limited_refusal}
use Rattle.scrypt.proofs.logins.compare.Given as goal

-- the first are compared, and the mixed chunks of the others are left
abbrev pub invariant-loop-login : goal.invariant-loop-login
invariant-loop-login l =
    let others = attempts l.left in
    record {
      rest : l.rest ≡ all_of mixed_of others;
      long : l.at + length l.left ≡ length l.verdicts;
      compared : map with_limited_refusal (take l.at l.verdicts) ++ map (λ (a : Attempt). verdict a.0 a.1) others
          ≡ map (λ (a : Attempt). verdict a.0 a.1) (attempts l.logins);
      counted : (after : _) → AreHashed (all_cost compare_cost others) l.cores after
          → AreHashed (all_cost compare_cost (attempts l.logins)) l.initial.cores after;
    }

abbrev pub decreases-loop-login : goal.decreases-loop-login
decreases-loop-login l = length l.left

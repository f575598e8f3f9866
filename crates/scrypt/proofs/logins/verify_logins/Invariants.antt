use Rattle.std.proofs.Common.{◌≡◌, ◌+◌, ◌++◌, length, map, take, sum_by}
use Rattle.scrypt.specs.Terms.{AreCompressed, AreCounted, AreLeft, Workspace, attempts, cores_on, hashed_on, verdict_on}
use Rattle.scrypt.specs.Terms.{with_limited_refusal, workspace_of}
use Rattle.scrypt.proofs.logins.verify_logins.Given as goal

-- the first are verified separately, and the others still have to be
abbrev pub invariant-loop-login : goal.invariant-loop-login
invariant-loop-login g l =
    let before = workspace_of l.initial.chunks l.initial.table l.initial.scratch in
    let now = workspace_of l.chunks l.table l.scratch in
    let all = attempts l.logins in
    let others = attempts l.left in
    record {
      long : l.at + length l.left ≡ length l.verdicts;
      verified : map with_limited_refusal (take l.at l.verdicts) ++ map (verdict_on now) others ≡ map (verdict_on before) all;
      counted : (after : _) → AreCounted (sum_by (cores_on now) others) l.cores after
          → AreCounted (sum_by (cores_on before) all) l.initial.cores after;
      hashed : (after : _) → AreCompressed (sum_by (hashed_on now) others) l.cores after
          → AreCompressed (sum_by (hashed_on before) all) l.initial.cores after;
      left : (after : Workspace) → AreLeft others now after → AreLeft all before after;
    }

abbrev pub decreases-loop-login : goal.decreases-loop-login
decreases-loop-login g l = length l.left

use Rattle.std.proofs.Common.{◌≡◌, Some, drop}
use Rattle.scrypt.specs.Logins.{attempts, count_of}
use Rattle.scrypt.proofs.logins.count_of.Given as goal

-- the chunks of those from i on were counted
abbrev pub invariant-loop-i : goal.invariant-loop-i
invariant-loop-i l = count_of l.params (attempts (drop l.i l.logins)) ≡ Some l.count

use Rattle.std.proofs.Common.{◌≤◌, Ok, Err, refl, rules, arith}
use Rattle.std.specs.Prelude.{IsTrue, ◌↔◌, length, nat_le}
use Rattle.scrypt.proofs.AcceptedFacts.{leb_decided}
use Rattle.scrypt.proofs.laws.within_changes_nothing.Goals as goal

pub returns-clause-same : goal.returns-clause-same
returns-clause-same c limits (Err why) is = refl
returns-clause-same c limits (Ok s) is = grind arith

pub returns-clause-allowed : goal.returns-clause-allowed
returns-clause-allowed c limits s = grind (arith, leb_decided)

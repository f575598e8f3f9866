use Rattle.std.proofs.Common.{arith}
use Rattle.std.proofs.lemmas.List.{drop_more, drop-map}
use Rattle.scrypt.specs.Logins.{attempt_of}
use Rattle.scrypt.proofs.LoginFacts.{none_of_more}
use Rattle.scrypt.proofs.logins.count_of.Goals as goal

pub returns-in_err-count : goal.returns-in_err-count
returns-in_err-count c =
    grind (
      arith,
      c.loop-i-test.true,
      drop_more,
      c.loop-i.auto.i,
      c.index-logins-i.is,
      c.from_residual.ensures,
      none_of_more c.args.params.now,
      drop-map attempt_of,
      c.loop-i.invariant,
    )

use Rattle.std.proofs.Common.{arith, ◌∙◌, sym}
use Rattle.std.proofs.lemmas.Bool.{false≢true, false_from_ne_true}
use Rattle.password_hash.specs.{read_hash}
use Rattle.password_hash.proofs.PhcReadingFacts.{not_begun}
use Rattle.password_hash.proofs.phc.hash.parse.Goals as goal

pub returns-in_err-algorithm : goal.returns-in_err-algorithm
returns-in_err-algorithm c = record { value = c.from_residual.ensures ∙ sym (not_begun c.args.text.now c.in_err-algorithm.ensures) }

pub returns-in_default : goal.returns-in_default
unfolding read_hash
returns-in_default c = grind (arith, false_from_ne_true, false≢true)

pub returns : goal.returns
unfolding read_hash
returns c = grind arith

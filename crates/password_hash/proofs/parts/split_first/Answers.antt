use Rattle.std.proofs.Common.{lit<, None}
use Rattle.std.proofs.lemmas.Str.Pattern.{strip_prefix_char}
use Rattle.password_hash.specs.Parts.{dollar}
use Rattle.password_hash.proofs.parts.split_first.Goals as goal

pub returns-in_err-rest : goal.returns-in_err-rest
returns-in_err-rest c =
    rw c.from_residual.ensures (strip_prefix_char dollar c.args.text.now None c.in_err-rest.ensures.cases (lit< tt))

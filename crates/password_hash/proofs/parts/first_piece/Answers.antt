use Rattle.std.proofs.Common.{arith, ◌≡◌, ◌==◌, get_or, None, false}
use Rattle.std.proofs.lemmas.Bool.{ne_eqb}
use Rattle.std.proofs.lemmas.List.Elements.{All-from_get_or}
use Rattle.std.proofs.lemmas.List.Splits.{slice_split_first, slice_split_none}
use Rattle.std.proofs.lemmas.Str.Pattern.{split_once_first, split_parts}
use Rattle.password_hash.proofs.parts.first_piece.Goals as goal

pub returns-in-Some : goal.returns-in-Some
returns-in-Some c = grind (arith, split_once_first, slice_split_first)

pub returns-in-None : goal.returns-in-None
returns-in-None c =
    let text = c.args.text.now in
    let other = split_parts c.args.separator text None c.in-None.ensures.cases c.requires in
    slice_split_none (λ b. b == c.args.separator) text
    (All-from_get_or (λ b. (b == c.args.separator) ≡ false) text 0 (λ i below. ne_eqb (get_or text i 0) c.args.separator (other i below)))

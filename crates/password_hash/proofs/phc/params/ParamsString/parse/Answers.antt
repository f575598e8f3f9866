use Rattle.std.proofs.Common.{arith, ◌≡◌, ◌∷◌, ◌++◌, ◌∙◌, [], append_assoc, map, ap, sym, rules}
use Rattle.std.proofs.lemmas.List.{append-nil}
use Rattle.std.proofs.lemmas.Bool.{false≢true, false_from_ne_true}
use Rattle.password_hash.specs.{are_pairs, pair_of, pairs_left, pairs_of, parsed_pairs}
use Rattle.password_hash.proofs.ParamsFacts.{ArePairs-front}
use Rattle.password_hash.proofs.PhcReadingFacts.{pairs_decided}
use Rattle.password_hash.proofs.phc.params.ParamsString.parse.Goals as goal

pub returns-in_err-add : goal.returns-in_err-add
unfolding parsed_pairs
returns-in_err-add c =
    let params = c.loop-left.params in
    let pair = pair_of c.first_piece.result.0.now in
    let others = pairs_left c.first_piece.result.1 in
    let all : (params ++ pair ∷ []) ++ others ≡ pairs_of c.args.text.now = append_assoc params (pair ∷ []) others
    ∙ ap (λ pieces. params ++ map pair_of pieces) (sym c.first_piece.ensures)
    ∙ ap (λ left. params ++ pairs_left left) (sym c.in-Some.is) ∙ c.loop-left.invariant.read in
    let none = false_from_ne_true (are_pairs (pairs_of c.args.text.now)) (λ are.
    let next = ArePairs-front (params ++ pair ∷ []) others (rw (← all) at ((pairs_decided (pairs_of c.args.text.now)).0 are)) in
    false≢true (c.in_err-add.ensures.exact.1 (rw (c.cut.ensures.before, c.cut.ensures.after) next))) in
    rw none (search rules)

pub returns : goal.returns
unfolding parsed_pairs
returns c = grind (arith, append-nil, pairs_decided)

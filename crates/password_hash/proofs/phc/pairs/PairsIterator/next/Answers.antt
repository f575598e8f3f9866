use Rattle.std.proofs.Common.{◌≡◌, ◌∷◌, ◌∙◌, ap, subst, map}
use Rattle.std.specs.Prelude.{All, IsTrue}
use Rattle.std.proofs.lemmas.Bool.{false≢true}
use Rattle.std.proofs.lemmas.List.Elements.{All-head, All-tail}
use Rattle.password_hash.specs.{is_identifier, pair_of, pairs_left}
use Rattle.password_hash.proofs.phc.pairs.PairsIterator.next.Goals as goal
use Rattle.password_hash.proofs.phc.pairs.PairsIterator.next.Goals.{After-cut}

-- the pairs that are left are the first and the others
left_are : (c : After-cut) → pairs_left c.self.inside.left ≡ pair_of c.first_piece.result.0.now ∷ pairs_left c.first_piece.result.1
left_are c = ap pairs_left c.in_ok-self.was ∙ ap (map pair_of) c.first_piece.ensures

named : (c : After-cut) → All (λ pair. IsTrue (is_identifier pair.0)) (pair_of c.first_piece.result.0.now ∷ pairs_left c.first_piece.result.1)
named c = subst (All (λ pair. IsTrue (is_identifier pair.0))) (left_are c) c.self.invariant

pub unreachable-requires : goal.unreachable-requires
unreachable-requires c =
    let is = All-head (λ pair. IsTrue (is_identifier pair.0)) _ _ (named (goal.at.unreachable-requires c).After-cut) in
    false≢true (c.in_default.ensures.exact.1 (rw c.cut.ensures.before is))

pub invariant_of-self : goal.invariant_of-self
invariant_of-self c = All-tail (λ pair. IsTrue (is_identifier pair.0)) _ _ (named (goal.at.invariant_of-self c).After-cut)

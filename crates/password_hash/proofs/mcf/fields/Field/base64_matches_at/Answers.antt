use Rattle.std.proofs.Common.{◌≡◌, ℕ, ◌+◌, ◌*◌, ◌/◌, ◌≤◌, List, refl, arith, length, take, drop, length-drop}
use Rattle.password_hash.specs.Crypt64.{Crypt64, IsPiece, encoded_len}
use Rattle.password_hash.proofs.Base64Facts.{IsBytes-drop, IsBytes-take}
use Rattle.password_hash.proofs.GroupFacts.{Crypt64-one, crypt64_of-cut, length-crypt64_of}
use Rattle.password_hash.proofs.mcf.fields.Field.base64_matches_at.Goals as goal

-- the letters of a piece are together
piece_encoded : (all letters : List ℕ) (at n : ℕ) → Crypt64 all letters → IsPiece at n (length all)
    → Crypt64 (take n (drop at all)) (take (encoded_len n) (drop (at / 3 * 4) letters))
piece_encoded all letters at n is piece =
    let place : at / 3 * 4 ≡ encoded_len at = omega (arith, piece.begins) in
    let after = (crypt64_of-cut all at (omega (arith, piece.inside)) (λ _. piece.begins)).1 in
    let before = (crypt64_of-cut (drop at all) n (omega (arith, piece.inside, length-drop at all))
    (λ below. piece.ends (omega (arith, below, length-drop at all)))).0 in
    record {
      are_bytes = IsBytes-take n (drop at all) (IsBytes-drop at all is.are_bytes);
      encoding = rw (is.encoding, place, after, before) refl;
    }

-- they are within the letters of all
piece_inside : (all letters : List ℕ) (at n : ℕ) → Crypt64 all letters → IsPiece at n (length all)
    → at / 3 * 4 + encoded_len n ≤ length letters
piece_inside all letters at n is piece = grind (arith, length-crypt64_of)

pub letters_at-requires : goal.letters_at-requires
letters_at-requires c = grind (arith, piece_inside)

pub returns : goal.returns
returns c = record {
  exact = λ all is.
      let at = c.args.at in
      let same : c.requires.piece.0 ≡ all = Crypt64-one _ _ _ c.requires.piece.1 is in
      let compared = rw (c.letters_at.ensures, c.as_bytes.ensures.value) at c.is_encoding.ensures in
      let piece = piece_encoded all _ at (length c.args.bytes.now) is (rw (← same) c.requires.piece.2) in (
        λ matches. Crypt64-one _ _ _ (compared.0 matches) piece,
        λ is_piece. compared.1 (rw (← is_piece) at piece),
      );
}

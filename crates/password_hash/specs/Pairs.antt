-- The parameters of a hash (PHC string format): pairs of a name and a value.
use Rattle.std.specs.Prelude.{◌≢◌, ℕ, ◌≤◌, ◌==◌, ◌&&◌, Bool, IsTrue, not, nat_eq, List, [], ◌∷◌, ◌++◌, length, map, codes, All, AllPairs, Option}
use Rattle.std.specs.Borrow.{Bor}
use Rattle.std.specs.List.{join_with_byte, slice_split, before_first, after_first}
use Rattle.std.specs.Cmp.Lexicographic.{pointwise}
use Rattle.std.specs.Str.{bytes_eq}
use Rattle.password_hash.specs.Letters.{is_identifier, is_value}
use Rattle.password_hash.specs.Parts.{pieces_left}

-- the byte between a name and its value
abbrev pub equals : ℕ
equals = 61

-- the byte between two pairs
abbrev pub comma : ℕ
comma = 44

-- a name, which is an identifier and is not `v`, and a value
abbrev pub is_pair : List ℕ × List ℕ → Bool
is_pair pair = is_identifier pair.0 && (not (bytes_eq pair.0 (codes "v")) && is_value pair.1)

-- the same, as a statement
abbrev pub IsPair : List ℕ × List ℕ → Type 0
IsPair pair = IsTrue (is_pair pair)

-- `name=value`
abbrev pub pair_text : List ℕ × List ℕ → List ℕ
pair_text pair = pair.0 ++ (equals ∷ pair.1)

-- the pairs, separated by `,`
abbrev pub pairs_text : List (List ℕ × List ℕ) → List ℕ
pairs_text pairs = join_with_byte comma (map pair_text pairs)

-- the parameters of one hash: no name occurs twice, and the text has at most 127 bytes
pub record ArePairs (pairs : List (List ℕ × List ℕ)) : Type 0 where
  pub each : All IsPair pairs
  pub once : AllPairs (λ first second. first.0 ≢ second.0) pairs
  pub short : length (pairs_text pairs) ≤ 127

-- whether two pairs are equal
abbrev pub pair_eq : List ℕ × List ℕ → List ℕ × List ℕ → Bool
pair_eq first second = pointwise nat_eq first.0 second.0 && pointwise nat_eq first.1 second.1

-- the text with one more pair at its end
abbrev pub with_pair : List ℕ → List ℕ × List ℕ → List ℕ
with_pair [] pair = pair_text pair
with_pair (byte ∷ text) pair = (byte ∷ text) ++ (comma ∷ pair_text pair)

-- the text before the first `=`, and the text after it
abbrev pub pair_of : List ℕ → List ℕ × List ℕ
pair_of text = (before_first (λ b. b == equals) text, after_first (λ b. b == equals) text)

-- the pairs that a text encodes
abbrev pub pairs_of : List ℕ → List (List ℕ × List ℕ)
pairs_of [] = []
pairs_of (byte ∷ text) = map pair_of (slice_split (λ b. b == comma) (byte ∷ text))

-- the pairs of the rest of a text of pairs, if there is a rest
abbrev pub pairs_left : Option (Bor (List ℕ)) → List (List ℕ × List ℕ)
pairs_left left = map pair_of (pieces_left comma left)

-- Texts that consist of parts, each after a `$`, such as PHC and MCF strings.
use Rattle.std.specs.Prelude.{ℕ, ◌==◌, List, [], ◌∷◌, Option, None, Some}
use Rattle.std.specs.Borrow.{Bor}
use Rattle.std.specs.List.{flat_map, slice_split}

-- the byte before each part
abbrev pub dollar : ℕ
dollar = 36

-- the text of these parts, each after a `$`
abbrev pub parts_text : List (List ℕ) → List ℕ
parts_text parts = flat_map (λ part. dollar ∷ part) parts

-- the parts of a text, split at each `$`; the first is the text before the first `$`
abbrev pub parts_of : List ℕ → List (List ℕ)
parts_of text = slice_split (λ byte. byte == dollar) text

-- the pieces of the rest of a text, split at each c, if there is a rest
abbrev pub pieces_left : ℕ → Option (Bor (List ℕ)) → List (List ℕ)
pieces_left c None = []
pieces_left c (Some text) = slice_split (λ byte. byte == c) text.now

-- the parts of the rest of a text
abbrev pub parts_left : Option (Bor (List ℕ)) → List (List ℕ)
parts_left left = pieces_left dollar left

-- what was read from the front of a text, and the parts of the rest of the text
abbrev pub before_parts : {A : Type 0} → A × Option (Bor (List ℕ)) → A × List (List ℕ)
before_parts (read, left) = (read, parts_left left)

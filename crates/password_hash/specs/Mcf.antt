-- MCF strings, in this project's profile of crypt(5): `$`, an id, and any number of fields, each
-- after a `$`.
use Rattle.std.specs.Prelude.{◌≡◌, ◌≢◌, ℕ, ◌<◌, IsTrue, List, [], ◌∷◌, All, length, drop, slice_index_or}
use Rattle.std.specs.List.{list_all}
use Rattle.password_hash.specs.Letters.{is_identifier_letter}
use Rattle.password_hash.specs.Parts.{dollar, parts_of, parts_text}

-- an id: one or more of `a-z0-9-`
abbrev pub IsId : List ℕ → Type 0
IsId id = (0 < length id) × IsTrue (list_all is_identifier_letter id)

-- a field: any text without a dollar
abbrev pub IsField : List ℕ → Type 0
IsField field = All (λ byte. byte ≢ dollar) field

-- the text of this id and these fields
pub record IsMcfText (text id : List ℕ) (fields : List (List ℕ)) : Type 0 where
  pub is_id : IsId id
  pub are_fields : All IsField fields
  pub written : text ≡ parts_text (id ∷ fields)

-- the text of some id and some fields
abbrev pub IsMcf : List ℕ → Type 0
IsMcf text = (id : List ℕ) × (fields : List (List ℕ)) × IsMcfText text id fields

-- the id of an MCF string, after the first dollar
unfoldable pub id_of : List ℕ → List ℕ
id_of text = slice_index_or (parts_of text) 1 []

-- the fields of an MCF string, after the id
unfoldable pub fields_of : List ℕ → List (List ℕ)
fields_of text = drop 2 (parts_of text)

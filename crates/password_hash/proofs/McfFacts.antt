-- What follows from the definition of MCF strings: each has one id and one list of fields, and
-- texts put together by parts are MCF strings.
use Rattle.std.proofs.Common.{arith}
use Rattle.std.proofs.lemmas.Grind.{common_steps}
use Rattle.std.proofs.lemmas.List.{places, append-nil}
use Rattle.std.proofs.Common.{◌≡◌, ◌≢◌, inl, inr, ◌∙◌, sym, ap, refl, ℕ, false, Result, Ok, Err, IsErrOf, IfErr, ◌==◌, List, [], ◌∷◌, ◌++◌}
use Rattle.std.specs.List.{All, AllByRecursion as ByRecursion, onto_first}
use Rattle.std.proofs.lemmas.Bool.{ne_eqb, eqb-false, cases_Bool}
use Rattle.std.proofs.lemmas.List.Elements.{All-nil, All-weaker, All-push}
use Rattle.password_hash.specs.declared.mcf.error.Error.{Error}
use Rattle.password_hash.specs.declared.mcf.error.Error.TheVariants.{EncodingInvalid, OutOfMemory}
use Rattle.password_hash.specs.{IsField, IsId, IsMcf, IsMcfText, crypt64_of, dollar, fields_of, id_of, parts_of}
use Rattle.password_hash.proofs.Crypt64Facts.{IsPlain, crypt64_of-plain}
use Rattle.password_hash.proofs.ParamsFacts.{letters_lack, parts_of-parts_text, parts_text-push, text_of_parts}

-- a field has no byte that is a dollar
no_dollar : (field : List ℕ) → IsField field → All (λ byte. (byte == dollar) ≡ false) field
no_dollar field is = All-weaker (λ byte. byte ≢ dollar) (λ byte. (byte == dollar) ≡ false) (λ byte other. ne_eqb byte dollar other) field is

-- the letters of bytes are without a dollar
pub IsField-crypt64_of : (bytes : List ℕ) → IsField (crypt64_of bytes)
IsField-crypt64_of bytes = All-weaker IsPlain (λ byte. byte ≢ dollar) (λ byte plain. plain.1) (crypt64_of bytes) (crypt64_of-plain bytes)

-- the parts of an MCF string
pub parts_of-IsMcfText : (text id : List ℕ) (fields : List (List ℕ)) → IsMcfText text id fields → parts_of text ≡ [] ∷ id ∷ fields
parts_of-IsMcfText text id fields is = grind (arith, letters_lack, no_dollar, parts_of-parts_text)

-- no part of a text has a dollar
part_fields : (text : List ℕ) → ByRecursion (ByRecursion (λ byte. byte ≢ dollar)) (parts_of text)
part_fields [] = (tt, tt)
part_fields (byte ∷ text) = elim (cases_Bool (byte == dollar)) [
  | inl hit ↦ rw hit (tt, part_fields text)
  | inr miss ↦ rw miss (onto (parts_of text) (eqb-false byte dollar miss) (part_fields text))
]
  where
    onto : (parts : List (List ℕ)) → byte ≢ dollar → ByRecursion (ByRecursion (λ byte. byte ≢ dollar)) parts
        → ByRecursion (ByRecursion (λ byte. byte ≢ dollar)) (onto_first byte parts)
    onto [] other each = ((other, tt), tt)
    onto (part ∷ parts) other each = ((other, each.0), each.1)

-- a text that is split into nothing, an id and fields is an MCF string
pub IsMcfText-from_parts : (text id : List ℕ) (fields : List (List ℕ)) → parts_of text ≡ [] ∷ id ∷ fields → IsId id
    → IsMcfText text id fields
IsMcfText-from_parts text id fields parts is = grind (arith, common_steps, places, part_fields, text_of_parts)

pub id_of_parts : (text id : List ℕ) (fields : List (List ℕ)) → parts_of text ≡ [] ∷ id ∷ fields → id_of text ≡ id
unfolding id_of
id_of_parts text id fields parts = rw parts refl

pub fields_of_parts : (text id : List ℕ) (fields : List (List ℕ)) → parts_of text ≡ [] ∷ id ∷ fields → fields_of text ≡ fields
unfolding fields_of
fields_of_parts text id fields parts = rw parts refl

-- an MCF string has one id and one list of fields
pub IsMcfText-one : (text id : List ℕ) (fields : List (List ℕ)) → IsMcfText text id fields → (id_of text ≡ id) × (fields_of text ≡ fields)
IsMcfText-one text id fields is =
    let parts = parts_of-IsMcfText text id fields is in
    (id_of_parts text id fields parts, fields_of_parts text id fields parts)

-- it is the text of its own id and fields
pub IsMcfText-read : (text : List ℕ) → IsMcf text → IsMcfText text (id_of text) (fields_of text)
IsMcfText-read text is = grind (arith, IsMcfText-one)

-- the id of an MCF string is an id
pub IsId-parts : (text id : List ℕ) (fields : List (List ℕ)) → parts_of text ≡ [] ∷ id ∷ fields → IsMcf text → IsId id
IsId-parts text id fields parts is = grind (arith, IsMcfText-one, id_of_parts)

-- a text with a field after a dollar has one field more
pub IsMcfText-pushed : (text new field : List ℕ) → new ≡ text ++ dollar ∷ field
    → IsMcfText text (id_of text) (fields_of text) → IsField field
    → IsMcfText new (id_of new) (fields_of new)
IsMcfText-pushed text new field written is good =
    IsMcfText-read new (
      id_of text,
      fields_of text ++ field ∷ [],
      record {
        is_id = is.is_id;
        are_fields = All-push IsField (fields_of text) field is.are_fields good;
        written = written ∙ ap (λ before. before ++ dollar ∷ field) is.written ∙ sym (parts_text-push (id_of text ∷ fields_of text) field);
      },
    )

-- an id after a dollar is a text without fields
pub IsMcfText-of_id : (new id : List ℕ) → new ≡ dollar ∷ id → IsId id → IsMcfText new (id_of new) (fields_of new)
IsMcfText-of_id new id written is =
    IsMcfText-read new (id, [], record { is_id = is; are_fields = All-nil IsField; written = written ∙ sym (append-nil (dollar ∷ id)) })

-- an error that is not the one is the other
pub only_memory : {T : Type 0} (r : Result T Error) → (IsErrOf r EncodingInvalid → ⊥) → IfErr r (λ e. e ≡ OutOfMemory)
only_memory (Ok x) not_invalid = tt
only_memory (Err EncodingInvalid) not_invalid = absurd (not_invalid refl)
only_memory (Err OutOfMemory) not_invalid = refl

-- the letters of bytes as one more field
pub ruleset pushed = (IsField-crypt64_of, only_memory)

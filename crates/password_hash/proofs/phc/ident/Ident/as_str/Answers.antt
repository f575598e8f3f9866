use Rattle.std.proofs.lemmas.Grind.{common_steps}
use Rattle.std.proofs.lemmas.List.{places}
use Rattle.std.proofs.Common.{ℕ, List, refl, arith, IsTrue}
use Rattle.std.specs.List.{list_all}
use Rattle.std.specs.Prelude.{Result, Ok, Err, MatchResult, IsOk, IsUtf8}
use Rattle.std.specs.Str.{IsAscii}
use Rattle.std.proofs.lemmas.Bool.{and_parts}
use Rattle.std.proofs.lemmas.Str.{IsUtf8-from_ascii}
use Rattle.password_hash.specs.Letters.{is_identifier_letter}
use Rattle.password_hash.proofs.phc.ident.Ident.as_str.Goals as goal

-- an identifier is ASCII
identifier_ascii : (xs : List ℕ) → IsTrue (list_all is_identifier_letter xs) → IsAscii xs
identifier_ascii xs h = grind (arith, common_steps, places)

-- what `from_utf8` answers of ASCII bytes
ascii_is_text : {T E : Type 0} (P : T → Type 0) (Q : E → Type 0) (bs : List ℕ) (r : Result T E)
    → MatchResult r P (λ e. ¬ IsUtf8 bs × Q e) → IsAscii bs → IsOk r
ascii_is_text P Q bs (Ok s) h ascii = refl
ascii_is_text P Q bs (Err e) h ascii = absurd (h.0 (IsUtf8-from_ascii bs ascii))

pub unwrap-requires : goal.unwrap-requires
unwrap-requires c =
    let ascii = identifier_ascii c.self.inside.bytes (and_parts _ _ (and_parts _ _ c.self.invariant).1).1 in
    let text = rw (← c.as_bytes.ensures.value) at ascii in
    ascii_is_text _ _ c.as_bytes.result.now _ c.from_utf8.ensures.cases text

use Rattle.std.proofs.Common.{◌≡◌, ◌≢◌, ◌⊎◌, inl, inr, ◌∙◌, ℕ, ◌<◌, ◌≤◌, ◌+◌, ◌-◌, suc, List, [], ◌∷◌, length, take, drop, slice_index, Ok, Err, refl, ap, arith, IsTrue, false}
use Rattle.std.specs.Prelude.{Result, ⊤}
use Rattle.std.proofs.lemmas.Bool.{and_parts, false_from_ne_true}
use Rattle.std.proofs.lemmas.List.{drop-replicate, length-replicate}
use Rattle.scrypt.specs.Terms.{IsVerdict, OutOfMemory, Parameters, PasswordInvalid, Refusal, Stored}
use Rattle.scrypt.specs.Terms.{are_accepted, are_within, decoy_reading, is_right, is_stored_len}
use Rattle.scrypt.specs.Terms.{key_len_or_default, made_stored, no_key, public_hash, verdict, with_refusal, within}
use Rattle.scrypt.specs.Terms.{without_len}
use Rattle.password_hash.specs.declared.error.Error.{Error}
use Rattle.scrypt.specs.declared.limits.Limits.{Limits}
use Rattle.scrypt.proofs.AcceptedFacts.{bounds, key_len_stored, ok_if}
use Rattle.scrypt.proofs.KeyFacts.{key_by-are_bytes, length-key_by}
use Rattle.scrypt.proofs.ReadingFacts.{right_decided, within_decided, within_limits}

-- the parts of a decoy
abbrev decoy_of : Parameters → List ℕ → Stored
decoy_of c salt = record { params = without_len c; salt = salt; key = no_key (key_len_or_default c) }

accepted_decoy : (c : Parameters) (salt : List ℕ) → IsTrue (are_accepted c.log_n c.r c.p) → IsTrue (is_stored_len c.output_len)
    → decoy_reading c salt ≡ Ok (decoy_of c salt)
accepted_decoy c salt fits len = rw (fits, len) refl

pub some_decoy : (c : Parameters) (salt : List ℕ) (s : Stored) → decoy_reading c salt ≡ Ok s → 0 < s.params.p
some_decoy c salt s is = grind (arith, ok_if, bounds, and_parts)

differs : (bytes : List ℕ) (n : ℕ) → 0 < n → slice_index bytes 0 < 256 → no_key n ≢ bytes
differs bytes n some byte = grind arith

refused : (c : Parameters) (password salt : List ℕ) → IsTrue (is_stored_len c.output_len) → is_right password (decoy_of c salt) ≡ false
refused c password salt len =
    let n : ℕ = key_len_or_default c in
    let some : 0 < n = omega (arith, key_len_stored c.output_len len) in
    false_from_ne_true _ (λ right. differs _ n some (key_by-are_bytes (without_len c) password salt _ 0)
    ((right_decided password (decoy_of c salt)).0 right))

pub decoy_rejects : (c : Parameters) (password salt : List ℕ) → IsTrue (are_accepted c.log_n c.r c.p) → IsTrue (is_stored_len c.output_len)
    → verdict password (decoy_reading c salt) ≡ Err PasswordInvalid
decoy_rejects c password salt fits len = rw (accepted_decoy c salt fits len, refused c password salt len) refl

-- so verifying against it is refused
pub rejects : (c : Parameters) (password salt : List ℕ) (s : Stored) (out : Result ⊤ Error) → IsTrue (are_accepted c.log_n c.r c.p)
    → IsTrue (is_stored_len c.output_len) → ◌≡◌ {A = Result Stored Refusal} (Ok s) (decoy_reading c salt) → IsVerdict password (Ok s) (with_refusal out)
    → (with_refusal out ≡ Err PasswordInvalid) ⊎ (with_refusal out ≡ Err OutOfMemory)
rejects c password salt s out fits len is (inl same) = inl (same ∙ ap (verdict password) is ∙ decoy_rejects c password salt fits len)
rejects c password salt s out fits len is (inr none) = inr none.1

-- a hash that is made with its parameters and with a salt of the same length
pub made_public : (c : Parameters) (password salt any : List ℕ) → IsTrue (are_accepted c.log_n c.r c.p) → IsTrue (is_stored_len c.output_len)
    → length any ≡ length salt → {reading : Result Stored Refusal} → reading ≡ Ok (made_stored c password salt)
    → public_hash (decoy_reading c any) ≡ public_hash reading
made_public c password salt any fits len long is = grind (arith, length-replicate, length-key_by, accepted_decoy)

-- it is within the limits that its parameters are within
pub decoy_within : (limits : Limits) (c : Parameters) (salt : List ℕ) → IsTrue (are_within limits c) → limits.min_key_len ≤ key_len_or_default c
    → within limits (decoy_reading c salt) ≡ decoy_reading c salt
decoy_within limits c salt fits long = grind (arith, within_limits, within_decided, length-replicate)

-- no part of it is equal to bytes
pub no_match : (bytes : List ℕ) (at n : ℕ) → slice_index bytes 0 < 256 → at + length bytes ≤ n
    → bytes ≡ take (length bytes) (drop at (no_key n)) → length bytes ≡ 0
no_match [] at n byte inside same = refl
no_match (b ∷ bs) at n byte inside same =
    let more : n - at ≡ suc (n - at - 1) = omega arith in
    grind (arith, drop-replicate)

pub all_match : (bytes : List ℕ) (at n : ℕ) → length bytes ≡ 0 → bytes ≡ take (length bytes) (drop at (no_key n))
all_match [] at n none = refl
all_match (b ∷ bs) at n none = absurd (omega (arith, none))

-- A hash that was written to the caller's buffer, and is verified there.
use Rattle.std.proofs.Common.{◌≡◌, ◌≢◌, ◌∙◌, ◌++◌, ℕ, List, Ok, ap, arith, drop, inl, inr, length, refl, take}
use Rattle.std.specs.Prelude.{◌⊎◌, ℤ, pos}
use Rattle.std.proofs.Math.Seq.{take-append_seam}
use Rattle.scrypt.specs.Terms.{derived_key, made_stored, reading}
use Rattle.scrypt.proofs.KeyFacts.{length-key_by}
use Rattle.scrypt.proofs.ReadingFacts.{read_as_made, verdict_wrong, within_limits}
use Rattle.scrypt_c.specs.{Admit, IsVerifyStatus, IsWritten, limited_reading, result_status, wanted}
use Rattle.scrypt_c.proofs.TextFacts.{text_read}

written_front : (text old new : List ℕ) (len : ℕ) → len ≡ length text → new ≡ text ++ drop len old → take len new ≡ text
written_front text old new len is_len is_new = rw (is_new, is_len, take-append_seam) refl

-- its reading, if such a text is read as it was made
written_reading : (password salt text old new : List ℕ) (log_n r p key_len len max_mem max_work min_key_len : ℕ)
    → reading text ≡ Ok (made_stored (wanted log_n r p key_len) password salt) → IsWritten text old new len
    → Admit max_mem max_work min_key_len log_n r p key_len
    → limited_reading max_mem max_work min_key_len (take len new) ≡ Ok (made_stored (wanted log_n r p key_len) password salt)
written_reading password salt text old new log_n r p key_len len max_mem max_work min_key_len is written admitted =
    let c = wanted log_n r p key_len in
    let front = written_front text old new len written.1 written.2 in
    let long = length-key_by c password salt key_len in
    grind (arith, text_read, within_limits)

-- the status for its password
pub right_status : (password salt text old new : List ℕ) (log_n r p key_len len max_mem max_work min_key_len : ℕ) (status : ℤ)
    → reading text ≡ Ok (made_stored (wanted log_n r p key_len) password salt) → IsWritten text old new len
    → Admit max_mem max_work min_key_len log_n r p key_len
    → IsVerifyStatus password (limited_reading max_mem max_work min_key_len (take len new)) status
    → (status ≡ pos 0) ⊎ (status ≡ pos 5)
right_status password salt text old new log_n r p key_len len max_mem max_work min_key_len status is written admitted verified =
    let c = wanted log_n r p key_len in
    let read = written_reading password salt text old new log_n r p key_len len max_mem max_work min_key_len is written admitted in
    let right = (read_as_made c password salt read).accepts in
    elim verified [
      | inl is ↦ inl (is ∙ ap result_status right)
      | inr memory ↦ inr memory.1
    ]

-- and for a password with another key
pub wrong_status : (password salt other text old new : List ℕ) (log_n r p key_len len max_mem max_work min_key_len : ℕ) (status : ℤ)
    → reading text ≡ Ok (made_stored (wanted log_n r p key_len) password salt)
    → derived_key other salt log_n r p key_len ≢ derived_key password salt log_n r p key_len
    → IsWritten text old new len → Admit max_mem max_work min_key_len log_n r p key_len
    → IsVerifyStatus other (limited_reading max_mem max_work min_key_len (take len new)) status
    → (status ≡ pos 1) ⊎ (status ≡ pos 5)
wrong_status password salt other text old new log_n r p key_len len max_mem max_work min_key_len status is differ written admitted verified =
    grind (arith, written_reading, length-key_by, verdict_wrong)

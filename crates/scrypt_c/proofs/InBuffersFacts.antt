-- What verifying leaves in the caller's buffers.
use Rattle.std.proofs.Common.{◌≡◌, ◌∙◌, ℕ, List, arith, length, refl}
use Rattle.std.proofs.lemmas.Bool.{and_parts, false_from_ne_true}
use Rattle.std.proofs.Math.Seq.{drop-length}
use Rattle.std.proofs.lemmas.List.{append-nil}
use Rattle.std.specs.Prelude.{◌&&◌, Err, IsTrue, replicate}
use Rattle.scrypt.specs.Terms.{IsDone, Parameters, ParamsInvalid, Workspace, are_accepted, decoy_reading, is_stored_len}
use Rattle.scrypt.specs.Terms.{scratch_words, table_words}
use Rattle.scrypt.specs.InBuffers.{IsWiped}
use Rattle.scrypt.proofs.AcceptedFacts.{bounds}
use Rattle.scrypt.proofs.CostFacts.{one_table}
use Rattle.scrypt_c.specs.{AreBuffers, params_of}

-- parameters that no new hash can have make no decoy
pub none_decoy : (c : Parameters) (salt : List ℕ) → ¬ (IsTrue (are_accepted c.log_n c.r c.p) × IsTrue (is_stored_len c.output_len))
    → decoy_reading c salt ≡ Err ParamsInvalid
none_decoy c salt refused = rw (false_from_ne_true (are_accepted c.log_n c.r c.p && is_stored_len c.output_len) (λ is. refused (and_parts _ _ is))) refl

-- the lengths of the table and the scratch that keep every row
whole_lens : (log_n r p s : ℕ) {chunks table scratch : ℕ} → AreBuffers log_n r p s chunks table scratch → s ≡ 0
    → (table ≡ table_words log_n r) × (scratch ≡ scratch_words r)
whole_lens log_n r p s are none = grind arith

all_wiped : (n : ℕ) (old new : List ℕ) → length old ≡ n → IsWiped n old new → new ≡ replicate (length old) 0
all_wiped n old new is wiped = wiped ∙ rw (← is, drop-length) (append-nil _)

-- a derivation in them wipes all of the chunks and all of the scratch
pub wiped_at_zero : (log_n r p s : ℕ) (before after : Workspace) → IsTrue (are_accepted log_n r p)
    → AreBuffers log_n r p s (length before.chunks) (length before.table) (length before.scratch) → s ≡ 0
    → IsDone (params_of log_n r p) before after
    → (after.chunks ≡ replicate (length before.chunks) 0) × (after.scratch ≡ replicate (length before.scratch) 0)
wiped_at_zero log_n r p s before after accepted are none done = grind (arith, whole_lens, bounds, one_table, all_wiped)

-- The caller's buffers: whether they are long enough, wiped, and written to.
use Rattle.std.specs.Prelude.{◌≡◌, ℕ, ◌&&◌, Bool, nat_le, List, ◌++◌, drop, length, replicate}
use Rattle.scrypt.specs.Accepted.{Parameters}
use Rattle.scrypt.specs.Cost.{chunks_bytes, scratch_words, table_words}

-- whether the buffers are at least as long as a derivation with these parameters needs
unfoldable pub are_enough : Parameters → List ℕ → List ℕ → List ℕ → Bool
are_enough c chunks table scratch = nat_le (chunks_bytes c.r c.p) (length chunks)
    && (nat_le (table_words c.log_n c.r) (length table) && nat_le (scratch_words c.r) (length scratch))

-- the first n elements are zeros now, and the others are unchanged
abbrev pub IsWiped : ℕ → List ℕ → List ℕ → Type 0
IsWiped n old new = new ≡ replicate n 0 ++ drop n old

-- a made text of this length is at the front of the caller's buffer, and the rest of the buffer is
-- unchanged
abbrev pub IsCopiedTo : (List ℕ → Type 0) → List ℕ → List ℕ → ℕ → Type 0
IsCopiedTo IsMade old new len = (text : List ℕ) × IsMade text × (len ≡ length text) × (new ≡ text ++ drop len old)

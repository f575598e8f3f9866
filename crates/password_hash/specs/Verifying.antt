-- What a verifier and a check of stored hashes answer, as relations: each is defined from the
-- function that an implementation states.
use Rattle.std.specs.Prelude.{◌≡◌, ◌⊎◌, ℕ, Bool, true, List, Result, Ok, Err, ⊤}
use Rattle.password_hash.specs.Refusal.{Refusal, OutOfMemory}

-- the hash accepts the password
abbrev pub Accepts : {H : Type 0} → (List ℕ → H → Result ⊤ Refusal) → List ℕ → H → Type 0
Accepts verdict password hash = verdict password hash ≡ Ok tt

-- the errors of verifying the password
abbrev pub Refuses : {H : Type 0} → (List ℕ → H → Result ⊤ Refusal) → (H → Type 0) → List ℕ → H → Refusal → Type 0
Refuses verdict needs_memory password hash why = (verdict password hash ≡ Err why) ⊎ (needs_memory hash × (why ≡ OutOfMemory))

-- the hash is weaker than wanted
abbrev pub IsWeaker : {W H : Type 0} → (W → H → Result Bool Refusal) → W → H → Type 0
IsWeaker weaker wanted hash = weaker wanted hash ≡ Ok true

-- the error of a hash that cannot be compared with what is wanted
abbrev pub RefusesCheck : {W H : Type 0} → (W → H → Result Bool Refusal) → W → H → Refusal → Type 0
RefusesCheck weaker wanted hash why = weaker wanted hash ≡ Err why

-- Verifying several passwords in one workspace, in one batch if possible.
use Rattle.std.specs.Prelude.{◌≡◌, ℕ, ◌+◌, ◌^◌, ◌&&◌, nat_eq, nat_lt, if◌then◌else◌, List, [], ◌∷◌, length, map, Option, None, Some, option_and_then, option_map, MatchBool, MatchOption, Result, Ok, Err, false, ⊤, flat_map, sum_by}
use Rattle.password_hash.specs.Refusal.{Refusal}
use Rattle.scrypt.specs.Accepted.{Parameters}
use Rattle.scrypt.specs.Reading.{◌and_then◌, Stored}
use Rattle.scrypt.specs.Cost.{chunks_bytes, pbkdf2_cost}
use Rattle.scrypt.specs.Decoy.{decoy_reading}
use Rattle.scrypt.specs.KeyOfParams.{cost_by}
use Rattle.scrypt.specs.StoredHash.{reading}
use Rattle.scrypt.specs.WithinLimits.{with_limited_refusal}
use Rattle.scrypt.specs.Workspace.{IsDone, IsLeft, Workspace, are_enough, cores_in, hashed_in, verdict_in}
use Rattle.scrypt.specs.declared.logins.Login.{Login}
use Rattle.scrypt.specs.declared.logins.LoginHash.{LoginHash}
use Rattle.scrypt.specs.declared.logins.LoginHash.TheVariants as hashes

-- a password, and the reading of the hash that it is verified against
abbrev pub Attempt : Type 0
Attempt = List ℕ × Result Stored Refusal

-- the reading of a stored hash or of a decoy
abbrev pub reading_of_hash : LoginHash → Result Stored Refusal
reading_of_hash (hashes.Stored text) = reading text
reading_of_hash (hashes.Decoy decoy) = decoy_reading decoy.0 decoy.1

-- the reading of the hash of a login, or the error that the login has instead
abbrev pub reading_of : Login → Result Stored Refusal
reading_of login = with_limited_refusal login.hash and_then reading_of_hash

-- the password of a login, and the reading of its hash
abbrev pub attempt_of : Login → Attempt
attempt_of login = (login.password.now, reading_of login)

-- the attempts of these logins
abbrev pub attempts : List Login → List Attempt
attempts = map attempt_of

-- the verdict of verifying one attempt separately in this workspace
abbrev pub verdict_on : Workspace → Attempt → Result ⊤ Refusal
verdict_on w a = verdict_in w a.0 a.1

-- the cores of verifying one attempt separately in this workspace
abbrev pub cores_on : Workspace → Attempt → ℕ
cores_on w a = cores_in w a.1

-- the blocks that SHA-256 compresses when one attempt is verified separately in this workspace
abbrev pub hashed_on : Workspace → Attempt → ℕ
hashed_on w a = hashed_in w a.0 a.1

-- the parameters of the derivation whose key is compared with the key of the hash
abbrev pub params_of : Result Stored Refusal → Option Parameters
params_of (Ok s) = Some s.params
params_of (Err why) = None

-- the sum of n chunks and the chunks of d, if d has the N and r of c and the sum is below 2 ^ 32
unfoldable pub with_more : Parameters → Parameters → ℕ → Option ℕ
with_more c d n = if (nat_eq d.log_n c.log_n && nat_eq d.r c.r) && nat_lt (d.p + n) (2 ^ 32) then Some (d.p + n) else None

-- the number of chunks of all attempts, if each hash that is not an error has the N and r of c
abbrev pub count_of : Parameters → List Attempt → Option ℕ
count_of c [] = Some 0
count_of c ((password, Ok s) ∷ rest) = option_and_then (with_more c s.params) (count_of c rest)
count_of c ((password, Err why) ∷ rest) = count_of c rest

-- the parameters of one derivation of the whole batch: N and r of the first attempt, and the chunks
-- of all attempts
abbrev pub shared : List Attempt → Option Parameters
shared [] = None
shared (a ∷ rest) = option_and_then (λ c. option_map (λ n. record c { p = n }) (count_of c (a ∷ rest))) (params_of a.1)

-- f of a password and its hash, or nothing if the hash is an error: the chunks of its derivation
-- (step 1), or these chunks after scryptROMix (step 2)
abbrev pub bytes_if_ok : (List ℕ → Stored → List ℕ) → Attempt → List ℕ
bytes_if_ok f (password, Ok s) = f password s
bytes_if_ok f (password, Err why) = []

-- f of each attempt, concatenated
abbrev pub all_of : (List ℕ → Stored → List ℕ) → List Attempt → List ℕ
all_of f = flat_map (bytes_if_ok f)

-- the cores of the derivation
abbrev pub verify_cores : List ℕ → Stored → ℕ
verify_cores password s = cost_by s.params

-- the blocks that SHA-256 compresses in step 1 of the derivation
abbrev pub chunks_cost : List ℕ → Stored → ℕ
chunks_cost password s = pbkdf2_cost (length password) (length s.salt) (chunks_bytes s.params.r s.params.p)

-- the blocks that SHA-256 compresses in step 3 of the derivation, to compare the key
abbrev pub compare_cost : List ℕ → Stored → ℕ
compare_cost password s = pbkdf2_cost (length password) (chunks_bytes s.params.r s.params.p) (length s.key)

-- f of a password and its hash, or 0 if the hash is an error
abbrev pub cost_if_ok : (List ℕ → Stored → ℕ) → Attempt → ℕ
cost_if_ok f (password, Ok s) = f password s
cost_if_ok f (password, Err why) = 0

-- the sum of f over all attempts
abbrev pub all_cost : (List ℕ → Stored → ℕ) → List Attempt → ℕ
all_cost f = sum_by (cost_if_ok f)

-- the keys of these attempts cannot be derived in one batch in this workspace
abbrev pub IsAlone : List Attempt → Workspace → Type 0
IsAlone these w = (c : Parameters) → shared these ≡ Some c → are_enough c w.chunks w.table w.scratch ≡ false

-- The workspace after verifying these attempts. If they can be one batch, one derivation of all
-- chunks was done. Otherwise the first was verified separately, and then the rest in the same way.
abbrev pub AreLeft : List Attempt → Workspace → Workspace → Type 0
AreLeft [] before after = after ≡ before
AreLeft (a ∷ rest) before after =
    let Alone : Type 0 = (between : Workspace) × IsLeft a.1 before between × AreLeft rest between after in
    MatchOption (shared (a ∷ rest)) Alone (λ c. MatchBool (are_enough c before.chunks before.table before.scratch) (IsDone c before after) Alone)

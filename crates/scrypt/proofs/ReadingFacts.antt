use Rattle.std.proofs.Common.{◌≡◌, ◌↔◌, ◌≢◌, ◌⊎◌, ℕ, ◌<◌, ◌≤◌, ◌-◌, ◌^◌, List, length, Ok, Err, true, false, refl, arith, Decides}
use Rattle.std.specs.Prelude.{Bool, IfErr, IfOk, IsOk, None, Option, Result, Some, if◌then◌else◌, max, min, ok_or, ⊤, IsTrue}
use Rattle.std.proofs.lemmas.Bool.Decides.{Decides-and, same_from_decides}
use Rattle.std.proofs.lemmas.Slice.Eq.{bytes_eq-Decides}
use Rattle.scrypt.specs.Terms.{◌and_then◌, BufferTooShort, IsReadAsMade, KeyTooShort, NamesNoPassword, OutOfMemory, Parameters}
use Rattle.scrypt.specs.Terms.{PasswordInvalid, Refusal, Stored, SufficeFor, TooCostly, are_accepted}
use Rattle.scrypt.specs.Terms.{are_enough, are_within, buffers_bytes, checked, chunks_bytes, is_below, is_right, key_by}
use Rattle.scrypt.specs.Terms.{key_len_or_default, limits_for_new, made_stored, mapped, scratch_words, table_words}
use Rattle.scrypt.specs.Terms.{verdict, within, work}
use Rattle.scrypt.proofs.AcceptedFacts.{leb_decided, ok_if}
use Rattle.scrypt.proofs.KeyFacts.{length-key_by}
use Rattle.std.proofs.lemmas.Bool.{false_from_ne_true, le-ltb}
use Rattle.std.proofs.lemmas.Nat.{mul-le}
use Rattle.scrypt.specs.declared.limits.Limits.{Limits}

-- what is read in two steps

pub both_read : {A B : Type 0} (reading : Result A Refusal) (rest : A → Result B Refusal) {y : B} → (reading and_then rest) ≡ Ok y
    → (x : A) × (reading ≡ Ok x) × (rest x ≡ Ok y)
both_read (Ok x) rest is = (x, refl, is)
both_read (Err why) rest is = absurd cc

-- the errors of reading

-- an error of a text, except that its salt or its key is missing
abbrev pub IsFault : Refusal → Type 0
IsFault PasswordInvalid = ⊥
IsFault OutOfMemory = ⊥
IsFault (TooCostly bytes work) = ⊥
IsFault (KeyTooShort key_len) = ⊥
IsFault BufferTooShort = ⊥
IsFault why = ⊤

pub part_fault : {A B : Type 0} (f : A → B) (reading : Result A Refusal) → IfErr reading IsFault → IfErr (mapped f reading) IsFault
part_fault f (Ok x) fault = tt
part_fault f (Err why) fault = fault

pub then_fault : {A B : Type 0} (reading : Result A Refusal) (rest : A → Result B Refusal) → IfErr reading IsFault
    → ((x : A) → IfErr (rest x) IsFault) → IfErr (reading and_then rest) IsFault
then_fault (Ok x) rest fault after = after x
then_fault (Err why) rest fault after = fault

pub if_fault : {A : Type 0} (test : Bool) (first second : Result A Refusal) → IfErr first IsFault → IfErr second IsFault
    → IfErr (if test then first else second) IsFault
if_fault true first second fault other = fault
if_fault false first second fault other = other

pub some_fault : {A : Type 0} (found : Option A) (why : Refusal) → IsFault why → IfErr (ok_or found why) IsFault
some_fault None why fault = fault
some_fault (Some x) why fault = tt

pub checked_fault : (log_n r p : ℕ) → IfErr (checked log_n r p) IsFault
unfolding checked
checked_fault log_n r p = if_fault (are_accepted log_n r p) _ _ tt tt

-- parameters that are read are accepted

abbrev pub AreGood : Parameters → Type 0
AreGood c = IsTrue (are_accepted c.log_n c.r c.p)

pub then_good : {A : Type 0} (reading : Result A Refusal) (rest : A → Result Parameters Refusal) → ((x : A) → IfOk (rest x) AreGood)
    → IfOk (reading and_then rest) AreGood
then_good (Ok x) rest after = after x
then_good (Err why) rest after = tt

pub if_good : (test : Bool) (first second : Result Parameters Refusal) → IfOk first AreGood → IfOk second AreGood
    → IfOk (if test then first else second) AreGood
if_good true first second good other = good
if_good false first second good other = other

pub checked_good : (log_n r p : ℕ) → IfOk (checked log_n r p) AreGood
unfolding checked
checked_good log_n r p = grind arith

pub ruleset faults = (checked_fault, if_fault, part_fault, some_fault, then_fault)

pub no_password : {A : Type 0} (reading : Result A Refusal) → IfErr reading IsFault → NamesNoPassword reading
no_password reading fault = (λ is. rw is at fault, (λ is. rw is at fault, λ bytes work is. rw is at fault, λ key_len is. rw is at fault, λ is. rw is at fault))

-- the password is right exactly if the stored key is its key
pub right_decided : (password : List ℕ) (s : Stored) → Decides (is_right password s) (s.key ≡ key_by s.params password s.salt (length s.key))
unfolding is_right
right_decided password s = bytes_eq-Decides s.key (key_by s.params password s.salt (length s.key))

pub told_right : (password : List ℕ) (s : Stored) (same : Bool) → (same ≡ true → s.key ≡ key_by s.params password s.salt (length s.key))
    × (s.key ≡ key_by s.params password s.salt (length s.key) → same ≡ true) → same ≡ is_right password s
told_right password s same tells = same_from_decides same (is_right password s) tells (right_decided password s)

-- the keys that a verdict compared

pub verdict_right : (password : List ℕ) (reading : Result Stored Refusal) → (verdict password reading ≡ Ok tt)
    ↔ ((s : Stored) × (reading ≡ Ok s) × (s.key ≡ key_by s.params password s.salt (length s.key)))
verdict_right password reading = grind (arith, right_decided, ok_if)

-- the keys differ, or there are none
abbrev IsWrong : List ℕ → Result Stored Refusal → Type 0
IsWrong password reading =
    ((s : Stored) × (reading ≡ Ok s) × (s.key ≢ key_by s.params password s.salt (length s.key))) ⊎ (reading ≡ Err PasswordInvalid)

pub verdict_wrong : (password : List ℕ) (reading : Result Stored Refusal) → (verdict password reading ≡ Err PasswordInvalid) ↔ IsWrong password reading
verdict_wrong password reading = grind (arith, verdict_right, false_from_ne_true, right_decided)

-- what is read as a made hash accepts the password, and is not weaker than its parameters ask for
pub read_as_made : (c : Parameters) (password salt : List ℕ) {reading : Result Stored Refusal} → reading ≡ Ok (made_stored c password salt)
    → IsReadAsMade c password salt reading
unfolding is_below
read_as_made c password salt {reading} is = grind (arith, length-key_by, le-ltb, verdict_right)

pub enough_decided : (c : Parameters) (chunks table scratch : List ℕ) → Decides (are_enough c chunks table scratch)
    ((chunks_bytes c.r c.p ≤ length chunks) × ((table_words c.log_n c.r ≤ length table) × (scratch_words c.r ≤ length scratch)))
unfolding are_enough
enough_decided c chunks table scratch = grind arith

pub within_decided : (limits : Limits) (c : Parameters) → Decides (are_within limits c)
    ((buffers_bytes c.log_n c.r c.p ≤ limits.max_mem) × (work c.log_n c.r c.p ≤ limits.max_work))
unfolding are_within
within_decided limits c = Decides-and _ _ (leb_decided _ _) (leb_decided _ _)

-- parameters within limits have enough room in buffers that suffice for them
pub enough_for : (limits : Limits) (c : Parameters) (chunks table scratch : List ℕ) → SufficeFor limits chunks table scratch
    → 0 < c.p → IsTrue (are_within limits c) → IsTrue (are_enough c chunks table scratch)
enough_for limits c chunks table scratch suffice some within_is =
    grind (arith, within_decided limits c, mul-le c.r 1 c.r c.p (omega arith) some, enough_decided c chunks table scratch)

-- and so has a hash
pub enough_within : (limits : Limits) (s : Stored) (chunks table scratch : List ℕ) → SufficeFor limits chunks table scratch
    → 0 < s.params.p → IsOk (within limits (Ok s)) → are_enough s.params chunks table scratch ≡ true
enough_within limits s chunks table scratch suffice some within_is = grind (arith, enough_for)

pub within_limits : (limits : Limits) (s : Stored) → IsTrue (are_within limits s.params) → limits.min_key_len ≤ length s.key → within limits (Ok s) ≡ Ok s
within_limits limits s fits long = rw (fits, (leb_decided _ _).1 long) refl

admitted : (defaults needed : ℕ) → needed < 2 ^ 64 → needed ≤ min (max defaults needed) (2 ^ 64 - 1)
admitted defaults needed small = omega arith

-- a made hash is within the limits of a hasher that makes such hashes, if 64 bits can say what it
-- needs
pub made_within : (defaults : Limits) (c : Parameters) (password salt : List ℕ) (n : ℕ) (reading : Result Stored Refusal)
    → reading ≡ Ok (made_stored c password salt) → n ≤ key_len_or_default c
    → buffers_bytes c.log_n c.r c.p < 2 ^ 64 → work c.log_n c.r c.p < 2 ^ 64 → within (limits_for_new defaults c n) reading ≡ reading
made_within defaults c password salt n reading is short bytes little = grind (arith, length-key_by, within_decided, admitted, within_limits)

pub not_enough : (c : Parameters) (chunks table scratch : List ℕ) → ¬ IsTrue (are_enough c chunks table scratch)
    → are_enough c chunks table scratch ≡ false
not_enough c chunks table scratch short = false_from_ne_true _ short

use Rattle.std.proofs.lemmas.Grind.{common_steps}
use Rattle.std.proofs.Common.{◌≡◌, ◌∙◌, ◌<◌, ◌≤◌, ◌+◌, ◌-◌, ◌*◌, ◌++◌, ℕ, List, length, take, drop, zero, suc, refl, sym, ap, ap₂, add-one, arith, append_assoc, length-append, zero-add, Option, None, Some, Ok, Err, [], ◌∷◌, map, option_and_then, slice_set, IsTrue, sum, sum_by, mul-le-mul_right, take-suc-set}
use Rattle.std.specs.Prelude.{All, Result}
use Rattle.std.proofs.lemmas.List.Elements.{All-head, All-tail}
use Rattle.std.proofs.lemmas.List.{map-append, take_all, places}
use Rattle.std.proofs.lemmas.List.Sums.{sum-map, sum_by-cons}
use Rattle.std.proofs.lemmas.Slice.{take-put_mid}
use borrow.Rule.Slice.PartMut.{mid_of, put_mid}
use Rattle.scrypt_kernel.specs.declared.cores.count.CoreCount.{CoreCount}
use Rattle.scrypt_kernel.proofs.CountFacts.{hashed_both}
use Rattle.scrypt_kernel.proofs.Pbkdf2Facts.{length-pbkdf2}
use Rattle.scrypt.specs.Terms.{◌and_then◌, AreHashed, AreLeft, Attempt, IsAlone, IsLeft, Parameters, Refusal}
use Rattle.scrypt.specs.Terms.{Stored, SufficeFor, Workspace, all_cost, all_of, are_enough, attempts}
use Rattle.scrypt.specs.Terms.{chunks_bytes, chunks_cost, chunks_of, compare_cost, cores_on, cost, cost_if_ok, count_of}
use Rattle.scrypt.specs.Terms.{hashed_on, mixed_chunks, mixed_of, reading_of, reading_of_hash, ro_mix_cost}
use Rattle.scrypt.specs.Terms.{verdict, verdict_on, verify_cores, verify_cost, with_limited_refusal, with_more, within}
use Rattle.scrypt.specs.declared.limits.Limits.{Limits}
use Rattle.scrypt.specs.declared.logins.Login.{Login}
use Rattle.scrypt.specs.declared.logins.LoginHash.{LoginHash}
use Rattle.scrypt.specs.declared.logins.LoginHash.TheVariants as hashes
use Rattle.scrypt.proofs.KeyFacts.{both_mixed, length-mixed_chunks}
use Rattle.scrypt.proofs.DecoyFacts.{some_decoy}
use Rattle.scrypt.proofs.ReadingFacts.{enough_decided, enough_within}
use Rattle.scrypt.proofs.StoredHashFacts.{some_read}

-- n chunks, which are those of d and others
pub record AreMore (c d : Parameters) (others : Option ℕ) (n : ℕ) : Type 0 where
  pub count : ℕ
  pub counted : others ≡ Some count
  pub log_n : d.log_n ≡ c.log_n
  pub r : d.r ≡ c.r
  pub sum : d.p + count ≡ n

are_more : (c d : Parameters) (others : Option ℕ) (n : ℕ) → option_and_then (with_more c d) others ≡ Some n → AreMore c d others n
unfolding with_more
are_more c d (Some count) n is = grind arith
are_more c d None n is = absurd cc

-- those that cannot be counted together
pub none_of_more : (c : Parameters) (i : ℕ) (these : List Attempt) → count_of c (drop i these) ≡ None → count_of c these ≡ None
none_of_more c zero these none = none
none_of_more c (suc i) [] none = absurd cc
none_of_more c (suc i) ((password, Ok s) ∷ rest) none = rw (none_of_more c i rest none) refl
none_of_more c (suc i) ((password, Err why) ∷ rest) none = none_of_more c i rest none

-- the chunks of all are one list

long_one : (c : Parameters) (password : List ℕ) (s : Stored) → s.params.r ≡ c.r → length (chunks_of password s) ≡ chunks_bytes c.r s.params.p
long_one c password s r = length-pbkdf2 password s.salt _ ∙ ap (λ r. chunks_bytes r s.params.p) r

pub long_all : (c : Parameters) (these : List Attempt) (n : ℕ) → count_of c these ≡ Some n → length (all_of chunks_of these) ≡ chunks_bytes c.r n
long_all c [] n counted = let none : 0 ≡ n = cc in rw (← none) (omega arith)
long_all c ((password, Ok s) ∷ rest) n counted =
    let more = are_more c s.params (count_of c rest) n counted in
    length-append (chunks_of password s) (all_of chunks_of rest)
    ∙ rw (← more.sum) (omega (arith, long_one c password s more.r, long_all c rest more.count more.counted))
long_all c ((password, Err why) ∷ rest) n counted = long_all c rest n counted

pub mixed_is : (c : Parameters) (these : List Attempt) (n : ℕ) → count_of c these ≡ Some n → 0 < c.r
    → mixed_chunks (all_of chunks_of these) c.log_n c.r n ≡ all_of mixed_of these
mixed_is c [] n counted some = let none : 0 ≡ n = cc in rw (← none) refl
mixed_is c ((password, Ok s) ∷ rest) n counted some =
    let more = are_more c s.params (count_of c rest) n counted in
    let first = ap₂ (λ log_n r. mixed_chunks (chunks_of password s) log_n r s.params.p) (sym more.log_n) (sym more.r) in
    ap (mixed_chunks (chunks_of password s ++ all_of chunks_of rest) c.log_n c.r) (sym more.sum)
    ∙ both_mixed (chunks_of password s) (all_of chunks_of rest) c.log_n c.r s.params.p more.count some (long_one c password s more.r)
    ∙ ap₂ (λ x y. x ++ y) first (mixed_is c rest more.count more.counted some)
mixed_is c ((password, Err why) ∷ rest) n counted some = mixed_is c rest n counted some

-- room for all is room for each
fewer_fit : (c d : Parameters) (n : ℕ) (w : Workspace) → d.log_n ≡ c.log_n → d.r ≡ c.r → d.p ≤ n
    → IsTrue (are_enough (record c { p = n }) w.chunks w.table w.scratch) → IsTrue (are_enough d w.chunks w.table w.scratch)
fewer_fit c d n w log_n r fewer room = grind (arith, enough_decided, mul-le-mul_right)

-- where there is room for all, so that each has room, f of each is g of each
each_fits : {X : Type 0} (f g : Attempt → X) (c : Parameters) (these : List Attempt) (n : ℕ) (w : Workspace)
    → ((password : List ℕ) (s : Stored) → IsTrue (are_enough s.params w.chunks w.table w.scratch) → f (password, Ok s) ≡ g (password, Ok s))
    → ((password : List ℕ) (why : Refusal) → f (password, Err why) ≡ g (password, Err why))
    → count_of c these ≡ Some n → IsTrue (are_enough (record c { p = n }) w.chunks w.table w.scratch) → map f these ≡ map g these
each_fits f g c [] n w read unread counted room = refl
each_fits f g c ((password, Ok s) ∷ rest) n w read unread counted room =
    let more = are_more c s.params (count_of c rest) n counted in
    let first = fewer_fit c s.params n w more.log_n more.r (omega (arith, more.sum)) room in
    let others = fewer_fit c (record c { p = more.count }) n w refl refl (omega (arith, more.sum)) room in
    ap₂ (λ out outs. out ∷ outs) (read password s first) (each_fits f g c rest more.count w read unread more.counted others)
each_fits f g c ((password, Err why) ∷ rest) n w read unread counted room = grind (arith, each_fits f g c rest n w read unread counted room)

sum_cost : (x p m n : ℕ) → p + m ≡ n → x * p + x * m ≡ x * n
sum_cost x p m n sum = rw (← sum) (omega arith)

pub sums_alike : (f g : Attempt → ℕ) (these others : List Attempt) → map f these ≡ map g others → sum_by f these ≡ sum_by g others
sums_alike f g these others same = sym (sum-map f these) ∙ ap sum same ∙ sum-map g others

-- so each verdict is that of its password alone, and the work is the same
pub alone : (c : Parameters) (these : List Attempt) (n : ℕ) (w : Workspace) → count_of c these ≡ Some n
    → IsTrue (are_enough (record c { p = n }) w.chunks w.table w.scratch)
    → (map (λ (a : Attempt). verdict a.0 a.1) these ≡ map (verdict_on w) these)
    × (all_cost verify_cores these ≡ sum_by (cores_on w) these) × (all_cost verify_cost these ≡ sum_by (hashed_on w) these)
alone c these n w counted room = grind (arith, each_fits, sums_alike)

-- the cores of one derivation of all chunks
pub cores_of_all : (c : Parameters) (these : List Attempt) (n : ℕ) → count_of c these ≡ Some n → cost c.log_n c.r n ≡ all_cost verify_cores these
cores_of_all c [] n counted = let none : 0 ≡ n = cc in rw (← none) (omega arith)
cores_of_all c ((password, Ok s) ∷ rest) n counted =
    let more = are_more c s.params (count_of c rest) n counted in
    let first : cost s.params.log_n s.params.r s.params.p ≡ cost c.log_n c.r s.params.p = rw (more.log_n, more.r) refl in
    sym (sum_cost (ro_mix_cost c.log_n c.r) s.params.p more.count n more.sum)
    ∙ ap₂ (λ x y. x + y) (sym first) (cores_of_all c rest more.count more.counted)
    ∙ sym (sum_by-cons (cost_if_ok verify_cores) (password, Ok s) rest)
cores_of_all c ((password, Err why) ∷ rest) n counted =
    cores_of_all c rest n counted ∙ sym (sum_by-cons (cost_if_ok verify_cores) (password, Err why) rest ∙ zero-add _)

-- buffers of the same lengths
pub record AreAsLong (w v : Workspace) : Type 0 where
  pub chunks : length w.chunks ≡ length v.chunks
  pub table : length w.table ≡ length v.table
  pub scratch : length w.scratch ≡ length v.scratch

same_room : (w v : Workspace) → AreAsLong w v → (c : Parameters)
    → are_enough c w.chunks w.table w.scratch ≡ are_enough c v.chunks v.table v.scratch
unfolding are_enough
same_room w v long c = rw (long.chunks, long.table, long.scratch) refl

same_on : (w v : Workspace) → AreAsLong w v → (a : Attempt)
    → (verdict_on w a ≡ verdict_on v a) × (cores_on w a ≡ cores_on v a) × (hashed_on w a ≡ hashed_on v a)
same_on w v long (password, Ok s) = rw (same_room w v long s.params) (refl, refl, refl)
same_on w v long (password, Err why) = (refl, refl, refl)

pub same_on_all : (w v : Workspace) → AreAsLong w v → (these : List Attempt) → (map (verdict_on w) these ≡ map (verdict_on v) these)
    × (sum_by (cores_on w) these ≡ sum_by (cores_on v) these) × (sum_by (hashed_on w) these ≡ sum_by (hashed_on v) these)
same_on_all w v long these = (
  λ i. map (λ a. (same_on w v long a).0 i) these,
  λ i. sum_by (λ a. (same_on w v long a).1 i) these,
  λ i. sum_by (λ a. (same_on w v long a).2 i) these,
)

-- the work of one, and then that of the others
pub sum_more : (f : Attempt → ℕ) {these others : List Attempt} {a : Attempt} → these ≡ a ∷ others → f a + sum_by f others ≡ sum_by f these
sum_more f {these} {others} {a} is = sym (ap (sum_by f) is ∙ sum_by-cons f a others)

-- In buffers that suffice for limits, and with hashes within them or errors, each verdict is that
-- of its password, and never `OutOfMemory`.

some_hash : (hash : LoginHash) (s : Stored) → reading_of_hash hash ≡ Ok s → 0 < s.params.p
some_hash (hashes.Stored text) s is = some_read text s is
some_hash (hashes.Decoy decoy) s is = some_decoy decoy.0 decoy.1 s is

one_within : (limits : Limits) (w : Workspace) (password : List ℕ) (found : Result LoginHash Refusal)
    → SufficeFor limits w.chunks w.table w.scratch → within limits (found and_then reading_of_hash) ≡ found and_then reading_of_hash
    → verdict_on w (password, found and_then reading_of_hash) ≡ verdict password (found and_then reading_of_hash)
one_within limits w password (Err why) suffice fits = refl
one_within limits w password (Ok hash) suffice fits = grind (arith, enough_within, some_hash)

pub all_within : (limits : Limits) (w : Workspace) (logins : List Login) → SufficeFor limits w.chunks w.table w.scratch
    → All (λ login. within limits (reading_of login) ≡ reading_of login) logins
    → map (verdict_on w) (attempts logins) ≡ map (λ (a : Attempt). verdict a.0 a.1) (attempts logins)
all_within limits w [] suffice fits = refl
all_within limits w (login ∷ rest) suffice fits =
    let Fits = λ (login : Login). within limits (reading_of login) ≡ reading_of login in
    ap₂ (λ out outs. out ∷ outs)
    (one_within limits w login.password.now (with_limited_refusal login.hash) suffice (All-head Fits login rest fits))
    (all_within limits w rest suffice (All-tail Fits login rest fits))

-- what SHA-256 compresses for all

-- step 1 and step 3
pub both_costs : (these : List Attempt) → all_cost chunks_cost these + all_cost compare_cost these ≡ all_cost verify_cost these
both_costs [] = refl
both_costs (a ∷ rest) =
    grind (
      arith,
      sum_by-cons (cost_if_ok chunks_cost) a rest,
      sum_by-cons (cost_if_ok compare_cost) a rest,
      sum_by-cons (cost_if_ok verify_cost) a rest,
      both_costs rest,
    )

-- one after another

-- those after the first
pub rest_is : (logins others : List Login) (login : Login) → logins ≡ login ∷ others → take (length logins - 1) (drop 1 logins) ≡ others
rest_is logins others login is = rw is (take_all _ others (omega arith))

-- after the last
pub none_left : (logins : List Login) → length logins ≡ 0 → attempts logins ≡ []
none_left [] none = refl
none_left (login ∷ rest) none = absurd (omega arith)

-- the blocks of one, and then those of the others
pub hashed_more : (f : List ℕ → Stored → ℕ) {these others : List Attempt} {a : Attempt} {x y z : CoreCount} → these ≡ a ∷ others
    → AreHashed (cost_if_ok f a) x y → AreHashed (all_cost f others) y z → AreHashed (all_cost f these) x z
hashed_more f {these} {others} {a} is one rest = hashed_both _ one rest (sym (ap (all_cost f) is ∙ sum_by-cons (cost_if_ok f) a others))

-- one more of a list that is written, before those that are not
pub one_more : {X Y Z : Type 0} (f : X → Z) (g : Y → Z) (xs : List X) (i : ℕ) (x : X) (y : Y) (these others : List Y) → i < length xs
    → f x ≡ g y → these ≡ y ∷ others → map f (take (i + 1) (slice_set xs i x)) ++ map g others ≡ map f (take i xs) ++ map g these
one_more f g xs i x y these others short same is = grind (arith, slice_set, add-one, take-suc-set, map-append, append_assoc)

-- those that are written first, and then all others
pub all_put : {X : Type 0} (xs ys : List X) (i k : ℕ) → i ≤ length xs → length ys ≡ length (mid_of i k xs) → i + length ys ≡ length xs
    → put_mid i k xs ys ≡ take i xs ++ ys
all_put xs ys i k inside sized long = grind (arith, common_steps, places, take_all, take-put_mid)

-- the first alone, and then the others
pub left_alone : (a : Attempt) (rest : List Attempt) (before between after : Workspace) → IsAlone (a ∷ rest) before → IsLeft a.1 before between
    → AreLeft rest between after → AreLeft (a ∷ rest) before after
left_alone a rest before between after alone one others = grind arith

pub ruleset chunks_together = (long_all, mixed_is)

pub ruleset lens_of_chunks = (length-pbkdf2, length-mixed_chunks)

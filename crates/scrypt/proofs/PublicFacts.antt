use Rattle.std.proofs.Common.{◌≡◌, ℕ, ◌*◌, List, [], ◌∷◌, length, map, refl, ap, ap₂, Option, None, Some, Ok, Err, true, false, sum_by, MatchBool, MatchOption, option_and_then, arith}
use Rattle.std.specs.Prelude.{Bool}
use Rattle.scrypt.specs.Terms.{AreLeft, AreSameAfter, Attempt, IsDone, IsLeft, Parameters, Refusal, Stored, Workspace}
use Rattle.scrypt.specs.Terms.{are_enough, cores_on, cost_by, count_of, hashed_on, params_of, public_hash, public_part}
use Rattle.scrypt.specs.Terms.{shared, table_words, tables_used, verify_cost}
use Rattle.scrypt.proofs.LoginFacts.{sums_alike}

-- two hashes with the same public part
record AreAlike (s d : Stored) : Type 0 where
  params : s.params ≡ d.params
  salt : length s.salt ≡ length d.salt
  key : length s.key ≡ length d.key

alike : (s d : Stored) → public_hash (Ok s) ≡ public_hash (Ok d) → AreAlike s d
alike s d same = grind arith

abbrev Public : Type 0
Public = ℕ × Option (Parameters × ℕ × ℕ)

len_same : {m n : ℕ} {x y : Option (Parameters × ℕ × ℕ)} → ◌≡◌ {A = Public} (m, x) (n, y) → m ≡ n
len_same same = ap (λ (x : Public). x.0) same

hash_same : {m n : ℕ} {x y : Option (Parameters × ℕ × ℕ)} → ◌≡◌ {A = Public} (m, x) (n, y) → x ≡ y
hash_same same = ap (λ (x : Public). x.1) same

-- what holds of two attempts with the same public part: both hashes are errors, or they are alike
both : (P : Attempt → Attempt → Type 0)
    → ((password other : List ℕ) (s d : Stored) → length password ≡ length other → AreAlike s d → P (password, Ok s) (other, Ok d))
    → ((password other : List ℕ) (why reason : Refusal) → P (password, Err why) (other, Err reason))
    → (a b : Attempt) → public_part a ≡ public_part b → P a b
both P read unread (password, Ok s) (other, Ok d) same = read password other s d (len_same same) (alike s d (hash_same same))
both P read unread (password, Ok s) (other, Err why) same = let differ = hash_same same in absurd cc
both P read unread (password, Err why) (other, Ok d) same = let differ = hash_same same in absurd cc
both P read unread (password, Err why) (other, Err reason) same = unread password other why reason

-- one verification

pub same_cost : (password other : List ℕ) (s d : Stored) → public_part (password, Ok s) ≡ public_part (other, Ok d)
    → (cost_by s.params ≡ cost_by d.params) × (verify_cost password s ≡ verify_cost other d)
same_cost password other s d same = grind arith

pub same_cores : (w : Workspace) (a b : Attempt) → public_part a ≡ public_part b → cores_on w a ≡ cores_on w b
same_cores w = both (λ a b. cores_on w a ≡ cores_on w b) (λ password other s d len are. rw are.params refl) (λ password other why reason. refl)

pub same_hashed : (w : Workspace) (a b : Attempt) → public_part a ≡ public_part b → hashed_on w a ≡ hashed_on w b
same_hashed w = grind arith

pub same_left : (a b : Attempt) (before after : Workspace) → public_part a ≡ public_part b → IsLeft a.1 before after → IsLeft b.1 before after
same_left a b before after = grind arith

-- the same buffers, verified in twice, are left the same, but for the part of the table that is used
pub left_once : (s : Stored) (before one other : Workspace) → IsLeft (Ok s) before one → IsLeft (Ok s) before other
    → AreSameAfter (tables_used s.params before.table before.scratch * table_words s.params.log_n s.params.r) one other
left_once s before one other = grind arith

-- several

each_same : {X : Type 0} (f : Attempt → X) → ((a b : Attempt) → public_part a ≡ public_part b → f a ≡ f b)
    → (some others : List Attempt) → map public_part some ≡ map public_part others → map f some ≡ map f others
each_same f one [] [] same = refl
each_same f one [] (b ∷ others) same = absurd cc
each_same f one (a ∷ some) [] same = absurd cc
each_same f one (a ∷ some) (b ∷ others) same =
    let first : public_part a ≡ public_part b = cc in
    let rest : map public_part some ≡ map public_part others = cc in
    ap₂ (λ x xs. x ∷ xs) (one a b first) (each_same f one some others rest)

pub all_cores : (w : Workspace) (some others : List Attempt) → map public_part some ≡ map public_part others
    → sum_by (cores_on w) some ≡ sum_by (cores_on w) others
all_cores w some others same = sums_alike _ _ some others (each_same (cores_on w) (same_cores w) some others same)

pub all_hashed : (w : Workspace) (some others : List Attempt) → map public_part some ≡ map public_part others
    → sum_by (hashed_on w) some ≡ sum_by (hashed_on w) others
all_hashed w some others same = sums_alike _ _ some others (each_same (hashed_on w) (same_hashed w) some others same)

count_same : (c : Parameters) (some others : List Attempt) → map public_part some ≡ map public_part others → count_of c some ≡ count_of c others
count_same c [] [] same = refl
count_same c [] (b ∷ others) same = absurd cc
count_same c (a ∷ some) [] same = absurd cc
count_same c (a ∷ some) (b ∷ others) same =
    let first : public_part a ≡ public_part b = cc in
    let rest : map public_part some ≡ map public_part others = cc in
    grind (arith, both, count_same c some others rest)

params_same : (a b : Attempt) → public_part a ≡ public_part b → params_of a.1 ≡ params_of b.1
params_same = grind arith

shared_same : (some others : List Attempt) → map public_part some ≡ map public_part others → shared some ≡ shared others
shared_same [] [] same = refl
shared_same [] (b ∷ others) same = absurd cc
shared_same (a ∷ some) [] same = absurd cc
shared_same (a ∷ some) (b ∷ others) same = grind (arith, option_and_then, params_same, count_same)

pub all_left : (some others : List Attempt) (before after : Workspace) → map public_part some ≡ map public_part others
    → AreLeft some before after → AreLeft others before after
all_left [] [] before after same left = left
all_left [] (b ∷ others) before after same left = absurd cc
all_left (a ∷ some) [] before after same left = absurd cc
all_left (a ∷ some) (b ∷ others) before after same left =
    let chosen : Chosen (shared (b ∷ others)) (Alone a some) = rw (shared_same (a ∷ some) (b ∷ others) same) at left in
    at (shared (b ∷ others)) chosen (λ between left. all_left some others between after rest left)
  where
    Alone : Attempt → List Attempt → Type 0
    Alone a rest = (between : Workspace) × IsLeft a.1 before between × AreLeft rest between after

    Chosen : Option Parameters → Type 0 → Type 0
    Chosen c One = MatchOption c One (λ c. MatchBool (are_enough c before.chunks before.table before.scratch) (IsDone c before after) One)

    first : public_part a ≡ public_part b
    first = grind arith

    rest : map public_part some ≡ map public_part others
    rest = grind arith

    More : Type 0
    More = (between : Workspace) → AreLeft some between after → AreLeft others between after

    one : More → Alone a some → Alone b others
    one more x = (x.0, same_left a b before x.0 first x.1, more x.0 x.2)

    which : More → (c : Parameters) (test : Bool) → MatchBool test (IsDone c before after) (Alone a some)
        → MatchBool test (IsDone c before after) (Alone b others)
    which more c true done = done
    which more c false alone = one more alone

    at : (c : Option Parameters) → Chosen c (Alone a some) → More → Chosen c (Alone b others)
    at None alone more = one more alone
    at (Some c) chosen more = which more c (are_enough c before.chunks before.table before.scratch) chosen

pub ruleset of_public = (same_cost, same_cores, same_hashed, same_left, left_once, all_cores, all_hashed, all_left)

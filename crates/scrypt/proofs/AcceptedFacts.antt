use Rattle.scrypt.specs.Terms.{Parameters, ParamsInvalid, are_accepted, checked, is_output_len, is_salt_len}
use Rattle.scrypt.specs.Terms.{is_stored_len, max_output_len, parameters_eq}
pub use Rattle.password_hash.proofs.PhcReadingFacts.{leb_decided}
use Rattle.std.proofs.lemmas.Bool.{false_from_ne_true}
use Rattle.std.proofs.lemmas.Bool.Decides.{Decides-and}
use Rattle.std.proofs.Common.{refl, ◌≡◌, ℕ, ◌*◌, ◌^◌, ◌<◌, ◌≤◌, arith, lit≤, true, false, Bool, Option, Some, None, Result, Ok, Err, if◌then◌else◌, unwrap_or, IsTrue, Decides, lt_of_not-le, mul-le-mul_right, mul_assoc, pow_mono}
use Rattle.std.proofs.lemmas.Nat.{mul-le}

-- no accepted log_n is above 56
pub small_log_n : (log_n r : ℕ) → 0 < r → 128 * r * 2 ^ log_n < 2 ^ 64 → log_n ≤ 56
small_log_n log_n r some fits =
    let below : log_n < 57 = lt_of_not-le (λ big.
    let product = mul-le 1 (2 ^ 57) r (2 ^ log_n) some (pow_mono big) in
    omega (arith, product, mul_assoc 128 r (2 ^ log_n), fits)) in
    omega (arith, below)

pub refuted : {P : Type 0} (test : Bool) → Decides test P → ¬ P → test ≡ false
refuted test decided none = false_from_ne_true test (λ is. none (decided.0 is))

pub ok_if : {A E : Type 0} (test : Bool) (made : Result A E) (e : E) {x : A} → (if test then made else Err e) ≡ Ok x → (test ≡ true) × (made ≡ Ok x)
ok_if true made e is = (refl, is)
ok_if false made e is = absurd cc

-- what the tests of numbers and lengths say

pub accepted_decided : (log_n r p : ℕ) → Decides (are_accepted log_n r p) ((0 < r) × (0 < p) × (128 * r * 2 ^ log_n < 2 ^ 64) × (r * p < 2 ^ 30))
unfolding are_accepted
accepted_decided log_n r p = grind arith

pub bounds : (log_n r p : ℕ) → IsTrue (are_accepted log_n r p) → (0 < r) × (0 < p) × (128 * r * 2 ^ log_n < 2 ^ 64) × (r * p < 2 ^ 30)
bounds log_n r p accepted = (accepted_decided log_n r p).0 accepted

pub output_len_decided : (n : ℕ) → Decides (is_output_len n) ((1 ≤ n) × (n ≤ max_output_len))
unfolding is_output_len
output_len_decided n = Decides-and _ _ (leb_decided 1 n) (leb_decided n max_output_len)

pub stored_len_decided : (n : ℕ) → Decides (is_stored_len (Some n)) ((10 ≤ n) × (n ≤ 64))
unfolding is_stored_len
stored_len_decided n = Decides-and _ _ (leb_decided 10 n) (leb_decided n 64)

pub salt_len_decided : (n : ℕ) → Decides (is_salt_len n) ((1 ≤ n) × (n ≤ 64))
unfolding is_salt_len
salt_len_decided n = Decides-and _ _ (leb_decided 1 n) (leb_decided n 64)

-- numbers that are accepted are parameters

abbrev pub numbers : ℕ → ℕ → ℕ → Parameters
numbers log_n r p = record { log_n = log_n; r = r; p = p; output_len = None }

pub checked_is : (log_n r p : ℕ) → IsTrue (are_accepted log_n r p) → checked log_n r p ≡ Ok (numbers log_n r p)
unfolding checked
checked_is log_n r p fits = rw fits refl

pub not_checked : (log_n r p : ℕ) → ¬ IsTrue (are_accepted log_n r p) → checked log_n r p ≡ Err ParamsInvalid
unfolding checked
not_checked log_n r p none = rw (false_from_ne_true _ none) refl

pub checked_ok : (log_n r p : ℕ) (c : Parameters) → checked log_n r p ≡ Ok c → IsTrue (are_accepted log_n r p) × (numbers log_n r p ≡ c)
unfolding checked
checked_ok log_n r p c is = grind arith

pub table_bytes : (log_n r : ℕ) → 128 * r * 2 ^ log_n ≡ 128 * (r * 2 ^ log_n)
table_bytes log_n r = mul_assoc 128 r (2 ^ log_n)

pub small_chunks : (r p : ℕ) → r * p < 2 ^ 30 → p * (128 * r) ≤ max_output_len
small_chunks r p few = omega arith

pub small_factor : (r p : ℕ) → 0 < p → r * p < 2 ^ 30 → r < 2 ^ 30
small_factor r p some few = let least = mul-le r 1 r p (omega arith) some in omega arith

pub small_params : (log_n r p : ℕ) → IsTrue (are_accepted log_n r p) → (log_n ≤ 56) × (r < 2 ^ 30) × (p < 2 ^ 30)
small_params log_n r p accepted = grind (arith, accepted_decided, small_log_n, small_factor)

-- the cores of a derivation, as the code computes them
pub small_blocks : (log_n r : ℕ) → 128 * r * 2 ^ log_n < 2 ^ 64 → 2 ^ log_n * r < 2 ^ 57
small_blocks log_n r fits = omega arith

pub small_cost : (blocks p : ℕ) → blocks < 2 ^ 57 → p < 2 ^ 30 → 4 * blocks * p < 2 ^ 89
small_cost blocks p few small = grind arith

-- the words of the table, and those of a table that keeps fewer rows
pub small_rows : (log_n log_rows r : ℕ) → log_rows ≤ log_n → 128 * r * 2 ^ log_n < 2 ^ 64 → 2 ^ log_rows * (32 * r) < 2 ^ 62
small_rows log_n log_rows r fewer fits = grind (arith, pow_mono fewer, mul-le-mul_right)

pub parameters_decided : (a b : Parameters) → Decides (parameters_eq a b) (a ≡ b)
parameters_decided a b = grind arith

-- the length of a key that hashing makes is one that is stored
pub key_len_stored : (len : Option ℕ) → IsTrue (is_stored_len len) → (10 ≤ unwrap_or len 32) × (unwrap_or len 32 ≤ 64)
key_len_stored None fits = (lit≤ tt, lit≤ tt)
key_len_stored (Some n) fits = (stored_len_decided n).0 fits

pub stored_is_output : (len : Option ℕ) → IsTrue (is_stored_len len) → IsTrue (is_output_len (unwrap_or len 32))
stored_is_output len fits = grind (arith, key_len_stored, output_len_decided, unwrap_or)

pub output_len_bound : (n : ℕ) → IsTrue (is_output_len n) → n ≤ max_output_len
output_len_bound n fits = ((output_len_decided n).0 fits).1

pub ruleset small_lens = (small_log_n, small_chunks, small_rows)

pub ruleset small_cores = (small_blocks, small_factor, small_cost)

pub ruleset reading_numbers = (checked_is, not_checked)

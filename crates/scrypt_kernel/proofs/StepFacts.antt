-- Facts on scryptROMix in steps.
use Rattle.std.proofs.Common.{◌≡◌, ℕ, ◌<◌, ◌≤◌, ◌+◌, ◌-◌, ◌*◌, ◌%◌, ◌^◌, List, ◌++◌, length, take, drop, ap, ◌∙◌, inl, inr, arith, rules}
use Rattle.std.proofs.lemmas.Bool.{cases_lt}
use Rattle.std.proofs.lemmas.List.{drop-drop, places, same_lists}
use Rattle.std.proofs.lemmas.Nat.{pow_pos}
use Rattle.scrypt_kernel.specs.{AddsRow, AreInverse, IsInWalk, IsMixing, all_mixes, mixed_in, part, permuted, place, ro_mix, row, walk}
use Rattle.scrypt_kernel.proofs.PartFacts.{length-part, part-take, part_append_front, part_inside, parts_apart}
use Rattle.scrypt_kernel.proofs.RoMixFacts.{part_of_row, place_inside, row_after_in}

-- the cores of one more mix
pub one_more_times : (i m c : ℕ) → i ≤ m → (m + 1 - i) * c ≡ (m - i) * c + c
one_more_times i m c order = let next : m + 1 - i ≡ m - i + 1 = omega arith in rw next (omega arith)

-- lists that are the same from index a on are the same from a later index on
pub drop_same : (a b : ℕ) (x y : List ℕ) → a ≤ b → drop a x ≡ drop a y → drop b x ≡ drop b y
drop_same a b x y later same =
    let sum : a + (b - a) ≡ b = omega arith in
    rw (← sum, ← drop-drop (b - a) a x, ← drop-drop (b - a) a y) (ap (drop (b - a)) same)

-- what is behind two parts of a list that were written
pub behind : (xs ys back whole : List ℕ) (a b n : ℕ) → back ≡ drop a whole → length xs ≡ a → length ys ≡ b → a + b ≡ n
    → drop n (xs ++ (ys ++ drop b back)) ≡ drop n whole
behind xs ys back whole a b n is front next end = same_lists _ _ (search (rules, places, drop-drop)) (λ i d h. grind (arith, places, drop-drop))

-- before the first mix
pub no_mix_yet : {p : List ℕ} {n s : ℕ} {b : ℕ → List ℕ} {v x : List ℕ} (log_n : ℕ)
    → ((k : ℕ) → k < n → part s v k ≡ permuted p (b k)) → IsMixing p n b s log_n 0 v x
unfolding row
no_mix_yet {n = n} log_n each = grind (arith, pow_pos)

-- of the same words
pub mixing_as : {p : List ℕ} {n s log_n done : ℕ} {v x : List ℕ} (b c : ℕ → List ℕ) → ((k : ℕ) → k < n → b k ≡ c k)
    → IsMixing p n b s log_n done v x → IsMixing p n c s log_n done v x
mixing_as {p} {log_n = log_n} {done = done} b c same at = grind arith

-- in the beginning of a longer scratch, and in a scratch that begins with this one
module _ {p : List ℕ} {n s log_n done : ℕ} {b : ℕ → List ℕ} {v : List ℕ} (x : List ℕ)
    (at : IsMixing p n b s log_n done v x) where
  pub mixing_front : (a : ℕ) → n * s ≤ a → IsMixing p n b s log_n done v (take a x)
  mixing_front a row = grind (arith, part-take, part_inside)

  pub mixing_longer : (x' : List ℕ) → n * s ≤ length x → IsMixing p n b s log_n done v (x ++ x')
  mixing_longer x' row = grind (arith, part_append_front, part_inside)

module _ {p q : List ℕ} (inverse : AreInverse p q) {n s log_n done : ℕ} {b : ℕ → List ℕ} (v x : List ℕ) (whole : s % 32 ≡ 0)
    (at : IsMixing p n b s log_n done v x) where
  -- after one more mix of step 2, which is not the last
  pub one_more_row_mixed : (v' : List ℕ) → done + 1 < 2 ^ log_n → (done + 1) * (n * s) ≤ length v
      → AddsRow (mixed_in p q 1) n s done v v' → IsMixing p n b s log_n (done + 1) v' x
  one_more_row_mixed v' more room added = record {
    rows = λ m k inside made below. elim (cases_lt m (done + 1)) [
      | inl lt ↦ grind (arith, parts_apart)
      | inr ge ↦
          let last : m ≡ done + 1 = omega arith in
          let front = place_inside n s done (done + 1) k below (omega arith) in
          let long = length-part s (place n done k) v (omega (arith, front, room)) in
          grind (arith, row_after_in)
    ];
    x = λ k below ended. absurd (omega (arith, ended, more));
  }

  -- after the last one
  pub last_row_mixed : (x' last : List ℕ) → done + 1 ≡ 2 ^ log_n → (done + 1) * (n * s) ≤ length v → last ≡ part (n * s) v done
      → ((k : ℕ) → k < n → part s x' k ≡ mixed_in p q 1 (part s last k)) → IsMixing p n b s log_n (done + 1) v x'
  unfolding walk
  last_row_mixed x' last all room last_is mixed = record {
    rows = λ m k inside made below. at.rows m k inside (omega arith) below;
    x = λ k below ended.
        let front = place_inside n s done (done + 1) k below (omega arith) in
        let is = ap (λ z. part s z k) last_is ∙ part_of_row n s done k v below in
        let long = ap length is ∙ length-part s (place n done k) v (omega (arith, front)) in
        grind (arith, row_after_in);
  }

  -- the walk
  in_walk : (k : ℕ) → k < n → 2 ^ log_n ≤ done → IsInWalk p (b k) n k s log_n 0 (done - 2 ^ log_n) v x
  in_walk k below ended = grind arith

  pub steps_walked : (x' : List ℕ) (end count : ℕ) → 2 ^ log_n ≤ done → done + count ≡ end
      → ((k : ℕ) → k < n → (b : List ℕ) → (i : ℕ) → IsInWalk p b n k s log_n 0 i v x → IsInWalk p b n k s log_n 0 (i + count) v x')
      → IsMixing p n b s log_n end v x'
  steps_walked x' end count ended is walked = record {
    rows = λ m k inside made below. at.rows m k inside (omega arith) below;
    x = λ k below later.
        let there : done - 2 ^ log_n + count ≡ end - 2 ^ log_n = omega arith in
        rw (← there) (walked k below (b k) (done - 2 ^ log_n) (in_walk k below ended)).walked;
  }

-- after all mixes X is the scryptROMix
pub all_mixed : {p : List ℕ} {n s log_n : ℕ} {b : ℕ → List ℕ} {v x : List ℕ} → IsMixing p n b s log_n (all_mixes log_n) v x
    → (k : ℕ) → k < n → part s x k ≡ permuted p (ro_mix (b k) log_n)
unfolding ro_mix
all_mixed {log_n = log_n} at k below = grind arith

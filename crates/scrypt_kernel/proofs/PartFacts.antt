-- Facts on a list that is cut into parts of s elements each.
use Rattle.std.proofs.Common.{◌≡◌, ◌≢◌, ℕ, zero, suc, ◌<◌, ◌≤◌, ◌+◌, ◌*◌, List, ◌++◌, length, get_or, take, drop, refl}
use Rattle.std.proofs.Common.{sym, ap, ap₂, ◌∙◌, take_all, arith, rules, add-zero, zero-add, append_assoc}
use Rattle.std.proofs.Math.Nat.{mul-le-mul_right}
use Rattle.std.proofs.lemmas.List.{take_at, take-take, drop-drop, take-append-drop, length-take-le, places, same_lists, length-append, length-drop, nil_from_length}
use Rattle.std.proofs.lemmas.Slice.{drop-put_mid}
use Rattle.std.proofs.lemmas.List.FromFn.{fill_by_all}
use Rattle.std.proofs.lemmas.List.Folds.{flat_map-map}
use borrow.Rule.Slice.PartMut.{put_mid}
use Rattle.std.specs.List.{flat_map, range_with_len}
use Rattle.std.proofs.Math.Seq.{take-add}
use Rattle.scrypt_kernel.specs.{AreParts, block, part, part_of}
use Rattle.scrypt_kernel.specs.declared.parts.Parts.{Parts}

-- a later part begins where an earlier one has ended, or later
pub parts_apart : (s j k : ℕ) → j < k → j * s + s ≤ k * s
parts_apart s j k h = grind (arith, mul-le-mul_right)

pub length-part : (s k : ℕ) (x : List ℕ) → k * s + s ≤ length x → length (part s x k) ≡ s
length-part s k x room = length-take-le s (drop (k * s) x) (omega (arith, length-drop (k * s) x))

-- a part of a beginning that holds it
pub part-take : (s k a : ℕ) (x : List ℕ) → k * s + s ≤ a → part s (take a x) k ≡ part s x k
part-take s k a x inside = same_lists _ _ (search (rules, places)) (λ i d h. grind (arith, places))

-- a list that was made longer
pub take_longer : (a : ℕ) (x longer : List ℕ) → a ≤ length x → take (length x) longer ≡ x → take a longer ≡ take a x
take_longer a x longer inside is = sym (take-take a (length x) longer inside) ∙ ap (take a) is

pub part_longer : (s k : ℕ) (x longer : List ℕ) → k * s + s ≤ length x → take (length x) longer ≡ x → part s longer k ≡ part s x k
part_longer s k x longer inside is = sym (part-take s k (length x) longer inside) ∙ ap (λ z. part s z k) is

module _ (s k : ℕ) (x ys : List ℕ) (a n : ℕ) (at : a ≡ k * s) (size : n ≡ s) (full : length ys ≡ s) (room : a + s ≤ length x) where
  pub part_put_same : part s (put_mid a n x ys) k ≡ ys
  part_put_same = same_lists _ _ (search (rules, places)) (λ i d h. grind (arith, places))

  pub part_put_other : (j : ℕ) → j ≢ k → part s (put_mid a n x ys) j ≡ part s x j
  part_put_other j ne = same_lists _ _ (search (rules, places, parts_apart, drop-put_mid)) (λ i d h. grind (arith, places, parts_apart, drop-put_mid))

next_place : (a i : ℕ) → a + 1 + i ≡ a + suc i
next_place a i = omega arith

-- a list of n parts, each known
pub parts_from : (f : ℕ → List ℕ) (s a n : ℕ) (x : List ℕ) → length x ≡ n * s
    → ((k : ℕ) → k < n → part s x k ≡ f (a + k)) → x ≡ flat_map f (range_with_len a n)
parts_from f s a zero x long each = nil_from_length x (omega arith)
parts_from f s a (suc n) x long each =
    let none : 0 * s ≡ 0 = omega arith in
    let first : take s x ≡ f a = rw (none, add-zero) at (each 0 (omega arith)) in
    let rest = parts_from f s (a + 1) n (drop s x) (omega (arith, length-drop s x)) (λ k h.
    let next : s + k * s ≡ suc k * s = omega arith in
    rw (drop-drop, next, next_place) (each (suc k) (omega arith))) in
    sym (take-append-drop s x) ∙ ap₂ (λ u v. u ++ v) first rest

pub parts_all : (f : ℕ → List ℕ) (s n : ℕ) (x : List ℕ) → length x ≡ n * s
    → ((k : ℕ) → k < n → part s x k ≡ f k) → x ≡ flat_map f (range_with_len 0 n)
parts_all f s n x long each = parts_from f s 0 n x long (λ k h. each k h ∙ ap f (sym (zero-add k)))

-- a list of two halves of n parts each, each part known
pub halves_all : (f g : ℕ → List ℕ) (s n : ℕ) (x : List ℕ) → length x ≡ 2 * n * s
    → ((k : ℕ) → k < n → part s x k ≡ f k) → ((k : ℕ) → k < n → part s x (n + k) ≡ g k)
    → x ≡ flat_map f (range_with_len 0 n) ++ flat_map g (range_with_len 0 n)
halves_all f g s n x long front back =
    let a : ℕ = n * s in
    let one = parts_all f s n (take a x) (length-take-le a x (omega arith)) (λ k h.
    let apart = parts_apart s k n h in
    part-take s k a x (omega arith) ∙ front k h) in
    let two = parts_all g s n (drop a x) (omega (arith, length-drop a x)) (λ k h.
    let place : n * s + k * s ≡ (n + k) * s = omega arith in
    rw (drop-drop, place) (back k h)) in
    sym (take-append-drop a x) ∙ ap₂ (λ u v. u ++ v) one two

-- two lists whose first n parts are equal
take_parts : (s n : ℕ) (x z : List ℕ) → ((k : ℕ) → k < n → part s x k ≡ part s z k) → take (n * s) x ≡ take (n * s) z
take_parts s zero x z each = let none : 0 * s ≡ 0 = omega arith in rw none refl
take_parts s (suc n) x z each =
    let next : suc n * s ≡ n * s + s = omega arith in
    rw (next, take-add (n * s) s x, take-add (n * s) s z)
    (ap₂ (λ a b. a ++ b) (take_parts s n x z (λ k h. each k (omega arith))) (each n (omega arith)))

pub parts_same : (s n : ℕ) (x z : List ℕ) → length x ≡ n * s → length z ≡ n * s
    → ((k : ℕ) → k < n → part s x k ≡ part s z k) → x ≡ z
parts_same s n x z one two each = sym (take_all (n * s) x (omega arith)) ∙ take_parts s n x z each ∙ take_all (n * s) z (omega arith)

-- a list of one part for each element of x
pub parts_of_each : (g : ℕ → List ℕ) (s : ℕ) (x b : List ℕ) → length b ≡ length x * s
    → ((k : ℕ) → k < length x → part s b k ≡ g (get_or x k 0)) → b ≡ flat_map g x
parts_of_each g s x b long each =
    let places = fill_by_all (λ k. get_or x k 0) x (length x) 0 refl (λ k h. refl) in
    grind (arith, parts_all, flat_map-map)

-- part n + k of a list whose first n parts are known
pub part_after : (s n k : ℕ) (xs ys : List ℕ) → length xs ≡ n * s → part s (xs ++ ys) (n + k) ≡ part s ys k
part_after s n k xs ys long = same_lists _ _ (search (rules, places)) (λ i d h. grind (arith, places))

-- the length of n parts of s elements each
pub length-parts : (f : ℕ → List ℕ) (s a n : ℕ) → ((i : ℕ) → i < n → length (f (a + i)) ≡ s)
    → length (flat_map f (range_with_len a n)) ≡ n * s
length-parts f s a zero long = omega arith
length-parts f s a (suc n) long =
    let first : length (f a) ≡ s = rw add-zero at (long 0 (omega arith)) in
    let rest = length-parts f s (a + 1) n (λ i h. rw next_place (long (suc i) (omega arith))) in
    omega (arith, length-append (f a) (flat_map f (range_with_len (a + 1) n)))

-- part k of them, with more elements after them
pub part_of_parts : (f : ℕ → List ℕ) (s a n k : ℕ) (ys : List ℕ) → ((i : ℕ) → i < n → length (f (a + i)) ≡ s) → k < n
    → part s (flat_map f (range_with_len a n) ++ ys) k ≡ f (a + k)
part_of_parts f s a zero k ys long inside = absurd (omega arith)
part_of_parts f s a (suc n) zero ys long inside = grind (arith, add-zero, append_assoc, take_at)
part_of_parts f s a (suc n) (suc k) ys long inside =
    let first : length (f a) ≡ 1 * s = rw add-zero at (long 0 (omega arith)) ∙ omega arith in
    let next : suc k ≡ 1 + k = omega arith in
    rw (← next_place a k, append_assoc, next, part_after s 1 k (f a) _ first)
    (part_of_parts f s (a + 1) n k ys (λ i h. rw next_place (long (suc i) (omega arith))) (omega arith))

-- the parts of a list, with more appended to it
pub part_append_front : (s k : ℕ) (xs ys : List ℕ) → k * s + s ≤ length xs → part s (xs ++ ys) k ≡ part s xs k
part_append_front s k xs ys room = same_lists _ _ (search (rules, places)) (λ i d h. grind (arith, places))

-- part i of the words from block k on
pub part_of_block : (x : List ℕ) (k i : ℕ) → part 4 (drop (k * 16) x) i ≡ part 4 x (4 * k + i)
part_of_block x k i = grind (arith, drop-drop)

-- blocks with the same four parts
pub block_same : (x z : List ℕ) (j k : ℕ) → ((i : ℕ) → i < 4 → part 4 x (4 * j + i) ≡ part 4 z (4 * k + i)) → block x j ≡ block z k
block_same x z j k each =
    take_parts 4 4 (drop (j * 16) x) (drop (k * 16) z) (λ i h. part_of_block x j i ∙ each i h ∙ sym (part_of_block z k i))

-- a part of several is inside
pub part_inside : (s k n len : ℕ) → k < n → n * s ≤ len → k * s + s ≤ len
part_inside s k n len below room = let apart = parts_apart s k n below in omega arith

pub length-part_of : (parts : Parts) (n k : ℕ) → AreParts n parts → k < n → length (part_of parts k) ≡ parts.len
length-part_of parts n k all below = grind (arith, length-take-le, length-drop)

-- the only part
pub only_part : (s : ℕ) (x : List ℕ) → length x ≡ s → part s x 0 ≡ x
only_part s x long = let none : 0 * s ≡ 0 = omega arith in rw none (take_all s x (omega arith))

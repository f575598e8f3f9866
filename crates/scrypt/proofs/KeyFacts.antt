use Rattle.std.proofs.Common.{◌≡◌, ℕ, zero, suc, ◌<◌, ◌≤◌, ◌+◌, ◌*◌, List, ◌++◌, length, take, drop, slice_index, refl, sym, ap, ap₂, ◌∙◌, arith, add-zero, zero-add, append_assoc, drop-drop, ◌-◌, length-drop, length-take-le}
use Rattle.std.specs.List.{flat_map, range_with_len}
use Rattle.std.proofs.lemmas.Slice.{drop-put_mid, take-put_mid}
use Rattle.std.proofs.lemmas.List.FromFn.{take-map-range_with_len}
use borrow.Rule.Slice.PartMut.{put_mid}
use Rattle.scrypt.specs.Terms.{AreMixed, Parameters, bytes_of, derived_key, key_by, mixed_chunk, mixed_chunks, part}
use Rattle.scrypt.specs.Terms.{pbkdf2, words_of}
use Rattle.scrypt_kernel.specs.RoMix.{ro_mix}
use Rattle.scrypt_kernel.specs.Hmac.{padded_key}
use Rattle.scrypt_kernel.proofs.PartFacts.{length-part, length-parts, part-take, part_after, part_append_front, parts_apart, parts_from}
use Rattle.scrypt_kernel.proofs.RoMixFacts.{length-ro_mix}
use Rattle.scrypt_kernel.proofs.WordFacts.{length-bytes_of, length-words_of}
use Rattle.scrypt_kernel.proofs.Pbkdf2Facts.{length-pbkdf2, padded_digest, padded_zero_byte, pbkdf2-are_bytes, same_pbkdf2}

-- lists that are made one after another, each of a number

made_append : (f : ℕ → List ℕ) (a n b m : ℕ) → a + n ≡ b
    → flat_map f (range_with_len a (n + m)) ≡ flat_map f (range_with_len a n) ++ flat_map f (range_with_len b m)
made_append f a zero b m next = let same : a ≡ b = omega arith in rw (zero-add, same) refl
made_append f a (suc n) b m next =
    let count : suc n + m ≡ suc (n + m) = omega arith in
    rw count (ap (λ z. f a ++ z) (made_append f (a + 1) n b m (omega arith)) ∙ sym (append_assoc (f a) _ _))

pub made_alike : (f g : ℕ → List ℕ) (a b n : ℕ) → ((i : ℕ) → i < n → f (a + i) ≡ g (b + i))
    → flat_map f (range_with_len a n) ≡ flat_map g (range_with_len b n)
made_alike f g a b zero same = refl
made_alike f g a b (suc n) same =
    let first : f a ≡ g b = ap f (sym (add-zero a)) ∙ same 0 (omega arith) ∙ ap g (add-zero b) in
    ap₂ (λ y z. y ++ z) first (made_alike f g (a + 1) (b + 1) n (λ i below.
    let place : a + 1 + i ≡ a + suc i = omega arith in
    grind arith))

-- n more chunks, mixed in place as the slice that the code takes
pub mixed_slice : {b x ys : List ℕ} {log_n r i : ℕ} (n : ℕ) → i * (128 * r) + n * (128 * r) ≤ length x
    → length ys ≡ length (take (i * (128 * r) + n * (128 * r) - i * (128 * r)) (drop (i * (128 * r)) x))
    → (length ys ≡ n * (128 * r) → ys ≡ flat_map (mixed_chunk b log_n r) (range_with_len i n)) → AreMixed b log_n r i x
    → AreMixed b log_n r (i + n) (put_mid (i * (128 * r)) (i * (128 * r) + n * (128 * r) - i * (128 * r)) x ys)
mixed_slice {b} {x} {ys} {log_n} {r} {i} n room long made before =
    grind (arith, length-take-le, length-drop, take-put_mid, made_append, zero-add, drop-put_mid, drop-drop)

pub part_at : (s i : ℕ) (x : List ℕ) → part s (drop (i * s) x) 0 ≡ part s x i
part_at s i x = grind arith

-- a chunk in a slice that has n of them
pub chunk_of_slice : {b : List ℕ} {log_n r i : ℕ} (a m n k : ℕ) (x : List ℕ) → a ≡ i * (128 * r) → m ≡ n * (128 * r) → k < n
    → AreMixed b log_n r i x → part (128 * r) (take m (drop a x)) k ≡ part (128 * r) b (i + k)
chunk_of_slice {b} {log_n} {r} {i} a m n k x at size below before = grind (arith, part-take, parts_apart, drop-drop)

-- n chunks from i on, of which each becomes its scryptROMix
pub mixed_group : (b x ys : List ℕ) (log_n r i n : ℕ) → length ys ≡ n * (128 * r)
    → ((k : ℕ) → k < n → part (128 * r) ys k ≡ bytes_of (ro_mix (words_of (part (128 * r) (take (n * (128 * r)) (drop (i * (128 * r)) x)) k)) log_n))
    → AreMixed b log_n r i x → ys ≡ flat_map (mixed_chunk b log_n r) (range_with_len i n)
mixed_group b x ys log_n r i n long each before =
    parts_from (mixed_chunk b log_n r) (128 * r) i n ys long (λ k below. each k below
    ∙ ap (λ z. bytes_of (ro_mix (words_of z) log_n)) (chunk_of_slice (i * (128 * r)) (n * (128 * r)) n k x refl refl below before))

pub length-mixed_chunk : (b : List ℕ) (log_n r i : ℕ) → 0 < r → i * (128 * r) + 128 * r ≤ length b → length (mixed_chunk b log_n r i) ≡ 128 * r
length-mixed_chunk b log_n r i some room = grind (arith, length-part, length-words_of, length-bytes_of, length-ro_mix)

-- the chunks of two derivations, mixed as one list
pub both_mixed : (b w : List ℕ) (log_n r p q : ℕ) → 0 < r → length b ≡ p * (128 * r)
    → mixed_chunks (b ++ w) log_n r (p + q) ≡ mixed_chunks b log_n r p ++ mixed_chunks w log_n r q
both_mixed b w log_n r p q some long =
    grind (arith, made_append (mixed_chunk (b ++ w) log_n r) 0 p p q (zero-add p), made_alike, part_append_front, parts_apart, zero-add, part_after)

pub length-mixed_chunks : (b : List ℕ) (log_n r p : ℕ) → 0 < r → length b ≡ p * (128 * r) → length (mixed_chunks b log_n r p) ≡ p * (128 * r)
length-mixed_chunks b log_n r p some long = length-parts (mixed_chunk b log_n r) (128 * r) 0 p (λ i below.
    length-mixed_chunk b log_n r (0 + i) some (omega (arith, parts_apart (128 * r) i p below, long)))

-- a shorter key is the beginning of a longer one
pub key_prefix : (password salt : List ℕ) (log_n r p m n : ℕ) → m ≤ n
    → derived_key password salt log_n r p m ≡ take m (derived_key password salt log_n r p n)
unfolding derived_key
key_prefix password salt log_n r p m n shorter = sym (take-map-range_with_len _ 0 n m shorter)

-- passwords that are padded alike have the same keys
pub same_key : (one other salt : List ℕ) (log_n r p n : ℕ) → padded_key one ≡ padded_key other
    → derived_key one salt log_n r p n ≡ derived_key other salt log_n r p n
unfolding derived_key
same_key one other salt log_n r p n padded =
    same_pbkdf2 one other _ n padded
    ∙ ap (λ b. pbkdf2 other (mixed_chunks b log_n r p) n) (same_pbkdf2 one other salt (p * (128 * r)) padded)

pub length-key_by : (c : Parameters) (password salt : List ℕ) (n : ℕ) → length (key_by c password salt n) ≡ n
unfolding derived_key
length-key_by c password salt n = length-pbkdf2 password _ n

pub key_by-are_bytes : (c : Parameters) (password salt : List ℕ) (n i : ℕ) → slice_index (key_by c password salt n) i < 256
unfolding derived_key
key_by-are_bytes c password salt n i = pbkdf2-are_bytes password _ n i

pub ruleset same_keys = (same_key, padded_digest, padded_zero_byte)

pub ruleset lengths = (length-key_by)

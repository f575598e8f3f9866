-- Facts on lists of words.
use Rattle.std.proofs.Common.{◌≡◌, ℕ, zero, suc, ◌<◌, ◌*◌, ◌/◌, List, [], ◌∷◌, length, take, drop, refl, get_or, sym, ap, ◌∙◌, arith}
use Rattle.std.proofs.lemmas.List.{ext_get_or, places}
use Rattle.std.specs.Simd.Lanes.{zip2}
use Rattle.std.proofs.lemmas.Simd.{length-zip2, get_or-zip2}
use Rattle.scrypt_kernel.specs.Words.{bytes_of, le_number, part, words_of}

-- a list that holds f of two lists at each place
pub zip2_all : (f : ℕ → ℕ → ℕ) (x y out : List ℕ) → length out ≡ length x → length x ≡ length y
    → ((k : ℕ) → k < length out → get_or out k 0 ≡ f (get_or x k 0) (get_or y k 0)) → out ≡ zip2 f x y
zip2_all f x y out long same each =
    ext_get_or 0 _ _ (long ∙ sym (length-zip2 f x y same)) (λ k h. grind (arith, each k h, get_or-zip2 f x y k 0 0 0))

zip2-nil : (f : ℕ → ℕ → ℕ) (x : List ℕ) → zip2 f x [] ≡ []
zip2-nil f [] = refl
zip2-nil f (a ∷ x) = refl

drop-zip2 : (f : ℕ → ℕ → ℕ) (n : ℕ) (x y : List ℕ) → drop n (zip2 f x y) ≡ zip2 f (drop n x) (drop n y)
drop-zip2 f zero x y = refl
drop-zip2 f (suc n) [] y = refl
drop-zip2 f (suc n) (a ∷ x) [] = sym (zip2-nil f (drop n x))
drop-zip2 f (suc n) (a ∷ x) (b ∷ y) = drop-zip2 f n x y

take-zip2 : (f : ℕ → ℕ → ℕ) (n : ℕ) (x y : List ℕ) → take n (zip2 f x y) ≡ zip2 f (take n x) (take n y)
take-zip2 f zero x y = refl
take-zip2 f (suc n) [] y = refl
take-zip2 f (suc n) (a ∷ x) [] = refl
take-zip2 f (suc n) (a ∷ x) (b ∷ y) = ap (λ z. f a b ∷ z) (take-zip2 f n x y)

-- part k of two lists that are joined place by place
pub part-zip2 : (f : ℕ → ℕ → ℕ) (s k : ℕ) (x y : List ℕ) → part s (zip2 f x y) k ≡ zip2 f (part s x k) (part s y k)
part-zip2 f s k x y = ap (take s) (drop-zip2 f (k * s) x y) ∙ take-zip2 f s (drop (k * s) x) (drop (k * s) y)

-- a word has four bytes
pub length-bytes_of : (x : List ℕ) → length (bytes_of x) ≡ length x * 4
length-bytes_of [] = refl
length-bytes_of (a ∷ x) = grind (arith, places, length-bytes_of x)

-- four bytes make a word
pub length-words_of : (b : List ℕ) → length (words_of b) ≡ length b / 4
length-words_of [] = refl
length-words_of (a ∷ []) = refl
length-words_of (a ∷ b ∷ []) = refl
length-words_of (a ∷ b ∷ c ∷ []) = refl
length-words_of (a ∷ b ∷ c ∷ d ∷ bytes) = omega (arith, length-words_of bytes)

pub get_or-words_of : (b : List ℕ) (i : ℕ) → i < length b / 4 → get_or (words_of b) i 0 ≡ le_number (part 4 b i)
get_or-words_of [] i inside = absurd (omega arith)
get_or-words_of (a ∷ []) i inside = absurd (omega arith)
get_or-words_of (a ∷ b ∷ []) i inside = absurd (omega arith)
get_or-words_of (a ∷ b ∷ c ∷ []) i inside = absurd (omega arith)
get_or-words_of (a ∷ b ∷ c ∷ d ∷ bytes) zero inside = refl
get_or-words_of (a ∷ b ∷ c ∷ d ∷ bytes) (suc i) inside =
    let next : suc i * 4 ≡ suc (suc (suc (suc (i * 4)))) = omega arith in
    rw next (get_or-words_of bytes i (omega arith))

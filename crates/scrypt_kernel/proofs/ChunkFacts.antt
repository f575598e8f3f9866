-- Facts on the words and the bytes of several chunks.
use Rattle.std.proofs.Common.{◌≡◌, Bool, ℕ, ◌<◌, ◌≤◌, ◌+◌, ◌*◌, ◌/◌, ◌%◌, List, length, take, drop, sym, ap, ◌∙◌, arith}
use Rattle.std.proofs.lemmas.Grind.{flat_map-append}
use Rattle.std.proofs.lemmas.List.{drop_at, ext_get_or, get_or-take, get_or-drop, length-drop, length-take-le, take-append-drop, take_at}
use Rattle.std.specs.Int.{w32, to_le_bytes}
use Rattle.scrypt_kernel.specs.{AreCountedAs, AreInverse, bytes_of, le_number, part, permuted, ro_mix, ro_mix_cost}
use Rattle.scrypt_kernel.specs.{thin_ro_mix_cost, words_of}
use Rattle.scrypt_kernel.specs.declared.cores.count.CoreCount.{CoreCount}
use Rattle.scrypt_kernel.proofs.CountFacts.{counted_both, counted_none}
use Rattle.scrypt_kernel.proofs.PartFacts.{length-part, only_part, part_inside}
use Rattle.scrypt_kernel.proofs.OrderFacts.{length-permuted, part_permuted, standard_of, within}
use Rattle.scrypt_kernel.proofs.WalkFacts.{whole_cost}
use Rattle.scrypt_kernel.proofs.WordFacts.{get_or-words_of, length-bytes_of, length-words_of}
use Rattle.scrypt_kernel.proofs.RoMixFacts.{part_of_row}

-- those of part k, which has n words
part_words : (n k : ℕ) (b : List ℕ) → k * (n * 4) + n * 4 ≤ length b → part n (words_of b) k ≡ words_of (part (n * 4) b k)
part_words n k b room =
    let one = length-part n k (words_of b) (omega (arith, length-words_of b)) in
    let two = length-part (n * 4) k b room in
    ext_get_or 0 _ _ (one ∙ sym (length-words_of (part (n * 4) b k) ∙ omega (arith, two))) (λ i h.
    let inside : i < n = omega (arith, one, h) in
    get_or-take n _ i 0 inside ∙ get_or-drop (k * n) (words_of b) i 0 ∙ get_or-words_of b (k * n + i) (omega arith)
    ∙ ap le_number (sym (part_of_row n 4 k i b inside)) ∙ sym (get_or-words_of (part (n * 4) b k) i (omega (arith, two))))

-- the bytes of the first n words, and of the words after them
cut_bytes : (n : ℕ) (x : List ℕ) → n ≤ length x
    → (take (n * 4) (bytes_of x) ≡ bytes_of (take n x)) × (drop (n * 4) (bytes_of x) ≡ bytes_of (drop n x))
cut_bytes n x inside =
    let joined = ap bytes_of (sym (take-append-drop n x)) ∙ flat_map-append (to_le_bytes w32) (take n x) (drop n x) in
    let long = length-bytes_of (take n x) ∙ ap (λ m. m * 4) (length-take-le n x inside) in
    (ap (take (n * 4)) joined ∙ take_at _ _ _ long, ap (drop (n * 4)) joined ∙ drop_at _ _ _ long)

part_bytes : (n k : ℕ) (x : List ℕ) → k * n + n ≤ length x → part (n * 4) (bytes_of x) k ≡ bytes_of (part n x k)
part_bytes n k x room =
    let at : k * (n * 4) ≡ k * n * 4 = omega arith in
    rw (at, (cut_bytes (k * n) x (omega arith)).1) ((cut_bytes n (drop (k * n) x) (omega (arith, length-drop (k * n) x))).0)

-- chunk k of the bytes of words that are in the order p
pub chunk_out : {p q : List ℕ} → AreInverse p q → (n r k : ℕ) (x b w : List ℕ) → k < n → length x ≡ n * (32 * r) → b ≡ bytes_of (permuted q x)
    → part (32 * r) x k ≡ permuted p w → part (128 * r) b k ≡ bytes_of w
chunk_out {p} {q} inverse n r k x b w below long written is =
    let bytes : 128 * r ≡ 32 * r * 4 = omega arith in
    let room = part_inside (32 * r) k n (length x) below (omega arith) in
    ap (λ c. part (128 * r) c k) written ∙ ap (λ s. part s (bytes_of (permuted q x)) k) bytes
    ∙ part_bytes (32 * r) k (permuted q x) (omega (arith, length-permuted q x, room))
    ∙ ap bytes_of (part_permuted q (within q inverse.inverse_places) (32 * r) k x (omega arith) room
    ∙ standard_of inverse (part (32 * r) x k) w (omega (arith, length-part (32 * r) k x room)) is)

-- chunk k of bytes b: its words in the order p are x, whose scryptROMix is end, and the bytes of that are b'
module _ {p q : List ℕ} (inverse : AreInverse p q) (n r k log_n : ℕ) (b x : List ℕ) (below : k < n) (long : length b ≡ n * (128 * r))
    (read : x ≡ permuted p (words_of b)) where
  -- the words of the chunk
  pub chunk_in : part (32 * r) x k ≡ permuted p (words_of (part (128 * r) b k))
  chunk_in =
      let bytes : 128 * r ≡ 32 * r * 4 = omega arith in
      let room = part_inside (32 * r * 4) k n (length b) below (omega (arith, long)) in
      ap (λ z. part (32 * r) z k) read
      ∙ part_permuted p (within p inverse.places) (32 * r) k (words_of b) (omega arith) (omega (arith, length-words_of b, room))
      ∙ ap (permuted p) (part_words (32 * r) k b room ∙ ap (λ s. words_of (part s b k)) (sym bytes))

  -- the standard's words of the chunk
  pub chunk_words : permuted q (part (32 * r) x k) ≡ words_of (part (128 * r) b k)
  chunk_words = grind (arith, part_inside, length-part, length-permuted, length-words_of, standard_of, chunk_in)

  pub chunk_mixed : (end b' : List ℕ) → length end ≡ n * (32 * r) → b' ≡ bytes_of (permuted q end)
      → part (32 * r) end k ≡ permuted p (ro_mix (permuted q (part (32 * r) x k)) log_n)
      → part (128 * r) b' k ≡ bytes_of (ro_mix (words_of (part (128 * r) b k)) log_n)
  chunk_mixed end b' end_long written mixed_in_order =
      chunk_out inverse n r k end b' _ below end_long written mixed_in_order ∙ ap (λ w. bytes_of (ro_mix w log_n)) chunk_words

-- a chunk alone
pub counted_alone : {diagonal : Bool} {before after : CoreCount} (b c : List ℕ) (log_n s r : ℕ) → b ≡ c
    → AreCountedAs diagonal (1 * thin_ro_mix_cost (words_of b) log_n s r) before after
    → AreCountedAs diagonal (thin_ro_mix_cost (words_of c) log_n s r) before after
counted_alone {diagonal} {before} b c log_n s r is counted = grind (arith, counted_both, counted_none)

module _ (b : List ℕ) (whole : length b % 128 ≡ 0) where
  pub only_chunk : part (128 * (length b / 128)) b 0 ≡ b
  only_chunk = only_part (128 * (length b / 128)) b (omega arith)

  pub mixed_alone : (b' : List ℕ) (log_n : ℕ) → length b' ≡ length b
      → part (128 * (length b / 128)) b' 0 ≡ bytes_of (ro_mix (words_of (part (128 * (length b / 128)) b 0)) log_n)
      → b' ≡ bytes_of (ro_mix (words_of b) log_n)
  mixed_alone b' log_n same mixed = grind (arith, only_part, only_chunk)

  pub counted_whole : {diagonal : Bool} {before after : CoreCount} (log_n : ℕ)
      → AreCountedAs diagonal (1 * thin_ro_mix_cost (words_of (part (128 * (length b / 128)) b 0)) log_n 0 (length b / 128)) before after
      → AreCountedAs diagonal (ro_mix_cost log_n (length b / 128)) before after
  counted_whole log_n counted = rw whole_cost at (counted_alone _ b log_n 0 (length b / 128) only_chunk counted)

-- a scryptROMix of one chunk
pub ruleset alone = (mixed_alone, counted_alone, only_chunk)

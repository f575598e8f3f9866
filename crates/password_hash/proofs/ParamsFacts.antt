-- Pairs and their text, one more pair at the end, and texts of parts, each after a `$`.
use Rattle.std.proofs.lemmas.Grind.{common_steps, flat_map-append}
use Rattle.std.proofs.lemmas.List.{places}
use Rattle.std.proofs.Common.{◌≡◌, ◌≢◌, ℕ, ◌+◌, ◌<◌, ◌≤◌, ◌==◌, Bool, List, [], ◌∷◌, ◌++◌, length, map, codes, get_or, refl, sym, ap, ◌∙◌, arith, true, false, IsTrue}
use Rattle.std.proofs.Common.{◌&&◌, ◌||◌, not}
use Rattle.std.specs.Prelude.{◌↔◌, All, Result, Ok, Err, IsOk, OnOk, OnErr, nat_eq}
use Rattle.std.specs.List.{join_with_byte, slice_split, after_first, position_or_len, list_all, before_first, list_any}
use Rattle.std.proofs.lemmas.Bool.{and_parts, eqb-true, false≢true, ne_eqb, eq-eqb}
use Rattle.std.proofs.lemmas.List.{append-nil, append_assoc, length-append, get_or_append_left, get_or_push, length_push, map-append, map_push, length-drop}
use Rattle.std.proofs.lemmas.List.{take_at, drop_at, get_or_at}
use Rattle.std.proofs.lemmas.List.Sums.{split_at_first, passes_at_first, position_or_len_is}
use Rattle.std.proofs.lemmas.List.Elements.{All-head, All-push, All-tail, All-cons, All-append, All-get_or, All-map, All-weaker}
use Rattle.std.proofs.lemmas.List.Splits.{join_with_byte-slice_split, slice_split_none, slice_split_at}
use Rattle.std.proofs.lemmas.List.Quantifiers.{all_pairs_push}
use Rattle.std.specs.Bool.{Decides}
use Rattle.std.specs.Cmp.Lexicographic.{pointwise}
use Rattle.std.proofs.lemmas.Bool.Decides.{same_from_decides, Decides-by_and, Decides-eqb, Decides-not}
use Rattle.std.proofs.lemmas.Slice.Eq.{bytes_eq-Decides, slice_eq-Decides}
use Rattle.password_hash.specs.{ArePairs, IsPair, dollar, is_identifier_letter, is_value_letter, pair_eq}
use Rattle.password_hash.specs.{pair_of, pair_text, pairs_of, pairs_text, parts_of, parts_text, with_pair}

-- no byte is c
abbrev pub Lacks : ℕ → List ℕ → Type 0
Lacks c xs = All (λ b. (b == c) ≡ false) xs

-- letters of a kind lack a byte of another kind
pub letters_lack : (p : ℕ → Bool) (c : ℕ) → p c ≡ false → (xs : List ℕ) → IsTrue (list_all p xs) → Lacks c xs
letters_lack p c is_none xs h = grind (arith, common_steps, places, ne_eqb, false≢true)

-- a text is cut at the first c, after bytes that lack it
pub cut_at_first : (c : ℕ) (xs ys : List ℕ) → Lacks c xs
    → (before_first (λ b. b == c) (xs ++ (c ∷ ys)) ≡ xs) × (after_first (λ b. b == c) (xs ++ (c ∷ ys)) ≡ ys)
cut_at_first c xs ys none =
    let at : position_or_len (λ b. b == c) (xs ++ (c ∷ ys)) ≡ length xs =
    position_or_len_is (λ b. b == c) (xs ++ (c ∷ ys)) (length xs) 0 (omega (arith, length-append xs (c ∷ ys)))
    (λ k below. rw (get_or_append_left xs (c ∷ ys) 0 k below) (All-get_or (λ b. (b == c) ≡ false) xs k 0 below none))
    (λ _. rw (get_or_at xs c ys 0 (length xs) refl) (eq-eqb c c refl)) in
    let regrouped : xs ++ (c ∷ ys) ≡ (xs ++ (c ∷ [])) ++ ys = sym (append_assoc xs (c ∷ []) ys) in
    (rw at (take_at xs (c ∷ ys) (length xs) refl), rw (at, regrouped) (drop_at (xs ++ (c ∷ [])) ys (length xs + 1) (length_push xs c)))

-- what is a pair
pub record OfPair (pair : List ℕ × List ℕ) : Type 0 where
  pub name : IsTrue (list_all is_identifier_letter pair.0)
  pub no_version : pair.0 ≢ codes "v"
  pub some : 0 < length pair.1
  pub value : IsTrue (list_all is_value_letter pair.1)

pub pair_is : (pair : List ℕ × List ℕ) → IsPair pair → OfPair pair
pair_is pair is = grind (arith, and_parts, bytes_eq-Decides)

-- a pair is determined by its text
pair_of-pair_text : (pair : List ℕ × List ℕ) → IsPair pair → pair_of (pair_text pair) ≡ pair
pair_of-pair_text pair h =
    let none : Lacks 61 pair.0 = letters_lack is_identifier_letter 61 refl pair.0 (pair_is pair h).name in
    let both = cut_at_first 61 pair.0 pair.1 none in
    λ i. (both.0 i, both.1 i)

-- the text of a pair has no `,`
pair_text_lacks : (c : ℕ) → is_identifier_letter c ≡ false → is_value_letter c ≡ false → (61 == c) ≡ false
    → (pair : List ℕ × List ℕ) → IsPair pair → Lacks c (pair_text pair)
pair_text_lacks c name value equals pair h =
    All-append (λ b. (b == c) ≡ false) pair.0 (61 ∷ pair.1) (letters_lack is_identifier_letter c name pair.0 (pair_is pair h).name)
    (All-cons (λ b. (b == c) ≡ false) 61 pair.1 equals (letters_lack is_value_letter c value pair.1 (pair_is pair h).value))

-- pieces that lack c are determined by their row
slice_split-join : (c : ℕ) (piece : List ℕ) (pieces : List (List ℕ)) → All (Lacks c) (piece ∷ pieces)
    → slice_split (λ b. b == c) (join_with_byte c (piece ∷ pieces)) ≡ piece ∷ pieces
slice_split-join c piece [] none = slice_split_none (λ b. b == c) piece (All-head (Lacks c) piece [] none)
slice_split-join c piece (next ∷ pieces) none =
    slice_split_at (λ b. b == c) piece c _ (All-head (Lacks c) piece (next ∷ pieces) none) (eq-eqb c c refl)
    ∙ ap (λ rest. piece ∷ rest) (slice_split-join c next pieces (All-tail (Lacks c) piece (next ∷ pieces) none))

-- each text of a pair lacks a byte that no pair has
pub texts_lack : (c : ℕ) → is_identifier_letter c ≡ false → is_value_letter c ≡ false → (61 == c) ≡ false
    → (pairs : List (List ℕ × List ℕ)) → All IsPair pairs → All (Lacks c) (map pair_text pairs)
texts_lack c name value equals pairs h =
    All-map (Lacks c) pair_text pairs (All-weaker IsPair (λ pair. Lacks c (pair_text pair)) (pair_text_lacks c name value equals) pairs h)

-- the pairs are determined by their texts
map-pair_of : (pairs : List (List ℕ × List ℕ)) → All IsPair pairs → map pair_of (map pair_text pairs) ≡ pairs
map-pair_of [] h = refl
map-pair_of (pair ∷ pairs) h =
    rw (pair_of-pair_text pair (All-head IsPair pair pairs h), map-pair_of pairs (All-tail IsPair pair pairs h)) refl

-- the pieces of a text of pairs
pieces_of_pairs : (pair : List ℕ × List ℕ) (pairs : List (List ℕ × List ℕ)) → All IsPair (pair ∷ pairs)
    → slice_split (λ b. b == 44) (pairs_text (pair ∷ pairs)) ≡ map pair_text (pair ∷ pairs)
pieces_of_pairs pair pairs h =
    slice_split-join 44 (pair_text pair) (map pair_text pairs) (texts_lack 44 refl refl refl (pair ∷ pairs) h)

pairs_of_some : (text : List ℕ) → 0 < length text → pairs_of text ≡ map pair_of (slice_split (λ b. b == 44) text)
pairs_of_some [] some = absurd (omega arith)
pairs_of_some (byte ∷ text) some = refl

-- a text of pairs has a `=` after the first name
pub equals_of_pairs : (pair : List ℕ × List ℕ) (pairs : List (List ℕ × List ℕ))
    → (rest : List ℕ) × (pairs_text (pair ∷ pairs) ≡ pair.0 ++ (61 ∷ rest))
equals_of_pairs pair [] = (pair.1, refl)
equals_of_pairs pair (next ∷ pairs) =
    (pair.1 ++ (44 ∷ pairs_text (next ∷ pairs)), append_assoc pair.0 (61 ∷ pair.1) (44 ∷ pairs_text (next ∷ pairs)))

-- so it is not empty
length_pairs_text : (pair : List ℕ × List ℕ) (pairs : List (List ℕ × List ℕ)) → 0 < length (pairs_text (pair ∷ pairs))
length_pairs_text pair pairs = grind (arith, equals_of_pairs, length-append)

-- pairs are determined by their text
pub pairs_of-pairs_text : (pairs : List (List ℕ × List ℕ)) → All IsPair pairs → pairs_of (pairs_text pairs) ≡ pairs
pairs_of-pairs_text [] h = refl
pairs_of-pairs_text (pair ∷ pairs) h =
    pairs_of_some (pairs_text (pair ∷ pairs)) (length_pairs_text pair pairs)
    ∙ ap (map pair_of) (pieces_of_pairs pair pairs h) ∙ map-pair_of (pair ∷ pairs) h

pair_eq-Decides : (first second : List ℕ × List ℕ) → Decides (pair_eq first second) (first ≡ second)
pair_eq-Decides first second = grind (arith, bytes_eq-Decides)

-- the test of lists of pairs decides
pairs_eq-Decides : (xs ys : List (List ℕ × List ℕ)) → Decides (pointwise pair_eq xs ys) (xs ≡ ys)
pairs_eq-Decides xs ys = slice_eq-Decides pair_eq-Decides xs ys (pointwise pair_eq xs ys) refl

-- two rows of pieces in a row
join_append : (c : ℕ) (first : List ℕ) (pieces : List (List ℕ)) (next : List ℕ) (others : List (List ℕ))
    → join_with_byte c ((first ∷ pieces) ++ next ∷ others) ≡ join_with_byte c (first ∷ pieces) ++ (c ∷ join_with_byte c (next ∷ others))
join_append c first [] next others = refl
join_append c first (second ∷ pieces) next others =
    ap (λ rest. first ++ (c ∷ rest)) (join_append c second pieces next others)
    ∙ sym (append_assoc first (c ∷ join_with_byte c (second ∷ pieces)) (c ∷ join_with_byte c (next ∷ others)))

with_pair_some : (text : List ℕ) (pair : List ℕ × List ℕ) → 0 < length text → with_pair text pair ≡ text ++ (44 ∷ pair_text pair)
with_pair_some [] pair some = absurd (omega arith)
with_pair_some (byte ∷ text) pair some = refl

-- the text of one pair more
with_pair-pairs_text : (pairs : List (List ℕ × List ℕ)) (pair : List ℕ × List ℕ)
    → with_pair (pairs_text pairs) pair ≡ pairs_text (pairs ++ pair ∷ [])
with_pair-pairs_text [] pair = refl
with_pair-pairs_text (first ∷ pairs) pair = grind (arith, with_pair_some, length_pairs_text, map_push, join_append)

-- the last of some parameters
pub record IsLast (pairs : List (List ℕ × List ℕ)) (pair : List ℕ × List ℕ) : Type 0 where
  pub is_pair : IsPair pair
  pub others : All (λ other. other.0 ≢ pair.0) pairs

pub last_pair : (pairs : List (List ℕ × List ℕ)) (pair : List ℕ × List ℕ) → ArePairs (pairs ++ pair ∷ []) → IsLast pairs pair
last_pair pairs pair h =
    let more = length_push pairs pair in
    record {
      is_pair = rw (get_or_push pairs pair pair (length pairs) refl) at (h.each (length pairs) pair (omega arith));
      others = λ k d below.
          let differ = h.once k (length pairs) d below (omega arith) in
          rw (get_or_append_left pairs (pair ∷ []) d k below, get_or_push pairs pair d (length pairs) refl) at differ;
    }

length_front : (c : ℕ) (xs ys : List (List ℕ)) → length (join_with_byte c xs) ≤ length (join_with_byte c (xs ++ ys))
length_front c [] ys = omega arith
length_front c (x ∷ xs) [] = omega (arith, ap (λ pieces. length (join_with_byte c pieces)) (append-nil (x ∷ xs)))
length_front c (x ∷ xs) (y ∷ ys) = grind (arith, join_append, length-append)

-- the first of some parameters
pub ArePairs-front : (front back : List (List ℕ × List ℕ)) → ArePairs (front ++ back) → ArePairs front
ArePairs-front front back h = grind (arith, length-append, get_or_append_left, length_front, map-append)

-- a piece with something after its first `=` is the text of its pair
pair_text-pair_of : (piece : List ℕ) → 0 < length (after_first (λ b. b == 61) piece) → pair_text (pair_of piece) ≡ piece
pair_text-pair_of piece some =
    let at : ℕ = position_or_len (λ b. b == 61) piece in
    let within : at < length piece = omega (arith, some, length-drop (at + 1) piece) in
    let equals : get_or piece at 0 ≡ 61 = eqb-true (get_or piece at 0) 61 (passes_at_first (λ b. b == 61) piece 0 within) in
    let split = split_at_first (λ b. b == 61) piece 0 within in
    sym (rw equals at split)

-- pieces whose pairs are allowed are the texts of these
texts_of_pairs : (pieces : List (List ℕ)) → All IsPair (map pair_of pieces) → map pair_text (map pair_of pieces) ≡ pieces
texts_of_pairs [] each = refl
texts_of_pairs (piece ∷ pieces) each =
    rw (
      pair_text-pair_of piece (pair_is (pair_of piece) (All-head IsPair (pair_of piece) (map pair_of pieces) each)).some,
      texts_of_pairs pieces (All-tail IsPair (pair_of piece) (map pair_of pieces) each),
    ) refl

-- so the text is that of its pairs
pub text_of_pairs : (text : List ℕ) → All IsPair (pairs_of text) → pairs_text (pairs_of text) ≡ text
text_of_pairs [] each = refl
text_of_pairs (byte ∷ text) each =
    ap (join_with_byte 44) (texts_of_pairs (slice_split (λ b. b == 44) (byte ∷ text)) each) ∙ join_with_byte-slice_split 44 (byte ∷ text)

-- what is kept after a pair was put after others, or there was no room
pub record IsAdded {E : Type 0} (r : Result (Unit {0}) E) (pairs : List (List ℕ × List ℕ)) (pair : List ℕ × List ℕ)
    (text : List ℕ) : Type 0 where
  pub kept : ArePairs (pairs_of text)
  pub exact : IsOk r ↔ ArePairs (pairs ++ pair ∷ [])
  pub ok : OnOk r (pairs_of text ≡ pairs ++ pair ∷ [])

with_pair-kept : (pairs : List (List ℕ × List ℕ)) (pair : List ℕ × List ℕ) (text : List ℕ) → ArePairs (pairs_of text) → pairs_of text ≡ pairs
    → with_pair text pair ≡ pairs_text (pairs ++ pair ∷ [])
with_pair-kept pairs pair text h view = grind (arith, text_of_pairs, with_pair-pairs_text)

pub added : {E : Type 0} (r : Result (Unit {0}) E) (pairs : List (List ℕ × List ℕ)) (pair : List ℕ × List ℕ)
    (old new : List ℕ) → ArePairs (pairs_of old) → pairs_of old ≡ pairs → IsPair pair → All (λ other. other.0 ≢ pair.0) pairs
    → (IsOk r ↔ (length (with_pair old pair) ≤ 127)) → OnOk r (new ≡ with_pair old pair) → OnErr r (new ≡ old)
    → IsAdded r pairs pair new
added (Ok u) pairs pair old new h view is_pair others exact ok unchanged =
    let text = with_pair-kept pairs pair old h view in
    let before : ArePairs pairs = rw view at h in
    let after : ArePairs (pairs ++ pair ∷ []) = record {
      each = All-push IsPair pairs pair before.each is_pair;
      once = all_pairs_push (λ first second. first.0 ≢ second.0) pairs pair before.once others;
      short = rw text at (exact.0 refl);
    } in
    let back : pairs_of new ≡ pairs ++ pair ∷ [] = ap pairs_of (ok ∙ text) ∙ pairs_of-pairs_text _ after.each in
    record { kept = rw back after; exact = (λ _. after, λ _. refl); ok = back }
added (Err e) pairs pair old new h view is_pair others exact ok unchanged = grind (arith, with_pair-kept, false≢true)

-- a test of two texts of parameters tests the parameters
pub tested : (xs ys : List (List ℕ × List ℕ)) (r : Bool) → ArePairs xs → ArePairs ys
    → r ≡ pointwise nat_eq (pairs_text xs) (pairs_text ys) → r ≡ pointwise pair_eq xs ys
tested xs ys r hx hy e =
    let texts = bytes_eq-Decides (pairs_text xs) (pairs_text ys) in
    let decided : Decides r (xs ≡ ys) = (
      λ yes. sym (pairs_of-pairs_text xs hx.each) ∙ ap pairs_of (texts.0 (sym e ∙ yes)) ∙ pairs_of-pairs_text ys hy.each,
      λ same. e ∙ texts.1 (ap pairs_text same),
    ) in
    same_from_decides r (pointwise pair_eq xs ys) decided (pairs_eq-Decides xs ys)

-- the text of parts is a `$` and the parts, joined by `$`
parts_text-join : (part : List ℕ) (parts : List (List ℕ)) → parts_text (part ∷ parts) ≡ dollar ∷ join_with_byte dollar (part ∷ parts)
parts_text-join part [] = ap (λ text. dollar ∷ text) (append-nil part)
parts_text-join part (next ∷ parts) = ap (λ rest. dollar ∷ (part ++ rest)) (parts_text-join next parts)

-- parts without `$` are those of their text
pub parts_of-parts_text : (text part : List ℕ) (parts : List (List ℕ)) → All (Lacks dollar) (part ∷ parts)
    → dollar ∷ text ≡ parts_text (part ∷ parts) → parts_of text ≡ part ∷ parts
parts_of-parts_text text part parts none e =
    let rest = e ∙ parts_text-join part parts in
    let same : text ≡ join_with_byte dollar (part ∷ parts) = cc in
    ap parts_of same ∙ slice_split-join dollar part parts none

-- a text that begins with a `$` is that of its parts after it
pub text_of_parts : (text part : List ℕ) (parts : List (List ℕ)) → parts_of text ≡ [] ∷ part ∷ parts → text ≡ parts_text (part ∷ parts)
text_of_parts text part parts e =
    sym (join_with_byte-slice_split dollar text) ∙ ap (join_with_byte dollar) e ∙ sym (parts_text-join part parts)

-- the text of one part more
pub parts_text-push : (parts : List (List ℕ)) (part : List ℕ) → parts_text (parts ++ part ∷ []) ≡ parts_text parts ++ dollar ∷ part
parts_text-push parts part = grind (arith, flat_map-append, append-nil)

-- whether a text lacks a byte
pub lacks_decided : (c : ℕ) (text : List ℕ) (found : Bool) → found ≡ list_any (λ b. b == c) text
    → IsTrue (not found) ↔ All (λ b. b ≢ c) text
lacks_decided c text found is =
    rw is (Decides-by_and (λ b. not (b == c)) (λ b. b ≢ c) (λ text. not (list_any (λ b. b == c) text))
    (λ b. Decides-not (b == c) (Decides-eqb b c)) refl (λ b text. not_or (b == c) (list_any (λ b. b == c) text)) text)
  where
    not_or : (a b : Bool) → not (a || b) ≡ (not a && not b)
    not_or true b = refl
    not_or false b = refl

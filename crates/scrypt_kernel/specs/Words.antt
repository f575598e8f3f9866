-- Words, bytes and blocks (RFC 7914, sections 2 to 5). A byte is a number below 256, a word is a
-- number below 2 ^ 32, a block is 16 words, and a list of blocks is the list of their words.
-- Indices are counted from 0.
use Rattle.std.specs.Prelude.{ℕ, ◌+◌, ◌-◌, ◌*◌, ◌/◌, ◌%◌, ◌^◌, List, [], ◌∷◌, length, take, drop, bit_xor}
use Rattle.std.specs.Int.{w32, to_le_bytes}
use Rattle.std.specs.List.{flat_map}
use Rattle.std.specs.Simd.Lanes.{zip2}

-- the sum of two words, with the carry dropped
abbrev pub add32 : ℕ → ℕ → ℕ
add32 x y = (x + y) % 2 ^ 32

-- the sums of two lists of words, word by word
abbrev pub add_words : List ℕ → List ℕ → List ℕ
add_words x y = zip2 add32 x y

-- the exclusive or of two lists, element by element
abbrev pub xor_words : List ℕ → List ℕ → List ℕ
xor_words x y = zip2 bit_xor x y

-- the number that bytes encode in little-endian order: the sum of byte i times 256 ^ i
abbrev pub le_number : List ℕ → ℕ
le_number [] = 0
le_number (b ∷ bs) = b + 256 * le_number bs

-- part k, counted from 0, of a list that is cut into parts of len elements
abbrev pub part : ℕ → List ℕ → ℕ → List ℕ
part len x k = take len (drop (k * len) x)

-- the words that bytes encode, four bytes each in little-endian order
abbrev pub words_of : List ℕ → List ℕ
words_of (a ∷ b ∷ c ∷ d ∷ bytes) = le_number (a ∷ b ∷ c ∷ d ∷ []) ∷ words_of bytes
words_of bytes = []

-- the bytes of words, four for each word in little-endian order
abbrev pub bytes_of : List ℕ → List ℕ
bytes_of x = flat_map (to_le_bytes w32) x

-- block k, counted from 0
abbrev pub block : List ℕ → ℕ → List ℕ
block x k = part 16 x k

-- the last block
abbrev pub last_block : List ℕ → List ℕ
last_block x = block x (length x / 16 - 1)

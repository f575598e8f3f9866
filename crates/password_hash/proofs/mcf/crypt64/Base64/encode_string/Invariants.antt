use Rattle.std.proofs.Common.{◌≡◌, ◌++◌}
use Rattle.std.specs.String.{string_bytes}
use Rattle.password_hash.specs.Crypt64.{letters_of, crypt64_of}
use Rattle.password_hash.proofs.mcf.crypt64.Base64.encode_string.Given as goal

-- the text and the letters that are left are all letters
abbrev pub invariant-loop-letter : goal.invariant-loop-letter
invariant-loop-letter l =
    let left = letters_of l.letter-iterator.pending l.letter-iterator.number ++ crypt64_of l.letter-iterator.bytes.now in
    string_bytes l.text ++ left ≡ crypt64_of l.fn.bytes

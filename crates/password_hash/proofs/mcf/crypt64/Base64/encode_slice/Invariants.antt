use Rattle.std.proofs.Common.{◌≡◌, ◌≤◌, ◌++◌, length, take, drop}
use Rattle.password_hash.specs.Crypt64.{letters_of, crypt64_of}
use Rattle.password_hash.proofs.mcf.crypt64.Base64.encode_slice.Given as goal

-- the front holds the letters so far, and what is after it is as it was
abbrev pub invariant-loop-letter : goal.invariant-loop-letter
invariant-loop-letter l =
    let left = letters_of l.letter-iterator.pending l.letter-iterator.number ++ crypt64_of l.letter-iterator.bytes.now in
    record {
      front : take l.len l.out ++ left ≡ crypt64_of l.bytes;
      back : drop l.len l.out ≡ drop l.len l.fn.out;
      within : l.len ≤ length l.out;
    }

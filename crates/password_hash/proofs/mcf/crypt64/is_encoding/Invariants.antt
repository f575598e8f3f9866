use Rattle.std.proofs.Common.{◌≡◌, ◌≢◌, ◌↔◌, ◌++◌, true, false}
use Rattle.std.specs.Slice.Iter.{iter_rest}
use Rattle.password_hash.specs.Crypt64.{letters_of, crypt64_of}
use Rattle.password_hash.proofs.mcf.crypt64.is_encoding.Given as goal

-- while all were the same, what is left decides; one that was not has decided
abbrev pub invariant-loop-letter : goal.invariant-loop-letter
invariant-loop-letter l =
    let left = letters_of l.letter-iterator.pending l.letter-iterator.number ++ crypt64_of l.letter-iterator.bytes.now in
    record {
      same : l.same ≡ true → (iter_rest l.rest ≡ left) ↔ (l.letters ≡ crypt64_of l.bytes);
      other : l.same ≡ false → l.letters ≢ crypt64_of l.bytes;
    }

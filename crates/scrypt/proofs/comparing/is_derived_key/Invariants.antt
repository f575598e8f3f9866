use Rattle.std.proofs.Common.{◌≡◌, ◌↔◌, ◌+◌, ◌*◌, ◌/◌, length, min, take, true}
use Rattle.scrypt.specs.Terms.{AreHashed, end_cost, key_bytes, pbkdf2}
use Rattle.scrypt.proofs.comparing.is_derived_key.Given as goal

-- the keys are the same as far as they were compared, and what was hashed since the first of the chunks is counted
abbrev pub invariant-loop-i : goal.invariant-loop-i
invariant-loop-i l =
    let key = key_bytes l.parts.key in
    let at = min (96 * l.i) (length key) in
    record {
      compared : (l.same ≡ true) ↔ (take at key ≡ take at (pbkdf2 l.password l.mixed (length key)));
      counted : AreHashed ((at + 31) / 32 * end_cost (length l.mixed) 4) l.initial.cores l.cores;
    }

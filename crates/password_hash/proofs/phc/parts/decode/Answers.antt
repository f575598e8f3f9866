use Rattle.std.proofs.Common.{◌≡◌, ◌↔◌, ◌≤◌, ◌∙◌, ℕ, List, None, Ok, Option, Some, length, ap, sym, arith, refl}
use Rattle.std.specs.Prelude.{IfSome, IsSome}
use Rattle.std.proofs.lemmas.Bool.{false≢true}
use Rattle.base64.specs.Engines.{standard_no_pad}
use Rattle.base64.specs.GeneralPurpose.{IsBytes, decode_of, decoded_of}
use Rattle.base64.proofs.EngineFacts.{decode_of_strict}
use Rattle.password_hash.specs.{AreBytesFromTo, base64, decoded_bytes}
use Rattle.password_hash.proofs.Base64Facts.{decode_of-base64, length-base64}
use Rattle.password_hash.proofs.PhcReadingFacts.{bytes_exact, none_exact}
use Rattle.password_hash.proofs.phc.parts.decode.Goals as goal

-- letters that do not encode bytes of these lengths
none : (least : ℕ) (letters : List ℕ) → ((bytes : List ℕ) → AreBytesFromTo least 64 bytes → letters ≡ base64 bytes → ⊥)
    → None ≡ decoded_bytes least letters
none least letters other = sym (none_exact (λ bytes. AreBytesFromTo least 64 bytes × (letters ≡ base64 bytes))
    (decoded_bytes least letters) (bytes_exact least letters) (λ bytes is. other bytes is.0 is.1))

-- what is kept of the bytes that were read
made : (least : ℕ) (letters read : List ℕ) (kept : Option (List ℕ)) → IsBytes letters
    → decode_of standard_no_pad letters ≡ Ok read → (IsSome kept ↔ (least ≤ length read) × (length read ≤ 64))
    → IfSome kept (λ bytes. bytes ≡ read) → IfSome kept (AreBytesFromTo least 64) → kept ≡ decoded_bytes least letters
made least letters read None are decoded exact value bounds = none least letters (λ bytes within same.
    let both = sym decoded ∙ decode_of-base64 letters bytes within.are_bytes same in
    let all : read ≡ bytes = cc in
    false≢true (exact.1 (rw all (within.enough, within.fits))))
made least letters read (Some bytes) are decoded exact value bounds =
    sym ((bytes_exact least letters bytes).1 (bounds, decode_of_strict standard_no_pad letters bytes (refl, refl) are (rw value decoded)))

pub returns-then-letters-gt86 : goal.returns-then-letters-gt86
returns-then-letters-gt86 g c = record {
  value = none g.row.MIN c.args.letters.now (λ bytes are same. omega (arith, ap length same, length-base64 bytes, are.fits));
}

pub returns-in_default : goal.returns-in_default
unfolding decoded_bytes decoded_of
returns-in_default g c = record { value = rw (rw c.as_bytes.ensures.value at c.in_default.ensures.err) refl }

pub returns : goal.returns
returns g c = record {
  value = made g.row.MIN c.args.letters.now _ c.copied.result (λ i. omega (arith, c.type_inv.letters i))
      (rw c.as_bytes.ensures.value at c.in-Ok.ensures.ok.0) c.copied.ensures.exact c.copied.ensures.value c.copied.ensures.bytes;
}

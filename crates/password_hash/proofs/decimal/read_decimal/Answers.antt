use Rattle.std.proofs.Common.{◌≡◌, ◌∙◌, sym, false}
use Rattle.password_hash.specs.Decimal.{has_plus_or_leading_zero}
use Rattle.password_hash.proofs.decimal.read_decimal.Goals as goal

pub returns : goal.returns
returns g c =
    let plain : has_plus_or_leading_zero c.args.text.now ≡ false =
    rw c.as_bytes.ensures.value at (sym c.has_plus_or_leading_zero.ensures ∙ c.if-has_plus_or_leading_zero.false) in
    record { gives = rw plain (c.parse.result, c.parse.ensures.value, c.ok.ensures.value) }

use Rattle.std.proofs.Common.{◌∙◌, ap, sym}
use Rattle.scrypt.specs.StoredHash.{is_mcf_text}
use Rattle.scrypt.proofs.StoredHashFacts.{seven_is_mcf}
use Rattle.scrypt.proofs.stored_hash.StoredHash.read.Goals as goal

-- such a text is a `$7$` hash
pub returns-in_default : goal.returns-in_default
returns-in_default c =
    let seven = ap is_mcf_text (sym c.as_bytes.ensures.value) ∙ sym c.is_mcf_text.ensures ∙ c.if-is_mcf_text.true in
    let wrong = c.in_default.ensures.exact.1 (_, _, seven_is_mcf c.args.text.now seven) in
    absurd cc

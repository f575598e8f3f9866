use Rattle.std.proofs.Common.{◌∙◌}
use Rattle.scrypt_c.proofs.TextFacts.{no_text_read, text_read}
use Rattle.scrypt_c.proofs.texts.stored_hash.Goals as goal

pub returns-in-Ok-clause-params : goal.returns-in-Ok-clause-params
returns-in-Ok-clause-params c =
    let text = c.in-Ok.ensures.cases in
    (text_read c.args.bytes.now text.1).1 ∙ (rw text.0 at c.read.ensures.params)

pub returns-in-Err-clause-params : goal.returns-in-Err-clause-params
returns-in-Err-clause-params c = (no_text_read c.args.bytes.now c.in-Err.ensures.cases.0).1

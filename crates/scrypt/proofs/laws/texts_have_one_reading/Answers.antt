use Rattle.std.proofs.Common.{arith, sym, ◌∙◌}
use Rattle.password_hash.proofs.McfFacts.{IsMcfText-one}
use Rattle.password_hash.proofs.GroupFacts.{Crypt64-one}
use Rattle.password_hash.proofs.PhcReadingFacts.{one_reading}
use Rattle.scrypt.proofs.McfHashFacts.{text_of}
use Rattle.scrypt.proofs.McfTextFacts.{text_read}
use Rattle.scrypt.proofs.laws.texts_have_one_reading.Goals as goal

pub returns-clause-phc_reading : goal.returns-clause-phc_reading
returns-clause-phc_reading c = one_reading

pub returns-clause-modular_reading : goal.returns-clause-modular_reading
returns-clause-modular_reading c text one other fields more is again =
    let first = IsMcfText-one text one fields is in
    let second = IsMcfText-one text other more again in
    (sym first.0 ∙ second.0, sym first.1 ∙ second.1)

pub returns-clause-mcf_reading : goal.returns-clause-mcf_reading
returns-clause-mcf_reading c text one other is again = grind (arith, text_read text one is, text_read text other again)

pub returns-clause-mcf_text : goal.returns-clause-mcf_text
returns-clause-mcf_text c one other s is again = text_of is ∙ sym (text_of again)

pub returns-clause-crypt64_reading : goal.returns-clause-crypt64_reading
returns-clause-crypt64_reading c = Crypt64-one

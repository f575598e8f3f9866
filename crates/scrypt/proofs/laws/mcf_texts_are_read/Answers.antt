use Rattle.scrypt.proofs.McfTextFacts.{read_is_text, text_read}
use Rattle.scrypt.proofs.laws.mcf_texts_are_read.Goals as goal

pub returns : goal.returns
returns c = record { exact = λ text s. (read_is_text text s, text_read text s) }

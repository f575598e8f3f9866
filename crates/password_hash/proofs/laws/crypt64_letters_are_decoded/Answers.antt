use Rattle.password_hash.proofs.GroupFacts.{decoded_is, encoded_is}
use Rattle.password_hash.proofs.laws.crypt64_letters_are_decoded.Goals as goal

pub returns : goal.returns
returns c = record { exact = λ letters bytes. (encoded_is bytes letters, decoded_is bytes letters) }

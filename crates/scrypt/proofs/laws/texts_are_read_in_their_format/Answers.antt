use Rattle.std.proofs.Common.{refl}
use Rattle.password_hash.proofs.PhcReadingFacts.{hash_is_read, none_is_read}
use Rattle.scrypt.specs.StoredHash.{formatted, reading}
use Rattle.scrypt.proofs.StoredHashFacts.{no_reading, seven_read}
use Rattle.scrypt.proofs.laws.texts_are_read_in_their_format.Goals as goal

pub returns : goal.returns
unfolding formatted reading
returns c = record {
  mcf = λ text seven. rw seven (seven_read text seven);
  phc = λ text hash differs is. rw (differs, hash_is_read text hash is) refl;
  other = λ text differs none. rw (differs, none_is_read text none) refl;
  stored = no_reading;
}

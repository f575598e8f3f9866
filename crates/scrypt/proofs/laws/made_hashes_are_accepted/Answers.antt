use Rattle.std.proofs.Common.{arith}
use Rattle.std.proofs.lemmas.Grind.{common_steps}
use Rattle.std.proofs.lemmas.List.{places}
use Rattle.password_hash.proofs.PhcReadingFacts.{one_reading}
use Rattle.scrypt.proofs.KeyFacts.{length-key_by}
use Rattle.scrypt.proofs.McfTextFacts.{made_text}
use Rattle.scrypt.proofs.PhcFacts.{made_is_text, made_read}
use Rattle.scrypt.proofs.ReadingFacts.{made_within, read_as_made}
use Rattle.scrypt.proofs.StoredHashFacts.{mcf_reading, phc_reading}
use Rattle.scrypt.proofs.laws.made_hashes_are_accepted.Goals as goal

pub returns : goal.returns
returns c =
    grind (
      arith,
      common_steps,
      places,
      read_as_made,
      made_read,
      phc_reading,
      made_is_text,
      one_reading,
      made_within,
      made_text,
      mcf_reading,
      length-key_by,
    )

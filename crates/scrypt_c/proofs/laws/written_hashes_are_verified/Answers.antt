use Rattle.scrypt.specs.Terms.{crypt64_of}
use Rattle.scrypt.proofs.AcceptedFacts.{stored_is_output}
use Rattle.scrypt.proofs.StoredHashFacts.{mcf_reading, phc_reading}
use Rattle.scrypt_c.specs.{wanted}
use Rattle.scrypt_c.proofs.RoundTripFacts.{right_status, wrong_status}
use Rattle.scrypt_c.proofs.laws.written_hashes_are_verified.Goals as goal

pub returns-clause-right : goal.returns-clause-right
returns-clause-right c = λ password salt old new log_n r p key_len len max_mem max_work min_key_len status accepted salted.
    right_status password salt _ old new log_n r p key_len len max_mem max_work min_key_len status (phc_reading (wanted log_n r p key_len) password salt accepted.0 accepted.1 salted)

pub returns-clause-wrong : goal.returns-clause-wrong
returns-clause-wrong c = λ password salt other old new log_n r p key_len len max_mem max_work min_key_len status accepted salted.
    wrong_status password salt other _ old new log_n r p key_len len max_mem max_work min_key_len status (phc_reading (wanted log_n r p key_len) password salt accepted.0 accepted.1 salted)

-- any salt makes a `$7$` hash

pub returns-clause-right_mcf : goal.returns-clause-right_mcf
returns-clause-right_mcf c = λ password salt old new log_n r p key_len len max_mem max_work min_key_len status accepted.
    right_status password (crypt64_of salt) _ old new log_n r p key_len len max_mem max_work min_key_len status
    (mcf_reading (wanted log_n r p key_len) password salt accepted.0 (stored_is_output _ accepted.1))

pub returns-clause-wrong_mcf : goal.returns-clause-wrong_mcf
returns-clause-wrong_mcf c = λ password salt other old new log_n r p key_len len max_mem max_work min_key_len status accepted.
    wrong_status password (crypt64_of salt) other _ old new log_n r p key_len len max_mem max_work min_key_len status
    (mcf_reading (wanted log_n r p key_len) password salt accepted.0 (stored_is_output _ accepted.1))

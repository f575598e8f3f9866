-- Enrolling and logging in.
use Rattle.std.specs.Prelude.{◌≡◌, ℕ, ◌+◌, ◌*◌, ◌≤◌, List, Bool, true, false, Option, None, Some, Ok, string_bytes}
use Rattle.scrypt.specs.Terms.{Parameters, hash_text, made_phc, reading, verdict, weaker}
use Rattle.scrypt_kernel.specs.declared.cores.count.CoreCount.{CoreCount}
use Rattle.scrypt_examples.specs.declared.login.LoginOutcome.{LoginOutcome}
use Rattle.scrypt_examples.specs.declared.login.LoginOutcome.TheVariants.{In, InWithNewText, Refused}

-- The text is a hash of the password and the salt, made with these parameters; so it accepts the
-- password, and is not weaker than wanted.
pub record IsEnrolled (wanted : Parameters) (password salt text : List ℕ) : Type 0 where
  pub made : text ≡ hash_text (made_phc wanted password salt)
  pub accepts : verdict password (reading text) ≡ Ok tt
  pub strong : weaker wanted (reading text) ≡ Ok false

-- the password was let in
abbrev pub lets_in : LoginOutcome → Bool
lets_in Refused = false
lets_in In = true
lets_in (InWithNewText text) = true

-- the text to store instead of the old one
abbrev pub new_text : LoginOutcome → Option (List ℕ)
new_text Refused = None
new_text In = None
new_text (InWithNewText text) = Some (string_bytes text)

-- the sum of both counts grew by no more than n, where a block that SHA-256 compresses counts as
-- nine cores
abbrev pub CostsAtMost : ℕ → CoreCount → CoreCount → Type 0
CostsAtMost n before after = after.all + 9 * after.compressions ≤ before.all + 9 * before.compressions + n

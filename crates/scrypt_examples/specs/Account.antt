-- An account, the calls on it, and the histories of these calls.
use Rattle.std.specs.Prelude.{◌≡◌, ◌⊎◌, ℕ, Bool, true, false, ◌&&◌, nat_le, List, [], ◌∷◌, Ok, IsTrue, is_ok}
use Rattle.scrypt.specs.Terms.{IsReadAsMade, Parameters, are_within, key_len_or_default, reading, verdict, weaker}
use Rattle.scrypt.specs.Terms.{within}
use Rattle.scrypt.specs.declared.limits.Limits.{Limits}

-- what an account stores: the text of its hash, the parameters of new texts and the limits
pub record Stores : Type 0 where
  pub text : List ℕ
  pub policy : Parameters
  pub limits : Limits

-- whether new texts of a policy are within limits
abbrev pub admits : Limits → Parameters → Bool
admits limits policy = are_within limits policy && nat_le limits.min_key_len (key_len_or_default policy)

-- whether the text is within the limits and accepts the password
abbrev pub lets_in : Stores → List ℕ → Bool
lets_in a password = is_ok (verdict password (within a.limits (reading a.text)))

-- the calls on an account
pub data Call : Type 0 where
  LogIn : (password salt : List ℕ) → Call
  ChangePassword : (password new_password salt : List ℕ) → Call
  SetPolicy : Parameters → Call
  SetLimits : Limits → Call

-- whether a call is allowed; this is also its answer
abbrev pub is_allowed : Stores → Call → Bool
is_allowed a (LogIn password salt) = lets_in a password
is_allowed a (ChangePassword password new_password salt) = lets_in a password
is_allowed a (SetPolicy policy) = admits a.limits policy
is_allowed a (SetLimits limits) = admits limits a.policy && is_ok (within limits (reading a.text))

-- only the text was replaced, by one that the policy makes of this password and salt: it accepts the
-- password, and is not weaker than the policy
pub record IsRenewed (old : Stores) (password salt : List ℕ) (new : Stores) : Type 0 where
  pub read : IsReadAsMade old.policy password salt (reading new.text)
  pub policy : new.policy ≡ old.policy
  pub limits : new.limits ≡ old.limits

-- what an allowed call makes of an account
abbrev pub IsMade : Stores → Call → Stores → Type 0
IsMade old (LogIn password salt) new =
    ((weaker old.policy (reading old.text) ≡ Ok true) × IsRenewed old password salt new)
    ⊎ ((weaker old.policy (reading old.text) ≡ Ok false) × (new ≡ old))
IsMade old (ChangePassword password new_password salt) new = IsRenewed old new_password salt new
IsMade old (SetPolicy policy) new = new ≡ record old { policy = policy }
IsMade old (SetLimits limits) new = new ≡ record old { limits = limits }

-- A call and its answer. A call that is not allowed changes nothing. Nor does a call that fails for
-- want of memory, which has no answer.
abbrev pub Step : Stores → Call → Bool → Stores → Type 0
Step old call true new = (is_allowed old call ≡ true) × IsMade old call new
Step old call false new = (is_allowed old call ≡ false) × (new ≡ old)

-- a history: calls with their answers, one after another
abbrev pub Run : Stores → List (Call × Bool) → Stores → Type 0
Run old [] new = new ≡ old
Run old (step ∷ history) new = (mid : Stores) × Step old step.0 step.1 mid × Run mid history new

-- The current password after a call: the last one that was set or let in. They are the same unless a
-- hash accepts two passwords.
abbrev pub password_after : List ℕ → Call → Bool → List ℕ
password_after current refused false = current
password_after current (LogIn password salt) true = password
password_after current (ChangePassword password new_password salt) true = new_password
password_after current others true = current

-- the current password after a history
abbrev pub current_password : List ℕ → List (Call × Bool) → List ℕ
current_password current [] = current
current_password current (step ∷ history) = current_password (password_after current step.0 step.1) history

-- the text accepts the current password within the limits, and the limits admit the policy
pub record IsOpen (current : List ℕ) (a : Stores) : Type 0 where
  pub accepts : IsTrue (lets_in a current)
  pub admitted : IsTrue (admits a.limits a.policy)

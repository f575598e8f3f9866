-- What keeps an account open, call by call.
use Rattle.std.proofs.Common.{◌≡◌, ◌↔◌, ◌≤◌, ℕ, List, [], ◌∷◌, Ok, Err, inl, inr, refl, arith, true, false}
use Rattle.std.specs.Prelude.{Bool, IsOk, IsTrue, Result, length}
use Rattle.scrypt.specs.Terms.{Parameters, Refusal, Stored, are_within, key_by, made_stored}
use Rattle.scrypt.specs.Terms.{reading, verdict, weaker, within}
use Rattle.scrypt.specs.declared.limits.Limits.{Limits}
use Rattle.scrypt_examples.specs.Account.{Call, ChangePassword, IsOpen, IsRenewed, LogIn, Run, SetLimits, SetPolicy, Step, Stores, admits, current_password, password_after}

-- what the laws say of the length of a key, and of a hash within limits
pub record Laws : Type 0 where
  pub key_len : (c : Parameters) (password salt : List ℕ) (n : ℕ) → length (key_by c password salt n) ≡ n
  pub same : (limits : Limits) (read : Result Stored Refusal) → IsOk (within limits read) → within limits read ≡ read
  pub allowed : (limits : Limits) (s : Stored)
      → IsOk (within limits (Ok s)) ↔ (IsTrue (are_within limits s.params) × (limits.min_key_len ≤ length s.key))

-- a renewed text is within limits that admit the policy
made_within : Laws → (limits : Limits) (c : Parameters) (password salt : List ℕ) (read : Result Stored Refusal) → IsTrue (admits limits c)
    → read ≡ Ok (made_stored c password salt) → within limits read ≡ read
unfolding are_within
made_within laws limits c password salt read admitted is = grind arith

-- a renewed text leaves the account open to its password
renewed_open : Laws → (old new : Stores) (current password salt : List ℕ) → IsOpen current old
    → IsRenewed old password salt new → IsOpen password new
renewed_open laws old new current password salt is_open renewed = grind (arith, made_within)

-- each step leaves the account open to the current password
step_open : Laws → (old new : Stores) (current : List ℕ) (call : Call) (answer : Bool) → IsOpen current old
    → Step old call answer new → IsOpen (password_after current call answer) new
step_open laws old new current call false is_open (refused, same) = rw same is_open
step_open laws old new current call true is_open (allowed, made) = grind (arith, renewed_open)

-- so does each history
pub run_open : Laws → (start end : Stores) (current : List ℕ) (history : List (Call × Bool)) → IsOpen current start
    → Run start history end → IsOpen (current_password current history) end
run_open laws start end current [] is_open run = rw run is_open
run_open laws start end current (step ∷ history) is_open (mid, now, later) =
    run_open laws mid end _ history (step_open laws start mid current step.0 step.1 is_open now) later

-- a log-in leaves a text that is not weaker than the policy
pub log_in_strong : (old new : Stores) (password salt : List ℕ) → Step old (LogIn password salt) true new
    → weaker new.policy (reading new.text) ≡ Ok false
log_in_strong old new password salt step = grind arith

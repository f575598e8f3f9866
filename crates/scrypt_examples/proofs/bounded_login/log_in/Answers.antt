use Rattle.std.proofs.Common.{◌≡◌, ◌↔◌, ◌≤◌, ◌+◌, ◌*◌, ℕ, List, Ok, Err, length, arith, true, false}
use Rattle.std.specs.Prelude.{Bool, IfOk, IsOk, IsTrue, Result, if◌then◌else◌}
use Rattle.scrypt.specs.Terms.{AreCompressed, AreCounted, Parameters, Refusal, Stored, Workspace}
use Rattle.scrypt.specs.Terms.{are_within, cores_in, cost, hash_cost, hashed_in, lengths_cost, within}
use Rattle.scrypt.specs.declared.limits.Limits.{Limits}
use Rattle.scrypt_kernel.specs.declared.cores.count.CoreCount.{CoreCount}
use Rattle.scrypt_examples.specs.Login.{CostsAtMost}
use Rattle.scrypt_examples.proofs.bounded_login.log_in.Goals as goal

at_most : (done : Bool) (n : ℕ) → (if done then n else 0) ≤ n
at_most true n = omega arith
at_most false n = omega arith

-- what verifying a hash within limits costs at most, by the laws of these limits
costs : (limits : Limits) (w : Workspace) (password : List ℕ) (read : Result Stored Refusal) (before after : CoreCount)
    → ((s : Stored) → IsOk (within limits (Ok s)) ↔ (IsTrue (are_within limits s.params) × (limits.min_key_len ≤ length s.key)))
    → ((c : Parameters) (password_len salt_len n : ℕ) → IsTrue (are_within limits c)
    → cost c.log_n c.r c.p + 9 * hash_cost password_len salt_len c.r c.p n ≤ limits.max_work + 9 * lengths_cost password_len salt_len n)
    → within limits read ≡ read → AreCounted (cores_in w read) before after → AreCompressed (hashed_in w password read) before after
    → (after.all ≤ before.all + limits.max_work) × IfOk read (λ s. CostsAtMost (limits.max_work
    + 9 * lengths_cost (length password) (length s.salt) (length s.key)) before after)
unfolding are_within
costs limits w password (Err why) before after allowed law same counted hashed = (omega (arith, counted.all), tt)
costs limits w password (Ok s) before after allowed law same counted hashed = grind (arith, at_most)

pub returns-in-Ok-verify_with_buffers : goal.returns-in-Ok-verify_with_buffers
returns-in-Ok-verify_with_buffers c = grind (arith, costs)

use Rattle.std.proofs.Common.{arith}
use Rattle.scrypt.proofs.LoginFacts.{all_within}
use Rattle.scrypt.proofs.buffers.Buffers.verify_logins.Goals as goal

pub returns-clause-within : goal.returns-clause-within
returns-clause-within c = search (arith, all_within)

-- The search finds these too. With them the checker rejects wrong bodies immediately.
pub returns-clause-counted : goal.returns-clause-counted
returns-clause-counted c = rw (← c.deref_mut.ensures.value, ← c.deref_mut-2.ensures.value, ← c.deref_mut-3.ensures.value) c.verify_logins.ensures.counted

pub returns-clause-hashed : goal.returns-clause-hashed
returns-clause-hashed c = rw (← c.deref_mut.ensures.value, ← c.deref_mut-2.ensures.value, ← c.deref_mut-3.ensures.value) c.verify_logins.ensures.hashed

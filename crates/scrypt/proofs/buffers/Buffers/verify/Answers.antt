use Rattle.std.proofs.Common.{◌≡◌, Ok, rules, arith}
use Rattle.scrypt.specs.Terms.{reading, stored}
use Rattle.scrypt.proofs.ReadingFacts.{enough_within}
use Rattle.scrypt.proofs.buffers.Buffers.verify.Goals as goal

pub returns-clause-within : goal.returns-clause-within
returns-clause-within c = λ limits suffice is.
    let own = c.args.self.now in
    let s = stored c.in_ok-parts.parts.now in
    let read : reading c.args.hash.now ≡ Ok s = search rules in
    grind (arith, enough_within limits s own.chunks.items own.table.items own.scratch.items suffice c.expose_invariant.ensures.some.1 (rw read at is))

-- The search finds these too. With them the checker rejects wrong bodies immediately.
pub returns-clause-counted : goal.returns-clause-counted
returns-clause-counted c =
    let read : reading c.args.hash.now ≡ Ok (stored c.in_ok-parts.parts.now) = search rules in
    rw (read, ← c.deref_mut.ensures.value, ← c.deref_mut-2.ensures.value, ← c.deref_mut-3.ensures.value) c.verify_in_buffers.ensures.counted

pub returns-clause-hashed : goal.returns-clause-hashed
returns-clause-hashed c =
    let read : reading c.args.hash.now ≡ Ok (stored c.in_ok-parts.parts.now) = search rules in
    rw (read, ← c.deref_mut.ensures.value, ← c.deref_mut-2.ensures.value, ← c.deref_mut-3.ensures.value) c.verify_in_buffers.ensures.hashed

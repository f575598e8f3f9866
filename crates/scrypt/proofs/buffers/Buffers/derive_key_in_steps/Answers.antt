use Rattle.scrypt.proofs.buffers.Buffers.derive_key_in_steps.Goals as goal

pub returns-clause-shown : goal.returns-clause-shown
returns-clause-shown g c = rw (c.deref_mut-2.ensures.value, c.deref_mut-3.ensures.value) at c.scrypt_in_steps.ensures.shown

pub returns-clause-cancelled : goal.returns-clause-cancelled
returns-clause-cancelled g c is =
    let stopped = (rw (c.deref_mut-2.ensures.value, c.deref_mut-3.ensures.value) at c.scrypt_in_steps.ensures.cancelled) is in
    (stopped.0, stopped.1)

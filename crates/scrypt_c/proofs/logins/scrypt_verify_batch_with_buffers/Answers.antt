use Rattle.scrypt_c.proofs.logins.scrypt_verify_batch_with_buffers.Goals as goal

pub returns : goal.returns
returns c = record {
  verified = rw (c.login.ensures.attempt, c.login-2.ensures.attempt, c.login-3.ensures.attempt, c.login-4.ensures.attempt) at c.verify_batch_with_buffers.ensures.verified;
}

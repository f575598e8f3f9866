use Rattle.scrypt_examples.proofs.key_file.age_wrap_key.Goals as goal

pub returns-in-Ok-scrypt-clause-value : goal.returns-in-Ok-scrypt-clause-value
returns-in-Ok-scrypt-clause-value c =
    rw (c.copy_from_slice.ensures.after, c.copy_from_slice-2.ensures.after, c.in-Ok.ensures.value) at c.in-Ok-scrypt.ensures.value

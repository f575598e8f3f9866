use Rattle.std.proofs.Common.{arith}
use Rattle.scrypt_c.proofs.MadeFacts.{is_hashed, made_in, refused_in}
use Rattle.scrypt_c.proofs.with_buffers.hash_phc_with_buffers.Goals as goal

-- the text fits, since its length was compared
pub returns-in-Ok-hash_with_buffers : goal.returns-in-Ok-hash_with_buffers
returns-in-Ok-hash_with_buffers c =
    grind (
      arith,
      made_in _ _ _ (rw c.in-Ok.ensures.value at c.in-Ok-hash_with_buffers.ensures.made),
      c.as_str.ensures.value,
      c.to_array_string.ensures.value,
      c.in-Ok.ensures.value,
      c.in-Ok-hash_len.ensures.made c.args.password.now,
      c.if-text-len.false,
      is_hashed,
    )

pub returns-in-Err : goal.returns-in-Err
returns-in-Err c = grind (arith, refused_in)

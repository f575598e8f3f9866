use Rattle.std.proofs.Common.{bit_xor}
use Rattle.scrypt_kernel.proofs.LaneFacts.{zip_joined}
use Rattle.scrypt_kernel.proofs.order.diagonal.DiagonalOrderedBlocks.xor.Goals as goal

pub returns : goal.returns
returns g c = record {
  value = λ k h.
      let a = c.xor.ensures in
      let b = c.xor-2.ensures in
      let c' = c.xor-3.ensures in
      let d = c.xor-4.ensures in
      rw (a.value k, b.value k, c'.value k, d.value k) (zip_joined bit_xor _ _
      (record { a = (a.four k h).0; b = (b.four k h).0; c = (c'.four k h).0; d = (d.four k h).0 })
      (record { a = (a.four k h).1; b = (b.four k h).1; c = (c'.four k h).1; d = (d.four k h).1 }));
}

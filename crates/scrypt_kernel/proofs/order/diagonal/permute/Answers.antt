use Rattle.std.proofs.Common.{ℕ, ◌/◌, length, refl, sym, ◌∙◌, arith}
use Rattle.scrypt_kernel.specs.Diagonal.{permuted}
use Rattle.scrypt_kernel.proofs.PartFacts.{parts_same}
use Rattle.scrypt_kernel.proofs.OrderFacts.{length-permuted, part_permuted, within}
use Rattle.scrypt_kernel.proofs.order.diagonal.permute.Goals as goal

pub returns : goal.returns
returns c =
    let x = c.args.x.now in
    let p = c.args.pivot.now in
    let n : ℕ = length x / 16 in
    parts_same 16 n c.loop-k.x (permuted p x) (omega arith) (omega (arith, length-permuted p x))
    (λ j h. c.loop-k.invariant.done j (omega arith) ∙ sym (part_permuted p (within p c.requires.places) 16 j x refl (omega arith)))

use Rattle.std.proofs.Common.{arith, bit_xor, sym, ap₂, ◌∙◌}
use Rattle.std.proofs.lemmas.Simd.{length-zip2}
use Rattle.scrypt_kernel.specs.{part_of, xor_words}
use Rattle.scrypt_kernel.proofs.PartFacts.{length-part_of}
use Rattle.scrypt_kernel.proofs.WordFacts.{part-zip2}
use Rattle.scrypt_kernel.proofs.block_mix.XorInput.read.Goals as goal

pub returns-clause-value : goal.returns-clause-value
returns-clause-value g c k h =
    let a = c.args.self.now in
    c.xor.ensures.value k h ∙ ap₂ xor_words (c.read-x.ensures.value k h) (c.read.ensures.value k h)
    ∙ sym (part-zip2 bit_xor 16 c.args.i (part_of a.x k) (part_of a.y k))

pub returns-clause-long : goal.returns-clause-long
returns-clause-long g c k h = grind (arith, length-part_of, length-zip2)

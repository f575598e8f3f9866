use Rattle.std.proofs.Common.{◌*◌, arith}
use Rattle.std.proofs.Math.Nat.{mul-le-mul_left}
use Rattle.scrypt_kernel.proofs.StepFacts.{drop_same}
use Rattle.scrypt_kernel.proofs.PartFacts.{parts_from}
use Rattle.scrypt.specs.Terms.{mixed_chunk, words_from}
use Rattle.scrypt.proofs.KeyFacts.{mixed_slice}
use Rattle.scrypt.proofs.stepping.end_group.Goals as goal

pub returns : goal.returns
returns c = record {
  mixed = λ b table before mixing.
      let params = c.args.params.now in
      let value = (rw c.r-r.ensures.value at c.end_chunks.ensures.value) (words_from b params.r c.args.i) params.log_n table mixing in
      rw c.r-r.ensures.value (mixed_slice c.args.n c.requires.inside (rw c.r-r.ensures.value at c.end_chunks.auto.b)
      (λ long. parts_from (mixed_chunk b params.log_n params.r) (128 * params.r) c.args.i c.args.n c.end_chunks.new.b long value) before);
  scratch_rest = grind (arith, drop_same, mul-le-mul_left);
}

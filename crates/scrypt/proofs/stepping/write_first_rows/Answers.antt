use Rattle.std.proofs.Common.{◌≡◌, ◌+◌, ◌-◌, ◌*◌, ℕ, refl, ap, arith}
use Rattle.scrypt.specs.Terms.{table_words, words_of}
use Rattle.std.proofs.Math.Nat.{mul-le-mul_left}
use Rattle.scrypt_kernel.proofs.StepFacts.{drop_same, mixing_as}
use Rattle.scrypt.proofs.KeyFacts.{chunk_of_slice}
use Rattle.scrypt.proofs.SteppingFacts.{first_rows_fit}
use Rattle.scrypt.proofs.stepping.write_first_rows.Goals as goal

pub begin_chunks-requires-clause-room : goal.begin_chunks-requires-clause-room
begin_chunks-requires-clause-room c =
    rw c.r-r.ensures.value (first_rows_fit c.args.n c.args.params.now.log_n c.args.params.now.r _ c.requires.table)

pub returns : goal.returns
returns c = record {
  begun = λ b before.
      let params = c.args.params.now in
      let n = c.args.n in
      let a : ℕ = c.args.i * (128 * params.r) in
      let m : ℕ = a + n * (128 * params.r) - a in
      let size : m ≡ n * (128 * params.r) = omega arith in
      mixing_as _ _ (λ k below. ap words_of (chunk_of_slice a m n k c.args.chunks.now refl size below before))
      (rw c.r-r.ensures.value at (c.begin_chunks.ensures.begun params.log_n));
  table_rest =
      let c' = c.args.params.now in
      let n = c.args.n in
      drop_same (n * (32 * c'.r)) _ _ _ (first_rows_fit n c'.log_n c'.r (n * table_words c'.log_n c'.r) (omega arith))
      (rw c.r-r.ensures.value at c.begin_chunks.ensures.table_rest);
  scratch_rest = grind (arith, drop_same, mul-le-mul_left);
}

use Rattle.std.proofs.Common.{◌*◌, take, ap, ◌∙◌, arith}
use Rattle.std.proofs.lemmas.List.{length-take-le}
use Rattle.std.proofs.lemmas.Slice.{drop-append-drop}
use Rattle.scrypt_kernel.specs.Words.{bytes_of}
use Rattle.scrypt_kernel.proofs.PartFacts.{part-take, part_inside}
use Rattle.scrypt_kernel.proofs.ChunkFacts.{chunk_out}
use Rattle.scrypt_kernel.proofs.StepFacts.{all_mixed}
use Rattle.scrypt_kernel.proofs.steps.end_chunks.Goals as goal

pub returns : goal.returns
returns g c = record {
  value = λ b log_n table at k below.
      let n = c.args.n in
      let r = c.args.r in
      let front = take (n * (32 * r)) c.args.scratch.now in
      chunk_out g.met.O.OrderedBlocks.inverse n r k front _ _ below
      (length-take-le _ c.args.scratch.now c.requires.scratch)
      (c.write_words.ensures ∙ ap (λ x. bytes_of x) c.shuffle_out.ensures.value)
      (part-take (32 * r) k _ c.args.scratch.now (part_inside (32 * r) k n _ below (omega arith)) ∙ all_mixed at k below);
  scratch_rest = grind (arith, drop-append-drop, length-take-le);
}

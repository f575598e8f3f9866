use Rattle.std.proofs.Common.{◌≡◌, ◌*◌, length, ap, ◌∙◌, arith}
use Rattle.std.proofs.lemmas.List.{length-take-le}
use Rattle.std.proofs.lemmas.Slice.{drop-append-drop}
use Rattle.scrypt_kernel.specs.Words.{part}
use Rattle.scrypt_kernel.proofs.PartFacts.{part_append_front, part_inside}
use Rattle.scrypt_kernel.proofs.ChunkFacts.{chunk_in}
use Rattle.scrypt_kernel.proofs.StepFacts.{no_mix_yet}
use Rattle.scrypt_kernel.proofs.steps.begin_chunks.Goals as goal

pub returns : goal.returns
returns g c = record {
  begun = λ log_n. no_mix_yet log_n (λ k below.
      let n = c.args.n in
      let r = c.args.r in
      let long : length c.copy_from_slice.new.self ≡ n * (32 * r) = grind (arith, length-take-le) in
      part_append_front (32 * r) k c.copy_from_slice.new.self _ (part_inside (32 * r) k n _ below (omega (arith, long)))
      ∙ ap (λ z. part (32 * r) z k) c.copy_from_slice.ensures.after
      ∙ chunk_in g.met.O.OrderedBlocks.inverse n r k log_n c.args.b.now c.shuffle_in.new.x below
      c.requires.chunks (rw c.read_words.ensures at c.shuffle_in.ensures.value));
  table_rest = grind (arith, drop-append-drop, length-take-le);
  scratch_rest = grind (arith, drop-append-drop, length-take-le);
}

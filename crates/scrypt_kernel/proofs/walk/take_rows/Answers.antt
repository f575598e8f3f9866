use Rattle.std.proofs.lemmas.List.{get_or-set_other, get_or-set_same, length-set}
use Rattle.std.proofs.Common.{◌+◌, ◌*◌, ◌/◌, ◌%◌, ◌^◌, ◌∙◌, ap, ap₂, arith, below_more}
use Rattle.scrypt_kernel.specs.{integerify, permuted}
use Rattle.scrypt_kernel.proofs.WalkFacts.{kept_place}
use Rattle.scrypt_kernel.proofs.walk.take_rows.Goals as goal

pub overflow_mul-starts : goal.overflow_mul-starts
overflow_mul-starts g c =
    let room = kept_place _ _ _ _ _ c.chunks.k _ c.requires.lens.1.most c.integerify-j.ensures.inside (omega (arith, c.count-n.ensures.value)) c.requires.lens.1.rows in
    rw c.count-n.ensures.value (omega (arith, room))

pub part-requires-in-chunks : goal.part-requires-in-chunks
part-requires-in-chunks g c =
    rw c.count-n.ensures.value (kept_place _ _ _ _ _ c.chunks.k _ c.requires.lens.1.most c.integerify-j.ensures.inside
    (omega (arith, c.count-n.ensures.value)) c.requires.lens.1.rows)

pub chunks-preserved : goal.chunks-preserved
chunks-preserved g c =
    let j_is = c.integerify-j.ensures.value ∙ ap (λ z. integerify (permuted g.O.OrderedBlocks.inverse_pivot z) % 2 ^ c.args.log_n) c.part.ensures.value in
    record {
      long = grind (arith, length-set);
      begin = below_more _ _ (λ i h. get_or-set_other c.chunks.starts c.chunks.k i _ 0 (λ e. absurd (omega arith)) ∙ c.chunks.invariant.begin i h)
          (get_or-set_same c.chunks.starts c.chunks.k _ 0 (omega arith)
          ∙ ap₂ (λ j n. (j / 2 ^ c.args.s * n + c.chunks.k) * c.args.len) j_is c.count-n.ensures.value);
    }

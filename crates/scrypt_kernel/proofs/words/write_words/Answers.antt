use Rattle.std.proofs.Common.{◌≢◌, ◌*◌, ◌+◌, ◌-◌, arith, ◌∙◌, below_more}
use Rattle.std.specs.Int.{w32, to_le_bytes}
use Rattle.scrypt_kernel.proofs.PartFacts.{part_put_same, part_put_other, parts_of_each}
use Rattle.scrypt_kernel.proofs.words.write_words.Goals as goal

pub loop-i-preserved : goal.loop-i-preserved
loop-i-preserved c =
    let i = c.loop-i.i in
    let b = c.loop-i.bytes in
    let ys = c.copy_from_slice.new.self in
    below_more _ _
    (λ k h. let other : k ≢ i = omega arith in
    part_put_other 4 i b ys (4 * i) (4 * i + 4 - 4 * i) (omega arith) (omega arith) (omega arith) (omega arith) k other
    ∙ c.loop-i.invariant k h)
    (part_put_same 4 i b ys (4 * i) (4 * i + 4 - 4 * i) (omega arith) (omega arith) (omega arith) (omega arith)
    ∙ c.copy_from_slice.ensures.after ∙ c.to_le_bytes.ensures)

pub returns : goal.returns
returns c =
    parts_of_each (to_le_bytes w32) 4 c.args.words.now c.loop-i.bytes (omega arith)
    (λ k h. c.loop-i.invariant k (omega arith))

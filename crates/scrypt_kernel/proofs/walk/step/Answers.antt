use Rattle.std.proofs.Common.{◌≡◌, ℕ, ◌/◌, ◌%◌, ◌^◌, take, drop, sym, ap, ◌∙◌, arith}
use Rattle.std.proofs.lemmas.Nat.{mod_below, pow_pos}
use Rattle.scrypt_kernel.specs.{integerify, part, permuted, place}
use Rattle.scrypt_kernel.proofs.PartFacts.{length-part}
use Rattle.scrypt_kernel.proofs.RoMixFacts.{part_of_row, row_zero_in}
use Rattle.scrypt_kernel.proofs.WalkFacts.{all_kept, kept_place, missing_rows, some_missing}
use Rattle.scrypt_kernel.proofs.walk.step.Goals as goal

pub mix-requires-clause-rows : goal.mix-requires-clause-rows
mix-requires-clause-rows g c =
    let lens = c.requires.lens in
    let few = rw c.count.ensures.value at c.count.ensures.few in (
      record { len = c.of.ensures.len; all = rw c.count.ensures.value at c.of.ensures.all },
      record {
        len = c.new.ensures.len;
        all = c.new.ensures.all g.O.OrderedBlocks.count few (λ k h. rw (c.take_rows-starts.ensures.starts k h)
            (kept_place _ _ _ _ _ k _ lens.most (mod_below _ (2 ^ c.args.log_n) (pow_pos c.args.log_n)) h lens.rows));
      },
    )

pub returns-then-missing-eq0-clause-value : goal.returns-then-missing-eq0-clause-value
returns-then-missing-eq0-clause-value g c k h =
    let p = g.O.OrderedBlocks.pivot in
    let q = g.O.OrderedBlocks.inverse_pivot in
    let len = c.args.len in
    let s = c.args.s in
    let lens = c.requires.lens in
    let number : ℕ → ℕ = λ k. integerify (permuted q (part len c.args.x.now k)) % 2 ^ c.args.log_n in
    let inside = mod_below _ (2 ^ c.args.log_n) (pow_pos c.args.log_n) in
    let j_is = c.integerify-j.ensures.value ∙ ap (λ z. integerify (permuted q z) % 2 ^ c.args.log_n) c.part.ensures.value in
    let none = all_kept _ k s number lens.alone h (sym (missing_rows s _ _ (omega arith) j_is) ∙ c.if-missing-eq0.true) in
    let at = place g.O.OrderedBlocks.count (number k / 2 ^ s) k in
    let low = part len c.args.v.now at in
    let long = length-part len at c.args.v.now (kept_place _ _ _ _ (number k) k _ lens.most inside h lens.rows) in
    let taken = c.new.ensures.parts k ∙ ap (λ a. take len (drop a c.args.v.now)) (c.take_rows-starts.ensures.starts k h) in
    let row = row_zero_in g.met.O.OrderedBlocks.inverse low (omega (arith, long, lens.row.whole)) in
    grind arith

pub part-kept-requires : goal.part-kept-requires
part-kept-requires g c =
    let lens = c.requires.lens in
    let one = lens.alone (some_missing _ _ c.if-missing-eq0.false) in
    let room = rw one at (kept_place _ _ _ _ _ 0 _ lens.most c.integerify-j.ensures.inside (omega (arith, one)) lens.rows) in
    rw (lens.chunks, one) (omega (arith, room))

pub returns-else-missing-eq0-clause-value : goal.returns-else-missing-eq0-clause-value
returns-else-missing-eq0-clause-value g c k h =
    let p = g.O.OrderedBlocks.pivot in
    let q = g.O.OrderedBlocks.inverse_pivot in
    let n = g.O.OrderedBlocks.count in
    let len = c.args.len in
    let one = c.requires.lens.alone (some_missing _ _ c.if-missing-eq0.false) in
    let first : 0 ≡ k = omega (arith, h, one) in
    let number : ℕ → ℕ = λ k. integerify (permuted q (part len c.args.x.now k)) % 2 ^ c.args.log_n in
    let j_is = c.integerify-j.ensures.value ∙ ap (λ z. integerify (permuted q z) % 2 ^ c.args.log_n) c.part.ensures.value ∙ ap number first in
    let below = ap (λ z. part len z k) (rw c.requires.lens.chunks at c.part-kept.ensures.value) ∙ part_of_row n len _ k c.args.v.now h
    ∙ ap (λ j. part len c.args.v.now (place n (j / 2 ^ c.args.s) k)) j_is in
    grind (arith, missing_rows)

use Rattle.std.proofs.Common.{◌≡◌, length, ◌*◌, ◌%◌, ◌-◌, ◌^◌, sym, arith, zero-add}
use Rattle.std.proofs.lemmas.Nat.{one_shl}
use Rattle.scrypt_kernel.proofs.CountFacts.{counted_both, counted_none}
use Rattle.scrypt_kernel.proofs.RoMixFacts.{first_row, more_rows}
use Rattle.scrypt_kernel.proofs.WalkFacts.{all_rows, filled, kept_rows}
use Rattle.scrypt_kernel.proofs.table.fill.Goals as goal

pub rows-init : goal.rows-init
rows-init g c = record {
  room = c.write.ensures.room;
  held = first_row g.met.O.OrderedBlocks.inverse c.requires.lens.1.chunks c.requires.lens.1.row.whole
      (rw zero-add at c.write.ensures.words);
  counted = counted_none _ _ _ (omega arith);
}

pub rows-preserved : goal.rows-preserved
rows-preserved g c = record {
  room = omega (arith, c.rows.invariant.room, c.write_next.ensures.room);
  held = more_rows g.met.O.OrderedBlocks.inverse c.requires.lens.1.row.whole c.rows.invariant.held c.write_next.ensures.words;
  counted = counted_both _ c.rows.invariant.counted c.write_next.ensures.counted (omega arith);
}

pub returns-clause-filled : goal.returns-clause-filled
returns-clause-filled g c =
    let last : 1 * 2 ^ (c.args.log_n - c.args.s) % 2 ^ 64 - 1 ≡ c.rows.m = omega arith in
    let long : length c.rows.x ≡ g.O.OrderedBlocks.count * c.args.len = omega (arith, c.rows.auto.x, c.requires.lens.1.chunks) in
    filled g.met.O.OrderedBlocks.inverse c.requires.lens.1.small c.requires.lens.1.most (sym last) c.requires.lens.1.row.whole
    c.rows.invariant.held (rw (c.words.ensures.value, long, last) at c.part.ensures.value)
    (rw (one_shl c.args.s 64 (omega arith)) at c.recompute.ensures.value)

pub returns-clause-counted : goal.returns-clause-counted
returns-clause-counted g c =
    let last : 1 * 2 ^ (c.args.log_n - c.args.s) % 2 ^ 64 - 1 ≡ c.rows.m = omega arith in
    let kept = kept_rows c.args.log_n c.args.s c.rows.m c.requires.lens.1.small (sym last) in
    let all = all_rows _ _ _ c.requires.lens.1.most kept in
    counted_both _ c.rows.invariant.counted (rw (one_shl c.args.s 64 (omega arith)) at c.recompute.ensures.counted)
    (rw (← all) (omega arith))

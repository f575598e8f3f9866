use Rattle.std.proofs.Common.{◌+◌, ◌-◌, ◌*◌, ◌/◌, refl, arith}
use Rattle.scrypt_kernel.proofs.RoMixFacts.{no_mix, one_more_mix}
use Rattle.scrypt_kernel.proofs.table.recompute.Goals as goal
use Rattle.scrypt_kernel.proofs.table.recompute.Goals.{then-n-eq0, else-n-eq0}

pub pairs-init : goal.pairs-init
pairs-init g c =
    let o = g.O.OrderedBlocks in
    let kept = c.args.kept.now in
    let long = c.requires.chunks in
    let whole = c.requires.row.whole in
    let first = no_mix g.met.O.OrderedBlocks.inverse o.count c.args.len whole kept long in
    let more = one_more_mix g.met.O.OrderedBlocks.inverse o.count c.args.len whole kept long in
    elim c.if-n-eq0.branch [
      | then-n-eq0 w ↦
          let one = more _ _ _ w.mix_row.new.next 0 1 first long w.mix_row.ensures.value w.mix_row.ensures.counted (omega arith) in
          let two = w.mix_row-then-n-eq0.ensures in
          rw (w.x-is, w.cores-is) (more _ _ _ _ 1 _ one (omega arith) two.value two.counted (omega (arith, w.if-n-eq0.true)))
      | else-n-eq0 w ↦ grind arith
    ]

pub pairs-preserved : goal.pairs-preserved
pairs-preserved g c =
    let o = g.O.OrderedBlocks in
    let one = c.mix_row-in-pairs.ensures in
    let two = c.mix_row-in-pairs-2.ensures in
    let n = c.args.n in
    let i = n - 2 * ((n - 1) / 2) + 2 * c.pairs._k in
    let more = one_more_mix g.met.O.OrderedBlocks.inverse o.count c.args.len c.requires.row.whole c.args.kept.now c.requires.chunks in
    more _ _ _ _ (i + 1) _ (more _ _ _ _ i _ c.pairs.invariant (omega arith) one.value one.counted refl)
    (omega arith) two.value two.counted (omega arith)

use Rattle.password_hash.specs.Crypt64.{IsCrypt64}
use Rattle.password_hash.proofs.GroupFacts.{begins_none, begins_more, begins-end, begins-stuck}
use Rattle.password_hash.proofs.mcf.crypt64.Base64.decode_vec.Goals as goal

pub loop-group-init : goal.loop-group-init
loop-group-init c = rw (c.in_ok-bytes.ensures.items, c.as_bytes-rest.ensures.value) (begins_none _)

pub loop-group-preserved : goal.loop-group-preserved
loop-group-preserved c =
    rw (c.in_ok-extend_from_slice.ensures.items, c.as_bytes.ensures)
    (begins_more _ _ _ _ _ c.loop-group.invariant c.in-Some-split_first.ensures.split)

pub returns-clause-ok : goal.returns-clause-ok
returns-clause-ok c =
    let is : IsCrypt64 c.args.letters.now = (c.in-Some.ensures.0, rw c.as_bytes-rest.ensures.value at c.in-Some.ensures.1) in
    begins-end _ _ _ c.loop-group.invariant (begins-stuck _ _ _ c.loop-group.invariant c.in_default-split_first.ensures.split is)

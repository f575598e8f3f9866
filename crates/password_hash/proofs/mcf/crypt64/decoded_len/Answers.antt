use Rattle.std.proofs.Common.{◌≡◌, refl, ap, arith, [], length, length-append, ◌++◌, take}
use Rattle.std.proofs.lemmas.Bool.Decides.{nat_tests}
use Rattle.password_hash.proofs.GroupFacts.{begins_none, begins_more, begins-stuck}
use Rattle.password_hash.proofs.mcf.crypt64.decoded_len.Goals as goal

pub loop-group-init : goal.loop-group-init
loop-group-init c = record { begins = ([], begins_none _, refl); fits = omega arith }

pub loop-group-preserved : goal.loop-group-preserved
loop-group-preserved c =
    let before = c.loop-group.invariant.begins in
    let front = take c.in-Some.group.len c.in-Some.group.bytes in
    record {
      begins = (
        before.0 ++ front,
        begins_more _ _ _ _ _ before.1 c.in-Some.ensures.split,
        omega (arith, length-append before.0 front, before.2, ap length c.as_bytes.ensures),
      );
      fits = omega (arith, c.loop-group.invariant.fits, c.in-Some.ensures.shorter, ap length c.as_bytes.ensures);
    }

pub returns-else-is_empty : goal.returns-else-is_empty
returns-else-is_empty c = λ is.
    let none : c.loop-group.rest.now ≡ [] =
    begins-stuck _ _ _ c.loop-group.invariant.begins.1 c.in_default.ensures.split is in
    absurd (grind (arith, nat_tests, c.is_empty.ensures, none))

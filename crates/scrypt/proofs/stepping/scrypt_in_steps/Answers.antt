use Rattle.std.proofs.Common.{◌≡◌, ◌∙◌, ◌*◌, min, arith, refl, true}
use denote.Param.Always.{mut_next}
use Rattle.scrypt_kernel.proofs.CountFacts.{counted_between, counted_both, counted_none}
use Rattle.scrypt.specs.Stepping.{lacking, mixes_done}
use Rattle.scrypt.proofs.SteppingFacts.{all_mixes_cost, cores_more, mixes_left, mixes_more, next_shown, none_shown, one_shown, rest_then}
use Rattle.scrypt.proofs.stepping.scrypt_in_steps.Goals as goal

pub steps-smaller : goal.steps-smaller
steps-smaller g c = grind (arith, mixes_left, mixes_more)

pub steps-init : goal.steps-init
steps-init g c = grind (arith, none_shown, counted_none)

pub steps-preserved : goal.steps-preserved
steps-preserved g c =
    let params = c.args.params.now in
    let next = next_shown _ _ params c.steps.at c.steps.table c.steps.scratch c.args.count _ _ _ c.steps.invariant.going (c.steps.auto.table ∙ c.begin-at.auto.table) (c.steps.auto.scratch ∙ c.begin-at.auto.scratch)
    c.expose_invariant.ensures.some.0 c.requires.some (omega (arith, c.steps-test.true, c.p.ensures.value)) c.step-at.ensures.exact in
    let is_true = c.if-not-go_on.false in
    record {
      callable = mut_next g.F.FnMut _ _ _ _ _ c.go_on.ensures refl c.steps.invariant.callable;
      going = c.step-at.ensures.going;
      under_way = c.step-at.ensures.under_way _ _ c.steps.invariant.under_way;
      shown = one_shown _ _ _ _ _ _ _ c.steps.invariant.shown next (rw (is_true, c.cores_done.ensures.exact) at c.go_on.ensures);
      rest = rest_then params _ _ _ (c.steps.auto.table ∙ c.begin-at.auto.table) (c.steps.auto.scratch ∙ c.begin-at.auto.scratch) c.steps.invariant.rest c.step-at.ensures.rest;
      counted = counted_both _ c.steps.invariant.counted c.step-at.ensures.counted (cores_more _ _ _ _ (2 * params.r) c.step-at.ensures.exact);
    }

pub returns-clause-derived : goal.returns-clause-derived
returns-clause-derived g c = grind (arith, counted_between, all_mixes_cost)

pub returns-clause-shown : goal.returns-clause-shown
returns-clause-shown g c =
    let params = c.args.params.now in
    let at = c.steps.at in
    let all : at.chunks ≡ params.p = omega (arith, c.steps-test.false, c.p.ensures.value, c.steps.invariant.going.within.chunks) in
    (_, rw (all_mixes_cost params.log_n params.r params.p at.chunks at.interleaved at.mixes all (c.steps.invariant.going.within.ended all)) at c.steps.invariant.shown)

pub returns-then-not-go_on-clause-cancelled : goal.returns-then-not-go_on-clause-cancelled
returns-then-not-go_on-clause-cancelled g c _ =
    let params = c.args.params.now in
    let cores = cores_more _ _ c.steps.at.interleaved (min c.args.count (lacking params c.steps.at)) (2 * params.r) c.step-at.ensures.exact in
    let next = next_shown _ _ params c.steps.at c.steps.table c.steps.scratch c.args.count _ _ _ c.steps.invariant.going (c.steps.auto.table ∙ c.begin-at.auto.table) (c.steps.auto.scratch ∙ c.begin-at.auto.scratch)
    c.expose_invariant.ensures.some.0 c.requires.some (omega (arith, c.steps-test.true, c.p.ensures.value)) c.step-at.ensures.exact in
    let is_false = c.if-not-go_on.true in (
      _,
      record {
        before = mixes_done params c.steps.at * (2 * params.r);
        state = c.steps.go_on;
        left = c.go_on.new.self;
        went_on = c.steps.invariant.shown;
        next = rw c.cores_done.ensures.exact next;
        stopped = rw is_false at c.go_on.ensures;
      },
      omega (arith, c.begin-at.ensures.counted.all, c.steps.invariant.counted.all, c.step-at.ensures.counted.all, cores, c.cores_done.ensures.exact),
    )

pub returns-then-not-go_on-clause-rest : goal.returns-then-not-go_on-clause-rest
returns-then-not-go_on-clause-rest g c = grind (arith, rest_then)

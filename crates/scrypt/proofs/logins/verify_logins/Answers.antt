use Rattle.std.proofs.Common.{◌≡◌, ◌∙◌, ◌∷◌, ◌++◌, ap, arith, map, rules, take}
use Rattle.std.proofs.lemmas.List.{map-append}
use Rattle.std.proofs.lemmas.Slice.{take-put_mid_below}
use Rattle.scrypt_kernel.proofs.CountFacts.{compressed_then, counted_then}
use Rattle.scrypt.specs.Terms.{attempt_of, attempts, cores_on, hashed_on, verdict_on, with_limited_refusal}
use Rattle.scrypt.specs.Terms.{workspace_of}
use Rattle.scrypt.proofs.LoginFacts.{AreAsLong, all_put, left_alone, none_left, one_more, rest_is, same_on_all, sum_more}
use Rattle.scrypt.proofs.logins.verify_logins.Goals as goal

pub returns-then-verified_in_batch-clause-verdicts : goal.returns-then-verified_in_batch-clause-verdicts
returns-then-verified_in_batch-clause-verdicts g c =
    let at = c.loop-login.at in
    let known = c.loop-login.invariant in
    ap (map with_limited_refusal) (all_put c.loop-login.verdicts c.verified_in_batch.new.verdicts at _
    (omega (arith, known.long)) (search rules) (search rules))
    ∙ map-append with_limited_refusal (take at c.loop-login.verdicts) c.verified_in_batch.new.verdicts
    ∙ ap (λ x. map with_limited_refusal (take at c.loop-login.verdicts) ++ x) (c.if-verified_in_batch.ensures.verdicts (search rules))
    ∙ known.verified

pub returns-then-verified_in_batch-clause-counted : goal.returns-then-verified_in_batch-clause-counted
returns-then-verified_in_batch-clause-counted g c = c.loop-login.invariant.counted _ (c.if-verified_in_batch.ensures.counted (search rules))

pub returns-then-verified_in_batch-clause-hashed : goal.returns-then-verified_in_batch-clause-hashed
returns-then-verified_in_batch-clause-hashed g c = c.loop-login.invariant.hashed _ (c.if-verified_in_batch.ensures.hashed (search rules))

pub loop-login-preserved : goal.loop-login-preserved
loop-login-preserved g c =
    let login = c.in-Some.login.now in
    let at = c.loop-login.at in
    let before = workspace_of c.loop-login.chunks c.loop-login.table c.loop-login.scratch in
    let now = workspace_of c.verify_alone.new.chunks c.verify_alone.new.table c.verify_alone.new.scratch in
    let long : AreAsLong now before = search rules in
    let known = c.loop-login.invariant in
    let others = attempts c.in-Some.field-0-1.now in
    let same = same_on_all now before long others in
    let kept = c.if-verified_in_batch.ensures.unchanged (search rules) in
    let is : c.loop-login.left.now ≡ login ∷ c.in-Some.field-0-1.now = search rules in
    let next = ap attempts is in
    let verdict = rw (kept.0, kept.1, kept.2) at c.verify_alone.ensures.verdict in
    let left = rw (kept.0, kept.1, kept.2) at c.verify_alone.ensures.left in
    let counted = rw (kept.0, kept.1, kept.2, kept.3) at c.verify_alone.ensures.counted in
    let hashed = rw (kept.0, kept.1, kept.2, kept.3) at c.verify_alone.ensures.hashed in
    rw (rest_is _ _ _ is) (record {
      long = search rules;
      verified = rw same.0
          (one_more with_limited_refusal (verdict_on before) _ at c.verify_alone.result (attempt_of login) _ _ (search rules) verdict next
          ∙ ap (λ x. map with_limited_refusal x ++ map (verdict_on before) (attempts c.loop-login.left.now))
          (take-put_mid_below at _ c.loop-login.verdicts c.verified_in_batch.new.verdicts at (omega arith)
          (omega (arith, known.long))) ∙ known.verified);
      counted = λ after rest. known.counted after (counted_then counted (rw same.1 at rest) (sum_more (cores_on before) next));
      hashed = λ after rest. known.hashed after (compressed_then hashed (rw same.2 at rest) (sum_more (hashed_on before) next));
      left = λ after rest.
          let alone = rw next at (c.if-verified_in_batch.ensures.alone (search rules)) in
          known.left after (rw next (left_alone (attempt_of login) others before now after alone left rest));
    })

pub returns-clause-counted : goal.returns-clause-counted
returns-clause-counted g c =
    c.loop-login.invariant.counted _ (rw (none_left c.loop-login.left.now (search rules)) (record { all = omega arith; lanes = omega arith }))

pub returns-clause-hashed : goal.returns-clause-hashed
returns-clause-hashed g c =
    c.loop-login.invariant.hashed _ (rw (none_left c.loop-login.left.now (search rules)) (record { compressions = omega arith }))

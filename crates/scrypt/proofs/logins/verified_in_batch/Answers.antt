use Rattle.std.proofs.Common.{◌≡◌, ◌∙◌, rules, map, arith}
use Rattle.scrypt.specs.Terms.{Attempt, attempts, verdict, with_limited_refusal, workspace_of}
use Rattle.scrypt.proofs.LoginFacts.{alone}
use Rattle.scrypt.proofs.logins.verified_in_batch.Goals as goal

pub returns-in-Some-verified-clause-verdicts : goal.returns-in-Some-verified-clause-verdicts
returns-in-Some-verified-clause-verdicts g c = λ _.
    let before = workspace_of c.args.chunks.now c.args.table.now c.args.scratch.now in
    let batch : map with_limited_refusal c.with_prefix-verified.new.output ≡ map (λ (a : Attempt). verdict a.0 a.1) (attempts c.args.logins.now) = search rules in
    batch ∙ (alone _ _ _ before c.in-Some.ensures'.count (search rules)).0

pub returns-in-Some-verified-clause-counted : goal.returns-in-Some-verified-clause-counted
returns-in-Some-verified-clause-counted g c = λ _.
    let before = workspace_of c.args.chunks.now c.args.table.now c.args.scratch.now in
    grind (arith, alone c.in-Some.params (attempts c.args.logins.now) c.in-Some.count before c.in-Some.ensures'.count (search rules))

pub returns-in-Some-verified-clause-hashed : goal.returns-in-Some-verified-clause-hashed
returns-in-Some-verified-clause-hashed g c = λ _.
    let before = workspace_of c.args.chunks.now c.args.table.now c.args.scratch.now in
    grind (arith, alone c.in-Some.params (attempts c.args.logins.now) c.in-Some.count before c.in-Some.ensures'.count (search rules))

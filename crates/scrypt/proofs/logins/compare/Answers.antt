use Rattle.std.proofs.Common.{◌≡◌, ◌∷◌, ap, arith, rules, drop_at}
use Rattle.scrypt_kernel.proofs.CountFacts.{hashed_none}
use Rattle.scrypt.specs.Terms.{all_cost, attempts, compare_cost}
use Rattle.scrypt.proofs.LoginFacts.{hashed_more, none_left, one_more, rest_is}
use Rattle.scrypt.proofs.logins.compare.Goals as goal

pub loop-login-preserved : goal.loop-login-preserved
loop-login-preserved c =
    let login = c.in-Some.login.now in
    let is : c.loop-login.left.now ≡ login ∷ c.in-Some.field-0-1.now = search rules in
    let next = ap attempts is in
    let before = c.loop-login.invariant in
    rw (rest_is _ _ _ is) (record {
      rest = grind (arith, drop_at);
      long = search rules;
      compared = grind (arith, one_more);
      counted = λ after rest. before.counted after (hashed_more compare_cost next c.compare.ensures.counted rest);
    })

pub returns-clause-counted : goal.returns-clause-counted
returns-clause-counted c =
    c.loop-login.invariant.counted _ (hashed_none _ _ (ap (all_cost compare_cost) (none_left c.loop-login.left.now (search rules))))

use Rattle.std.proofs.Common.{arith}
use Rattle.std.proofs.lemmas.Bool.{false≢true}
use Rattle.password_hash.proofs.ParamsFacts.{IsAdded, added, last_pair}
use Rattle.password_hash.proofs.phc.params.ParamsString.add.Goals as goal
use Rattle.password_hash.proofs.phc.params.ParamsString.add.Goals.{After-push_pair}

put : (c : After-push_pair) → IsAdded c.push_pair.result c.args.self.now (c.args.name.now, c.args.value.now) c.push_pair.new.text.bytes
put c =
    added c.push_pair.result c.args.self.now (c.args.name.now, c.args.value.now) c.self.inside.text.bytes
    c.push_pair.new.text.bytes c.self.invariant c.self.view_is (c.is_pair.ensures.0 c.if-not-is_pair.false) c.in-None.ensures.none
    c.push_pair.ensures.exact c.push_pair.ensures.ok c.push_pair.ensures.unchanged

pub returns-in-Some-clause-exact : goal.returns-in-Some-clause-exact
returns-in-Some-clause-exact c = grind (arith, false≢true, last_pair)

pub invariant_of-self : goal.invariant_of-self
invariant_of-self c = (put (goal.at.invariant_of-self c).After-push_pair).kept

pub returns-in-None-clause-exact : goal.returns-in-None-clause-exact
returns-in-None-clause-exact c = (put (goal.at.returns-in-None-clause-exact c).After-push_pair).exact

pub returns-in-None-clause-ok : goal.returns-in-None-clause-ok
returns-in-None-clause-ok c = (put (goal.at.returns-in-None-clause-ok c).After-push_pair).ok

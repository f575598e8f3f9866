use Rattle.std.proofs.Common.{arith, rules}
use Rattle.scrypt.proofs.KeyFacts.{length-key_by}
use Rattle.scrypt.proofs.McfTextFacts.{whole_is_made, whole_is_mcf}
use Rattle.scrypt.proofs.mcf.hashing.fill_with_hash.Goals as goal

pub encode-requires-2 : goal.encode-requires-2
encode-requires-2 g c = grind (arith, length-key_by)

pub returns-clause-made : goal.returns-clause-made
returns-clause-made g c =
    whole_is_made c.args.params.now c.args.password.now c.args.salt.now c.stored_key-key.result _ (search rules) (search rules)

pub returns-clause-modular : goal.returns-clause-modular
returns-clause-modular g c = whole_is_mcf c.args.params.now c.args.salt.now c.stored_key-key.result _ (search rules) c.expose_invariant.ensures.accepted

use Rattle.std.proofs.Common.{rules}
use Rattle.password_hash.specs.Phc.{IsKey, IsSalt}
use Rattle.scrypt.proofs.TextOfKeyFacts.{phc_of_key}
use Rattle.scrypt.proofs.phc.hashing.hash_of_key.Goals as goal

pub returns-clause-read : goal.returns-clause-read
returns-clause-read c =
    let salt : IsSalt c.args.salt.now = record { are_bytes = λ i. search rules; enough = search rules; fits = search rules } in
    let key : IsKey c.args.key.now = record { are_bytes = λ i. search rules; enough = search rules; fits = search rules } in
    let read = phc_of_key c.args.params.now c.args.salt.now c.args.key.now c.expose_invariant.ensures.accepted salt key in
    rw (c.hash_of.ensures, c.in-Ok.ensures.value, c.in-Ok-new.ensures.value) read

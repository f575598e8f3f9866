use Rattle.std.proofs.Common.{arith, rules}
use Rattle.password_hash.specs.Phc.{IsSalt}
use Rattle.scrypt.proofs.PhcFacts.{only_memory}
use Rattle.scrypt.proofs.texts.hash_text.Goals as goal

pub returns : goal.returns
returns c =
    let params = c.args.params.now in
    let made = rw c.new_with_params.ensures.value at c.in_ok-hash.ensures.ok in
    let printed = rw made.1 at c.in_ok-to_string.ensures.ok in
    let salt : IsSalt c.args.salt = record { are_bytes = λ i. search rules; enough = search rules; fits = search rules } in
    let accepted = c.expose_invariant.ensures.accepted in
    let stored = c.expose_invariant.ensures.stored in
    let law = c.made_hashes_are_accepted.ensures.phc_text params c.args.password.now c.args.salt accepted stored salt in
    let within = c.made_hashes_are_accepted.ensures.phc_within in
    record {
      made = printed;
      read = rw printed law.read;
      accepts = rw printed law.accepts;
      strong = rw printed law.strong;
      within = λ defaults n short bytes little. rw printed (within defaults params c.args.password.now c.args.salt n accepted stored salt short bytes little);
      err = tt;
    }

pub returns-in_err-hash-clause-err : goal.returns-in_err-hash-clause-err
returns-in_err-hash-clause-err c = grind (arith, only_memory c.args.salt _ (search rules) c.in_err-hash.ensures.err)

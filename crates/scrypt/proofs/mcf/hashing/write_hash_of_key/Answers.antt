use Rattle.std.proofs.Common.{IsTrue, arith, length, rules}
use Rattle.scrypt.specs.Terms.{IsBytes, IsField, is_output_len, mcf_text, parts_of_key}
use Rattle.scrypt.proofs.TextOfKeyFacts.{length-mcf_of_key, mcf_of_key, mcf_of_key_is_utf8}
use Rattle.scrypt.proofs.mcf.hashing.write_hash_of_key.Goals as goal

pub returns-then-len-text-clause-short : goal.returns-then-len-text-clause-short
returns-then-len-text-clause-short c is =
    let s = parts_of_key c.args.params.now c.args.salt.now c.args.key.now in
    let field : IsField c.args.salt.now = search rules in
    let bytes : IsBytes c.args.key.now = λ i. search rules in
    let len : IsTrue (is_output_len (length c.args.key.now)) = search rules in
    let made = mcf_of_key c.args.params.now c.args.salt.now c.args.key.now c.expose_invariant.ensures.accepted field bytes len in
    (mcf_text s, made, grind (arith, length-mcf_of_key c.args.params.now c.args.salt.now c.args.key.now))

pub returns-clause-read : goal.returns-clause-read
returns-clause-read c =
    let s = parts_of_key c.args.params.now c.args.salt.now c.args.key.now in
    let field : IsField c.args.salt.now = search rules in
    let bytes : IsBytes c.args.key.now = λ i. search rules in
    let len : IsTrue (is_output_len (length c.args.key.now)) = search rules in
    let accepted = c.expose_invariant.ensures.accepted in
    let made = mcf_of_key c.args.params.now c.args.salt.now c.args.key.now accepted field bytes len in
    (mcf_text s, (mcf_of_key_is_utf8 c.args.params.now c.args.salt.now c.args.key.now accepted c.utf8.salt, made), grind (arith, length-mcf_of_key c.args.params.now c.args.salt.now c.args.key.now), search rules)

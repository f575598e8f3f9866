use Rattle.std.proofs.Common.{◌≡◌, ◌∷◌, ap, append_assoc, arith, length, length-append, rules, take}
use Rattle.std.proofs.lemmas.Slice.{take-put_mid}
use Rattle.scrypt_kernel.proofs.CountFacts.{hashed_none}
use Rattle.scrypt.specs.Terms.{all_cost, all_of, attempts, chunks_cost, chunks_of}
use Rattle.scrypt.proofs.LoginFacts.{hashed_more, none_left, rest_is}
use Rattle.scrypt.proofs.logins.derive_all_chunks.Goals as goal

pub loop-login-preserved : goal.loop-login-preserved
loop-login-preserved c =
    let is : c.loop-login.left.now ≡ c.in-Some.login.now ∷ c.in-Some.field-0-1.now = search rules in
    let next = ap attempts is in
    let sizes = simp length-append at (ap (λ these. length (all_of chunks_of these)) next) in
    let before = c.loop-login.invariant in
    let front = take c.loop-login.at c.loop-login.chunks in
    rw (rest_is _ _ _ is) (record {
      written = grind (arith, take-put_mid, append_assoc);
      fits = omega (arith, sizes, before.fits, c.chunks_len.ensures.value);
      counted = λ after rest. before.counted after (hashed_more chunks_cost next c.derive_chunks.ensures.counted rest);
    })

pub returns-clause-counted : goal.returns-clause-counted
returns-clause-counted c =
    c.loop-login.invariant.counted _ (hashed_none _ _ (ap (all_cost chunks_cost) (none_left c.loop-login.left.now (search rules))))

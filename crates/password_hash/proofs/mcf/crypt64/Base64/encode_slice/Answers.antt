use Rattle.std.proofs.lemmas.Grind.{drop_more_same}
use Rattle.std.proofs.lemmas.List.{drop-set-lt, length-take, take_more_set}
use Rattle.std.proofs.Common.{◌<◌, ◌∙◌, ◌++◌, sym, ap, arith, length, take, append_assoc, length-append}
use Rattle.std.proofs.Math.ListN.{length-set}
use Rattle.password_hash.proofs.GroupFacts.{length-crypt64_of}
use Rattle.password_hash.proofs.mcf.crypt64.Base64.encode_slice.Goals as goal
use Rattle.password_hash.proofs.mcf.crypt64.Base64.encode_slice.Goals.{In-Some}

-- there is a place for each letter
room : (c : In-Some) → c.loop-letter.len < length c.loop-letter.out
room c =
    let done = take c.loop-letter.len c.loop-letter.out in
    let letters = ap (λ left. done ++ left) (sym c.in-Some.ensures.steps) ∙ c.loop-letter.invariant.front in
    omega (arith, simp (length-append, length-take) at (ap length letters), length-crypt64_of c.args.bytes.now)

pub bounds-out-len : goal.bounds-out-len
bounds-out-len c = room c

pub loop-letter-preserved : goal.loop-letter-preserved
loop-letter-preserved c = grind (arith, take_more_set, room, append_assoc, drop-set-lt, drop_more_same, length-set)

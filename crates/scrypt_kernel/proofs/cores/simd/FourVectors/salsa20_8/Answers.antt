use Rattle.std.proofs.Common.{List, ℕ, ap, ◌∙◌}
use Rattle.std.specs.Simd.Lanes.{zip2}
use Rattle.scrypt_kernel.specs.{add32, block_of, diagonal_round}
use Rattle.scrypt_kernel.proofs.LaneFacts.{core_of_rounds, length-joined, zip_joined}
use Rattle.scrypt_kernel.proofs.cores.simd.FourVectors.salsa20_8.Goals as goal

pub returns : goal.returns
returns g c k h =
    let lanes = g.V.Lanes.lanes in
    let x = c.args.self in
    let y = c.double_round-all.result in
    let l : List ℕ × List ℕ × List ℕ × List ℕ = (lanes x.a k, lanes x.b k, lanes x.c k, lanes x.d k) in
    let m : List ℕ × List ℕ × List ℕ × List ℕ = (lanes y.a k, lanes y.b k, lanes y.c k, lanes y.d k) in
    let four = c.double_round-once.ensures.whole k h in
    let rounds = c.double_round-all.ensures.value k h ∙ ap diagonal_round (c.double_round-thrice.ensures.value k h
    ∙ ap diagonal_round (c.double_round-twice.ensures.value k h ∙ ap diagonal_round (c.double_round-once.ensures.value k h))) in
    rw (c.plus.ensures k, c.plus-2.ensures k, c.plus-3.ensures k, c.plus-4.ensures k)
    (zip_joined add32 l m four (c.double_round-all.ensures.still_whole k h) ∙ ap (zip2 add32 (block_of lanes x k)) rounds
    ∙ core_of_rounds (block_of lanes x k) (length-joined l four))

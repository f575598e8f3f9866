use Rattle.std.proofs.Common.{◌≡◌, ◌+◌, ◌-◌, ◌*◌, ℕ, drop, arith}
use Rattle.scrypt_kernel.proofs.PartFacts.{part-take, parts_apart}
use Rattle.scrypt.proofs.KeyFacts.{mixed_group, mixed_slice, part_at}
use Rattle.scrypt.proofs.derivation.mixing.mix_group.Goals as goal

pub returns-clause-mixed : goal.returns-clause-mixed
returns-clause-mixed g c b before =
    let r = c.args.params.now.r in
    let i = c.args.i in
    let n = c.args.n in
    let same : i * (128 * r) + n * (128 * r) - i * (128 * r) ≡ n * (128 * r) = omega arith in
    rw c.r-r.ensures.value (mixed_slice n c.requires.inside (rw c.r-r.ensures.value at c.mix_chunks.auto.b) (λ long.
    mixed_group b c.args.used.now.chunks.now c.mix_chunks.new.b c.args.params.now.log_n r i n long
    (rw (c.r-r.ensures.value, c.log_n.ensures.value, ← c.requires.group, same) at c.mix_chunks.ensures.value) before) before)

pub returns-clause-counted : goal.returns-clause-counted
returns-clause-counted g c =
    let s : ℕ = 128 * c.args.params.now.r in
    let n = c.args.n in
    let i = c.args.i in
    let same : i * s + n * s - i * s ≡ n * s = omega arith in
    let alone = part-take s 0 (n * s) (drop (i * s) c.args.used.now.chunks.now) (parts_apart s 0 n c.requires.memory.some) in
    grind (arith, part_at)

use Rattle.std.proofs.Common.{◌≡◌, ◌<◌, ◌*◌, ◌/◌, ap, ◌∙◌, arith}
use Rattle.scrypt_kernel.proofs.ChunkFacts.{chunk_mixed, chunk_words}
use Rattle.scrypt_kernel.proofs.romix.mix_chunks.Goals as goal

pub returns-clause-value : goal.returns-clause-value
returns-clause-value g c k h =
    let n = g.O.OrderedBlocks.count in
    let r = c.args.r in
    let long = c.fill_and_walk.auto.x ∙ c.shuffle_in.auto.x ∙ c.read_words.auto.words ∙ c.split_at_mut-x.ensures.front_len ∙ ap (λ n. n * (32 * r)) c.count-n.ensures.value in
    let read = rw c.read_words.ensures at c.shuffle_in.ensures.value in
    let written = rw c.shuffle_out.ensures.value at c.write_words.ensures in
    chunk_mixed g.met.O.OrderedBlocks.inverse n r k c.args.log_n c.args.b.now c.shuffle_in.new.x h
    c.requires.chunks read c.fill_and_walk.new.x _ long written (c.fill_and_walk.ensures.value k h)

pub returns-clause-counted : goal.returns-clause-counted
returns-clause-counted g c =
    let n = g.O.OrderedBlocks.count in
    let r = c.args.r in
    let some : 0 < n = omega (arith, c.count-n.ensures.some, c.count-n.ensures.value) in
    let standard = chunk_words g.met.O.OrderedBlocks.inverse n r 0 c.args.log_n c.args.b.now c.shuffle_in.new.x some
    c.requires.chunks (rw c.read_words.ensures at c.shuffle_in.ensures.value) in
    let blocks : 32 * r / 32 ≡ r = omega arith in
    rw (standard, blocks) at c.fill_and_walk.ensures.counted

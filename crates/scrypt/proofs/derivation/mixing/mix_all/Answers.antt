use Rattle.std.proofs.Common.{◌≤◌, ◌+◌, ◌*◌, arith, mul-le-mul_right}
use Rattle.scrypt_kernel.proofs.CountFacts.{counted_both}
use Rattle.scrypt.proofs.CostFacts.{more_chunks, whole_table_cost}
use Rattle.scrypt.proofs.derivation.mixing.mix_all.Goals as goal

pub mix_interleaved-requires-clause-inside : goal.mix_interleaved-requires-clause-inside
mix_interleaved-requires-clause-inside g c =
    let below : c.groups.i + c.group_by-n.result ≤ c.args.count = omega arith in
    omega (arith, c.requires.ready.chunks_len, mul-le-mul_right (128 * c.args.params.now.r) below)

pub mix_interleaved-requires-clause-memory : goal.mix_interleaved-requires-clause-memory
mix_interleaved-requires-clause-memory g c = grind (arith, mul-le-mul_right)

pub groups-preserved : goal.groups-preserved
groups-preserved g c = grind (arith, counted_both, more_chunks)

pub returns-clause-whole : goal.returns-clause-whole
returns-clause-whole g c none = grind (arith, whole_table_cost)

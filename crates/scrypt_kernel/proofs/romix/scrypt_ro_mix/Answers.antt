use Rattle.scrypt_kernel.proofs.ChunkFacts.{counted_whole}
use Rattle.scrypt_kernel.proofs.romix.scrypt_ro_mix.Goals as goal

pub returns-clause-counted : goal.returns-clause-counted
returns-clause-counted c = counted_whole c.args.b.now c.requires.lens.input.whole c.args.log_n c.mix_chunks.ensures.counted

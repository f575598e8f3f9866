use Rattle.scrypt_kernel.proofs.BlockMixFacts.{block_mix_by, block_mix_by_once}
use Rattle.scrypt_kernel.proofs.OrderFacts.{diagonal_inverse}
use Rattle.scrypt.proofs.laws.block_mix_in_diagonal_order.Goals as goal

pub returns-clause-mixed : goal.returns-clause-mixed
returns-clause-mixed c = block_mix_by diagonal_inverse

pub returns-clause-once : goal.returns-clause-once
returns-clause-once c = block_mix_by_once

use Rattle.std.proofs.lemmas.Grind.{common_steps}
use Rattle.std.proofs.lemmas.List.{places}
use Rattle.std.proofs.Common.{arith}
use Rattle.std.proofs.lemmas.Nat.{one_shl}
use Rattle.scrypt.proofs.AcceptedFacts.{small_log_n, small_rows}
use Rattle.scrypt.proofs.buffers.lens.BufferLens.with_rows.Goals as goal

pub overflow_mul-result-3 : goal.overflow_mul-result-3
overflow_mul-result-3 c = grind (arith, common_steps, places, small_rows, small_log_n, one_shl)

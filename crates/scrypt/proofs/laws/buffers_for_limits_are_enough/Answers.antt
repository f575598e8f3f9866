use Rattle.std.proofs.Common.{arith, rules}
use Rattle.std.proofs.lemmas.List.{places}
use Rattle.std.specs.Prelude.{IsTrue}
use Rattle.scrypt.specs.Terms.{AreFor, Parameters, are_enough}
use Rattle.scrypt.specs.declared.buffers.Buffers.{Buffers}
use Rattle.scrypt.proofs.ReadingFacts.{enough_decided, enough_for}
use Rattle.scrypt.proofs.StoredHashFacts.{enough_read, reading_accepted}
use Rattle.scrypt.proofs.laws.buffers_for_limits_are_enough.Goals as goal

each : (c : Parameters) (own : Buffers) → IsTrue (are_enough c own.chunks.items own.table.items own.scratch.items) → AreFor c own
each c own enough = grind (arith, enough_decided)

pub returns : goal.returns
returns c = search (rules, places, reading_accepted, each, enough_for, enough_read)

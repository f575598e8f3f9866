-- The bytes before `rest` were appended.
use Rattle.std.proofs.Common.{◌≡◌, ℕ, drop, take}
use Rattle.std.specs.Io.KnownBytes.{Appends}
use Rattle.scrypt_commands.proofs.run.write_line.Given as goal

abbrev pub invariant-writes : goal.invariant-writes
invariant-writes g l = (n : ℕ) × (l.rest ≡ drop n l.fn.line) × Appends (g.W.Write.contents l.fn.writer) (g.W.Write.contents l.writer) (take n l.fn.line)

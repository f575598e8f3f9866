use Rattle.std.proofs.Common.{inl}
use Rattle.scrypt.proofs.buffers.Buffers.within.Goals as goal

-- The search finds these too. With them the checker rejects wrong bodies immediately.
pub returns-clause-width : goal.returns-clause-width
returns-clause-width c = inl c.tables_within-width.ensures.exact

pub returns-clause-fits : goal.returns-clause-fits
returns-clause-fits c = c.tables_within-width.ensures.most.fits

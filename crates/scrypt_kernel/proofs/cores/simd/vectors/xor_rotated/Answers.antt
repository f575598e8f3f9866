use Rattle.std.proofs.Common.{ap, arith, bit_xor, ◌∙◌}
use Rattle.std.specs.Int.{w32, rotate_left}
use Rattle.std.proofs.lemmas.Simd.{shifts_fit_splat}
use Rattle.scrypt_kernel.specs.Words.{part}
use Rattle.scrypt_kernel.proofs.LaneFacts.{xor_rotated_by_parts}
use Rattle.scrypt_kernel.proofs.WordFacts.{part-zip2}
use Rattle.scrypt_kernel.proofs.cores.simd.vectors.xor_rotated.Goals as goal

pub overflow_shr-right : goal.overflow_shr-right
overflow_shr-right g c = shifts_fit_splat 32 c.args.y g.row.N _ (omega arith)

pub overflow_shl-left : goal.overflow_shl-left
overflow_shl-left g c = shifts_fit_splat 32 c.args.y g.row.N _ (omega arith)

pub returns-clause-value : goal.returns-clause-value
returns-clause-value g c i =
    ap (λ z. part 4 z i) (xor_rotated_by_parts c.args.k c.requires.0 c.requires.1 g.row.N c.args.x c.args.y c.fits-y.0 c.fits-y.1)
    ∙ part-zip2 (λ a b. bit_xor a (rotate_left w32 b c.args.k)) 4 i c.args.x c.args.y

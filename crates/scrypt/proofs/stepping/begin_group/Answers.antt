use Rattle.std.proofs.Common.{◌*◌, arith, refl}
use Rattle.scrypt.proofs.SteppingFacts.{chunks_inside, rest_kept}
use Rattle.scrypt.proofs.stepping.begin_group.Goals as goal

pub write_first_rows-requires-clause-inside : goal.write_first_rows-requires-clause-inside
write_first_rows-requires-clause-inside g c =
    let params = c.args.params.now in
    chunks_inside c.args.i c.group_by-n.result params.p (128 * params.r) _ (omega arith) c.requires.chunks

pub returns-clause-rest : goal.returns-clause-rest
returns-clause-rest g c =
    let tables = rw c.p-count.ensures.value at c.interleaved_chunks-tables.ensures.exact in
    rest_kept c.args.params.now c.group_by-n.result _ _ (omega (arith, c.group_by-n.ensures.within, tables)) refl
    c.write_first_rows.ensures.table_rest c.write_first_rows.ensures.scratch_rest

use Rattle.std.proofs.Common.{◌≡◌, ◌∙◌, ◌<◌, ◌*◌, ℕ, List, arith, refl, take_all, take_at}
use Rattle.std.proofs.Math.Nat.{mul-le-mul_right}
use Rattle.std.proofs.lemmas.List.{drop_at}
use Rattle.scrypt_kernel.specs.Steps.{all_mixes}
use Rattle.scrypt.specs.Terms.{IsRestKept, first_b, table_words, words_from, workspace_of}
use Rattle.scrypt.proofs.SteppingFacts.{all_done, chunks_inside, group_fits, more_mixes, rest_kept, rest_then}
use Rattle.scrypt.proofs.stepping.step.Goals as goal

pub end_group-requires-clause-inside : goal.end_group-requires-clause-inside
end_group-requires-clause-inside g c =
    let params = c.args.params.now in
    chunks_inside c.args.at.chunks c.args.at.interleaved params.p (128 * params.r) _ c.requires.going.within.chunks
    (c.split_at_mut-chunks.ensures.front_len ∙ c.index.ensures ∙ c.of.ensures.chunks)

pub begin_group-requires-clause-table : goal.begin_group-requires-clause-table
begin_group-requires-clause-table g c =
    let params = c.args.params.now in
    let some : 0 < c.args.at.interleaved = omega (arith, c.requires.going.within.some, c.requires.going.within.chunks, c.p.ensures.value) in
    omega (arith, mul-le-mul_right (table_words params.log_n params.r) some, c.requires.going.table_fits, c.mix_more-mixes.auto.table)

pub returns-clause-under_way : goal.returns-clause-under_way
returns-clause-under_way g c password salt at =
    let params = c.args.params.now in
    let b : List ℕ = first_b password salt params in
    let all : c.mix_more-mixes.result ≡ all_mixes params.log_n = grind (arith, all_done) in
    let mixed = rw all at (c.mix_more-mixes.ensures.mixed (words_from b params.r c.args.at.chunks) at.next) in
    grind (arith, take_at, take_all)

-- what a step within a group adds
pub returns-then-mixes-log_n-clause-exact : goal.returns-then-mixes-log_n-clause-exact
returns-then-mixes-log_n-clause-exact g c =
    omega (arith, more_mixes c.args.at.interleaved _ _ _ _ c.requires.going.within.mixes c.mix_more-mixes.ensures.done)

pub returns-clause-exact : goal.returns-clause-exact
returns-clause-exact g c =
    let params = c.args.params.now in
    let all : c.mix_more-mixes.result ≡ all_mixes params.log_n = grind (arith, all_done) in
    let more = more_mixes c.args.at.interleaved _ _ _ _ c.requires.going.within.mixes c.mix_more-mixes.ensures.done in
    rw (c.begin_group.ensures.start.0, c.begin_group.ensures.start.1) (omega (arith, rw all at more))

pub returns-then-mixes-log_n-clause-rest : goal.returns-then-mixes-log_n-clause-rest
returns-then-mixes-log_n-clause-rest g c = search (arith, rest_kept, group_fits)

pub returns-clause-rest : goal.returns-clause-rest
returns-clause-rest g c =
    let params = c.args.params.now in
    let before = workspace_of c.args.chunks.now c.args.table.now c.args.scratch.now in
    let mixed = workspace_of c.args.chunks.now c.mix_more-mixes.new.table c.end_group.new.scratch in
    let one : IsRestKept params before mixed = rest_kept params c.args.at.interleaved before mixed (group_fits _ _ _ _ _ _ c.requires.going c.expose_invariant.ensures.some.0) refl
    c.mix_more-mixes.ensures.table_rest (c.end_group.ensures.scratch_rest ∙ c.mix_more-mixes.ensures.scratch_rest) in
    let two = rest_then params before mixed (workspace_of c.args.chunks.now c.begin_group.new.table c.begin_group.new.scratch)
    c.mix_more-mixes.auto.table (c.end_group.auto.scratch ∙ c.mix_more-mixes.auto.scratch) one
    (record { chunks = refl; table = c.begin_group.ensures.rest.table; scratch = c.begin_group.ensures.rest.scratch }) in
    let long = c.end_group.auto.chunks ∙ c.split_at_mut-chunks.ensures.front_len ∙ c.index.ensures ∙ c.of.ensures.chunks in
    grind (arith, drop_at)

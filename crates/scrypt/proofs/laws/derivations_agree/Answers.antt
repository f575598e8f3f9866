use Rattle.std.proofs.Common.{arith, rules}
use Rattle.std.proofs.Common.{ℕ, ◌*◌, ◌++◌, refl, sym, ap₂, ◌∙◌, take}
use Rattle.std.proofs.lemmas.List.{length-take-le, take-append-drop, places}
use Rattle.scrypt.specs.Terms.{chunks_bytes, derived_key}
use Rattle.scrypt.proofs.SteppingFacts.{all_chunks_mixed}
use Rattle.scrypt.proofs.laws.derivations_agree.Goals as goal

pub returns-clause-calls : goal.returns-clause-calls
returns-clause-calls x c password salt n m old other made again a b d e long one two = grind arith

pub returns-clause-steps : goal.returns-clause-steps
returns-clause-steps x c password salt at to chunks table scratch others tables scratches same one two =
    let n : ℕ = at.chunks * (128 * c.r) in
    let y = take (chunks_bytes c.r c.p) chunks in
    let z = take (chunks_bytes c.r c.p) others in
    let again = rw (← same) at two.mixed in
    sym (take-append-drop n y) ∙ ap₂ (λ done rest. done ++ rest) (one.mixed.done ∙ sym again.done) (one.mixed.rest ∙ sym again.rest) ∙ take-append-drop n z

pub returns-clause-mixed : goal.returns-clause-mixed
returns-clause-mixed x c password salt at chunks table scratch ended room under_way = search (rules, places, all_chunks_mixed, length-take-le)

pub returns-clause-finished : goal.returns-clause-finished
unfolding derived_key
returns-clause-finished x c password salt n = refl

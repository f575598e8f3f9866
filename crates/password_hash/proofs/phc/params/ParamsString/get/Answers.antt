use Rattle.std.proofs.Common.{◌≢◌, ◌++◌, ℕ, List, map, ap, sym, ◌∙◌, rules}
use Rattle.std.proofs.lemmas.List.{append_assoc, map_push}
use Rattle.std.proofs.lemmas.List.Elements.{All-push}
use Rattle.std.proofs.lemmas.Slice.Eq.{bytes_eq-Decides}
use Rattle.password_hash.specs.Value.{item_pair}
use Rattle.password_hash.proofs.phc.params.ParamsString.get.Goals as goal

pub loop-ident-preserved : goal.loop-ident-preserved
loop-ident-preserved c =
    let pair : List ℕ × List ℕ = item_pair (c.in-Some.ident, c.in-Some.value) in
    let other : pair.0 ≢ c.args.name.now = search (rules, bytes_eq-Decides) in
    let seen = map item_pair c.loop-ident.yielded in
    record {
      others = rw map_push (All-push (λ pair. pair.0 ≢ c.args.name.now) seen pair c.loop-ident.invariant.others other);
      rest = rw (map_push, append_assoc) (ap (λ rest. seen ++ rest) (sym c.in-Some.ensures.steps) ∙ c.loop-ident.invariant.rest);
    }

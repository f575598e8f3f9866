use Rattle.std.proofs.Common.{◌≡◌, ◌≢◌, ◌++◌, ℕ, List, map}
use Rattle.std.specs.Prelude.{All}
use Rattle.password_hash.specs.Value.{item_pair}
use Rattle.password_hash.proofs.phc.params.ParamsString.get.Given as goal

abbrev pub invariant-loop-ident : goal.invariant-loop-ident
invariant-loop-ident l = record {
  others : All {X = List ℕ × List ℕ} (λ pair. pair.0 ≢ l.name) (map item_pair l.yielded);
  rest : map item_pair l.yielded ++ l.ident-iterator ≡ l.self;
}

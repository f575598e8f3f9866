use Rattle.std.proofs.Common.{◌≡◌, ◌++◌, length}
use Rattle.password_hash.specs.Pairs.{ArePairs, pairs_left, pairs_of}
use Rattle.password_hash.proofs.phc.params.ParamsString.parse.Given as goal

-- the parameters so far and the pairs that are left are those of the text
abbrev pub invariant-loop-left : goal.invariant-loop-left
invariant-loop-left l = record {
  pairs : ArePairs l.params;
  read : l.params ++ pairs_left l.left ≡ pairs_of l.text;
}

abbrev pub decreases-loop-left : goal.decreases-loop-left
decreases-loop-left l = length (pairs_left l.left)

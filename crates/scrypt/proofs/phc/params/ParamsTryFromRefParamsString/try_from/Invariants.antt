use Rattle.std.proofs.Common.{◌≡◌}
use Rattle.scrypt.specs.PhcParams.{params_of_pairs, read_pairs}
use Rattle.scrypt.proofs.phc.params.ParamsTryFromRefParamsString.try_from.Given as goal

-- what is left gives what all gives
abbrev pub invariant-pairs : goal.invariant-pairs
invariant-pairs l = read_pairs l.log_n l.r l.p l.name-iterator ≡ params_of_pairs l.text

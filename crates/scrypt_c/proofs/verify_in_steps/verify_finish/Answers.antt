use Rattle.std.proofs.Common.{ap, arith, ℕ, List, Result, IfOk, rules, w32}
use Rattle.std.proofs.lemmas.Int.{to_z-of_z}
use Rattle.scrypt.specs.Terms.{IsUnderWay, Refusal, Stored}
use Rattle.scrypt.specs.declared.stepping.Progress.{Progress}
use Rattle.scrypt_c.specs.{params_of, result_status}
use Rattle.scrypt_c.proofs.verify_in_steps.verify_finish.Goals as goal

-- the length that parameters may have does not matter
under_way : (password : List ℕ) (at : Progress) (chunks table scratch : List ℕ) (read : Result Stored Refusal)
    → IfOk read (λ s. IsUnderWay password s.salt (params_of s.params.log_n s.params.r s.params.p) at chunks table scratch)
    → IfOk read (λ s. IsUnderWay password s.salt s.params at chunks table scratch)
under_way password at chunks table scratch read come = grind arith

pub returns-clause-finished : goal.returns-clause-finished
returns-clause-finished c = record {
  unread = search rules;
  buffers = search rules;
  unfinished = search rules;
  verdict_is = λ long all table scratch come.
      let its = under_way _ _ _ table scratch _ (rw c.in-Ok.ensures.reading at come) in
      rw (to_z-of_z w32 c.verdict_status.result (search rules), c.in-Ok.ensures.reading, c.verdict_status.ensures) (ap result_status (c.finish_verify.ensures.verdict table scratch its));
}

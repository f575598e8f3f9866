use Rattle.std.proofs.Common.{◌∙◌, rules, arith, sym}
use Rattle.std.proofs.lemmas.Bool.{false≢true}
use Rattle.std.proofs.lemmas.Grind.{common_steps}
use Rattle.scrypt_commands.proofs.OutcomeFacts.{end_outcome, output_failed}
use Rattle.scrypt_commands.proofs.run.run_command.Goals as goal

pub returns-in-Err-clause-run : goal.returns-in-Err-clause-run
returns-in-Err-clause-run g c = record {
  outcome = end_outcome _ _ _ _ _ _ c.end.result c.in-Err.error c.end.ensures.status c.in-Err.ensures.nothing c.end.ensures.written
      c.in-Err.ensures.err;
  out_of_memory = search rules;
  failed = search rules;
  input_failed = search rules;
  nothing = search rules;
  begun = λ four quiet. c.in-Err.ensures.begun (output_failed c.in-Err.error (sym c.end.ensures.status ∙ four)
      (λ it. false≢true (sym quiet ∙ c.end.ensures.failed.1 it)));
  unread = search rules;
  read = grind (arith, common_steps, c.in-Err.ensures.read_before_error);
  done = search rules;
  no_error = search rules;
}

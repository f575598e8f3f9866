use Rattle.std.proofs.Common.{rules}
use Rattle.scrypt_c.proofs.in_steps.key_finish.Goals as goal

pub returns-in-Ok-finish-clause-finished : goal.returns-in-Ok-finish-clause-finished
returns-in-Ok-finish-clause-finished c = record {
  params = search rules;
  buffers = search rules;
  one = search rules;
  unfinished = search rules;
  length_is = search rules;
  ended = search rules;
  value = λ ok. rw c.in-Ok.ensures.value at c.in-Ok-finish.ensures.value;
  refused = search rules;
}

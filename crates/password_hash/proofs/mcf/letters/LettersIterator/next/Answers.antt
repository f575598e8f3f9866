use Rattle.std.proofs.Common.{arith}
use Rattle.password_hash.specs.Crypt64.{letters_of, crypt64_of}
use Rattle.password_hash.proofs.Crypt64Facts.{next_letter}
use Rattle.password_hash.proofs.mcf.letters.LettersIterator.next.Goals as goal
use Rattle.password_hash.proofs.mcf.letters.LettersIterator.next.Goals.{then-self-eq0+in_ok-self, else-self-eq0}

pub returns-in_err-self-clause-steps : goal.returns-in_err-self-clause-steps
unfolding letters_of crypt64_of
returns-in_err-self-clause-steps c = grind arith

pub returns-clause-steps : goal.returns-clause-steps
unfolding letters_of
returns-clause-steps c = grind (arith, then-self-eq0+in_ok-self, next_letter, else-self-eq0)

pub returns-clause-goes : goal.returns-clause-goes
returns-clause-goes c = grind (arith, returns-clause-steps)

-- The words of a command, and the tests of parameters and lengths.
pub mod CommandFacts
-- Making hashes, carrying out a command, and the outcome and the plan of a run.
pub mod OutcomeFacts

-- In reading order: the options, the errors, the commands that the arguments ask for, and the
-- output of the program.

-- the options before a command, and the limits that they set on a stored hash
pub mod Options
-- the errors that end a run without an answer: statuses and error lines
pub mod CliError
-- parsed command lines, and whether their options fit the command
pub mod Invocation
-- the requests of commands, and the errors in their words
pub mod Command
-- the program's output for its arguments and its input
pub mod Outcome
-- runs: their output, and the bytes that they read and write
pub mod Run
-- the definitions of all these files, for clauses and proofs
unfoldable pub use Options.*
unfoldable pub use CliError.*
unfoldable pub use Invocation.*
unfoldable pub use Command.*
unfoldable pub use Outcome.*
unfoldable pub use Run.*

-- The table of contents, in reading order: a file cites only those above it.

-- the lengths of the caller's buffers
pub mod Buffers
-- how the texts of hashes are read, as bytes
pub mod Texts
-- the statuses of readings, verdicts and errors
pub mod Statuses
-- the statuses of a cost within limits
pub mod Limits
-- the cost of a derivation
pub mod Cost
-- what a derivation returns and writes, its work, and the caller's buffers
pub mod Keys
-- the parameters of new hashes, and how their texts are copied to the caller
pub mod Made
-- several verdicts in the caller's buffers
pub mod InBuffers
-- keys in steps
pub mod Steps
-- the definitions of all these files, for clauses and proofs
unfoldable pub use Buffers.*
unfoldable pub use Texts.*
unfoldable pub use Statuses.*
unfoldable pub use Limits.*
unfoldable pub use Cost.*
unfoldable pub use Keys.*
unfoldable pub use Made.*
unfoldable pub use InBuffers.*
unfoldable pub use Steps.*

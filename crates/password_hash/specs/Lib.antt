-- The table of contents, in reading order: a file cites only those above it.

-- the errors, by their values
pub mod Refusal
-- what is accepted and refused
pub mod Verifying
-- lists of bytes of a limited length
pub mod ShortBytes
-- the letters of identifiers, names and values
pub mod Letters
-- numbers in decimal digits
pub mod Decimal
-- texts that consist of parts, each after a `$`
pub mod Parts
-- the value of a parameter
pub mod Value
-- the parameters of a PHC hash, and their text
pub mod Pairs
-- PHC hashes, and their texts
pub mod Phc
-- the reading of a PHC string
pub mod PhcReading
-- crypt Base64
pub mod Crypt64
-- MCF strings
pub mod Mcf
-- borrowed MCF strings
pub mod McfViews
-- the definitions of all these files, for clauses and proofs
unfoldable pub use Refusal.*
unfoldable pub use Verifying.*
unfoldable pub use ShortBytes.*
unfoldable pub use Letters.*
unfoldable pub use Decimal.*
unfoldable pub use Parts.*
unfoldable pub use Value.*
unfoldable pub use Pairs.*
unfoldable pub use Phc.*
unfoldable pub use PhcReading.*
unfoldable pub use Crypt64.*
unfoldable pub use Mcf.*
unfoldable pub use McfViews.*

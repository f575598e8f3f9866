-- The table of contents, in reading order: a file cites only those above it.

-- RFC 7914, section 3: words, bytes and blocks
pub mod Words
-- RFC 2104: HMAC with SHA-256
pub mod Hmac
-- RFC 8018, section 5.2: PBKDF2 with one iteration
pub mod Pbkdf2
-- the cost of PBKDF2 in blocks that SHA-256 compresses
pub mod Pbkdf2Cost
-- RFC 7914, section 3: the Salsa20/8 core
pub mod Salsa
-- how many cores were run, and how many blocks SHA-256 compressed
pub mod Count
-- RFC 7914, section 4: scryptBlockMix
pub mod BlockMix
-- RFC 7914, section 5: scryptROMix
pub mod RoMix
-- the same with the array V and the loops of the standard
pub mod RoMixLoops
-- the cost of one scryptROMix in cores and in memory, and buffers of these lengths
pub mod RoMixCost
-- the order of the words of a block whose core is computed in four lanes
pub mod Diagonal
-- the cost of one scryptROMix with a table that keeps some rows of V, or all of them
pub mod Table
-- a text that is being hashed, and PBKDF2 whose blocks are being written
pub mod HmacState
-- Private, since only functions that the crate scrypt does not export cite these:
-- the four lanes of the core
pub mod Lanes
-- parts of the same length
pub mod Parts
-- the rows that a table keeps, and the walk over them
pub mod KeptRows
-- a caller's buffer that a table is in
pub mod Memory
-- scryptROMix in steps, in the caller's buffers
pub mod Steps
-- The definitions of all these files, which clauses and proofs import from here. `count.rt` names the files itself, since they
-- import its struct, whose ghost fields would import this one.
unfoldable pub use Words.*
unfoldable pub use Hmac.*
unfoldable pub use Pbkdf2.*
unfoldable pub use Pbkdf2Cost.*
unfoldable pub use Salsa.*
unfoldable pub use Count.*
unfoldable pub use BlockMix.*
unfoldable pub use RoMix.*
unfoldable pub use RoMixLoops.*
unfoldable pub use RoMixCost.*
unfoldable pub use Diagonal.*
unfoldable pub use Table.*
unfoldable pub use HmacState.*
unfoldable pub use Lanes.*
unfoldable pub use Parts.*
unfoldable pub use KeptRows.*
unfoldable pub use Memory.*
unfoldable pub use Steps.*

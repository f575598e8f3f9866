-- The table of contents, in reading order: a file cites only those above it.

-- the steps below the derivation of a key
pub use Rattle.scrypt_kernel.specs.Words
pub use Rattle.scrypt_kernel.specs.Hmac
pub use Rattle.scrypt_kernel.specs.Pbkdf2
pub use Rattle.scrypt_kernel.specs.Pbkdf2Cost
pub use Rattle.scrypt_kernel.specs.Salsa
pub use Rattle.scrypt_kernel.specs.BlockMix
pub use Rattle.scrypt_kernel.specs.RoMix
pub use Rattle.scrypt_kernel.specs.RoMixCost
pub use Rattle.scrypt_kernel.specs.Diagonal
pub use Rattle.scrypt_kernel.specs.Table
pub use Rattle.scrypt_kernel.specs.Count
pub use Rattle.scrypt_kernel.specs.Steps
-- RFC 7914, section 6: the derived key
pub mod Key
-- the chunks of B mixed in another order
pub mod ChunkOrder
-- RFC 7914, section 6: which parameters and output lengths are accepted
pub mod Accepted
-- what a derivation costs in cores, in blocks that SHA-256 compresses, and in memory
pub mod Cost
-- limits on the memory and the work of a derivation
pub mod Limits
-- the messages of errors
pub mod ErrorText
-- the key of parameters, its cost, and the lengths that a `Kdf` rejects
pub mod KeyOfParams
-- the errors of making a hash, in every format
pub mod Hashing
-- the result of reading a stored hash, and the verdict, in every format
pub mod Reading
-- decoys, which are verified if there is no stored hash
pub mod Decoy
-- the caller's buffers: long enough, wiped, and written to
pub mod InBuffers
-- the workspace of one derivation: the verdict in it, and its contents afterwards
pub mod Workspace
-- parameters read from a PHC string or a hash, and written
pub mod PhcParams
-- PHC hashes: how they are made and read
pub mod PhcHash
-- five-letter numbers, and the parameters of a `$7$` hash
pub mod McfParams
-- `$7$` hashes: how they are read and made
pub mod McfHash
-- stored hashes of either format, by their texts
pub mod StoredHash
-- the texts of salts and keys
pub mod TextOfKey
-- verifying within limits
pub mod WithinLimits
-- verifying several passwords in one workspace
pub mod Logins
-- the public part of a verification, on which alone its work depends
pub mod PublicPart
-- a derivation in steps: the contents of its buffers between two steps
pub mod Stepping
-- buffers that a caller reuses from call to call
pub mod Buffers
-- private: the groups of chunks of B that are interleaved, and the memory for them
pub mod Mixing
-- private: the salt and the key of a hash
pub mod StoredKey
-- private: the contents of a stored hash
pub mod StoredParts
-- all definitions above from one file, for clauses and proofs, those of other crates too
pub mod Terms

-- Bounds on accepted parameters.
pub mod AcceptedFacts
-- Facts on the chunks of B, which are mixed one after another.
pub mod KeyFacts
-- Facts on the cores of a derivation.
pub mod CostFacts
-- Facts on the chunks of B, mixed one after another in any order.
pub mod ChunkFacts
-- The standard's own vector of a derived key, computed by the definitions, so that a wrong step or constant in a definition does not check.
pub mod StandardFacts
-- What follows from the reading of a hash: the verdict, and the memory that is left.
pub mod ReadingFacts
-- No password has the key of a decoy, and its public part is that of a hash.
pub mod DecoyFacts
-- Facts on several logins, whose keys are derived at once.
pub mod LoginFacts
-- The work and the memory of a verification depend on its public part alone.
pub mod PublicFacts
-- Facts on PHC hashes of scrypt, and on their parameters as pairs.
pub mod PhcFacts
-- Facts on five-letter numbers and on the parameters with which a field begins.
pub mod McfParamsFacts
-- Facts on `$7$` hashes: what the parts of a text are read as, and the text of a hash.
pub mod McfHashFacts
-- The text that hashing writes is that of the hash.
pub mod McfTextFacts
-- Facts on stored hashes of either format: how their texts are read.
pub mod StoredHashFacts
-- The texts of salts and keys.
pub mod TextOfKeyFacts
-- Texts of stored hashes, read by the definitions alone, so that a wrong bound, order or refusal in a definition does not check.
pub mod ReadingVectors
-- Facts on a derivation in steps.
pub mod SteppingFacts

-- Facts on the count of cores.
pub mod CountFacts
-- Facts on lists of words.
pub mod WordFacts
-- Facts on a list that is cut into parts of s elements each.
pub mod PartFacts
-- Facts on words whose blocks are permuted, and on the number that the last block's bytes write.
pub mod OrderFacts
-- Facts on vectors of four lanes, and on a block in diagonal order as four of them.
pub mod LaneFacts
-- Facts on the Salsa20/8 core.
pub mod SalsaFacts
-- Facts on scryptBlockMix.
pub mod BlockMixFacts
-- Facts on scryptROMix.
pub mod RoMixFacts
pub mod RoMixLoopFacts
-- Facts on the walk over a table that keeps some rows, or all of them.
pub mod WalkFacts
-- Facts on the words and the bytes of several chunks.
pub mod ChunkFacts
-- Facts on scryptROMix in steps.
pub mod StepFacts
-- Facts on the blocks that SHA-256 compresses.
pub mod HashFacts
-- Facts on HMAC and PBKDF2.
pub mod Pbkdf2Facts
-- The standards' own vectors, computed by the definitions, so that a wrong step or constant in a definition does not check.
pub mod StandardFacts

-- How bytes are read.
pub mod TextFacts
-- What verifying leaves in the caller's buffers.
pub mod InBuffersFacts
-- New hashes, in the caller's buffer.
pub mod MadeFacts
-- A hash that was written, and is verified.
pub mod RoundTripFacts
-- Steps of a key, one after another.
pub mod SessionFacts

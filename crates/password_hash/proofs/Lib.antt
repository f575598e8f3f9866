-- Pairs and their text, one more pair at the end, and texts of parts, each after a `$`.
pub mod ParamsFacts
-- Base64 of bytes, and the bytes that letters decode to.
pub mod Base64Facts
-- Decimal digits.
pub mod DecimalFacts
-- A hash and the parts of its text: PHC strings are read as the hashes that they are printed of.
pub mod PhcReadingFacts
-- What follows from the alphabet and the definitions of crypt Base64.
pub mod Crypt64Facts
-- Bytes and letters by groups: how many there are, what a group encodes, and what letters decode to.
pub mod GroupFacts
-- What follows from the definition of MCF strings: each has one id and one list of fields, and
-- texts put together by parts are MCF strings.
pub mod McfFacts
-- Texts, read and printed by the definitions alone, so that a wrong letter, order or bound in a
-- definition does not check.
pub mod StandardFacts

-- What keeps an account open, call by call.
pub mod AccountFacts

-- the keys of encrypted files
pub mod KeyFile
-- enrolling and logging in
pub mod Login
-- an account, and the histories of calls on it
pub mod Account

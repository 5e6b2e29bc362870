pub mod Frames
pub mod Sets
pub mod Walks
pub mod Entries

pub mod Commands
pub mod Handed
pub mod TypedCalls

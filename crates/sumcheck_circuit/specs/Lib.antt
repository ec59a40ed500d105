pub mod CircuitJob
pub mod CircuitLines
pub mod CircuitReplies
pub mod PromisedCircuits

-- What the engine means and promises.
pub mod Standing
pub mod Former
pub mod Answers
pub mod Rules
pub mod Promises
pub mod Model
pub mod Demands
pub mod OneMemory

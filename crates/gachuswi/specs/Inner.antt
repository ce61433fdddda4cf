-- What holds inside.
pub mod Held
pub mod HeldTasks

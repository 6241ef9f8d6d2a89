pub mod Bodies
pub mod Selecting

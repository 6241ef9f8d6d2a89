pub mod WordForms
pub mod Rooms

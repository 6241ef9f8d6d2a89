pub mod Settling
pub mod Models
pub mod Assuming
pub mod Laws

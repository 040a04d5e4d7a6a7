pub mod Spelled
pub mod Numbers
pub mod Classes
pub mod Gives

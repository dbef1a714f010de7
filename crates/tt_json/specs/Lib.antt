pub mod Value
pub mod Number
pub mod Fit
pub mod Tape
pub mod Text

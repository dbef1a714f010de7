pub mod Crash
pub mod Device
pub mod Lines
pub mod Log
pub mod Reading
pub mod Show

mod Writing
mod Repairing
mod Explaining
mod Changing
mod Telling
mod Refusing
mod Forgetting
mod Logging

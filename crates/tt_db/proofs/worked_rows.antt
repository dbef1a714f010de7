mod Histories
mod Repairs
mod ClosedGenerations
mod Causes
mod Differences
mod Trials

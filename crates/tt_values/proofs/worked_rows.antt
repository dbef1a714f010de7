pub mod Accounts
mod Writes
mod Contents
mod Actions
mod WholeActions
mod Comparisons
mod Checks
mod Catalogs

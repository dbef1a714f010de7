pub mod Accounts
mod ReadingBack
mod Conditions
mod WholeActions

mod Causes
mod WholeActions
mod Differences

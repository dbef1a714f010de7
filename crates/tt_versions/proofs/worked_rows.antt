mod Sides
mod Ranges

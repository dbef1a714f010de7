mod Repairs
mod DueSlots
mod NextSides
mod Actions
mod WholeActions

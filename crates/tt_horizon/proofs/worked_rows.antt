mod Grounds
mod Repairs
mod Forgetting

mod Active
mod Members
mod Lasting
mod Targets
mod Ends
mod Since
mod Following
mod Along
pub mod Fitting
pub mod Playing
mod Rounds
mod Soon
mod Limits
mod Lawful

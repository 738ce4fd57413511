mod Forms
mod Laws
mod Nexts
mod Arriving
mod Activity
mod Services
mod Plants
mod Played
mod Following
mod Pending
mod Standings
mod Starting
mod Executing
mod Calling
pub mod LapsRows
pub mod LapsTables
pub mod LapsSteps
pub mod LapsContexts
pub mod LapsKept
pub mod LapsDepth
mod Running
mod Turns
mod Rounds

mod Totals
mod Amounts
mod Factors
mod DifferingStates
mod FamilyTotals
mod Prices
mod Depths
mod Strings
mod RoundTotals
mod ArrivingTotals
pub mod SmallRows
mod LinkLists
mod LinkRanks
mod LinkEntries
mod LinkFactors
mod LinkNodes
mod LinkRows
mod LinkChains
pub mod LinkLaw

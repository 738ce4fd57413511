pub mod Links
pub mod Chains
pub mod Squeezed
pub mod Lift
pub mod Laws
pub mod Samples
pub mod Working

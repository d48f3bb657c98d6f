pub mod Parts
pub mod RoundTrips
pub mod laws

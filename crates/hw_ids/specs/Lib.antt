pub mod Classes
pub mod Ids
pub mod MonitoringIds
pub mod Uses

pub mod GroupWrites
pub mod PlanReading
pub mod ReadBack

pub mod Apart
pub mod FoundJournals
pub mod MadeOf
pub mod RimEndings
pub mod SteppedPlays
pub mod Verdicts

pub mod CdpReport
pub mod CountedCaches
pub mod LevelReport
pub mod LinesBefore
pub mod MadeGroups
pub mod PairCommands
pub mod PairCounts
pub mod PairOpTexts

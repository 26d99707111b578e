mod Drawn
pub mod Erasing
mod Judged
pub mod Marks
mod OneRecovery
pub mod RecordWords
pub mod MarkedLines
pub mod PartOfReadings
pub mod CompletedTimes
pub mod Placed
mod NoneBeyond
mod SidesCalled
mod CleanJudged
pub mod ReadRuns
pub mod CleanLeading
pub mod CleanSought
pub mod DrawnSides
pub mod ChaptersRead

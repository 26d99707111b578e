pub mod AddedRows
mod Common
pub mod Counts
pub mod Devices
pub mod DrawEnds
pub mod DrawSteps
pub mod DrawnDocument
pub mod DrawnLemmas
pub mod DrawnReads
pub mod Entries
pub mod FeedEnds
pub mod FeedLoop
pub mod FeedSteps
pub mod FeedTexts
pub mod Growing
mod HeldRows
pub mod OneDocument
pub mod OneRecoveredDocument
pub mod OneShown
pub mod Pieces
pub mod Positions
pub mod PullEnds
pub mod PullFaults
pub mod PullRows
pub mod Pulled
mod PulledRows
pub mod PutFieldSteps
pub mod PutSteps
pub mod RowSteps
pub mod RunLaws
pub mod WordRowLaw
pub mod WordRowLemmas

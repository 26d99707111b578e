pub mod Jobs
pub mod OneLine

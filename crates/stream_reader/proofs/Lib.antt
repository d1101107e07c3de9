pub mod LastRuns
pub mod Log
pub mod Part
pub mod Placed
pub mod PutRuns
pub mod Records
pub mod Runs

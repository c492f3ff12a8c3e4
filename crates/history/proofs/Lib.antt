pub mod PutBack
pub mod Exact
pub mod Pushing
pub mod RingLaws
pub mod Amending
pub mod Variable
pub mod Runs

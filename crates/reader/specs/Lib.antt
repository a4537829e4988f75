pub mod Handing
pub mod HandingLaws
pub mod WholeLog

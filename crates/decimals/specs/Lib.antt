pub mod Written
pub mod WrittenLaws
pub mod Decimals
pub mod DecimalsLaws
pub mod DigitTurnsLaws

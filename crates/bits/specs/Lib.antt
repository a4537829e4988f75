pub mod Bits
pub mod BitsLaws

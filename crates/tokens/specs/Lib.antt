pub mod Lexing
pub mod Steps
pub mod LexingLaws
pub mod TokensLaws
pub mod StepsLaws

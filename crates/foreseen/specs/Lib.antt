pub mod Foreseen
pub mod WeighLaws
pub mod CountLaws
pub mod ForeseenLaws

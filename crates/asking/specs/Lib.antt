pub mod Texts
pub mod TextsLaws

pub mod Keeping
pub mod SiftedLaws
pub mod GrownLaws
pub mod KeptAfterLaws
pub mod SiftLaws
pub mod GrowRowLaws
pub mod GrowLaws
pub mod KeepLaws

pub mod Parts
pub mod PartsLaws
pub mod AtomsLaws
pub mod ReadersLaws

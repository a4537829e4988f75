pub mod Split
pub mod Places
pub mod PlacesLaws
pub mod SplitLaws
pub mod FieldsLaws
pub mod FieldsInTurn
pub mod SameLaws

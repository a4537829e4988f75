pub mod NamesAt
pub mod PlacesLaws

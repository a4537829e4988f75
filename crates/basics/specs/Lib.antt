pub mod Tests
pub mod Lists
pub mod Sets
pub mod Answers
pub mod Asked
pub mod Left

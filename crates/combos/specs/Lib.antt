pub mod LibraryLaws

pub mod LibraryLaws
pub mod Restrictions
pub mod RestrictionsLaws

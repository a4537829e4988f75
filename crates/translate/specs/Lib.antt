pub mod Translations
pub mod TranslationsLaws

pub mod Printing
pub mod Prints
pub mod PrintingLaws
pub mod RowsLaws
pub mod CallLaws

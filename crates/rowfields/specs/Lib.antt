pub mod Said
pub mod ValuesLaws
pub mod SaidLaws

pub mod Spans
pub mod AgreeLaws
pub mod SpanLaws
pub mod FindLaws

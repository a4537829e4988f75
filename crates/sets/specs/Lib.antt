pub mod Shapes
pub mod ShapesLaws

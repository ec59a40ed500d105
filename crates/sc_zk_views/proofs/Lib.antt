pub mod SumLaws
pub mod RoundLaws
pub mod ViewLaws
pub mod ShapeLaws

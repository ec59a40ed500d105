pub mod SixteenLaws

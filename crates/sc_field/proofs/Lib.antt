pub mod PowersLaws
pub mod SumsLaws
pub mod DotLaws
pub mod EntryLaws
pub mod WrittenLaws
pub mod ColumnLaws
pub mod NodeLaws
pub mod RootLaws

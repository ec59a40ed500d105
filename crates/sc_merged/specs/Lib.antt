pub mod SameRows
pub mod WeightedPolys
pub mod BoundPolys
pub mod MergedViews
pub mod MergedPlays
pub mod MergedTurns

pub mod MadeLaws
pub mod StrideLaws
pub mod MadeJobs
pub mod WorkedMade

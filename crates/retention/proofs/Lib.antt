mod PlaceLemmas
mod LookLemmas
mod FieldLemmas
mod TellLemmas
mod StoryLemmas
mod LifeLemmas
pub mod WayOrder
pub mod WalkSteps
pub mod PathLemmas
pub mod SearchSteps
pub mod GatherSteps
pub mod PartSteps
pub mod LayoutLemmas
pub mod GraphPaths
pub mod JoinSteps
pub mod HeldLemmas
pub mod GraphLaws
pub mod CycleLaws
pub mod OwnLemmas
mod CyclicLemmas
mod BackLemmas
mod CountLemmas
pub mod BeginLemmas
pub mod MadeLemmas
pub mod LeftSteps
mod DatingLemmas
mod RetainingLemmas
mod LossDates
mod AccountLemmas
mod UnderLemmas
mod SinceTold
mod HoldersTold
mod RetainedTold
mod AccountsTold
mod TotalsTold
pub mod ShownSteps
mod NotedTold

pub mod GatheringLemmas
pub mod MergedLemmas
pub mod TrimmingLemmas
pub mod AgreeLemmas
pub mod MeetingLemmas
pub mod JoiningLemmas
pub mod IslandLemmas
pub mod SuspectLemmas

pub mod SinceLemmas
mod LookedLemmas
pub mod WayLemmas
mod RetainedLemmas
mod SpareLemmas
pub mod StayLemmas
pub mod LossLemmas
pub mod LawsHold

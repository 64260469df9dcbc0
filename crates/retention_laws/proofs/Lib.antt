mod LeadLemmas
mod HolderLemmas
mod ExplainedLemmas
mod ApartLemmas

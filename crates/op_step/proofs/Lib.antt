mod MeterLemmas
mod NameLemmas
mod NamedLemmas
mod ScopeLemmas
mod StepLemmas
mod ToldLemmas

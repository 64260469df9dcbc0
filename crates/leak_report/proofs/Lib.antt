mod HolderLemmas
mod LifeLemmas
mod LineLemmas
mod RisingLemmas
mod ToldLemmas
mod StretchLemmas

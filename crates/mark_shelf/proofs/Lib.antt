mod FindLaws
mod MarkLemmas
mod ChunkLemmas
mod JointLemmas

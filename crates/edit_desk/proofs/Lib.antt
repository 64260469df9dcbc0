pub mod LegalLemmas

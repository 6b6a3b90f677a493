mod Each
mod OrderLemmas

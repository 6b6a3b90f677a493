mod Each
mod MarksLemmas

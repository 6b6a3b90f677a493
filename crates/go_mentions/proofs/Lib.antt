mod Each
mod BoxedLemmas

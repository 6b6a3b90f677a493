mod ListLemmas
mod CycleLemmas
mod StaysLemmas
mod SearchLemmas
mod RankLemmas

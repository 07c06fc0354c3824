mod TaskLemmas
mod FileLemmas

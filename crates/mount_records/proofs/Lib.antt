mod StoredLemmas

-- The lemmas of the proofs.
mod Lists
mod Words

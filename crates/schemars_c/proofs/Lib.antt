-- The lemmas.
mod Lines
mod Numbers
mod Vocabulary

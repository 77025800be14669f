-- What the proofs of this crate share.
mod Fills

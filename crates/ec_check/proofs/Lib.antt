mod Faults
mod Pieces

mod Pieces
mod Lines
mod Cuts
mod Fewer
mod Seen

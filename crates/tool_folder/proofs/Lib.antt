mod FileNames
mod BoundedReads

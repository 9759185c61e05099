mod Linked
mod Carefully
mod Slowly
mod Computed

pub mod FormedParts
pub mod Stands
pub mod Returning
pub mod Typed
pub mod OneNode
pub mod Makings
pub mod Names
mod WholeNodes
mod FilledParts
mod Agreeing
mod BuiltTrees
pub mod Sites
pub mod Boards
mod TreeFacts
mod TreeParts
pub mod Trees
pub mod Counts
pub mod Suffixes
pub mod Items
pub mod Placing
pub mod Makers
pub mod Searching
mod Pigeons
pub mod Chains
pub mod Climbing
pub mod Members
pub mod Classes
pub mod Routines
pub mod Constructors
pub mod Facts
pub mod DeclaredTypes
pub mod TextBehind
pub mod Parts
pub mod Whole
mod WholePrograms
mod BuiltPrograms
mod BuiltTexts
pub mod OwnFunctions
pub mod Rounds
pub mod Accepting
mod FormedTrees
mod FormedUnits
mod TextsKept
mod NamedPrograms
mod NoFailure
mod Prelude
mod LibraryRows
mod LibraryWhole
mod First
mod Weights
pub mod Laws

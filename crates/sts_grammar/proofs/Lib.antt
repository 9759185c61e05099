mod Examples
mod Tokens
mod Operators
pub mod Spans
pub mod SoundHeadings
pub mod Headings
mod SoundLists
mod SoundPrimaries
mod SoundExpressions
pub mod SoundDeclarations
mod SoundStatements
pub mod Sound
pub mod Levels
pub mod Begins
pub mod Turns
mod Operands
pub mod Statements
pub mod Complete
pub mod Unique
mod UnitTokens
mod FieldEnds
mod SoundUnits
mod CompleteUnits
mod Below
mod Programs
mod Verdicts
pub mod Laws

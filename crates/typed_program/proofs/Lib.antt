mod Accepted
mod Saying
mod ElaboratedParts
mod ElaboratedTexts
mod TextBytes
mod LibraryBehind
mod AcceptedPrograms
mod OneAnswers
mod SomeAnswers
mod FilledTexts
mod ReadTexts
mod NodePlaces
mod SpelledPlaces
mod FailurePlaces
mod PassPlaces
mod TextPlaces
mod AtMost
mod Takes
pub mod Checked
pub mod ClassParts
pub mod Classes
pub mod Before
pub mod Constructors
pub mod Counted
pub mod Globally
pub mod Initials
pub mod Items
pub mod Numbered
pub mod Few
pub mod Mains
pub mod Makers

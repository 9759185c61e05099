pub mod Standing
pub mod Turns
pub mod Again
pub mod FiberGoesOn
pub mod Joins
pub mod Ends
pub mod Raises
pub mod Course
pub mod Few
pub mod Further
pub mod OutsideActs
pub mod Mounted
pub mod Acting
pub mod Instructs
pub mod Bits
pub mod Begins
pub mod AskServices
pub mod FiberBlocks
pub mod Services
pub mod FiberLeaves
pub mod EndServices
pub mod FlashTexts
pub mod ServedAs
pub mod Stepping
pub mod ScriptEntries
pub mod Dispatching
pub mod ClockMoves
pub mod Settling
pub mod Executing
pub mod Finished
pub mod Others
pub mod Parted
pub mod Laws
mod Waiting
mod Proceeding
mod ClockToEvents
mod AtMoment
mod Through
mod FirstMoment
mod ThroughFirst
mod LedLines
mod AtOnce
mod BehindClosing
mod Closed

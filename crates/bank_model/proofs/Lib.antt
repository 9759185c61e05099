mod Parts
mod BankRefines
mod RamSteps
mod FollowsRam
mod OneStep
mod OneFiber
pub mod Laws
mod AboveBase
mod OnStack
mod ItsTurn
mod UsedWords
mod FreeLoads
mod FreePush
mod FreeSteps
mod FreeWords
mod FreeRuns

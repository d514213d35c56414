pub mod AnswerRuns
mod Apart
mod Bases
pub mod BitLaws
mod Branches
mod CellLists
pub mod CodeLaw
mod CodeRows
mod Depth
mod DepthLaws
pub mod Edges
mod EventTable
mod Exprs
mod FirstState
mod Flow
pub mod FormAnswers
mod FormViews
mod GoodEntries
mod GoodLists
mod JumpRows
pub mod Jumps
pub mod LaidOut
pub mod Layouts
pub mod Lengths
mod Monotone
mod NativeCalls
mod NativeNames
mod NativeRuns
mod NativeTicks
mod NativeValues
pub mod Nodes
mod Outside
mod PartOrder
mod Placed
mod PlacedLaws
mod Puts
pub mod Reach
mod Scripts
mod Shown
mod Silences
mod Standing
mod Stores
pub mod TextPlaces
mod TickRows
mod Values
mod WordRows

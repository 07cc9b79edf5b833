pub mod ForLines
pub mod ForFaultless
mod Exchanging
mod Alike
pub mod IdsRising
pub mod Counted
pub mod Making
pub mod Steps
pub mod RoomsServe
pub mod Sums
pub mod Full
mod Heads
pub mod Showing
pub mod Stocks
pub mod Pushed
pub mod LinesHaveRoom
pub mod Firsts
pub mod CallsFollowed
pub mod Greeting
pub mod PushesFollowed
mod FirstShown
mod Line
mod Begins
pub mod RunsBehind
pub mod Drills
mod Folding
mod Named
mod Counting
mod Issued
mod NobodyRuns
pub mod PlainScripts
pub mod OfAgreedLines

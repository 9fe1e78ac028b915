pub mod Numbered
pub mod Counting
pub mod TupleChanges
pub mod Weighing
pub mod Prefixed
pub mod Recounting
pub mod Rerooting
pub mod Relisting
pub mod Bodied
pub mod Heaped
pub mod Imaged
pub mod Spelling
pub mod Writing
pub mod Within
pub mod ChainTables
pub mod Telling
pub mod Between
pub mod Showing
pub mod ChainMade
pub mod Altering
pub mod Making
pub mod ImageKeys
pub mod ImageRooms
pub mod Rooted
pub mod ImageMoves
pub mod Looking
pub mod Built
pub mod ImageTouched
pub mod ImageTables
pub mod ImageGone
pub mod Fronts
mod NextTuples
mod Walked
pub mod AsMany
mod Repeats
mod NodesWithin
pub mod NodesReached
mod NodesMoved
pub mod RowsHad
mod Checked
mod KeyRepeats
mod SortedAlike
pub mod RelationEntries
mod Searching
mod Gathering
mod GatheredAll

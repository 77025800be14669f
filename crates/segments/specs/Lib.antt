pub mod Blocks
pub mod Picks
pub mod Listed
pub mod Corners
pub mod SegmentLists
pub mod SmallRises

-- words of shifts and masks, and the functions' own laws
pub mod Linear
pub mod Ladders
pub mod Placing
pub mod Fields
pub mod Fill
pub mod Signed
pub mod Computed
-- sums
pub mod Sum
pub mod Group
-- regions, colours, neighbours
pub mod Axis
pub mod Shifts
pub mod Regions
pub mod Cells
pub mod Laws

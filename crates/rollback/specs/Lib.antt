-- The calls of a save (`Calls`), what a cut leaves of the save before it (`Rollback`), one save after another (`Seasons`), the calls of the code
-- (`CodeCalls`), that the numbers handed out in a save differ (`HandedOut`), and the theorems at every page size, and at the two of the C interface
-- (`Sizes`); and small saves that meet all that is asked (`Witness`).
pub mod Calls
pub mod Rollback
pub mod Seasons
pub mod CodeCalls
pub mod HandedOut
pub mod Sizes
pub mod Witness

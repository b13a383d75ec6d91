-- What each function of the C interface leaves, by the definition that its operation's contract cites.
pub mod Lists
pub mod Lookups
pub mod Recordings
pub mod Saves
pub mod Totals
pub mod Values

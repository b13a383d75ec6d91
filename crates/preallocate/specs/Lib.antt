-- Which list pages a finish keeps, takes and gives back (`Plan`), what the code counts of it (`Counts`), and its turns in numbers
-- (`Steps`), which only private functions cite.
pub mod Lists
pub mod Plan
pub mod Counts
pub mod Steps

-- The whole text of the listing.
pub mod Listing

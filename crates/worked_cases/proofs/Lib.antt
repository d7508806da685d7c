pub mod DecodedLists

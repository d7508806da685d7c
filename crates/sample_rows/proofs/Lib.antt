pub mod StoredRows
pub mod DrawnRows
pub mod SampleLists

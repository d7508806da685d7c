mod AddTable
mod AddgenTable
mod BoundsTable
mod ColumnLaws
mod ConsTable
pub mod EdgeLemmas
mod FileTable
pub mod FormLaws
mod GensTable
mod HasTable
mod ImageTable
pub mod Listed
mod NameNatNameTable
mod NameNatNatNameTable
mod NameNatNatTable
mod NameNatPrefixTable
mod NoWordsTable
mod NothingTable
mod OneNameTable
mod OptimumTable
mod OtherWord
mod PrintTable
mod RelationTable
mod RemoveTable
pub mod RestLaws
mod SpaceTable
mod ThreeNamesTable
mod TwoNamesNatTable
mod TwoNamesTable
pub mod WordLemmas

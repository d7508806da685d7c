pub mod MappedPolyhedra
pub mod TurnedMaps
pub mod ShadowSets
pub mod PairSets
pub mod RelatedRows
pub mod RelatedImages
pub mod RelatedPreimages
pub mod RelatedResults
pub mod EqualImages
pub mod CarriedImages
pub mod PairConversions
mod Moves
mod FilteredLists
mod FormedPairs
mod CarriedForms
mod MovedTables
mod FormWork
mod OrderedRows
mod OnePart
mod LinelessPairs
mod StoredOfForms
mod FreedSystems
mod CollapsedForms
mod CanonicalForms
mod CollapsedSets
mod FreedStarts
mod CollapseWork

mod AlikeBytes
pub mod AvoidedByte
pub mod CaseEquations
pub mod Columns
mod Derivatives
pub mod LargestColumn
mod Lives
pub mod Nullable
mod RowLists
mod RowSteps
mod SameRowSteps
mod SameForms
pub mod TableLaws
mod ExprTable
mod ConTable
mod ConsTable
mod FracTable
mod PointTable
mod GensTable

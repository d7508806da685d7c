pub mod ConversionLaws
pub mod SampleLaws
pub mod WriteLaws

-- Words of contracts inside, and what holds of scripts that were read.
pub mod ReadPackages
pub mod ReadScripts
pub mod PackageLines
pub mod KindWords
pub mod Spans
pub mod ByIds
pub mod RoundTexts
pub mod LineNames
pub mod TagParts
pub mod ScriptParts

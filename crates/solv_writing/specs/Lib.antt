pub mod TagLines
pub mod ScriptTexts
pub mod WrittenBack
pub mod Inner

pub mod FirstLine
pub mod HeldFiles
pub mod Pieces
pub mod WrittenLines
pub mod WordRuns
pub mod ByteCuts
pub mod WordsAgain

pub mod InFolders

pub mod Booleans
pub mod Lists
pub mod Numbers
pub mod Answers
pub mod Layouts
pub mod Digits

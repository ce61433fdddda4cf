mod FormsAsWritten
pub mod Drawing
mod OncePools
mod NamespacePlaces

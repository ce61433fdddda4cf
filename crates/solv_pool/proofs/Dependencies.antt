-- What is known of relations and their trees, passed on. Declares nothing.
pub use Rattle.solv_base.proofs.Trees.{tree-is, no_capability}
pub use Rattle.solv_base.proofs.Places.{before_end}

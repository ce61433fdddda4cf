use Rattle.solv_tags.proofs.SameDependency.{same_dependency, dependency_itself}
use Rattle.solv_tags.proofs.laws.same_is_equal.Goals as goal

pub returns : goal.returns
returns c = λ a b. (same_dependency a b, λ e. rw e (dependency_itself b))

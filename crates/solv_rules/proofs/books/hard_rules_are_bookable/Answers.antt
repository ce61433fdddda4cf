use Rattle.solv_rules.proofs.Bookable.{hard_rules_are_bookable}
use Rattle.solv_rules.proofs.books.hard_rules_are_bookable.Goals as goal

pub returns : goal.returns
returns c = hard_rules_are_bookable

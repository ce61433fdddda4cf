use Rattle.solv_pool.specs.PackageText.{package_text}
use Rattle.solv_script.specs.Inner.TextIndexes.{IsTextIndex}
use Rattle.solv_script.proofs.whole.text_index.TextIndex.extend.Given as goal

abbrev pub invariant-loop-place : goal.invariant-loop-place
invariant-loop-place l = IsTextIndex (package_text l.task.pool l.task.universe) l.place l.self.texts.names l.self.numbers.items

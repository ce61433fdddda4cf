use Rattle.std.proofs.Common.{◌≡◌, ◌++◌, List, ℕ, ap, ◌∙◌, append_assoc}
use Rattle.std.specs.Prelude.{codes}
use Rattle.std.specs.Fmt.{decimal}
use Rattle.solv_pool.specs.PackageText.{package_text}
use Rattle.solv_said.proofs.texts.too_rich_line.Goals as goal

pub returns : goal.returns
returns c =
    let program : List ℕ = c.args.program.now in
    let pack : List ℕ = package_text c.args.task.now.pool c.args.task.now.universe c.args.pack in
    let rest : List ℕ = codes ": TooRich " ++ (decimal c.args.count ++ codes "\n") in
    let begun = c.in_ok-line.ensures in
    let ended : c.extend_from_slice.new.self.items ≡ c.append_package.new.line.items ++ rest = rw (c.as_bytes.ensures.value, c.in_ok-rest.ensures) at c.in_ok-extend_from_slice.ensures.items in
    ended ∙ ap (λ t. t ++ rest) (c.in_ok-append_package.ensures ∙ ap (λ t. t ++ pack) begun) ∙ append_assoc (program ++ codes ": ") pack rest ∙ append_assoc program (codes ": ") (pack ++ rest)

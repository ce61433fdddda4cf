-- Repositories with their packages, appended one after another.
use Rattle.std.proofs.Common.{◌≡◌, ◌<◌, ℕ, ◌==◌, List, [], ◌∷◌, ◌++◌, ◌+◌, map, drop, length, slice_get, Some, refl, sym, ap, ◌∙◌, nat_lt, append_assoc}
use Rattle.std.specs.Prelude.{codes, if◌then◌else◌}
use Rattle.std.specs.Fmt.{signed_decimal}
use Rattle.std.proofs.lemmas.Bool.{ltb-true}
use Rattle.solv_io.specs.JoinedWords.{joined}
use Rattle.solv_io.specs.Lines.{ended_lines}
use Rattle.solv_base.specs.Pool.{Held, text_at}
use Rattle.solv_pool.specs.Prelude.{IsOver, WrittenPackage, written_package, written_repo}
use Rattle.solv_pool.specs.Contents.{Contents}
use Rattle.solv_pool.specs.declared.packages.Package.{Package}
use Rattle.solv_pool.specs.declared.packages.Repo.{Repo}
use Rattle.solv_script.specs.Grammar.{inline}
use Rattle.solv_list.proofs.Lists.{all_at, drop_get, some_there}
use Rattle.solv_writing.specs.declared.spans.Span.{Span}
use Rattle.solv_writing.specs.Inner.Spans.{IsSpan}
use Rattle.solv_writing.specs.ScriptTexts.{inlined}
use Rattle.solv_writing.specs.Inner.ScriptParts.{content_words, packages_of, repository_lines, repositories_from}
use Rattle.solv_writing.specs.Inner.TagParts.{tag_lines}
use Rattle.solv_writing.proofs.PackageById.{own_first, tags_both}
use Rattle.solv_writing.proofs.RepositorySpans.{content_is, same_there}
use Rattle.solv_io.proofs.WrittenLines.{ended_lines-append}

pub name_there : (pool : Held) (contents : Contents) (place : ℕ) (r : Repo) → IsOver pool contents → slice_get contents.repos place ≡ Some r → r.name < length pool.names
name_there pool contents place r over at = ltb-true r.name (length pool.names) (all_at (λ (q : Repo). nat_lt q.name (length pool.names)) contents.repos place r over.repos at)

inlined_both : (xs ys : List (List ℕ)) → inlined (xs ++ ys) ≡ inlined xs ++ inlined ys
inlined_both [] ys = refl
inlined_both (x ∷ xs) ys = ap (λ l. (codes "#>" ++ x) ∷ l) (inlined_both xs ys)

-- the block of packages
abbrev block : List WrittenPackage → List ℕ
block packages = ended_lines (inlined (tag_lines packages))

block_both : (xs ys : List WrittenPackage) → block (xs ++ ys) ≡ block xs ++ block ys
block_both xs ys = ap (λ l. ended_lines (inlined l)) (tags_both xs ys) ∙ ap ended_lines (inlined_both (tag_lines xs) (tag_lines ys)) ∙ ended_lines-append (inlined (tag_lines xs)) (inlined (tag_lines ys))

-- one package more
pub block_turn : (pool : Held) (repo : ℕ) (packages : List Package) (k : ℕ) (a : Package) (old new whole : List ℕ) → slice_get packages k ≡ Some a
    → new ≡ old ++ ended_lines (inlined (tag_lines (packages_of repo (written_package pool a ∷ []))))
    → old ++ ended_lines (inlined (tag_lines (packages_of repo (map (written_package pool) (drop k packages))))) ≡ whole
    → new ++ ended_lines (inlined (tag_lines (packages_of repo (map (written_package pool) (drop (k + 1) packages))))) ≡ whole
block_turn pool repo packages k a old new whole at e before =
    let rest : List WrittenPackage = map (written_package pool) (drop (k + 1) packages) in
    let b : WrittenPackage = written_package pool a in
    let here : block (packages_of repo (map (written_package pool) (drop k packages))) ≡ block (packages_of repo (b ∷ [])) ++ block (packages_of repo rest) =
    ap (λ l. block (packages_of repo (map (written_package pool) l))) (drop_get packages k a at)
    ∙ ap block (own_first repo b rest) ∙ block_both (packages_of repo (b ∷ [])) (packages_of repo rest) in
    ap (λ l. l ++ block (packages_of repo rest)) e ∙ append_assoc old (block (packages_of repo (b ∷ []))) (block (packages_of repo rest)) ∙ ap (λ l. old ++ l) (sym here) ∙ before

-- the line of a repository, and its block
pub repository_put : (pool : Held) (packages : List Package) (place : ℕ) (s : Span) (repos : List Repo) (q r : Repo) (l0 l1 l2 head : List ℕ) → IsSpan packages (length packages) place s
    → slice_get repos place ≡ Some q → slice_get repos place ≡ Some r
    → head ≡ joined (codes "repo" ∷ text_at pool q.name ∷ signed_decimal q.priority ∷ (if s.end == 0 then codes "empty" ∷ [] else codes "testtags" ∷ inline ∷ []))
    → l1 ≡ l0 ++ (head ++ 10 ∷ []) → l2 ≡ l1 ++ ended_lines (inlined (tag_lines (packages_of place (map (written_package pool) packages))))
    → l2 ≡ l0 ++ ended_lines (repository_lines (written_repo pool r) (packages_of place (map (written_package pool) packages)))
repository_put pool packages place s repos q r l0 l1 l2 head span at there h e1 e2 =
    let ps : List WrittenPackage = packages_of place (map (written_package pool) packages) in
    let is : head ≡ joined (codes "repo" ∷ text_at pool r.name ∷ signed_decimal r.priority ∷ content_words ps) =
    h ∙ ap (λ (p : Repo). joined (codes "repo" ∷ text_at pool p.name ∷ signed_decimal p.priority ∷ (if s.end == 0 then codes "empty" ∷ [] else codes "testtags" ∷ inline ∷ []))) (same_there q r (sym at ∙ there))
    ∙ ap (λ (words : List (List ℕ)). joined (codes "repo" ∷ text_at pool r.name ∷ signed_decimal r.priority ∷ words)) (content_is pool place packages s span) in
    e2 ∙ ap (λ l. l ++ block ps) e1 ∙ append_assoc l0 (head ++ 10 ∷ []) (block ps) ∙ ap (λ l. l0 ++ l) (append_assoc head (10 ∷ []) (block ps)) ∙ ap (λ l. l0 ++ (l ++ 10 ∷ block ps)) is

-- one repository more
pub repository_turn : (pool : Held) (repos : List Repo) (packages : List WrittenPackage) (place : ℕ) (old new whole : List ℕ) → place < length repos
    → ((r : Repo) → slice_get repos place ≡ Some r → new ≡ old ++ ended_lines (repository_lines (written_repo pool r) (packages_of place packages)))
    → old ++ ended_lines (repositories_from place (map (written_repo pool) (drop place repos)) packages) ≡ whole
    → new ++ ended_lines (repositories_from (place + 1) (map (written_repo pool) (drop (place + 1) repos)) packages) ≡ whole
repository_turn pool repos packages place old new whole l put before =
    let there = some_there repos place l in
    let r : Repo = there.0 in
    let first : List (List ℕ) = repository_lines (written_repo pool r) (packages_of place packages) in
    let rest : List (List ℕ) = repositories_from (place + 1) (map (written_repo pool) (drop (place + 1) repos)) packages in
    let here : ended_lines (repositories_from place (map (written_repo pool) (drop place repos)) packages) ≡ ended_lines first ++ ended_lines rest =
    ap (λ rs. ended_lines (repositories_from place (map (written_repo pool) rs) packages)) (drop_get repos place r there.1) ∙ ended_lines-append first rest in
    ap (λ x. x ++ ended_lines rest) (put r there.1) ∙ append_assoc old (ended_lines first) (ended_lines rest) ∙ ap (λ x. old ++ x) (sym here) ∙ before

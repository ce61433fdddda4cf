-- Names for parts of a written script.
use Rattle.std.specs.Prelude.{ℕ, List, [], ◌∷◌, ◌++◌, map, flat_map, codes, ◌&&◌, nat_lt, Bool, length, if◌then◌else◌}
use Rattle.solv_deps.specs.Canonical.{comparison_text}
use Rattle.solv_pool.specs.Prelude.{WrittenTask, WrittenJob, WrittenPackage, WrittenNeed}
use Rattle.solv_script.specs.Reads.{WrittenCheck, WrittenRound}
use Rattle.solv_script.specs.States.{text_of, text_of_number}
use Rattle.solv_io.specs.JoinedWords.{joined}
use Rattle.solv_writing.specs.Inner.ScriptParts.{round_lines}
use Rattle.std.specs.List.{before_last, after_last}
use Rattle.solv_base.specs.Evr.{is_dash}
use Rattle.solv_tags.specs.declared.tag.Tag.TheVariants.{Pkg, Req, Prq}
use Rattle.solv_writing.specs.TagLines.{evr_words}
use Rattle.solv_writing.specs.Inner.TagParts.{Entry, dep_entry}

-- the line of a comparison
abbrev pub check_line : WrittenCheck → List ℕ
check_line c = joined (codes "evrcmp" ∷ c.left ∷ comparison_text c.op ∷ c.right ∷ [])

-- the line of a job
abbrev pub job_line : WrittenJob → List ℕ
job_line j = codes "job " ++ j.text

-- rounds after the first one
abbrev pub later_lines : List WrittenRound → List (List ℕ)
later_lines rounds = flat_map (λ r. codes "nextjob" ∷ round_lines r) rounds

-- stands something before the last `-` of an EVR, and after it?
abbrev pub is_parted : List ℕ → Bool
is_parted evr = nat_lt 0 (length (before_last is_dash evr)) && nat_lt 0 (length (after_last is_dash evr))

-- a requirement
abbrev pub need_entry : WrittenNeed → Entry
need_entry need = dep_entry (if need.pre then Prq else Req) need.dep

-- the entry that begins a package
abbrev pub package_entry : WrittenPackage → Entry
package_entry a = record { tag = Pkg; text = joined (a.name ∷ (evr_words a.evr ++ a.arch ∷ [])) }

-- the line of a disabled package, and that of a namespace
abbrev pub disable_line : WrittenTask → WrittenPackage → List ℕ
disable_line task a = joined (codes "disable" ∷ codes "pkg" ∷ text_of task a ∷ [])

abbrev pub namespace_line : WrittenTask → List ℕ × List ℕ → List ℕ
namespace_line task n = joined (codes "namespace" ∷ n.0 ∷ map (text_of_number task) n.1)

-- What the words of a line say is made of these words.
use Rattle.std.proofs.Common.{◌≡◌, ℕ, Bool, true, false, List, [], ◌∷◌, length, Option, Some, None, Result, Ok, Err, refl, ap, subst}
use Rattle.std.specs.Prelude.{◌==◌, ◌||◌, codes, nat_le, nat_lt, IfOk, ok_or, option_to_list, if◌then◌else◌}
use Rattle.std.specs.Option.{option_map_or}
use Rattle.std.specs.List.{list_all}
use Rattle.std.specs.Str.{bytes_eq}
use Rattle.solv_base.specs.declared.comparison.Cmp.{Cmp}
use Rattle.solv_deps.specs.Canonical.{comparison_text}
use Rattle.solv_deps.specs.Grammar.{comparison, is_namespace}
use Rattle.solv_io.specs.JoinedWords.{joined, is_word}
use Rattle.solv_commands.specs.Commands.{Command, repo, system, solverflags, namespace, disable, evrcmp, results, job, next_round, and_then, file_count, repo_line, system_line, namespace_line, disable_line, evrcmp_line, action, flag_word, job_flags, fits_flags, asked, before_flags, job_line, command}
use Rattle.solv_commands.specs.Inner.LineWords.{next_line, result_line}
use Rattle.solv_commands.specs.Numbers.{priority}
use Rattle.solv_commands.specs.declared.causes.Cause.{Cause}
use Rattle.solv_commands.specs.declared.causes.Cause.TheVariants.{BadNumber, BadOperator, BadRepoType, BadWords, BadNamespace, FlagNotHere, UnknownLine}
use Rattle.solv_list.proofs.Booleans.{first_of_both, second_of_both}
use Rattle.solv_writing.proofs.Priorities.{IsPriority, priority_again}

-- the words of a namespace line after its name
pub record AreSome (words : List (List ℕ)) : Type 0 where
  pub first : List ℕ
  pub rest : List (List ℕ)
  pub is : words ≡ first ∷ rest

-- the words of a job
pub record IsJobOf (c : Command) (text : List ℕ) : Type 0 where
  pub first : List ℕ
  pub others : List (List ℕ)
  pub text_is : text ≡ joined (first ∷ others)
  pub words : list_all is_word (first ∷ others) ≡ true
  pub said : command (codes "job") (first ∷ others) ≡ Ok c

-- a command is made of words
abbrev pub IsOfWords : Command → Type 0
IsOfWords (repo text p file) = (is_word text ≡ true) × IsPriority p
IsOfWords (system arch type installed) = list_all is_word (option_to_list installed) ≡ true
IsOfWords (solverflags words) = Unit {0}
IsOfWords (namespace text words) = (is_word text ≡ true) × (is_namespace text ≡ true) × AreSome words × (list_all is_word words ≡ true)
IsOfWords (disable word) = is_word word ≡ true
IsOfWords (evrcmp left op right) = (is_word left ≡ true) × (is_word right ≡ true) × (comparison (comparison_text op) ≡ Some op) × (is_word (comparison_text op) ≡ true)
IsOfWords (results kinds file) = Unit {0}
IsOfWords (job a s flags text) = IsJobOf (job a s flags text) text
IsOfWords next_round = Unit {0}

then_if : {A B : Type 0} (P : B → Type 0) (r : Result A Cause) (next : A → Result B Cause) → ((x : A) → r ≡ Ok x → IfOk (next x) P) → IfOk (and_then r next) P
then_if P (Ok x) next h = h x refl
then_if P (Err c) next h = tt

pub either_if : {B : Type 0} (P : B → Type 0) (b : Bool) (q r : Result B Cause) → (b ≡ true → IfOk q P) → (b ≡ false → IfOk r P) → IfOk (if b then q else r) P
either_if P true q r h k = h refl
either_if P false q r h k = k refl

or_some : {A : Type 0} (c : Cause) (o : Option A) (x : A) → ok_or o c ≡ Ok x → o ≡ Some x
or_some c None x h = absurd (cc)
or_some c (Some y) x h = let e : y ≡ x = cc in ap Some e

repo_of : (words : List (List ℕ)) → list_all is_word words ≡ true → IfOk (repo_line words) IsOfWords
repo_of (name ∷ number ∷ type ∷ files) h =
    either_if IsOfWords (option_map_or (λ count. length files == count) (file_count type) (nat_le (length files) 1)) _ (Err BadWords) (λ f. then_if IsOfWords (ok_or (priority number) BadNumber) _
    (λ p e. then_if IsOfWords (ok_or (file_count type) BadRepoType) _ (λ count g. (first_of_both (is_word name) _ h, priority_again number p (or_some BadNumber (priority number) p e)))))
    (λ f. tt)
repo_of [] h = tt
repo_of (a ∷ []) h = tt
repo_of (a ∷ b ∷ []) h = tt

system_of : (words : List (List ℕ)) → list_all is_word words ≡ true → IfOk (system_line words) IsOfWords
system_of (arch ∷ type ∷ []) h = refl
system_of (arch ∷ type ∷ name ∷ []) h = second_of_both (is_word type) _ (second_of_both (is_word arch) _ h)
system_of [] h = tt
system_of (a ∷ []) h = tt
system_of (a ∷ b ∷ c ∷ d ∷ words) h = tt

namespace_of : (words : List (List ℕ)) → list_all is_word words ≡ true → IfOk (namespace_line words) IsOfWords
namespace_of (name ∷ first ∷ packages) h =
    either_if IsOfWords (is_namespace name) (Ok (namespace name (first ∷ packages))) (Err BadNamespace)
    (λ e. (first_of_both (is_word name) _ h, e, record { first = first; rest = packages; is = refl }, second_of_both (is_word name) _ h)) (λ e. tt)
namespace_of [] h = tt
namespace_of (a ∷ []) h = tt

disable_of : (words : List (List ℕ)) → list_all is_word words ≡ true → IfOk (disable_line words) IsOfWords
disable_of (kind ∷ package_text ∷ []) h =
    either_if IsOfWords (bytes_eq kind (codes "pkg")) (Ok (disable package_text)) (Err BadWords) (λ e. first_of_both (is_word package_text) true (second_of_both (is_word kind) _ h)) (λ e. tt)
disable_of [] h = tt
disable_of (a ∷ []) h = tt
disable_of (a ∷ b ∷ c ∷ words) h = tt

-- a comparison's own text is it
abbrev IsComparison : Cmp → Type 0
IsComparison c = (comparison (comparison_text c) ≡ Some c) × (is_word (comparison_text c) ≡ true)

comparison_again : (w : List ℕ) (c : Cmp) → comparison w ≡ Some c → IsComparison c
comparison_again w c e = find (bytes_eq (codes "<") w) (bytes_eq (codes "<=") w) (bytes_eq (codes "=") w) (bytes_eq (codes ">=") w) (bytes_eq (codes ">") w) (bytes_eq (codes "<>") w) c e
  where
    by : (x c : Cmp) → Some x ≡ Some c → IsComparison x → IsComparison c
    by x c e h = let s : x ≡ c = cc in subst IsComparison s h

    find : (p q r s t u : Bool) (c : Cmp)
        → (if p then Some (record { less = true; equal = false; greater = false }) else (if q then Some (record { less = true; equal = true; greater = false }) else (if r then Some (record { less = false; equal = true; greater = false }) else (if s then Some (record { less = false; equal = true; greater = true }) else (if t then Some (record { less = false; equal = false; greater = true }) else (if u then Some (record { less = true; equal = false; greater = true }) else None)))))) ≡ Some c
        → IsComparison c
    find true q r s t u c e = by _ c e (refl, refl)
    find false true r s t u c e = by _ c e (refl, refl)
    find false false true s t u c e = by _ c e (refl, refl)
    find false false false true t u c e = by _ c e (refl, refl)
    find false false false false true u c e = by _ c e (refl, refl)
    find false false false false false true c e = by _ c e (refl, refl)
    find false false false false false false c e = absurd (cc)

evrcmp_of : (words : List (List ℕ)) → list_all is_word words ≡ true → IfOk (evrcmp_line words) IsOfWords
evrcmp_of (left ∷ sign ∷ right ∷ []) h =
    then_if IsOfWords (ok_or (comparison sign) BadOperator) _ (λ c e.
    let k = comparison_again sign c (or_some BadOperator (comparison sign) c e) in
    (first_of_both (is_word left) _ h, first_of_both (is_word right) true (second_of_both (is_word sign) _ (second_of_both (is_word left) _ h)), k.0, k.1))
evrcmp_of [] h = tt
evrcmp_of (a ∷ []) h = tt
evrcmp_of (a ∷ b ∷ []) h = tt
evrcmp_of (a ∷ b ∷ c ∷ d ∷ words) h = tt

result_of : (words : List (List ℕ)) → IfOk (result_line words) IsOfWords
result_of (kinds ∷ file ∷ []) = tt
result_of [] = tt
result_of (a ∷ []) = tt
result_of (a ∷ b ∷ c ∷ words) = tt

-- a job's line gives a job with its text
abbrev IsAJob : List (List ℕ) → Command → Type 0
IsAJob words (job a s flags text) = text ≡ joined words
IsAJob words c = ⊥

job_is : (word : List ℕ) (words : List (List ℕ)) → IfOk (job_line (word ∷ words)) (IsAJob (word ∷ words))
job_is word words =
    either_if (IsAJob (word ∷ words)) (nat_lt 0 (length words) || bytes_eq word (codes "noop")) _ (Err BadWords)
    (λ e. then_if (IsAJob (word ∷ words)) (action word) _ (λ a f. then_if (IsAJob (word ∷ words)) (job_flags (flag_word words)) _
    (λ flags g. either_if (IsAJob (word ∷ words)) (fits_flags a flags) _ (Err FlagNotHere) (λ k. then_if (IsAJob (word ∷ words)) (asked a (before_flags words)) _ (λ s l. refl)) (λ k. tt))))
    (λ e. tt)

job_of : (words : List (List ℕ)) → list_all is_word words ≡ true → IfOk (job_line words) IsOfWords
job_of [] h = tt
job_of (word ∷ words) h = on (job_line (word ∷ words)) refl (job_is word words)
  where
    on : (r : Result Command Cause) → job_line (word ∷ words) ≡ r → IfOk r (IsAJob (word ∷ words)) → IfOk r IsOfWords
    on (Ok (job a s flags text)) e k = record { first = word; others = words; text_is = k; words = h; said = e }
    on (Ok (repo text p file)) e k = absurd k
    on (Ok (system arch type installed)) e k = absurd k
    on (Ok (solverflags ws)) e k = absurd k
    on (Ok (namespace text ws)) e k = absurd k
    on (Ok (disable w)) e k = absurd k
    on (Ok (evrcmp l op r)) e k = absurd k
    on (Ok (results kinds file)) e k = absurd k
    on (Ok next_round) e k = absurd k
    on (Err c) e k = tt

next_of : (words : List (List ℕ)) → IfOk (next_line words) IsOfWords
next_of [] = tt
next_of (word ∷ words) = tt

pub command_of : (first : List ℕ) (words : List (List ℕ)) → list_all is_word words ≡ true → IfOk (command first words) IsOfWords
command_of first words h =
    either_if IsOfWords (bytes_eq first (codes "repo")) (repo_line words) _ (λ e. repo_of words h)
    (λ e. either_if IsOfWords (bytes_eq first (codes "system")) (system_line words) _ (λ e. system_of words h)
    (λ e. either_if IsOfWords (bytes_eq first (codes "solverflags")) (Ok (solverflags words)) _ (λ e. tt)
    (λ e. either_if IsOfWords (bytes_eq first (codes "namespace")) (namespace_line words) _ (λ e. namespace_of words h)
    (λ e. either_if IsOfWords (bytes_eq first (codes "disable")) (disable_line words) _ (λ e. disable_of words h)
    (λ e. either_if IsOfWords (bytes_eq first (codes "evrcmp")) (evrcmp_line words) _ (λ e. evrcmp_of words h)
    (λ e. either_if IsOfWords (bytes_eq first (codes "job")) (job_line words) _ (λ e. job_of words h)
    (λ e. either_if IsOfWords (bytes_eq first (codes "result")) (result_line words) _ (λ e. result_of words)
    (λ e. either_if IsOfWords (bytes_eq first (codes "nextjob")) (next_line words) (Err UnknownLine) (λ e. next_of words) (λ e. tt)))))))))

-- Correction sets: rules that are held to, open or dropped.
use Rattle.std.specs.Prelude.{◌≡◌, ◌⊎◌, ◌≤◌, ◌<◌, ℕ, Bool, true, not, ◌&&◌, ◌||◌, ◌==◌, List, [], ◌∷◌, ◌++◌, filter, length, map, nat_lt}
use Rattle.std.specs.List.{list_all}
use Rattle.solv_pool.specs.Prelude.{is_among}
use Rattle.solv_derive.specs.Leaves.{leaves}
use Rattle.solv_derive.specs.Logs.{is_good_log}
use Rattle.solv_derive.specs.Range.{steps_over}
use Rattle.solv_derive.specs.declared.logs.Log.{Log}
use Rattle.solv_trail.specs.Asked.{is_enabled}
use Rattle.solv_core.specs.Cores.{CoreOf}
use Rattle.solv_core.specs.declared.refuting.RefutedRule.{RefutedRule}
use Rattle.solv_core.specs.declared.verdicts.Trail.{Trail}
use Rattle.solv_questions.specs.Questions.{Request, rules_of}
use Rattle.solv_decide.specs.Deciding.{IsSolution}
use Rattle.solv_remedy.specs.Problems.{rested_on}
use Rattle.solv_remedy.specs.Inner.Runs.{IsOf}
use Rattle.solv_remedy.specs.Inner.Trying.{IsSolvable, IsUnsolvable}
use Rattle.solv_remedy.specs.declared.correcting.Parted.{Parted}
use Rattle.solv_remedy.specs.declared.setting.Setting.{Setting}

-- a good trail over the rules whose numbers pass the test
pub record IsFoundOn (r : Request) (on : ℕ → Bool) (trail : Trail) : Type 0 where
  pub enabled : List Bool
  pub size : length enabled ≡ length (rules_of r)
  pub agrees : (k : ℕ) → (length (rules_of r) ≤ k) ⊎ (is_enabled enabled k ≡ on k)
  pub found : IsSolution r enabled trail

-- the rules that pass a test, and one more
abbrev pub and_one : (ℕ → Bool) → ℕ → ℕ → Bool
and_one on rule k = on k || (rule == k)

-- the numbers of refuted rules
abbrev pub refuted_rules : List RefutedRule → List ℕ
refuted_rules refuted = map (λ one. one.rule) refuted

-- it is held to, or open
abbrev pub is_left : Parted → ℕ → Bool
is_left p k = is_enabled p.held.items k || is_enabled p.open.items k

-- it is held to, or one of these
abbrev pub and_some : Parted → List ℕ → ℕ → Bool
and_some p some k = is_enabled p.held.items k || is_among some k

-- how many rules are open
abbrev pub open_count : Parted → ℕ
open_count p = length (filter (is_enabled p.open.items) p.rules.items)

-- these rules are held to, and open no more
pub record IsHeldMore (more : List ℕ) (old new : Parted) : Type 0 where
  pub same : new.rules.items ≡ old.rules.items
  pub held_size : length new.held.items ≡ length old.held.items
  pub open_size : length new.open.items ≡ length old.open.items
  pub held : (k : ℕ) → k < length old.held.items → is_enabled new.held.items k ≡ (is_enabled old.held.items k || is_among more k)
  pub opened : (k : ℕ) → is_enabled new.open.items k ≡ (is_enabled old.open.items k && not (is_among more k))
  pub dropped : new.dropped.items ≡ old.dropped.items

-- this rule is dropped, and open no more
pub record IsDropped (one : RefutedRule) (old new : Parted) : Type 0 where
  pub same : new.rules.items ≡ old.rules.items
  pub held : new.held.items ≡ old.held.items
  pub open_size : length new.open.items ≡ length old.open.items
  pub opened : (k : ℕ) → is_enabled new.open.items k ≡ (is_enabled old.open.items k && not (is_among (one.rule ∷ []) k))
  pub dropped : new.dropped.items ≡ old.dropped.items ++ one ∷ []

module _ (r : Request) where
  -- a good log over clauses of rules that pass the test, which have no set
  pub record IsRefutedOn (core : CoreOf) (on : ℕ → Bool) (log : Log) : Type 0 where
    pub good : is_good_log core.clauses log.steps ≡ true
    pub over : steps_over core.packages log.steps ≡ true
    pub within : list_all (λ n. nat_lt n (length core.clauses)) (leaves log.steps) ≡ true
    pub rests : (k : ℕ) → is_among (rested_on r.catalog (rules_of r) log.steps) k ≡ true → on k ≡ true
    pub none : IsUnsolvable r on

  -- each is refuted by the rules that pass the test, with its log
  abbrev pub AreRefutedBy : CoreOf → (ℕ → Bool) → List RefutedRule → Type 0
  AreRefutedBy core on [] = Unit {0}
  AreRefutedBy core on (one ∷ more) = IsRefutedOn core (and_one on one.rule) one.log × AreRefutedBy core on more

  -- Each of some rules is held to, open, or dropped and refuted by what is held to. That has a set. It has all that is held to at the beginning (`firm`), among
  -- it the fixed rules, and beside that only some of these rules.
  pub record IsParted (core : CoreOf) (fixed : List Bool) (firm : ℕ → Bool) (rules : List ℕ) (p : Parted) : Type 0 where
    pub same : p.rules.items ≡ rules
    pub held_size : length p.held.items ≡ length fixed
    pub open_size : length p.open.items ≡ length fixed
    pub fixed_held : (k : ℕ) → is_enabled fixed k ≡ true → is_enabled p.held.items k ≡ true
    pub firm_held : (k : ℕ) → k < length fixed → firm k ≡ true → is_enabled p.held.items k ≡ true
    pub held_of : (k : ℕ) → is_enabled p.held.items k ≡ true → (firm k || is_among rules k) ≡ true
    pub open_of : (k : ℕ) → is_enabled p.open.items k ≡ true → is_among rules k ≡ true
    pub dropped_of : (k : ℕ) → is_among (refuted_rules p.dropped.items) k ≡ true → is_among rules k ≡ true
    pub all : (k : ℕ) → k < length fixed → is_among rules k ≡ true → (is_left p k || is_among (refuted_rules p.dropped.items) k) ≡ true
    pub solvable : IsSolvable r (is_enabled p.held.items)
    pub refuted : AreRefutedBy core (is_enabled p.held.items) p.dropped.items

  -- so they are parted, and a good trail is over all that is not dropped: what is dropped is a minimal correction set
  pub record IsCorrected (core : CoreOf) (fixed : List Bool) (firm : ℕ → Bool) (rules : List ℕ) (p : Parted) (trail : Trail) : Type 0 where
    pub parted : IsParted core fixed firm rules p
    pub found : IsFoundOn r (is_left p) trail

module _ (s : Setting) (core : CoreOf) where
  -- rules of the core's task are so parted
  pub record IsPartedOf (p : Parted) : Type 0 where
    pub request : Request
    pub firm : ℕ → Bool
    pub rules : List ℕ
    pub up : IsOf request s core
    pub parted : IsParted request core s.fixed.now firm rules p

  -- where they were so parted before, they are so after
  abbrev pub KeepsParted : Parted → Parted → Type 0
  KeepsParted old new = (r : Request) (firm : ℕ → Bool) (rules : List ℕ) → IsOf r s core → IsParted r core s.fixed.now firm rules old → IsParted r core s.fixed.now firm rules new

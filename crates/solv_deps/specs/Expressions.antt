-- What is written of dependencies, with its parentheses and the spelling of each operator: its words, and what it means.
use Rattle.std.specs.Prelude.{ℕ, ◌+◌, Bool, false, not, ◌&&◌, List, [], ◌∷◌, ◌++◌, codes, is_some, unwrap_or, max}
use Rattle.solv_base.specs.declared.comparison.Cmp.{Cmp}
use Rattle.solv_base.specs.Dependency.{Dep, Connective, versioned, one, and, or, with, without, if_holds, unless_holds, joined, under, under_else}
use Rattle.solv_base.specs.Dependency.{Condition as Under}
use Rattle.solv_deps.specs.Grammar.{Operator, joins, conditions, otherwise, spellings, comparison, is_plain, is_namespace, named}
use Rattle.solv_deps.specs.declared.sign.Joint.{Joint}
use Rattle.solv_deps.specs.declared.sign.Joint.TheVariants.{Both, Either, Jointly}
use Rattle.solv_deps.specs.declared.sign.Conditional.{Conditional}
use Rattle.solv_deps.specs.declared.sign.Conditional.TheVariants.{If, Unless}

-- how an operator is spelled: by its sign or by rpm's word
pub data Spelling : Type 0 where
  by_sign by_word : Spelling

abbrev pub spelled : Spelling → Operator → List ℕ
spelled by_sign o = (spellings o).0
spelled by_word o = (spellings o).1

-- how a chain's operator joins
abbrev pub connective_of : Joint → Connective
connective_of Both = and
connective_of Either = or
connective_of Jointly = with

-- when the operand before it counts
abbrev pub condition_of : Conditional → Under
condition_of If = if_holds
condition_of Unless = unless_holds

-- what stands for a word that is no comparison
abbrev pub no_comparison : Cmp
no_comparison = record { less = false; equal = false; greater = false }

-- What is written: a dependency with its parentheses and the spelling of each operator. An operand is a name, a name with a
-- comparison and an EVR, or an expression in parentheses; a chain has two operands or more; an expression is an operand, a
-- chain, `A - B`, `A <IF> B`, `A <IF> B <ELSE> C`, or `A <IF> (B <ELSE> C)`, which means the same, or one of the last three
-- with `<UNLESS>`.
mutual
  pub data Operand : Type 0 where
    name : List ℕ → Operand
    compared : List ℕ → List ℕ → List ℕ → Operand
    inside : Expr → Operand

  pub data Chain : Type 0 where
    two : Operand → Spelling → Operand → Chain
    more : Chain → Spelling → Operand → Chain

  pub data Expr : Type 0 where
    alone : Operand → Expr
    chain : Joint → Chain → Expr
    less : Operand → Spelling → Operand → Expr
    provided : Conditional → Operand → Spelling → Operand → Expr
    provided_else : Conditional → Operand → Spelling → Operand → Spelling → Operand → Expr
    provided_inside : Conditional → Operand → Spelling → Operand → Spelling → Operand → Expr

-- the words of what is written
abbrev mutual
  pub operand_words : Operand → List (List ℕ)
  operand_words (name w) = w ∷ []
  operand_words (compared w c e) = w ∷ c ∷ e ∷ []
  operand_words (inside x) = codes "(" ∷ (expr_words x ++ codes ")" ∷ [])

  pub chain_words : Joint → Chain → List (List ℕ)
  chain_words j (two a s b) = operand_words a ++ spelled s (joins (connective_of j)) ∷ operand_words b
  chain_words j (more c s b) = chain_words j c ++ spelled s (joins (connective_of j)) ∷ operand_words b

  pub expr_words : Expr → List (List ℕ)
  expr_words (alone a) = operand_words a
  expr_words (chain j c) = chain_words j c
  expr_words (less a s b) = operand_words a ++ spelled s (joins without) ∷ operand_words b
  expr_words (provided k a s b) = operand_words a ++ spelled s (conditions (condition_of k)) ∷ operand_words b
  expr_words (provided_else k a s b t c) = operand_words a ++ spelled s (conditions (condition_of k)) ∷ (operand_words b ++ spelled t otherwise ∷ operand_words c)
  expr_words (provided_inside k a s b t c) = operand_words a ++ spelled s (conditions (condition_of k)) ∷ codes "(" ∷ (operand_words b ++ spelled t otherwise ∷ (operand_words c ++ codes ")" ∷ []))

-- what it means: a chain groups from the left, and parentheses only group
abbrev mutual
  pub operand_sense : Operand → Dep (List ℕ)
  operand_sense (name w) = named w
  operand_sense (compared w c e) = one (versioned w (unwrap_or (comparison c) no_comparison) e)
  operand_sense (inside x) = expr_sense x

  pub chain_sense : Joint → Chain → Dep (List ℕ)
  chain_sense j (two a s b) = joined (connective_of j) (operand_sense a) (operand_sense b)
  chain_sense j (more c s b) = joined (connective_of j) (chain_sense j c) (operand_sense b)

  pub expr_sense : Expr → Dep (List ℕ)
  expr_sense (alone a) = operand_sense a
  expr_sense (chain j c) = chain_sense j c
  expr_sense (less a s b) = joined without (operand_sense a) (operand_sense b)
  expr_sense (provided k a s b) = under (condition_of k) (operand_sense a) (operand_sense b)
  expr_sense (provided_else k a s b t c) = under_else (condition_of k) (operand_sense a) (operand_sense b) (operand_sense c)
  expr_sense (provided_inside k a s b t c) = under_else (condition_of k) (operand_sense a) (operand_sense b) (operand_sense c)

-- are its names, comparisons and EVRs such words?
abbrev mutual
  pub operand_right : Operand → Bool
  operand_right (name w) = is_plain w
  operand_right (compared w c e) = is_plain w && (not (is_namespace w) && (is_some (comparison c) && is_plain e))
  operand_right (inside x) = expr_right x

  pub chain_right : Chain → Bool
  chain_right (two a s b) = operand_right a && operand_right b
  chain_right (more c s b) = chain_right c && operand_right b

  pub expr_right : Expr → Bool
  expr_right (alone a) = operand_right a
  expr_right (chain j c) = chain_right c
  expr_right (less a s b) = operand_right a && operand_right b
  expr_right (provided k a s b) = operand_right a && operand_right b
  expr_right (provided_else k a s b t c) = operand_right a && (operand_right b && operand_right c)
  expr_right (provided_inside k a s b t c) = operand_right a && (operand_right b && operand_right c)

-- the parentheses that are open at one time
abbrev mutual
  pub operand_depth : Operand → ℕ
  operand_depth (inside x) = expr_depth x + 1
  operand_depth a = 0

  pub chain_depth : Chain → ℕ
  chain_depth (two a s b) = max (operand_depth a) (operand_depth b)
  chain_depth (more c s b) = max (chain_depth c) (operand_depth b)

  pub expr_depth : Expr → ℕ
  expr_depth (alone a) = operand_depth a
  expr_depth (chain j c) = chain_depth c
  expr_depth (less a s b) = max (operand_depth a) (operand_depth b)
  expr_depth (provided k a s b) = max (operand_depth a) (operand_depth b)
  expr_depth (provided_else k a s b t c) = max (operand_depth a) (max (operand_depth b) (operand_depth c))
  expr_depth (provided_inside k a s b t c) = max (operand_depth a) (max (operand_depth b) (operand_depth c) + 1)

-- the operators that are written
abbrev mutual
  pub operand_operators : Operand → ℕ
  operand_operators (inside x) = expr_operators x
  operand_operators a = 0

  pub chain_operators : Chain → ℕ
  chain_operators (two a s b) = operand_operators a + operand_operators b + 1
  chain_operators (more c s b) = chain_operators c + operand_operators b + 1

  pub expr_operators : Expr → ℕ
  expr_operators (alone a) = operand_operators a
  expr_operators (chain j c) = chain_operators c
  expr_operators (less a s b) = operand_operators a + operand_operators b + 1
  expr_operators (provided k a s b) = operand_operators a + operand_operators b + 1
  expr_operators (provided_else k a s b t c) = operand_operators a + operand_operators b + operand_operators c + 2
  expr_operators (provided_inside k a s b t c) = operand_operators a + operand_operators b + operand_operators c + 2

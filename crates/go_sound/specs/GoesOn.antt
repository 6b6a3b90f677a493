-- Go specification (as of Go 1.17), "Blocks", "Declarations and scope": what a statement changes of what is known. own: the numbers
-- of variables and labels.
use Rattle.std.specs.Prelude.{◌≡◌, ◌≤◌, ℕ, suc, List, [], ◌∷◌, ◌++◌, AllPairs}
use Rattle.go_syntax.specs.Tree as t
use Rattle.go_type.specs.Named.{NamedTy}
use Rattle.go_core.specs.CoreTree.{Var}
use Rattle.go_core.specs.SoundProgram.{DifferInId, all_vars}
use Rattle.go_typing.specs.Scopes.{without_last}
use Rattle.go_typing.specs.Walk.{Walk, Around}
use Rattle.go_typing.specs.Statements.{stmt, block}
use Rattle.go_typing.specs.Checked.{program_of}

-- the numbers of these variables run from the one on, up to the other
abbrev pub AreNumbered : ℕ → List Var → ℕ → Type 0
AreNumbered k [] m = k ≡ m
AreNumbered k (v ∷ vs) m = (v.id ≡ k) × AreNumbered (suc k) vs m

-- variables and named types are added, variables with the numbers that come next, and numbers of labels are not used again; of the
-- scopes only the innermost changes
pub record GoesOn (w v : Walk) : Type 0 where
  pub variables : List Var
  pub variables_added : v.vars ≡ w.vars ++ variables
  pub numbered : AreNumbered w.next variables v.next
  pub types : List NamedTy
  pub types_added : v.names ≡ w.names ++ types
  pub labels : w.next_label ≤ v.next_label
  pub outer_kept : without_last v.scopes ≡ without_last w.scopes

abbrev pub StatementsGoOn : Type 0
StatementsGoOn = (s : t.Stmt) (a : Around) (w : Walk) → GoesOn w (stmt s a w).walk

-- a block leaves all scopes as they were
abbrev pub BlocksLeaveScopes : Type 0
BlocksLeaveScopes = (b : t.Block) (a : Around) (w : Walk) → (block b a w).walk.scopes ≡ w.scopes

-- no two variables of a program have one number
abbrev pub VariablesDiffer : Type 0
VariablesDiffer = (ds : List t.Decl) → AllPairs DifferInId (all_vars (program_of ds))

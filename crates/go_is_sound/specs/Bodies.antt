-- Bodies, and the variables that they capture.
use Rattle.std.specs.Prelude.{◌≡◌, ℕ, List, [], ◌∷◌, ◌++◌, ◌+◌, Some, map, length}
use Rattle.go_type.specs.Tree.{Ty}
use Rattle.go_type.specs.Levels.{tree_of, trees_of}
use Rattle.go_type.specs.Table.{places}
use Rattle.go_type.specs.declared.types.TypeId.{TypeId}
use Rattle.go_core.specs.declared.node.Var as declared
use Rattle.go_core.specs.declared.program.Func.{Func}
use Rattle.go_core.specs.declared.program.Program.{Program}
use Rattle.go_core.specs.CoreTree.{Var}
use Rattle.go_core.specs.CoreView.{func_view, program_view, var_of}
use Rattle.go_core.specs.TypeOf.{var_type}
use Rattle.go_core.specs.SoundNode.{Around}
use Rattle.go_core.specs.Sound.{SoundStmts}
use Rattle.go_core.specs.SoundProgram.{all_vars, captured_vars}

-- the variable of the program with this number
pub record IsCaptured (p : Program) (v : ℕ) (x : declared.Var) : Type 0 where
  pub number : x.id.0 ≡ v
  pub of_type : var_type v (all_vars (program_view p)) ≡ Some (tree_of (places p.types) x.ty)

-- the variable with this number comes after the others
pub record Pushes (p : Program) (v : ℕ) (old new : List declared.Var) : Type 0 where
  pub var : declared.Var
  pub is_captured : IsCaptured p v var
  pub pushed : new ≡ old ++ var ∷ []

pub record AreCaptured (p : Program) (ids : List ℕ) (vars : List declared.Var) : Type 0 where
  pub known : map (var_of (places p.types)) vars ≡ captured_vars (program_view p) ids
  pub all_known : length (captured_vars (program_view p) ids) ≡ length ids

-- those found, and the rest of the numbers
pub record CapturedSoFar (p : Program) (vars : List declared.Var) (rest ids : List ℕ) : Type 0 where
  pub known : map (var_of (places p.types)) vars ++ captured_vars (program_view p) rest ≡ captured_vars (program_view p) ids
  pub counted : length vars + length rest ≡ length ids

-- what stands round a body
abbrev pub head_around : List Ty → List declared.Var → List declared.Var → List declared.Var → List TypeId → Around
head_around ts head captured own results = record { vars = map (var_of ts) head ++ map (var_of ts) captured; declarable = map (var_of ts) own; results = trees_of ts results; breaks = []; continues = [] }

-- the body of a function whose variables are these two lists
pub record HasBody (p : Program) (f : Func) (head own : List Var) : Type 0 where
  pub captured_known : length (captured_vars (program_view p) (func_view (places p.types) f).captured) ≡ length (func_view (places p.types) f).captured
  pub sound_body :
      SoundStmts (program_view p)
      (record { vars = head ++ captured_vars (program_view p) (func_view (places p.types) f).captured; declarable = own; results = (func_view (places p.types) f).results; breaks = []; continues = [] })
      (func_view (places p.types) f).body

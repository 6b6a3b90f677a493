-- What the variables of a function begin with.
use Rattle.std.specs.Prelude.{◌≡◌, ◌-◌, ℕ, List, [], ◌∷◌, ◌++◌, Bool, true, false, All, length, map, take}
use Rattle.go_type.specs.Tree.{Ty, no_tys}
use Rattle.go_type.specs.Table.{places}
use Rattle.go_core.specs.declared.node.Var as declared
use Rattle.go_core.specs.declared.program.Func.{Func}
use Rattle.go_core.specs.declared.program.Program.{Program}
use Rattle.go_core.specs.CoreTree.{CoreFunc, Var}
use Rattle.go_core.specs.CoreView.{func_view, program_view, var_of}
use Rattle.go_core.specs.SoundNode.{IsGoodType, IsRowOf, types_of_vars}
use Rattle.go_core.specs.SoundProgram.{Terminates}
use Rattle.go_is_sound.specs.Bodies.{HasBody}

-- those before the rest are of these types
pub record Begins (vars rest : List Var) (types : List Ty) : Type 0 where
  pub head : List Var
  pub parts : vars ≡ head ++ rest
  pub of_types : types_of_vars head ≡ types

-- a method has one receiver, and no other function has any
abbrev pub AreReceivers : Bool → List Ty → Type 0
AreReceivers true us = (t : Ty) × (us ≡ t ∷ [])
AreReceivers false us = us ≡ []

-- a receiver, and then these
pub record OwnFrom (is_method : Bool) (vars rest : List Var) (types : List Ty) : Type 0 where
  pub receivers : List Ty
  pub fit : AreReceivers is_method receivers
  pub begins : Begins vars rest (receivers ++ types)

abbrev pub IsKind : Program → ℕ → Bool → Type 0
IsKind p k true = IsRowOf (program_view p) k
IsKind p k false = IsRowOf (program_view p) k → ⊥

pub record IsBare (f : CoreFunc) : Type 0 where
  pub no_params : f.params ≡ no_tys
  pub no_results : f.results ≡ no_tys
  pub captures_nothing : f.captured ≡ []

-- the function is sound but for what its variables begin with; those after the head are its own
pub record IsFuncOf (p : Program) (f : Func) (own : List declared.Var) : Type 0 where
  pub head : List declared.Var
  pub is_head : head ≡ take (length f.vars.items.items - length own) f.vars.items.items
  pub sound_types : All (λ (v : Var). IsGoodType (program_view p) v.type_) (func_view (places p.types) f).vars
  pub terminates : Terminates (func_view (places p.types) f)
  pub body : HasBody p f (map (var_of (places p.types)) head) (map (var_of (places p.types)) own)

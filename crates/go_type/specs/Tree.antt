-- Go specification (as of Go 1.17), "Types": types as trees, whose leaves include named types.
use Rattle.std.specs.Prelude.{ℕ, List, Bool}
use Rattle.go_type.specs.declared.types.IntName.{IntName}
use Rattle.go_type.specs.declared.types.Basis.{Basis}
use Rattle.go_type.specs.declared.types.Dir.{Dir}

mutual
  pub data Ty : Type 0 where
    bool : Ty
    str : Ty
    int : (name : IntName) → Ty
    nil : Ty
    untyped : (basis : Basis) → Ty
    array : (count : ℕ) (element : Ty) → Ty
    slice : (element : Ty) → Ty
    struct : (fields : Fields) → Ty
    pointer : (target : Ty) → Ty
    func : (params results : Tys) (variadic : Bool) → Ty
    interface : (methods : Specs) → Ty
    mapping : (key value : Ty) → Ty
    chan : (dir : Dir) (element : Ty) → Ty
    -- a leaf: what a named type stands for is no part of the tree
    named : (id : ℕ) → Ty
    tuple : (parts : Tys) → Ty

  pub data Tys : Type 0 where
    no_tys : Tys
    more_tys : (first : Ty) (others : Tys) → Tys

  pub data Fields : Type 0 where
    no_fields : Fields
    more_fields : (name package_ : List ℕ) (type_ : Ty) (embedded : Bool) (tag : List ℕ) (others : Fields) → Fields

  pub data Specs : Type 0 where
    no_specs : Specs
    more_specs : (name package_ : List ℕ) (params results : Tys) (variadic : Bool) (others : Specs) → Specs

-- "Type identity": two types are identical where their trees are one. So a named type is identical to
-- itself alone; arrays have one element type and one length; structs have one sequence of fields, with
-- one name, type and tag each, both embedded or not, and names that aren't exported of one package;
-- functions have one number of parameters and results of identical types, both variadic or not, and
-- their names don't matter; interfaces have one set of methods, in the order of their names; channels
-- have one element type and one direction.

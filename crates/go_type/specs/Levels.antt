-- The trees that a table's ids stand for: each level is read over the trees of the levels before it.
use Rattle.std.specs.Prelude.{◌≡◌, ℕ, ◌^◌, ◌<◌, List, [], ◌∷◌, ◌++◌, Some, get_or, slice_get, length}
use Rattle.std.specs.List.{AllByRecursion}
use Rattle.go_type.specs.Tree.{Ty, Tys, Fields, Specs, no_tys, more_tys, no_fields, more_fields, no_specs, more_specs}
use Rattle.go_type.specs.Tree as tree
use Rattle.go_type.specs.declared.types.TypeId.{TypeId}
use Rattle.go_type.specs.declared.types.FieldRow.{FieldRow}
use Rattle.go_type.specs.declared.types.Sig.{Sig}
use Rattle.go_type.specs.declared.types.MethodSpec.{MethodSpec}
use Rattle.go_type.specs.declared.types.GoType.{GoType}
use Rattle.go_type.specs.declared.types.GoType.TheVariants as go

-- the tree of an id among trees
abbrev pub tree_of : List Ty → TypeId → Ty
tree_of ts t = get_or ts t.0 tree.bool

abbrev pub trees_of : List Ty → List TypeId → Tys
trees_of ts [] = no_tys
trees_of ts (i ∷ is) = more_tys (tree_of ts i) (trees_of ts is)

abbrev pub fields_of : List Ty → List FieldRow → Fields
fields_of ts [] = no_fields
fields_of ts (f ∷ fs) = more_fields f.name f.package (tree_of ts f.ty) f.embedded f.tag (fields_of ts fs)

abbrev pub specs_of : List Ty → List MethodSpec → Specs
specs_of ts [] = no_specs
specs_of ts (m ∷ ms) = more_specs m.name m.package (trees_of ts m.sig.params) (trees_of ts m.sig.results) m.sig.variadic (specs_of ts ms)

-- one level over the trees of its parts
abbrev pub level : List Ty → GoType → Ty
level ts go.Bool = tree.bool
level ts go.Str = tree.str
level ts (go.Int name) = tree.int name
level ts go.Nil = tree.nil
level ts (go.Untyped basis) = tree.untyped basis
level ts (go.Array n t) = tree.array n (tree_of ts t)
level ts (go.Slice t) = tree.slice (tree_of ts t)
level ts (go.Struct fs) = tree.struct (fields_of ts fs)
level ts (go.Pointer t) = tree.pointer (tree_of ts t)
level ts (go.Func s) = tree.func (trees_of ts s.params) (trees_of ts s.results) s.variadic
level ts (go.Interface ms) = tree.interface (specs_of ts ms)
level ts (go.Map k v) = tree.mapping (tree_of ts k) (tree_of ts v)
level ts (go.Chan d t) = tree.chan d (tree_of ts t)
level ts (go.Named n) = tree.named n.0
level ts (go.Tuple is) = tree.tuple (trees_of ts is)

-- the trees of more levels, after those that are there
abbrev pub trees_after : List Ty → List GoType → List Ty
trees_after ts [] = ts
trees_after ts (g ∷ gs) = trees_after (ts ++ level ts g ∷ []) gs

-- the trees of a table's levels, by id
unfoldable pub trees : List GoType → List Ty
trees gs = trees_after [] gs

abbrev pub IdsBelow : ℕ → List TypeId → Type 0
IdsBelow n is = AllByRecursion (λ (i : TypeId). i.0 < n) is

abbrev pub FieldsBelow : ℕ → List FieldRow → Type 0
FieldsBelow n fs = AllByRecursion (λ (f : FieldRow). f.ty.0 < n) fs

abbrev pub SigBelow : ℕ → Sig → Type 0
SigBelow n s = IdsBelow n s.params × IdsBelow n s.results

abbrev pub SpecsBelow : ℕ → List MethodSpec → Type 0
SpecsBelow n ms = AllByRecursion (λ (m : MethodSpec). SigBelow n m.sig) ms

-- the parts of a level are among the first n levels and the first m names, and a struct has fewer than 2^32
abbrev pub Below : ℕ → ℕ → GoType → Type 0
Below n m go.Bool = Unit {0}
Below n m go.Str = Unit {0}
Below n m (go.Int name) = Unit {0}
Below n m go.Nil = Unit {0}
Below n m (go.Untyped basis) = Unit {0}
Below n m (go.Array k t) = t.0 < n
Below n m (go.Slice t) = t.0 < n
Below n m (go.Struct fs) = FieldsBelow n fs × (length fs < 2 ^ 32)
Below n m (go.Pointer t) = t.0 < n
Below n m (go.Func s) = SigBelow n s
Below n m (go.Interface ms) = SpecsBelow n ms
Below n m (go.Map k v) = (k.0 < n) × (v.0 < n)
Below n m (go.Chan d t) = t.0 < n
Below n m (go.Named i) = i.0 < m
Below n m (go.Tuple is) = IdsBelow n is

-- each level's parts stand before it
abbrev pub Rises : ℕ → List GoType → Type 0
Rises m gs = (i : ℕ) (g : GoType) → slice_get gs i ≡ Some g → Below i m g

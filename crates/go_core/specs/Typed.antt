-- Go specification (as of Go 1.17), "Types", "Variables", "Method sets": which values are of a type, and which
-- memories hold values of the types of their places. A pointer is of its type where leaves of the target lie at
-- its base, whatever they hold: so no memory is looked into, and cycles are no matter.
use Rattle.std.specs.Prelude.{◌≡◌, ◌≤◌, ℕ, ℤ, List, [], ◌∷◌, ◌++◌, Bool, true, false, IsTrue, Option, Some, None, slice_get}
use Rattle.go_type.specs.declared.types.Dir.{Dir}
use Rattle.go_type.specs.declared.types.IntName.{IntName}
use Rattle.go_type.specs.Tree as ty
use Rattle.go_type.specs.Tree.{Ty, Tys, Specs}
use Rattle.go_type.specs.Members.{Sought}
use Rattle.go_core.specs.Untagged.{untagged, untagged_types, AreAlike}
use Rattle.go_core.specs.Memory as cell
use Rattle.go_core.specs.Memory.{Scalar, Scalars, no_scalars, scalar, Value, Entry, MapState, Channel, Memory}
use Rattle.go_core.specs.CoreTree.{CoreFunc, MethodRow, CoreProgram}
use Rattle.go_core.specs.TypeOf.{listed_types, var_type, Signature, spec_in}
use Rattle.go_core.specs.SoundNode.{HasRow, IsRowOf}
use Rattle.go_core.specs.SoundProgram.{all_vars}
use Rattle.go_core.specs.Leaves.{Leaf, leaf, times, leaves_of, Spans}

pub record MapTypes : Type 0 where
  pub key : Ty
  pub value : Ty

abbrev pub untagged_map : MapTypes → MapTypes
untagged_map t = record { key = untagged t.key; value = untagged t.value }

-- what lies where: of each place its leaf, of each map the types of its keys and values, and of each channel that
-- of its values, all without tags
pub record World : Type 0 where
  pub cells : List Leaf
  pub maps : List MapTypes
  pub channels : List Ty

-- the type that all of a program's declarations give a variable
abbrev pub type_of_var : CoreProgram → ℕ → Option Ty
type_of_var p v = var_type v (all_vars p)

-- a variable of the program lies there
pub record VarAt (p : CoreProgram) (cells : List Leaf) (var base : ℕ) : Type 0 where
  pub type_ : Ty
  pub is_known : type_of_var p var ≡ Some type_
  pub lies : Spans cells base (leaves_of p.names type_)

abbrev pub AreAt : CoreProgram → List Leaf → List ℕ → List ℕ → Type 0
AreAt p cells [] [] = Unit {0}
AreAt p cells (v ∷ vs) (b ∷ bs) = VarAt p cells v b × AreAt p cells vs bs
AreAt p cells _ _ = ⊥

-- a function takes operands of these types, but for tags; by a method's row the receiver comes first
abbrev pub OperandsFit : CoreProgram → ℕ → Option ℕ → CoreFunc → List Ty → Type 0
OperandsFit p func None f ts = (IsRowOf p func → ⊥) × AreAlike ts (listed_types f.params)
OperandsFit p func (Some k) f ts = (row : MethodRow) × (slice_get p.methods k ≡ Some row) × (row.func ≡ func) × AreAlike ts (row.type_ ∷ listed_types f.params)

-- a function with the bases of what it captured can be called with operands of these types, and has these results, but
-- for tags
pub record Takes (p : CoreProgram) (cells : List Leaf) (func : ℕ) (bases : List ℕ) (row : Option ℕ) (operands results : List Ty) : Type 0 where
  pub function : CoreFunc
  pub is_function : slice_get p.funcs func ≡ Some function
  pub captured_lie : AreAt p cells function.captured bases
  pub operands_fit : OperandsFit p func row function operands
  pub results_fit : AreAlike results (listed_types function.results)

-- a method of the type has its row, whose function has this signature, but for tags
pub record HasRowLike (p : CoreProgram) (t : Ty) (f : Sought) (s : Signature) : Type 0 where
  pub params : Tys
  pub results : Tys
  pub has_row : HasRow p t f params results s.variadic
  pub params_alike : untagged_types params ≡ untagged_types s.params
  pub results_alike : untagged_types results ≡ untagged_types s.results

-- each method of the interface has its row, but for tags: a conversion leaves an interface value as it is
abbrev pub AnswersLike : CoreProgram → Ty → Specs → Type 0
AnswersLike p t ms = (name package_ : List ℕ) (s : Signature) → spec_in name package_ ms ≡ Some s → HasRowLike p t (record { name = name; package_ = package_ }) s

-- the types that have `nil`
abbrev pub takes_nil : Leaf → Bool
takes_nil (leaf ty.bool) = false
takes_nil (leaf ty.str) = false
takes_nil (leaf (ty.int name)) = false
takes_nil _ = true

mutual
  -- the scalar is one of the leaf's values; that a whole number is in the range of its type is not said here
  pub data ScalarTyped (p : CoreProgram) (w : World) : Leaf → Scalar → Type 0 where
    truth_typed : (b : Bool) → ScalarTyped p w (leaf ty.bool) (cell.truth b)
    whole_typed : (name : IntName) (n : ℤ) → ScalarTyped p w (leaf (ty.int name)) (cell.whole n)
    text_typed : (bytes : List ℕ) → ScalarTyped p w (leaf ty.str) (cell.text bytes)
    nil_typed : (l : Leaf) → IsTrue (takes_nil l) → ScalarTyped p w l cell.nil
    pointer_typed : (t : Ty) (base : ℕ) → Spans w.cells base (leaves_of p.names t) → ScalarTyped p w (leaf (ty.pointer t)) (cell.pointer base)
    slice_typed : (t : Ty) (base len capacity : ℕ) → len ≤ capacity → Spans w.cells base (times capacity (leaves_of p.names t))
        → ScalarTyped p w (leaf (ty.slice t)) (cell.slice base len capacity)
    function_typed : (ps rs : Tys) (variadic : Bool) (func : ℕ) (bases : List ℕ) → Takes p w.cells func bases None (listed_types ps) (listed_types rs)
        → ScalarTyped p w (leaf (ty.func ps rs variadic)) (cell.function func bases)
    method_typed : (ps rs : Tys) (variadic : Bool) (row : ℕ) (receiver : Scalars) (r : MethodRow)
        → slice_get p.methods row ≡ Some r → Takes p w.cells r.func [] (Some row) (r.type_ ∷ listed_types ps) (listed_types rs)
        → ScalarsTyped p w (leaves_of p.names r.type_) receiver → ScalarTyped p w (leaf (ty.func ps rs variadic)) (cell.bound_method row receiver)
    interface_typed : (ms : Specs) (t : Ty) (xs : Scalars) → AnswersLike p t ms → ScalarsTyped p w (leaves_of p.names t) xs
        → ScalarTyped p w (leaf (ty.interface ms)) (cell.interface t xs)
    map_typed : (k v : Ty) (name : ℕ) → slice_get w.maps name ≡ Some (record { key = k; value = v }) → ScalarTyped p w (leaf (ty.mapping k v)) (cell.map name)
    channel_typed : (d : Dir) (t : Ty) (name : ℕ) → slice_get w.channels name ≡ Some t → ScalarTyped p w (leaf (ty.chan d t)) (cell.channel name)

  pub data ScalarsTyped (p : CoreProgram) (w : World) : List Leaf → Scalars → Type 0 where
    none_typed : ScalarsTyped p w [] no_scalars
    more_typed : (l : Leaf) (ls : List Leaf) (x : Scalar) (xs : Scalars) → ScalarTyped p w l x → ScalarsTyped p w ls xs → ScalarsTyped p w (l ∷ ls) (scalar x xs)

module _ (p : CoreProgram) (w : World) where
  -- scalars of these leaves, one each
  abbrev pub Lists : List Leaf → List Scalar → Type 0
  Lists [] [] = Unit {0}
  Lists (l ∷ ls) (x ∷ xs) = ScalarTyped p w l x × Lists ls xs
  Lists _ _ = ⊥

  abbrev pub IsOf : Ty → Value → Type 0
  IsOf t x = Lists (leaves_of p.names t) x

  abbrev pub AllOf : Ty → List Value → Type 0
  AllOf t [] = Unit {0}
  AllOf t (x ∷ xs) = IsOf t x × AllOf t xs

  abbrev pub EntriesOf : Ty → Ty → List Entry → Type 0
  EntriesOf k v [] = Unit {0}
  EntriesOf k v (e ∷ es) = (IsOf k e.key × IsOf v e.value) × EntriesOf k v es

  abbrev pub MapsTyped : List MapTypes → List MapState → Type 0
  MapsTyped [] [] = Unit {0}
  MapsTyped (t ∷ ts) (m ∷ ms) = EntriesOf t.key t.value m.entries × MapsTyped ts ms
  MapsTyped _ _ = ⊥

  abbrev pub ChannelsTyped : List Ty → List Channel → Type 0
  ChannelsTyped [] [] = Unit {0}
  ChannelsTyped (t ∷ ts) (c ∷ cs) = AllOf t c.values × ChannelsTyped ts cs
  ChannelsTyped _ _ = ⊥

-- each place holds a value of its leaf, and so do maps and channels
pub record MemoryTyped (p : CoreProgram) (w : World) (m : Memory) : Type 0 where
  pub cells_typed : Lists p w w.cells m.cells
  pub maps_typed : MapsTyped p w w.maps m.maps
  pub channels_typed : ChannelsTyped p w w.channels m.channels

-- what lies somewhere goes on lying there
pub record Extends (old new : World) : Type 0 where
  pub more_cells : List Leaf
  pub more_maps : List MapTypes
  pub more_channels : List Ty
  pub cells_stay : new.cells ≡ old.cells ++ more_cells
  pub maps_stay : new.maps ≡ old.maps ++ more_maps
  pub channels_stay : new.channels ≡ old.channels ++ more_channels

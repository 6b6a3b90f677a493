-- Go specification (as of Go 1.17), "Expressions", "Conversions": the types of core nodes and places.
use Rattle.std.specs.Prelude.{ℕ, zero, suc, List, [], ◌∷◌, ◌++◌, Bool, true, false, ◌==◌, bytes_eq, ◌&&◌, if◌then◌else◌, Option, Some, None, slice_get, option_and_then}
use Rattle.go_type.specs.declared.types.IntName.TheVariants as integer
use Rattle.go_type.specs.Tree as ty
use Rattle.go_type.specs.Tree.{Ty, Tys, Fields, Specs, no_tys, more_tys, no_fields, more_fields, no_specs, more_specs}
use Rattle.go_type.specs.Named.{NamedTy}
use Rattle.go_type.specs.Underlying.{underlying}
use Rattle.go_core.specs.CoreTree as core
use Rattle.go_core.specs.CoreTree.{Expr, Exprs, no_exprs, expr, CorePlace, Var, PackageVar, CoreProgram}

abbrev pub listed_types : Tys → List Ty
listed_types no_tys = []
listed_types (more_tys t ts) = t ∷ listed_types ts

-- with a second value that says whether there is a first one
abbrev pub with_truth : Bool → Option Ty → List Ty
with_truth ok None = []
with_truth false (Some t) = t ∷ []
with_truth true (Some t) = t ∷ ty.bool ∷ []

abbrev pub value_type : Ty → Option Ty
value_type (ty.mapping k v) = Some v
value_type _ = None

abbrev pub key_type : Ty → Option Ty
key_type (ty.mapping k v) = Some k
key_type _ = None

abbrev pub element_type : Ty → Option Ty
element_type (ty.array n t) = Some t
element_type (ty.slice t) = Some t
element_type _ = None

abbrev pub channel_type : Ty → Option Ty
channel_type (ty.chan d t) = Some t
channel_type _ = None

abbrev pub pointed_type : Ty → Option Ty
pointed_type (ty.pointer t) = Some t
pointed_type _ = None

-- a field's type, its name and its package
pub record FieldTy : Type 0 where
  pub name : List ℕ
  pub package_ : List ℕ
  pub type_ : Ty

abbrev pub nth_field : Fields → ℕ → Option FieldTy
nth_field no_fields n = None
nth_field (more_fields name package_ t embedded tag fs) zero = Some (record { name = name; package_ = package_; type_ = t })
nth_field (more_fields name package_ t embedded tag fs) (suc n) = nth_field fs n

abbrev pub field_in : Ty → ℕ → Option FieldTy
field_in (ty.struct fs) n = nth_field fs n
field_in _ n = None

abbrev pub int_type : Ty
int_type = ty.int integer.Int

module _ (ns : List NamedTy) where
  -- the types of the values that an expression gives
  abbrev pub types_of : Expr → List Ty
  types_of (core.constant t c) = t ∷ []
  types_of (core.zero_value t) = t ∷ []
  types_of (core.read t place) = t ∷ []
  types_of (core.address t place) = t ∷ []
  types_of (core.unary op t e) = t ∷ []
  types_of (core.binary op t a b) = t ∷ []
  types_of (core.concat t a b) = t ∷ []
  types_of (core.equal negated t u a b) = u ∷ []
  types_of (core.less op t u a b) = u ∷ []
  types_of (core.and_then t a b) = t ∷ []
  types_of (core.or_else t a b) = t ∷ []
  types_of (core.not_ t e) = t ∷ []
  types_of (core.convert from to e) = to ∷ []
  types_of (core.byte_at e i) = ty.int integer.Uint8 ∷ []
  types_of (core.slice_of from t e low high limit) = t ∷ []
  types_of (core.build t count es) = t ∷ []
  types_of (core.build_map t ps) = t ∷ []
  types_of (core.closure t f) = t ∷ []
  types_of (core.bind t n e) = t ∷ []
  types_of (core.bind_dynamic t name package_ e) = t ∷ []
  types_of (core.call results callee es) = listed_types results
  types_of (core.map_get t ok e key) = with_truth ok (value_type (underlying ns t))
  types_of (core.len from e) = int_type ∷ []
  types_of (core.cap from e) = int_type ∷ []
  types_of (core.append t from a b) = t ∷ []
  types_of (core.copy_elems t from a b) = int_type ∷ []
  types_of (core.make_slice t n capacity) = t ∷ []
  types_of (core.make_map t count) = t ∷ []
  types_of (core.make_chan t capacity) = t ∷ []
  types_of (core.new_ t) = ty.pointer t ∷ []
  types_of (core.wrap from t e) = t ∷ []
  types_of (core.assert_ t ok e) = with_truth ok (Some t)
  types_of (core.basic t e) = t ∷ []
  types_of (core.receive t ok e) = with_truth ok (channel_type (underlying ns t))
  types_of (core.recover_ t) = t ∷ []
  types_of (core.gate_make e) = ty.pointer int_type ∷ []
  types_of (core.gate_add e n) = int_type ∷ []
  types_of (core.let_in vars es body) = types_of body

  abbrev pub all_types : Exprs → List Ty
  all_types no_exprs = []
  all_types (expr e es) = types_of e ++ all_types es

abbrev pub var_type : ℕ → List Var → Option Ty
var_type v [] = None
var_type v (x ∷ xs) = if x.id == v then Some x.type_ else var_type v xs

abbrev pub global_type : Option PackageVar → Option Ty
global_type None = None
global_type (Some v) = Some v.type_

abbrev pub field_type : Option FieldTy → Option Ty
field_type None = None
field_type (Some f) = Some f.type_

abbrev pub one_type : List Ty → Option Ty
one_type (t ∷ []) = Some t
one_type _ = None

-- the type of what lies at a place, with these variables in scope
abbrev pub place_type : CoreProgram → List Var → CorePlace → Option Ty
place_type p vars (core.local_ v) = var_type v vars
place_type p vars (core.global n) = global_type (slice_get p.globals n)
place_type p vars (core.deref e) = option_and_then (λ t. pointed_type (underlying p.names t)) (one_type (types_of p.names e))
place_type p vars (core.field t n place) = field_type (field_in (underlying p.names t) n)
place_type p vars (core.elem t place i) = element_type (underlying p.names t)
place_type p vars (core.slice_elem t e i) = element_type (underlying p.names t)

-- the signature of an interface's method
pub record Signature : Type 0 where
  pub params : Tys
  pub results : Tys
  pub variadic : Bool

abbrev pub spec_in : List ℕ → List ℕ → Specs → Option Signature
spec_in name package_ no_specs = None
spec_in name package_ (more_specs n q params results variadic ms) =
    if bytes_eq n name && bytes_eq q package_ then Some (record { params = params; results = results; variadic = variadic }) else spec_in name package_ ms

abbrev pub method_in : List ℕ → List ℕ → Ty → Option Signature
method_in name package_ (ty.interface ms) = spec_in name package_ ms
method_in name package_ _ = None

-- The tests hold of equal values alone.
use Rattle.std.specs.Prelude.{◌≡◌, ℕ, ◌==◌, Bool, true, false, ◌&&◌, List, bytes_eq, refl}
use Rattle.std.proofs.Common.{zero, suc, sym, ◌∙◌, ap, subst, arith}
use Rattle.std.specs.Bool.{Decides}
use Rattle.std.proofs.lemmas.Slice.Eq.{bytes_eq-Decides}
use Rattle.std.proofs.lemmas.Bool.{eqb-true, eq-eqb}
use lib.Pointwise.{pointwise, pointwise_decides}
use Rattle.go_type.specs.declared.types.TypeId.{TypeId}
use Rattle.go_type.specs.declared.types.NamedId.{NamedId}
use Rattle.go_type.specs.declared.types.IntName.{IntName}
use Rattle.go_type.specs.declared.types.IntName.TheVariants as integer
use Rattle.go_type.specs.declared.types.Basis.{Basis}
use Rattle.go_type.specs.declared.types.Basis.TheVariants as basis
use Rattle.go_type.specs.declared.types.Dir.{Dir}
use Rattle.go_type.specs.declared.types.Dir.TheVariants as dir
use Rattle.go_type.specs.declared.types.FieldRow.{FieldRow}
use Rattle.go_type.specs.declared.types.Sig.{Sig}
use Rattle.go_type.specs.declared.types.MethodSpec.{MethodSpec}
use Rattle.go_type.specs.declared.types.GoType.{GoType}
use Rattle.go_type.specs.declared.types.GoType.TheVariants as go
use Rattle.go_type.specs.Same.{same_truth, int_code, basis_code, dir_code, int_eq, basis_eq, dir_eq, id_eq, named_eq, field_eq, sig_eq, spec_eq, type_eq}

both : (a b : Bool) → (a && b) ≡ true → (a ≡ true) × (b ≡ true)
both true b h = (refl, h)
both false b h = cc

join : (a b : Bool) → a ≡ true → b ≡ true → (a && b) ≡ true
join true b h k = k
join false b h k = cc

self_eq : (n : ℕ) → (n == n) ≡ true
self_eq n = eq-eqb n n refl

truth_one : (a b : Bool) → same_truth a b ≡ true → a ≡ b
truth_one true true h = refl
truth_one false false h = refl
truth_one true false h = cc
truth_one false true h = cc

truth_self : (a : Bool) → same_truth a a ≡ true
truth_self true = refl
truth_self false = refl

int_of : ℕ → IntName
int_of zero = integer.Int
int_of (suc zero) = integer.Int8
int_of (suc (suc zero)) = integer.Int16
int_of (suc (suc (suc zero))) = integer.Int32
int_of (suc (suc (suc (suc zero)))) = integer.Int64
int_of (suc (suc (suc (suc (suc zero))))) = integer.Uint
int_of (suc (suc (suc (suc (suc (suc zero)))))) = integer.Uint8
int_of (suc (suc (suc (suc (suc (suc (suc zero))))))) = integer.Uint16
int_of (suc (suc (suc (suc (suc (suc (suc (suc zero)))))))) = integer.Uint32
int_of (suc (suc (suc (suc (suc (suc (suc (suc (suc zero))))))))) = integer.Uint64
int_of _ = integer.Uintptr

int_of_again : (a : IntName) → int_of (int_code a) ≡ a
unfolding int_of
int_of_again integer.Int = refl
int_of_again integer.Int8 = refl
int_of_again integer.Int16 = refl
int_of_again integer.Int32 = refl
int_of_again integer.Int64 = refl
int_of_again integer.Uint = refl
int_of_again integer.Uint8 = refl
int_of_again integer.Uint16 = refl
int_of_again integer.Uint32 = refl
int_of_again integer.Uint64 = refl
int_of_again integer.Uintptr = refl

basis_of : ℕ → Basis
basis_of zero = basis.Bool
basis_of (suc zero) = basis.Int
basis_of (suc (suc zero)) = basis.Rune
basis_of _ = basis.Str

basis_of_again : (a : Basis) → basis_of (basis_code a) ≡ a
unfolding basis_of
basis_of_again basis.Bool = refl
basis_of_again basis.Int = refl
basis_of_again basis.Rune = refl
basis_of_again basis.Str = refl

dir_of : ℕ → Dir
dir_of zero = dir.Both
dir_of (suc zero) = dir.Send
dir_of _ = dir.Receive

dir_of_again : (a : Dir) → dir_of (dir_code a) ≡ a
unfolding dir_of
dir_of_again dir.Both = refl
dir_of_again dir.Send = refl
dir_of_again dir.Receive = refl

-- ---- each test decides

module _ {K : Type 0} (code : K → ℕ) (back : ℕ → K) (again : (a : K) → back (code a) ≡ a) where
  coded : (a b : K) → Decides (code a == code b) (a ≡ b)
  coded a b = (λ h. sym (again a) ∙ ap back (eqb-true (code a) (code b) h) ∙ again b, λ e. subst (λ (c : K). (code a == code c) ≡ true) e (self_eq (code a)))

pub int_decides : (a b : IntName) → Decides (int_eq a b) (a ≡ b)
int_decides = coded int_code int_of int_of_again

pub basis_decides : (a b : Basis) → Decides (basis_eq a b) (a ≡ b)
basis_decides = coded basis_code basis_of basis_of_again

pub dir_decides : (a b : Dir) → Decides (dir_eq a b) (a ≡ b)
dir_decides = coded dir_code dir_of dir_of_again

pub id_decides : (a b : TypeId) → Decides (id_eq a b) (a ≡ b)
id_decides a b = (λ h. ap (λ (n : ℕ). record { 0 = n }) (eqb-true a.0 b.0 h), λ e. subst (λ (c : TypeId). (a.0 == c.0) ≡ true) e (self_eq a.0))

pub named_decides : (a b : NamedId) → Decides (named_eq a b) (a ≡ b)
named_decides a b = (λ h. ap (λ (n : ℕ). record { 0 = n }) (eqb-true a.0 b.0 h), λ e. subst (λ (c : NamedId). (a.0 == c.0) ≡ true) e (self_eq a.0))

ids_decides : (a b : List TypeId) → Decides (pointwise id_eq a b) (a ≡ b)
ids_decides = pointwise_decides id_decides

bytes_one : (x y : List ℕ) → bytes_eq x y ≡ true → x ≡ y
bytes_one x y h = grind (arith, bytes_eq-Decides x y)

bytes_self : (x : List ℕ) → bytes_eq x x ≡ true
bytes_self x = grind (arith, bytes_eq-Decides x x)

field_one : (a b : FieldRow) → field_eq a b ≡ true → a ≡ b
field_one a b h =
    let h1 = both (bytes_eq a.name b.name && bytes_eq a.package b.package && id_eq a.ty b.ty && same_truth a.embedded b.embedded) (bytes_eq a.tag b.tag) h in
    let h2 = both (bytes_eq a.name b.name && bytes_eq a.package b.package && id_eq a.ty b.ty) (same_truth a.embedded b.embedded) h1.0 in
    let h3 = both (bytes_eq a.name b.name && bytes_eq a.package b.package) (id_eq a.ty b.ty) h2.0 in
    let h4 = both (bytes_eq a.name b.name) (bytes_eq a.package b.package) h3.0 in
    let e1 : a.name ≡ b.name = bytes_one a.name b.name h4.0 in
    let e2 : a.package ≡ b.package = bytes_one a.package b.package h4.1 in
    let e3 : a.ty ≡ b.ty = (id_decides a.ty b.ty).0 h3.1 in
    let e4 : a.embedded ≡ b.embedded = truth_one a.embedded b.embedded h2.1 in
    let e5 : a.tag ≡ b.tag = bytes_one a.tag b.tag h1.1 in
    λ i. record { name = e1 i; «package» = e2 i; ty = e3 i; embedded = e4 i; tag = e5 i }

field_self : (a : FieldRow) → field_eq a a ≡ true
field_self a = simp (bytes_self a.name, bytes_self a.package, self_eq a.ty.0, truth_self a.embedded, bytes_self a.tag)

pub field_decides : (a b : FieldRow) → Decides (field_eq a b) (a ≡ b)
field_decides a b = (field_one a b, λ e. subst (λ (c : FieldRow). field_eq a c ≡ true) e (field_self a))

ids_self : (a : List TypeId) → pointwise id_eq a a ≡ true
ids_self a = (ids_decides a a).1 refl

sig_one : (a b : Sig) → sig_eq a b ≡ true → a ≡ b
sig_one a b h =
    let h1 = both (pointwise id_eq a.params b.params && pointwise id_eq a.results b.results) (same_truth a.variadic b.variadic) h in
    let h2 = both (pointwise id_eq a.params b.params) (pointwise id_eq a.results b.results) h1.0 in
    let e1 : a.params ≡ b.params = (ids_decides a.params b.params).0 h2.0 in
    let e2 : a.results ≡ b.results = (ids_decides a.results b.results).0 h2.1 in
    let e3 : a.variadic ≡ b.variadic = truth_one a.variadic b.variadic h1.1 in
    λ i. record { params = e1 i; results = e2 i; variadic = e3 i }

sig_self : (a : Sig) → sig_eq a a ≡ true
sig_self a = simp (ids_self a.params, ids_self a.results, truth_self a.variadic)

pub sig_decides : (a b : Sig) → Decides (sig_eq a b) (a ≡ b)
sig_decides a b = (sig_one a b, λ e. subst (λ (c : Sig). sig_eq a c ≡ true) e (sig_self a))

spec_one : (a b : MethodSpec) → spec_eq a b ≡ true → a ≡ b
spec_one a b h =
    let h1 = both (bytes_eq a.name b.name && bytes_eq a.package b.package) (sig_eq a.sig b.sig) h in
    let h2 = both (bytes_eq a.name b.name) (bytes_eq a.package b.package) h1.0 in
    let e1 : a.name ≡ b.name = bytes_one a.name b.name h2.0 in
    let e2 : a.package ≡ b.package = bytes_one a.package b.package h2.1 in
    let e3 : a.sig ≡ b.sig = sig_one a.sig b.sig h1.1 in
    λ i. record { name = e1 i; «package» = e2 i; sig = e3 i }

spec_self : (a : MethodSpec) → spec_eq a a ≡ true
spec_self a = simp (bytes_self a.name, bytes_self a.package, sig_self a.sig)

pub spec_decides : (a b : MethodSpec) → Decides (spec_eq a b) (a ≡ b)
spec_decides a b = (spec_one a b, λ e. subst (λ (c : MethodSpec). spec_eq a c ≡ true) e (spec_self a))

type_one : (a b : GoType) → type_eq a b ≡ true → a ≡ b
type_one go.Bool go.Bool h = refl
type_one go.Str go.Str h = refl
type_one (go.Int a) (go.Int b) h = ap go.Int ((int_decides a b).0 h)
type_one go.Nil go.Nil h = refl
type_one (go.Untyped a) (go.Untyped b) h = ap go.Untyped ((basis_decides a b).0 h)
type_one (go.Array m a) (go.Array n b) h =
    let p = both (m == n) (id_eq a b) h in
    let e : m ≡ n = eqb-true m n p.0 in
    let f : a ≡ b = (id_decides a b).0 p.1 in cc
type_one (go.Slice a) (go.Slice b) h = ap go.Slice ((id_decides a b).0 h)
type_one (go.Struct a) (go.Struct b) h = ap go.Struct ((pointwise_decides field_decides a b).0 h)
type_one (go.Pointer a) (go.Pointer b) h = ap go.Pointer ((id_decides a b).0 h)
type_one (go.Func a) (go.Func b) h = ap go.Func (sig_one a b h)
type_one (go.Interface a) (go.Interface b) h = ap go.Interface ((pointwise_decides spec_decides a b).0 h)
type_one (go.Map k v) (go.Map l w) h =
    let p = both (id_eq k l) (id_eq v w) h in
    let e : k ≡ l = (id_decides k l).0 p.0 in
    let f : v ≡ w = (id_decides v w).0 p.1 in cc
type_one (go.Chan d a) (go.Chan c b) h =
    let p = both (dir_eq d c) (id_eq a b) h in
    let e : d ≡ c = (dir_decides d c).0 p.0 in
    let f : a ≡ b = (id_decides a b).0 p.1 in cc
type_one (go.Named a) (go.Named b) h = ap go.Named ((named_decides a b).0 h)
type_one (go.Tuple a) (go.Tuple b) h = ap go.Tuple ((ids_decides a b).0 h)
type_one _ _ h = cc

type_self : (a : GoType) → type_eq a a ≡ true
type_self go.Bool = refl
type_self go.Str = refl
type_self (go.Int a) = self_eq (int_code a)
type_self go.Nil = refl
type_self (go.Untyped a) = self_eq (basis_code a)
type_self (go.Array m a) = join (m == m) (id_eq a a) (self_eq m) (self_eq a.0)
type_self (go.Slice a) = self_eq a.0
type_self (go.Struct a) = (pointwise_decides field_decides a a).1 refl
type_self (go.Pointer a) = self_eq a.0
type_self (go.Func a) = sig_self a
type_self (go.Interface a) = (pointwise_decides spec_decides a a).1 refl
type_self (go.Map k v) = join (id_eq k k) (id_eq v v) (self_eq k.0) (self_eq v.0)
type_self (go.Chan d a) = join (dir_eq d d) (id_eq a a) (self_eq (dir_code d)) (self_eq a.0)
type_self (go.Named a) = self_eq a.0
type_self (go.Tuple a) = ids_self a

pub type_decides : (a b : GoType) → Decides (type_eq a b) (a ≡ b)
type_decides a b = (type_one a b, λ e. subst (λ (c : GoType). type_eq a c ≡ true) e (type_self a))

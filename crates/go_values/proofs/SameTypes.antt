-- Types compare as identical exactly where they are one.
use Rattle.std.proofs.Common.{refl, sym, ap, ◌∙◌, arith, subst}
use Rattle.std.specs.Prelude.{◌≡◌, ℕ, zero, suc, ◌==◌, List, Bool, true, false, ◌&&◌, bytes_eq}
use Rattle.std.proofs.lemmas.Bool.{eqb-true, eq-eqb}
use Rattle.std.proofs.lemmas.Slice.Eq.{bytes_eq-Decides}
use Rattle.go_type.specs.Same.{int_code, basis_code, dir_code}
use Rattle.go_type.specs.declared.types.IntName.{IntName}
use Rattle.go_type.specs.declared.types.IntName.TheVariants as integer
use Rattle.go_type.specs.declared.types.Basis.{Basis}
use Rattle.go_type.specs.declared.types.Basis.TheVariants as basis
use Rattle.go_type.specs.declared.types.Dir.{Dir}
use Rattle.go_type.specs.declared.types.Dir.TheVariants as dir
use Rattle.go_type.specs.Tree as ty
use Rattle.go_type.specs.Tree.{Ty, Tys, Fields, Specs, no_tys, more_tys, no_fields, more_fields, no_specs, more_specs}
use Rattle.go_core.specs.SameType.{same_truth, same_type, same_types, same_fields, same_specs}

first_true : (a b : Bool) → (a && b) ≡ true → a ≡ true
first_true true b h = refl
first_true false b h = cc

second_true : (a b : Bool) → (a && b) ≡ true → b ≡ true
second_true true b h = h
second_true false b h = absurd (cc)

bytes_one : (x y : List ℕ) → bytes_eq x y ≡ true → x ≡ y
bytes_one x y h = grind (arith, bytes_eq-Decides x y)

truth_one : (a b : Bool) → same_truth a b ≡ true → a ≡ b
truth_one true b h = sym h
truth_one false true h = absurd (cc)
truth_one false false h = refl

int_of : ℕ → IntName
int_of zero = integer.Int
int_of (suc zero) = integer.Int8
int_of (suc (suc zero)) = integer.Int16
int_of (suc (suc (suc zero))) = integer.Int32
int_of (suc (suc (suc (suc zero)))) = integer.Int64
int_of (suc (suc (suc (suc (suc zero))))) = integer.Uint
int_of (suc (suc (suc (suc (suc (suc zero)))))) = integer.Uint8
int_of (suc (suc (suc (suc (suc (suc (suc zero))))))) = integer.Uint16
int_of (suc (suc (suc (suc (suc (suc (suc (suc zero)))))))) = integer.Uint32
int_of (suc (suc (suc (suc (suc (suc (suc (suc (suc zero))))))))) = integer.Uint64
int_of _ = integer.Uintptr

int_back : (a : IntName) → int_of (int_code a) ≡ a
unfolding int_of
int_back integer.Int = refl
int_back integer.Int8 = refl
int_back integer.Int16 = refl
int_back integer.Int32 = refl
int_back integer.Int64 = refl
int_back integer.Uint = refl
int_back integer.Uint8 = refl
int_back integer.Uint16 = refl
int_back integer.Uint32 = refl
int_back integer.Uint64 = refl
int_back integer.Uintptr = refl

int_one : (a b : IntName) → (int_code a == int_code b) ≡ true → a ≡ b
int_one a b h = sym (int_back a) ∙ ap int_of (eqb-true (int_code a) (int_code b) h) ∙ int_back b

basis_of : ℕ → Basis
basis_of zero = basis.Bool
basis_of (suc zero) = basis.Int
basis_of (suc (suc zero)) = basis.Rune
basis_of _ = basis.Str

basis_back : (a : Basis) → basis_of (basis_code a) ≡ a
unfolding basis_of
basis_back basis.Bool = refl
basis_back basis.Int = refl
basis_back basis.Rune = refl
basis_back basis.Str = refl

basis_one : (a b : Basis) → (basis_code a == basis_code b) ≡ true → a ≡ b
basis_one a b h = sym (basis_back a) ∙ ap basis_of (eqb-true (basis_code a) (basis_code b) h) ∙ basis_back b

dir_of : ℕ → Dir
dir_of zero = dir.Both
dir_of (suc zero) = dir.Send
dir_of _ = dir.Receive

dir_back : (a : Dir) → dir_of (dir_code a) ≡ a
unfolding dir_of
dir_back dir.Both = refl
dir_back dir.Send = refl
dir_back dir.Receive = refl

dir_one : (a b : Dir) → (dir_code a == dir_code b) ≡ true → a ≡ b
dir_one a b h = sym (dir_back a) ∙ ap dir_of (eqb-true (dir_code a) (dir_code b) h) ∙ dir_back b

mutual
  pub type_one : (a b : Ty) → same_type a b ≡ true → a ≡ b
  type_one ty.bool ty.bool h = refl
  type_one ty.str ty.str h = refl
  type_one (ty.int a) (ty.int b) h = ap ty.int (int_one a b h)
  type_one ty.nil ty.nil h = refl
  type_one (ty.untyped a) (ty.untyped b) h = ap ty.untyped (basis_one a b h)
  type_one (ty.array m a) (ty.array n b) h =
      ap (λ k. ty.array k a) (eqb-true m n (first_true (m == n) (same_type a b) h)) ∙ ap (ty.array n) (type_one a b (second_true (m == n) (same_type a b) h))
  type_one (ty.slice a) (ty.slice b) h = ap ty.slice (type_one a b h)
  type_one (ty.struct fs) (ty.struct gs) h = ap ty.struct (fields_one fs gs h)
  type_one (ty.pointer a) (ty.pointer b) h = ap ty.pointer (type_one a b h)
  type_one (ty.func ps rs v) (ty.func qs ss u) h =
      let a = first_true (same_types ps qs && same_types rs ss) (same_truth v u) h in
      ap (λ x. ty.func x rs v) (types_one ps qs (first_true (same_types ps qs) (same_types rs ss) a))
      ∙ ap (λ x. ty.func qs x v) (types_one rs ss (second_true (same_types ps qs) (same_types rs ss) a))
      ∙ ap (λ x. ty.func qs ss x) (truth_one v u (second_true (same_types ps qs && same_types rs ss) (same_truth v u) h))
  type_one (ty.interface ms) (ty.interface ns) h = ap ty.interface (specs_one ms ns h)
  type_one (ty.mapping k v) (ty.mapping l u) h =
      ap (λ x. ty.mapping x v) (type_one k l (first_true (same_type k l) (same_type v u) h)) ∙ ap (ty.mapping l) (type_one v u (second_true (same_type k l) (same_type v u) h))
  type_one (ty.chan d a) (ty.chan e b) h =
      ap (λ x. ty.chan x a) (dir_one d e (first_true (dir_code d == dir_code e) (same_type a b) h)) ∙ ap (ty.chan e) (type_one a b (second_true (dir_code d == dir_code e) (same_type a b) h))
  type_one (ty.named i) (ty.named j) h = ap ty.named (eqb-true i j h)
  type_one (ty.tuple ts) (ty.tuple us) h = ap ty.tuple (types_one ts us h)
  type_one _ _ h = absurd (cc)

  pub types_one : (ts us : Tys) → same_types ts us ≡ true → ts ≡ us
  types_one no_tys no_tys h = refl
  types_one (more_tys t ts) (more_tys u us) h =
      ap (λ x. more_tys x ts) (type_one t u (first_true (same_type t u) (same_types ts us) h)) ∙ ap (more_tys u) (types_one ts us (second_true (same_type t u) (same_types ts us) h))
  types_one _ _ h = absurd (cc)

  fields_one : (fs gs : Fields) → same_fields fs gs ≡ true → fs ≡ gs
  fields_one no_fields no_fields h = refl
  fields_one (more_fields a p t e tag fs) (more_fields b q u f other gs) h =
      let h5 = second_true (bytes_eq a b && bytes_eq p q && same_type t u && same_truth e f && bytes_eq tag other) (same_fields fs gs) h in
      let k5 = first_true (bytes_eq a b && bytes_eq p q && same_type t u && same_truth e f && bytes_eq tag other) (same_fields fs gs) h in
      let h4 = second_true (bytes_eq a b && bytes_eq p q && same_type t u && same_truth e f) (bytes_eq tag other) k5 in
      let k4 = first_true (bytes_eq a b && bytes_eq p q && same_type t u && same_truth e f) (bytes_eq tag other) k5 in
      let h3 = second_true (bytes_eq a b && bytes_eq p q && same_type t u) (same_truth e f) k4 in
      let k3 = first_true (bytes_eq a b && bytes_eq p q && same_type t u) (same_truth e f) k4 in
      let h2 = second_true (bytes_eq a b && bytes_eq p q) (same_type t u) k3 in
      let k2 = first_true (bytes_eq a b && bytes_eq p q) (same_type t u) k3 in
      ap (λ x. more_fields x p t e tag fs) (bytes_one a b (first_true (bytes_eq a b) (bytes_eq p q) k2))
      ∙ ap (λ x. more_fields b x t e tag fs) (bytes_one p q (second_true (bytes_eq a b) (bytes_eq p q) k2))
      ∙ ap (λ x. more_fields b q x e tag fs) (type_one t u h2)
      ∙ ap (λ x. more_fields b q u x tag fs) (truth_one e f h3)
      ∙ ap (λ x. more_fields b q u f x fs) (bytes_one tag other h4)
      ∙ ap (λ x. more_fields b q u f other x) (fields_one fs gs h5)
  fields_one _ _ h = absurd (cc)

  specs_one : (ms ns : Specs) → same_specs ms ns ≡ true → ms ≡ ns
  specs_one no_specs no_specs h = refl
  specs_one (more_specs a p ps rs v ms) (more_specs b q qs ss u ns) h =
      let h5 = second_true (bytes_eq a b && bytes_eq p q && same_types ps qs && same_types rs ss && same_truth v u) (same_specs ms ns) h in
      let k5 = first_true (bytes_eq a b && bytes_eq p q && same_types ps qs && same_types rs ss && same_truth v u) (same_specs ms ns) h in
      let h4 = second_true (bytes_eq a b && bytes_eq p q && same_types ps qs && same_types rs ss) (same_truth v u) k5 in
      let k4 = first_true (bytes_eq a b && bytes_eq p q && same_types ps qs && same_types rs ss) (same_truth v u) k5 in
      let h3 = second_true (bytes_eq a b && bytes_eq p q && same_types ps qs) (same_types rs ss) k4 in
      let k3 = first_true (bytes_eq a b && bytes_eq p q && same_types ps qs) (same_types rs ss) k4 in
      let h2 = second_true (bytes_eq a b && bytes_eq p q) (same_types ps qs) k3 in
      let k2 = first_true (bytes_eq a b && bytes_eq p q) (same_types ps qs) k3 in
      ap (λ x. more_specs x p ps rs v ms) (bytes_one a b (first_true (bytes_eq a b) (bytes_eq p q) k2))
      ∙ ap (λ x. more_specs b x ps rs v ms) (bytes_one p q (second_true (bytes_eq a b) (bytes_eq p q) k2))
      ∙ ap (λ x. more_specs b q x rs v ms) (types_one ps qs h2)
      ∙ ap (λ x. more_specs b q qs x v ms) (types_one rs ss h3)
      ∙ ap (λ x. more_specs b q qs ss x ms) (truth_one v u h4)
      ∙ ap (λ x. more_specs b q qs ss u x) (specs_one ms ns h5)
  specs_one _ _ h = absurd (cc)

-- ---- each type is identical to itself

number_self : (n : ℕ) → (n == n) ≡ true
number_self n = eq-eqb n n refl

bytes_self : (x : List ℕ) → bytes_eq x x ≡ true
bytes_self x = grind (arith, bytes_eq-Decides x x)

truth_self : (a : Bool) → same_truth a a ≡ true
truth_self true = refl
truth_self false = refl

both_true : (a b : Bool) → a ≡ true → b ≡ true → (a && b) ≡ true
both_true true b h k = k
both_true false b h k = cc

mutual
  pub type_self : (a : Ty) → same_type a a ≡ true
  type_self ty.bool = refl
  type_self ty.str = refl
  type_self (ty.int a) = number_self (int_code a)
  type_self ty.nil = refl
  type_self (ty.untyped a) = number_self (basis_code a)
  type_self (ty.array m a) = both_true (m == m) (same_type a a) (number_self m) (type_self a)
  type_self (ty.slice a) = type_self a
  type_self (ty.struct fs) = fields_self fs
  type_self (ty.pointer a) = type_self a
  type_self (ty.func ps rs v) = both_true (same_types ps ps && same_types rs rs) (same_truth v v) (both_true (same_types ps ps) (same_types rs rs) (types_self ps) (types_self rs)) (truth_self v)
  type_self (ty.interface ms) = specs_self ms
  type_self (ty.mapping k v) = both_true (same_type k k) (same_type v v) (type_self k) (type_self v)
  type_self (ty.chan d a) = both_true (dir_code d == dir_code d) (same_type a a) (number_self (dir_code d)) (type_self a)
  type_self (ty.named i) = number_self i
  type_self (ty.tuple ts) = types_self ts

  pub types_self : (ts : Tys) → same_types ts ts ≡ true
  types_self no_tys = refl
  types_self (more_tys t ts) = both_true (same_type t t) (same_types ts ts) (type_self t) (types_self ts)

  fields_self : (fs : Fields) → same_fields fs fs ≡ true
  fields_self no_fields = refl
  fields_self (more_fields a p t e tag fs) =
      both_true (bytes_eq a a && bytes_eq p p && same_type t t && same_truth e e && bytes_eq tag tag) (same_fields fs fs)
      (both_true (bytes_eq a a && bytes_eq p p && same_type t t && same_truth e e) (bytes_eq tag tag)
      (both_true (bytes_eq a a && bytes_eq p p && same_type t t) (same_truth e e)
      (both_true (bytes_eq a a && bytes_eq p p) (same_type t t)
      (both_true (bytes_eq a a) (bytes_eq p p) (bytes_self a) (bytes_self p)) (type_self t)) (truth_self e)) (bytes_self tag)) (fields_self fs)

  specs_self : (ms : Specs) → same_specs ms ms ≡ true
  specs_self no_specs = refl
  specs_self (more_specs a p ps rs v ms) =
      both_true (bytes_eq a a && bytes_eq p p && same_types ps ps && same_types rs rs && same_truth v v) (same_specs ms ms)
      (both_true (bytes_eq a a && bytes_eq p p && same_types ps ps && same_types rs rs) (same_truth v v)
      (both_true (bytes_eq a a && bytes_eq p p && same_types ps ps) (same_types rs rs)
      (both_true (bytes_eq a a && bytes_eq p p) (same_types ps ps)
      (both_true (bytes_eq a a) (bytes_eq p p) (bytes_self a) (bytes_self p)) (types_self ps)) (types_self rs)) (truth_self v)) (specs_self ms)

-- equal answers: of identity and of a test that decides the same
pub same_is : (a b : Ty) (c : Bool) → (c ≡ true → a ≡ b) → (a ≡ b → c ≡ true) → c ≡ same_type a b
same_is a b true h k = sym (subst (λ (t : Ty). same_type a t ≡ true) (h refl) (type_self a))
same_is a b false h k = by_answer (same_type a b) refl
  where
    no_truth : false ≡ true → ⊥
    no_truth e = cc

    by_answer : (d : Bool) → same_type a b ≡ d → false ≡ same_type a b
    by_answer true e = absurd (no_truth (k (type_one a b e)))
    by_answer false e = sym e

-- Types compare as identical exactly where they are one.
use Rattle.std.proofs.Common.{refl, sym, ap, ◌∙◌, arith, subst}
use Rattle.std.specs.Prelude.{◌≡◌, ℕ, zero, suc, ◌==◌, List, Bool, true, false, ◌&&◌, bytes_eq}
use Rattle.std.proofs.lemmas.Bool.{eqb-true, eq-eqb}
use Rattle.std.proofs.lemmas.Slice.Eq.{bytes_eq-Decides}
use Rattle.go_type.specs.Same.{int_code, basis_code, dir_code}
use Rattle.go_type.specs.declared.types.IntName.{IntName}
use Rattle.go_type.specs.declared.types.IntName.TheVariants as integer
use Rattle.go_type.specs.declared.types.Basis.{Basis}
use Rattle.go_type.specs.declared.types.Basis.TheVariants as basis
use Rattle.go_type.specs.declared.types.Dir.{Dir}
use Rattle.go_type.specs.declared.types.Dir.TheVariants as dir
use Rattle.go_type.specs.Tree as ty
use Rattle.go_type.specs.Tree.{Ty, Tys, Fields, Specs, no_tys, more_tys, no_fields, more_fields, no_specs, more_specs}
use Rattle.go_core.proofs.SameTypeLemmas.{type_one}
use Rattle.go_core.specs.SameType.{same_truth, same_type, same_types, same_fields, same_specs}

-- ---- each type is identical to itself

number_self : (n : ℕ) → (n == n) ≡ true
number_self n = eq-eqb n n refl

pub bytes_self : (x : List ℕ) → bytes_eq x x ≡ true
bytes_self x = grind (arith, bytes_eq-Decides x x)

truth_self : (a : Bool) → same_truth a a ≡ true
truth_self true = refl
truth_self false = refl

pub both_true : (a b : Bool) → a ≡ true → b ≡ true → (a && b) ≡ true
both_true true b h k = k
both_true false b h k = cc

mutual
  pub type_self : (a : Ty) → same_type a a ≡ true
  type_self ty.bool = refl
  type_self ty.str = refl
  type_self (ty.int a) = number_self (int_code a)
  type_self ty.nil = refl
  type_self (ty.untyped a) = number_self (basis_code a)
  type_self (ty.array m a) = both_true (m == m) (same_type a a) (number_self m) (type_self a)
  type_self (ty.slice a) = type_self a
  type_self (ty.struct fs) = fields_self fs
  type_self (ty.pointer a) = type_self a
  type_self (ty.func ps rs v) = both_true (same_types ps ps && same_types rs rs) (same_truth v v) (both_true (same_types ps ps) (same_types rs rs) (types_self ps) (types_self rs)) (truth_self v)
  type_self (ty.interface ms) = specs_self ms
  type_self (ty.mapping k v) = both_true (same_type k k) (same_type v v) (type_self k) (type_self v)
  type_self (ty.chan d a) = both_true (dir_code d == dir_code d) (same_type a a) (number_self (dir_code d)) (type_self a)
  type_self (ty.named i) = number_self i
  type_self (ty.tuple ts) = types_self ts

  pub types_self : (ts : Tys) → same_types ts ts ≡ true
  types_self no_tys = refl
  types_self (more_tys t ts) = both_true (same_type t t) (same_types ts ts) (type_self t) (types_self ts)

  fields_self : (fs : Fields) → same_fields fs fs ≡ true
  fields_self no_fields = refl
  fields_self (more_fields a p t e tag fs) =
      both_true (bytes_eq a a && bytes_eq p p && same_type t t && same_truth e e && bytes_eq tag tag) (same_fields fs fs)
      (both_true (bytes_eq a a && bytes_eq p p && same_type t t && same_truth e e) (bytes_eq tag tag)
      (both_true (bytes_eq a a && bytes_eq p p && same_type t t) (same_truth e e)
      (both_true (bytes_eq a a && bytes_eq p p) (same_type t t)
      (both_true (bytes_eq a a) (bytes_eq p p) (bytes_self a) (bytes_self p)) (type_self t)) (truth_self e)) (bytes_self tag)) (fields_self fs)

  specs_self : (ms : Specs) → same_specs ms ms ≡ true
  specs_self no_specs = refl
  specs_self (more_specs a p ps rs v ms) =
      both_true (bytes_eq a a && bytes_eq p p && same_types ps ps && same_types rs rs && same_truth v v) (same_specs ms ms)
      (both_true (bytes_eq a a && bytes_eq p p && same_types ps ps && same_types rs rs) (same_truth v v)
      (both_true (bytes_eq a a && bytes_eq p p && same_types ps ps) (same_types rs rs)
      (both_true (bytes_eq a a && bytes_eq p p) (same_types ps ps)
      (both_true (bytes_eq a a) (bytes_eq p p) (bytes_self a) (bytes_self p)) (types_self ps)) (types_self rs)) (truth_self v)) (specs_self ms)

-- equal answers: of identity and of a test that decides the same
pub same_is : (a b : Ty) (c : Bool) → (c ≡ true → a ≡ b) → (a ≡ b → c ≡ true) → c ≡ same_type a b
same_is a b true h k = sym (subst (λ (t : Ty). same_type a t ≡ true) (h refl) (type_self a))
same_is a b false h k = by_answer (same_type a b) refl
  where
    no_truth : false ≡ true → ⊥
    no_truth e = cc

    by_answer : (d : Bool) → same_type a b ≡ d → false ≡ same_type a b
    by_answer true e = absurd (no_truth (k (type_one a b e)))
    by_answer false e = sym e

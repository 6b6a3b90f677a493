-- Methods of an interface by their names.
use Rattle.std.proofs.Common.{refl, sym, ap, ◌∙◌, subst, arith}
use Rattle.std.specs.Prelude.{◌≡◌, ℕ, List, [], ◌∷◌, Bool, true, false, ◌&&◌, if◌then◌else◌, bytes_eq, Option, Some, None, slice_get, map, suc, zero, Contains}
use Rattle.std.specs.List.{AllByRecursion}
use Rattle.std.proofs.lemmas.List.Elements.{Contains-append_right}
use Rattle.go_type.proofs.PlaceLemmas.{bytes_one}
use Rattle.go_type.specs.Tree.{Ty, Tys}
use Rattle.go_type.specs.Levels.{trees_of, specs_of}
use Rattle.go_type.specs.declared.types.MethodSpec.{MethodSpec}
use Rattle.go_core.specs.TypeOf.{Signature, spec_in}
use Rattle.go_sound_parts.specs.Methods.{OwnsSpec}

abbrev pub signature_of : List Ty → MethodSpec → Signature
signature_of ts m = record { params = trees_of ts m.sig.params; results = trees_of ts m.sig.results; variadic = m.sig.variadic }

pub some_one : {A : Type 0} (x y : A) → Some x ≡ Some y → x ≡ y
some_one x y h = cc

pub one_signature : (a b c d : Tys) (u v : Bool) → a ≡ b → c ≡ d → u ≡ v
    → (let s : Signature = record { params = a; results = c; variadic = u } in s) ≡ (let s : Signature = record { params = b; results = d; variadic = v } in s)
one_signature a b c d u v e f g = cc

pub both : (a b : Bool) → (a && b) ≡ true → (a ≡ true) × (b ≡ true)
both true b h = (refl, h)
both false b h = absurd (cc)

module _ (ts : List Ty) (P : List ℕ → List ℕ → Signature → Type 0) where
  by_test : (m : MethodSpec) (name package_ : List ℕ) (s : Signature) (o : Option Signature) (b : Bool) → (bytes_eq m.name name && bytes_eq m.package package_) ≡ b
      → (if b then Some (signature_of ts m) else o) ≡ Some s → P m.name m.package (signature_of ts m) → (o ≡ Some s → P name package_ s) → P name package_ s
  by_test m name package_ s o true t e here more =
      let k = both (bytes_eq m.name name) (bytes_eq m.package package_) t in
      subst (λ (x : Signature). P name package_ x) (some_one (signature_of ts m) s e)
      (subst (λ (n : List ℕ). P n package_ (signature_of ts m)) (bytes_one m.name name k.0)
      (subst (λ (q : List ℕ). P m.name q (signature_of ts m)) (bytes_one m.package package_ k.1) here))
  by_test m name package_ s o false t e here more = more e

  -- what holds of each method of a list holds of the one that is found by a name
  pub found_spec : (ms : List MethodSpec) → AllByRecursion (λ (m : MethodSpec). P m.name m.package (signature_of ts m)) ms
      → (name package_ : List ℕ) (s : Signature) → spec_in name package_ (specs_of ts ms) ≡ Some s → P name package_ s
  found_spec [] h name package_ s e = absurd (cc)
  found_spec (m ∷ ms) h name package_ s e =
      by_test m name package_ s (spec_in name package_ (specs_of ts ms)) (bytes_eq m.name name && bytes_eq m.package package_) refl e h.0 (found_spec ms h.1 name package_ s)

-- what stands at a place is in the list
pub got_there : {A B : Type 0} (f : A → B) (xs : List A) (k : ℕ) (x : A) (y : B) → slice_get xs k ≡ Some x → f x ≡ y → Contains (map f xs) y
got_there f [] k x y h e = absurd (cc)
got_there f (z ∷ zs) zero x y h e = (0, omega arith, ap f (some_one z x h) ∙ e)
got_there f (z ∷ zs) (suc k) x y h e = Contains-append_right (f z ∷ []) (map f zs) y (got_there f zs k x y h e)

pub all_owned : (ts : List Ty) (own ms : List MethodSpec) → AllByRecursion (OwnsSpec own) ms
    → AllByRecursion (λ (m : MethodSpec). spec_in m.name m.package (specs_of ts own) ≡ Some (signature_of ts m)) ms
all_owned ts own [] h = tt
all_owned ts own (m ∷ ms) h = (h.0 ts, all_owned ts own ms h.1)

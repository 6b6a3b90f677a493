-- Interface values, by the level of a type.
use Rattle.std.proofs.Common.{refl, sym, ap}
use Rattle.std.specs.Prelude.{◌≡◌, ℕ, ℤ, List, [], ◌∷◌, Bool, true, false, if◌then◌else◌}
use Rattle.std.proofs.lemmas.Bool.{false≢true}
use Rattle.go_type.specs.Tree.{Ty, bool, str, int, nil, untyped, array, slice, struct, pointer, func, interface, mapping, chan, named, tuple}
use Rattle.go_type.specs.Levels.{level}
use Rattle.go_type.specs.Named.{NamedTy}
use Rattle.go_type.specs.declared.types.GoType.{GoType}
use Rattle.go_type.specs.declared.types.GoType.TheVariants as go
use Rattle.go_type.specs.declared.types.MethodSpec.{MethodSpec}
use Rattle.go_core.specs.CoreTree.{CoreProgram}
use Rattle.go_core.specs.Did.{Did, gives}
use Rattle.go_core.specs.Layout.{shape_of, weight}
use Rattle.go_core.specs.Memory as core
use Rattle.go_core.specs.Memory.{Scalars, Value, Memory, packed, listed}
use Rattle.go_core.specs.SameType.{same_type}
use Rattle.go_core.specs.StepInterfaces.{asserted, basic_step, basic_type, failed}
use Rattle.go_core.specs.StepMaps.{with_ok}
use Rattle.go_slices.specs.CompositesFound.{asserted_else, is_basic, is_interface}

pub listed_packed : (xs : Value) → listed (packed xs) ≡ xs
listed_packed [] = refl
listed_packed (x ∷ xs) = ap (λ (ys : Value). x ∷ ys) (listed_packed xs)

-- ---- the predeclared type

pub basic_under : (t u : Ty) → is_basic u ≡ true → u ≡ basic_type t u
basic_under t bool h = refl
basic_under t str h = refl
basic_under t (int name) h = refl
basic_under t nil h = absurd (false≢true h)
basic_under t (untyped b) h = absurd (false≢true h)
basic_under t (array n u) h = absurd (false≢true h)
basic_under t (slice u) h = absurd (false≢true h)
basic_under t (struct fs) h = absurd (false≢true h)
basic_under t (pointer u) h = absurd (false≢true h)
basic_under t (func ps rs v) h = absurd (false≢true h)
basic_under t (interface ms) h = absurd (false≢true h)
basic_under t (mapping k v) h = absurd (false≢true h)
basic_under t (chan d u) h = absurd (false≢true h)
basic_under t (named id) h = absurd (false≢true h)
basic_under t (tuple us) h = absurd (false≢true h)

pub basic_itself : (t u : Ty) → is_basic u ≡ false → t ≡ basic_type t u
basic_itself t bool h = absurd (false≢true (sym h))
basic_itself t str h = absurd (false≢true (sym h))
basic_itself t (int name) h = absurd (false≢true (sym h))
basic_itself t nil h = refl
basic_itself t (untyped b) h = refl
basic_itself t (array n u) h = refl
basic_itself t (slice u) h = refl
basic_itself t (struct fs) h = refl
basic_itself t (pointer u) h = refl
basic_itself t (func ps rs v) h = refl
basic_itself t (interface ms) h = refl
basic_itself t (mapping k v) h = refl
basic_itself t (chan d u) h = refl
basic_itself t (named id) h = refl
basic_itself t (tuple us) h = refl

-- ---- assertions to a type that is no interface

module _ (p : CoreProgram) (to : Ty) (ok : Bool) (t : Ty) (xs : Value) (m : Memory) where
  abbrev whole_ : Value → Did
  whole_ ys = if same_type t to then gives (with_ok ok ys true) m (weight (shape_of p.names to)) else failed ok (shape_of p.names to) m

  abbrev Same : Ty → Type 0
  Same u = asserted p to u ok (core.interface t (packed xs)) m ≡ asserted_else p.names to ok t xs m

  pub asserted_bool : Same bool
  asserted_bool = ap whole_ (listed_packed xs)

  pub asserted_level : (ts : List Ty) (g : GoType) → ((ms : List MethodSpec) → ¬ (g ≡ go.Interface ms)) → Same (level ts g)
  asserted_level ts go.Bool h = ap whole_ (listed_packed xs)
  asserted_level ts go.Str h = ap whole_ (listed_packed xs)
  asserted_level ts (go.Int name) h = ap whole_ (listed_packed xs)
  asserted_level ts go.Nil h = ap whole_ (listed_packed xs)
  asserted_level ts (go.Untyped b) h = ap whole_ (listed_packed xs)
  asserted_level ts (go.Array n u) h = ap whole_ (listed_packed xs)
  asserted_level ts (go.Slice u) h = ap whole_ (listed_packed xs)
  asserted_level ts (go.Struct fs) h = ap whole_ (listed_packed xs)
  asserted_level ts (go.Pointer u) h = ap whole_ (listed_packed xs)
  asserted_level ts (go.Func s) h = ap whole_ (listed_packed xs)
  asserted_level ts (go.Interface ms) h = absurd (h ms refl)
  asserted_level ts (go.Map k v) h = ap whole_ (listed_packed xs)
  asserted_level ts (go.Chan d u) h = ap whole_ (listed_packed xs)
  asserted_level ts (go.Named n) h = ap whole_ (listed_packed xs)
  asserted_level ts (go.Tuple is) h = ap whole_ (listed_packed xs)

-- ---- scalars that are no interface value

module _ (P : core.Scalar → Type 0) where
  other : ((b : Bool) → P (core.truth b)) → ((n : ℤ) → P (core.whole n)) → ((bs : List ℕ) → P (core.text bs)) → P core.nil → ((base : ℕ) → P (core.pointer base)) → ((base n k : ℕ) → P (core.slice base n k))
      → ((f : ℕ) (bs : List ℕ) → P (core.function f bs)) → ((row : ℕ) (v : Scalars) → P (core.bound_method row v)) → ((n : ℕ) → P (core.map n)) → ((n : ℕ) → P (core.channel n)) → (x : core.Scalar) → is_interface x ≡ false → P x
  other p0 p1 p2 p3 p4 p5 p6 p7 p8 p9 (core.truth v0) h = p0 v0
  other p0 p1 p2 p3 p4 p5 p6 p7 p8 p9 (core.whole v0) h = p1 v0
  other p0 p1 p2 p3 p4 p5 p6 p7 p8 p9 (core.text v0) h = p2 v0
  other p0 p1 p2 p3 p4 p5 p6 p7 p8 p9 core.nil h = p3
  other p0 p1 p2 p3 p4 p5 p6 p7 p8 p9 (core.pointer v0) h = p4 v0
  other p0 p1 p2 p3 p4 p5 p6 p7 p8 p9 (core.slice v0 v1 v2) h = p5 v0 v1 v2
  other p0 p1 p2 p3 p4 p5 p6 p7 p8 p9 (core.function v0 v1) h = p6 v0 v1
  other p0 p1 p2 p3 p4 p5 p6 p7 p8 p9 (core.bound_method v0 v1) h = p7 v0 v1
  other p0 p1 p2 p3 p4 p5 p6 p7 p8 p9 (core.map v0) h = p8 v0
  other p0 p1 p2 p3 p4 p5 p6 p7 p8 p9 (core.channel v0) h = p9 v0
  other p0 p1 p2 p3 p4 p5 p6 p7 p8 p9 (core.interface u ys) h = absurd (false≢true (sym h))

module _ (p : CoreProgram) (to : Ty) (ok : Bool) (m : Memory) where
  abbrev Fails : Ty → core.Scalar → Type 0
  Fails u x = asserted p to u ok x m ≡ failed ok (shape_of p.names to) m

  pub asserted_other : (u : Ty) (x : core.Scalar) → is_interface x ≡ false → Fails u x
  asserted_other bool = other (Fails bool) (λ b. refl) (λ n. refl) (λ bs. refl) refl (λ base. refl) (λ base n k. refl) (λ f bs. refl) (λ row v. refl) (λ n. refl) (λ n. refl)
  asserted_other str = other (Fails str) (λ b. refl) (λ n. refl) (λ bs. refl) refl (λ base. refl) (λ base n k. refl) (λ f bs. refl) (λ row v. refl) (λ n. refl) (λ n. refl)
  asserted_other (int name) = other (Fails (int name)) (λ b. refl) (λ n. refl) (λ bs. refl) refl (λ base. refl) (λ base n k. refl) (λ f bs. refl) (λ row v. refl) (λ n. refl) (λ n. refl)
  asserted_other nil = other (Fails nil) (λ b. refl) (λ n. refl) (λ bs. refl) refl (λ base. refl) (λ base n k. refl) (λ f bs. refl) (λ row v. refl) (λ n. refl) (λ n. refl)
  asserted_other (untyped b) = other (Fails (untyped b)) (λ b. refl) (λ n. refl) (λ bs. refl) refl (λ base. refl) (λ base n k. refl) (λ f bs. refl) (λ row v. refl) (λ n. refl) (λ n. refl)
  asserted_other (array n u) = other (Fails (array n u)) (λ b. refl) (λ n. refl) (λ bs. refl) refl (λ base. refl) (λ base n k. refl) (λ f bs. refl) (λ row v. refl) (λ n. refl) (λ n. refl)
  asserted_other (slice u) = other (Fails (slice u)) (λ b. refl) (λ n. refl) (λ bs. refl) refl (λ base. refl) (λ base n k. refl) (λ f bs. refl) (λ row v. refl) (λ n. refl) (λ n. refl)
  asserted_other (struct fs) = other (Fails (struct fs)) (λ b. refl) (λ n. refl) (λ bs. refl) refl (λ base. refl) (λ base n k. refl) (λ f bs. refl) (λ row v. refl) (λ n. refl) (λ n. refl)
  asserted_other (pointer u) = other (Fails (pointer u)) (λ b. refl) (λ n. refl) (λ bs. refl) refl (λ base. refl) (λ base n k. refl) (λ f bs. refl) (λ row v. refl) (λ n. refl) (λ n. refl)
  asserted_other (func ps rs v) = other (Fails (func ps rs v)) (λ b. refl) (λ n. refl) (λ bs. refl) refl (λ base. refl) (λ base n k. refl) (λ f bs. refl) (λ row v. refl) (λ n. refl) (λ n. refl)
  asserted_other (interface ms) = other (Fails (interface ms)) (λ b. refl) (λ n. refl) (λ bs. refl) refl (λ base. refl) (λ base n k. refl) (λ f bs. refl) (λ row v. refl) (λ n. refl) (λ n. refl)
  asserted_other (mapping k v) = other (Fails (mapping k v)) (λ b. refl) (λ n. refl) (λ bs. refl) refl (λ base. refl) (λ base n k. refl) (λ f bs. refl) (λ row v. refl) (λ n. refl) (λ n. refl)
  asserted_other (chan d u) = other (Fails (chan d u)) (λ b. refl) (λ n. refl) (λ bs. refl) refl (λ base. refl) (λ base n k. refl) (λ f bs. refl) (λ row v. refl) (λ n. refl) (λ n. refl)
  asserted_other (named id) = other (Fails (named id)) (λ b. refl) (λ n. refl) (λ bs. refl) refl (λ base. refl) (λ base n k. refl) (λ f bs. refl) (λ row v. refl) (λ n. refl) (λ n. refl)
  asserted_other (tuple us) = other (Fails (tuple us)) (λ b. refl) (λ n. refl) (λ bs. refl) refl (λ base. refl) (λ base n k. refl) (λ f bs. refl) (λ row v. refl) (λ n. refl) (λ n. refl)

pub basic_other : (ns : List NamedTy) (m : Memory) (x : core.Scalar) → is_interface x ≡ false → basic_step ns (x ∷ []) m ≡ gives ((x ∷ []) ∷ []) m 1
basic_other ns m = other (λ x. basic_step ns (x ∷ []) m ≡ gives ((x ∷ []) ∷ []) m 1) (λ b. refl) (λ n. refl) (λ bs. refl) refl (λ base. refl) (λ base n k. refl) (λ f bs. refl) (λ row v. refl) (λ n. refl) (λ n. refl)

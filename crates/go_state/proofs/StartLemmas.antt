-- Package variables and initialisers, one after another.
use Rattle.std.proofs.Common.{◌≡◌, refl, sym, ap, ◌∙◌, arith, append_assoc, length, ℕ, suc, ◌+◌, ◌≤◌, List, [], ◌∷◌, ◌++◌, drop, get_or, map, ◌<◌, Bool, true, false}
use Rattle.std.specs.Prelude.{◌==◌, ◌&&◌, bytes_eq, if◌then◌else◌, Result, Ok, Err, OnOk, None}
use Rattle.std.proofs.lemmas.List.{drop_all, drop_more, append-nil}
use Rattle.std.specs.List.{drop-map}
use Rattle.go_type.specs.Named.{NamedTy}
use Rattle.go_core.specs.CoreTree.{CoreProgram, PackageVar, InitStep, initialise, call_init}
use Rattle.go_core.specs.Goroutine as defined
use Rattle.go_core.specs.Goroutine.{Task}
use Rattle.go_core.specs.Layout.{shape_of, weight}
use Rattle.go_core.specs.Memory as core
use Rattle.go_core.specs.Memory.{Value, zeros}
use Rattle.go_core.specs.Run.{set_with, init_tasks}
use Rattle.go_core.specs.StepMemory.{global_zeros, global_weight}

pub split_map : {A B : Type 0} (f : A → B) (xs : List A) (i : ℕ) (x d : A) → i < length xs → x ≡ get_or xs i d → drop i (map f xs) ≡ f x ∷ drop (i + 1) (map f xs)
split_map {A} {B} f xs i x d h e =
    drop-map f i xs
    ∙ ap (map f) (drop_more xs i d h ∙ ap (λ (y : A). y ∷ drop (i + 1) xs) (sym e))
    ∙ ap (λ (ys : List B). f x ∷ ys) (sym (drop-map f (i + 1) xs))

module _ (ns : List NamedTy) (all : List PackageVar) where
  pub zeros_step : (i : ℕ) (g : PackageVar) (old new z o : Value) → drop i all ≡ g ∷ drop (i + 1) all → new ≡ old ++ z → z ≡ zeros (shape_of ns g.type_)
      → old ++ global_zeros ns (drop i all) ≡ o → new ++ global_zeros ns (drop (i + 1) all) ≡ o
  zeros_step i g old new z o d e f k =
      let rest = global_zeros ns (drop (i + 1) all) in
      ap (λ (v : Value). v ++ rest) e
      ∙ append_assoc old z rest
      ∙ ap (λ (v : Value). old ++ (v ++ rest)) f
      ∙ sym (ap (λ (gs : List PackageVar). old ++ global_zeros ns gs) d)
      ∙ k

  pub zeros_end : (i : ℕ) (old o : Value) → length all ≤ i → old ++ global_zeros ns (drop i all) ≡ o → old ≡ o
  zeros_end i old o l k = sym (append-nil old) ∙ sym (ap (λ (gs : List PackageVar). old ++ global_zeros ns gs) (drop_all i all l)) ∙ k

  pub weight_step : (i before one after o : ℕ) (g : PackageVar) → drop i all ≡ g ∷ drop (i + 1) all → after ≡ before + one → one ≡ weight (shape_of ns g.type_)
      → before + global_weight ns (drop i all) ≡ o → after + global_weight ns (drop (i + 1) all) ≡ o
  weight_step i before one after o g d e f k = let h = ap (global_weight ns) d in omega (arith, h, e, f, k)

  pub weight_end : (i before o : ℕ) → length all ≤ i → before + global_weight ns (drop i all) ≡ o → before ≡ o
  weight_end i before o l k = let h = ap (global_weight ns) (drop_all i all l) in omega (arith, h, k)

module _ (x : PackageVar) (all : List PackageVar) where
  chosen : (b : Bool) (i : ℕ) (old rest : List ℕ) → (if b then old ++ i ∷ [] else old) ++ rest ≡ old ++ (if b then i ∷ rest else rest)
  chosen true i old rest = append_assoc old (i ∷ []) rest
  chosen false i old rest = refl

  pub set_step : (i : ℕ) (v : PackageVar) (b : Bool) (old new o : List ℕ) → drop i all ≡ v ∷ drop (i + 1) all → b ≡ (v.first == x.number) && bytes_eq v.package_ x.package_
      → new ≡ (if b then old ++ i ∷ [] else old) → old ++ set_with x i (drop i all) ≡ o → new ++ set_with x (i + 1) (drop (i + 1) all) ≡ o
  set_step i v b old new o d h e k =
      let next : i + 1 ≡ suc i = omega arith in
      let rest = set_with x (suc i) (drop (i + 1) all) in
      ap (λ (ys : List ℕ). ys ++ set_with x (i + 1) (drop (i + 1) all)) e
      ∙ ap (λ (n : ℕ). (if b then old ++ i ∷ [] else old) ++ set_with x n (drop (i + 1) all)) next
      ∙ chosen b i old rest
      ∙ ap (λ (c : Bool). old ++ (if c then i ∷ rest else rest)) h
      ∙ sym (ap (λ (gs : List PackageVar). old ++ set_with x i gs) d)
      ∙ k

  pub set_end : (i : ℕ) (old o : List ℕ) → length all ≤ i → old ++ set_with x i (drop i all) ≡ o → old ≡ o
  set_end i old o l k = sym (append-nil old) ∙ sym (ap (λ (gs : List PackageVar). old ++ set_with x i gs) (drop_all i all l)) ∙ k

-- one initialiser before others
pub init_one : (p : CoreProgram) (s : InitStep) (order : List InitStep) (later : List Task) → init_tasks p (s ∷ order) later ≡ init_tasks p (s ∷ []) (init_tasks p order later)
init_one p (initialise n) order later = refl
init_one p (call_init func) order later = refl

pub init_step : (p : CoreProgram) (order : List InitStep) (n k : ℕ) (s : InitStep) (old new later : List Task) → n ≡ k + 1 → drop k order ≡ s ∷ drop (k + 1) order
    → new ≡ init_tasks p (s ∷ []) old → old ≡ init_tasks p (drop n order) later → new ≡ init_tasks p (drop k order) later
init_step p order n k s old new later e d h i =
    h
    ∙ ap (init_tasks p (s ∷ [])) i
    ∙ ap (λ (m : ℕ). init_tasks p (s ∷ []) (init_tasks p (drop m order) later)) e
    ∙ sym (init_one p s (drop (k + 1) order) later)
    ∙ sym (ap (λ (ss : List InitStep). init_tasks p ss later) d)

-- ---- a fact from a fact

pub on_ok : {A E : Type 0} {P Q : Type 0} (r : Result A E) → (P → Q) → OnOk r P → OnOk r Q
on_ok (Ok x) f p = f p
on_ok (Err e) f p = tt

-- ---- the first frame, by its parts

abbrev pub framed : List Task → List Value → List defined.Place → List defined.Invocation → defined.Frame
framed tasks values places deferred =
    record { func = None; tasks = tasks; values = values; places = places; deferred_calls = deferred; results = []; mode = defined.normal; purpose = defined.called }

-- ---- the state, by its parts

abbrev pub begun : List defined.Goroutine → Value → List core.MapState → List core.Channel → List ℕ → ℕ → defined.State
begun goroutines cells maps channels printed units =
    record { goroutines = goroutines; memory = record { cells = cells; maps = maps; channels = channels }; printed = printed; taken = 0; units = units; end = defined.going }

-- Fresh variables and captured ones, one after another.
use Rattle.std.proofs.Common.{refl, sym, ap, ◌∙◌, arith}
use Rattle.std.specs.Prelude.{◌≡◌, ◌<◌, ◌≤◌, ℕ, zero, suc, ◌+◌, List, [], ◌∷◌, ◌++◌, length, drop, Option, Some, None, option_map, option_and_then}
use Rattle.std.proofs.lemmas.List.{drop_all, append-nil}
use Rattle.std.proofs.lemmas.List.Sums.{fold-append}
use Rattle.go_type.specs.Named.{NamedTy}
use Rattle.go_core.specs.Layout.{shape_of, weight}
use Rattle.go_core.specs.CoreTree as tree
use Rattle.go_core.specs.Memory as core
use Rattle.go_core.specs.Memory.{Value, next_base, with_fresh}
use Rattle.go_core.specs.Goroutine as defined
use Rattle.go_core.specs.Goroutine.{base_in}
use Rattle.go_core.specs.Calls.{Bindings, with_var, with_vars, with_zeros, captured_places, bases_of}
use Rattle.go_state.specs.StateSeen.{place_of, places_of}
use Rattle.go_state.specs.declared.state.frame.Place.{Place}
use Rattle.go_state.proofs.Lists.{gathered}

abbrev pub held_in : List defined.Place → core.Memory → ℕ → Bindings
held_in ps m n = record { places = ps; memory = m; units = n }

abbrev pub at_base : ℕ → ℕ → defined.Place
at_base v base = record { var = v; base = base }

pub places_push : (ps : List Place) (p : Place) → places_of (ps ++ p ∷ []) ≡ place_of p ∷ places_of ps
places_push ps p = fold-append (λ (rest : List defined.Place) (q : Place). place_of q ∷ rest) [] ps (p ∷ [])

-- ---- fresh variables

pub bound : (ns : List NamedTy) (v : tree.Var) (x : Value) (ps qs : List Place) (p : Place) (m n : core.Memory) (before units : ℕ)
    → qs ≡ ps ++ p ∷ [] → p.var.0 ≡ v.id → p.base ≡ next_base m → n ≡ with_fresh m x → units ≡ weight (shape_of ns v.type_)
    → held_in (places_of qs) n (before + units) ≡ with_var ns v x (held_in (places_of ps) m before)
bound ns v x ps qs p m n before units e i b f u =
    ap (λ (rs : List defined.Place). held_in rs n (before + units)) (ap places_of e ∙ places_push ps p)
    ∙ ap (λ (k : ℕ). held_in (at_base k p.base ∷ places_of ps) n (before + units)) i
    ∙ ap (λ (k : ℕ). held_in (at_base v.id k ∷ places_of ps) n (before + units)) b
    ∙ ap (λ (k : core.Memory). held_in (at_base v.id (next_base m) ∷ places_of ps) k (before + units)) f
    ∙ ap (λ (k : ℕ). held_in (at_base v.id (next_base m) ∷ places_of ps) (with_fresh m x) (before + k)) u

module _ (ns : List NamedTy) (vs : List tree.Var) where
  module _ (xs : List Value) (o : Option Bindings) where
    pub vars_step : (i : ℕ) (v : tree.Var) (x : Value) (b c : Bindings) → drop i vs ≡ v ∷ drop (i + 1) vs → drop i xs ≡ x ∷ drop (i + 1) xs
        → c ≡ with_var ns v x b → with_vars ns (drop i vs) (drop i xs) b ≡ o → with_vars ns (drop (i + 1) vs) (drop (i + 1) xs) c ≡ o
    vars_step i v x b c d e f k =
        ap (with_vars ns (drop (i + 1) vs) (drop (i + 1) xs)) f
        ∙ sym (ap (λ (ys : List Value). with_vars ns (v ∷ drop (i + 1) vs) ys b) e)
        ∙ sym (ap (λ (us : List tree.Var). with_vars ns us (drop i xs) b) d)
        ∙ k

    pub vars_end : (i : ℕ) (b : Bindings) → length vs ≤ i → length xs ≤ i → with_vars ns (drop i vs) (drop i xs) b ≡ o → o ≡ Some b
    vars_end i b h g k =
        sym k
        ∙ ap (λ (us : List tree.Var). with_vars ns us (drop i xs) b) (drop_all i vs h)
        ∙ ap (λ (ys : List Value). with_vars ns [] ys b) (drop_all i xs g)

  pub zeros_step : (i : ℕ) (v : tree.Var) (b c o : Bindings) → drop i vs ≡ v ∷ drop (i + 1) vs → c ≡ with_var ns v (core.zeros (shape_of ns v.type_)) b
      → with_zeros ns (drop i vs) b ≡ o → with_zeros ns (drop (i + 1) vs) c ≡ o
  zeros_step i v b c o d f k = ap (with_zeros ns (drop (i + 1) vs)) f ∙ sym (ap (λ (us : List tree.Var). with_zeros ns us b) d) ∙ k

  pub zeros_end : (i : ℕ) (b o : Bindings) → length vs ≤ i → with_zeros ns (drop i vs) b ≡ o → b ≡ o
  zeros_end i b o h k = sym (ap (λ (us : List tree.Var). with_zeros ns us b) (drop_all i vs h)) ∙ k

pub vars_unequal : (ns : List NamedTy) (vs : List tree.Var) (xs : List Value) (b : Bindings) → ¬ (length vs ≡ length xs) → with_vars ns vs xs b ≡ None
vars_unequal ns [] [] b h = absurd (h refl)
vars_unequal ns [] (x ∷ xs) b h = refl
vars_unequal ns (v ∷ vs) [] b h = refl
vars_unequal ns (v ∷ vs) (x ∷ xs) b h = vars_unequal ns vs xs (with_var ns v x b) (λ e. h (omega (arith, e)))

-- ---- captured ones

without : (vs : List ℕ) → captured_places vs [] ≡ []
without [] = refl
without (v ∷ vs) = refl

-- past the end of one of both lists
pub captured_none : (vs bs : List ℕ) (n : ℕ) → ((k : ℕ) → k < length vs → k < length bs → k < n) → captured_places (drop n vs) (drop n bs) ≡ []
captured_none [] bs zero h = refl
captured_none [] bs (suc n) h = refl
captured_none (v ∷ vs) [] zero h = refl
captured_none (v ∷ vs) [] (suc n) h = without (drop n vs)
captured_none (v ∷ vs) (b ∷ bs) zero h = let x = h 0 (omega arith) (omega arith) in absurd (omega (arith, x))
captured_none (v ∷ vs) (b ∷ bs) (suc n) h = captured_none vs bs n (λ k i j. let x = h (suc k) (omega (arith, i)) (omega (arith, j)) in omega (arith, x))

-- the next one comes on top
pub captured_step : (vs bs : List ℕ) (k n v b : ℕ) (ps qs : List Place) (p : Place) (rest : List defined.Place) → n ≡ k + 1 → drop k vs ≡ v ∷ drop (k + 1) vs → drop k bs ≡ b ∷ drop (k + 1) bs
    → qs ≡ ps ++ p ∷ [] → p.var.0 ≡ v → p.base ≡ b
    → places_of ps ≡ captured_places (drop n vs) (drop n bs) ++ rest → places_of qs ≡ captured_places (drop k vs) (drop k bs) ++ rest
captured_step vs bs k n v b ps qs p rest e d f q i j h =
    ap places_of q
    ∙ places_push ps p
    ∙ ap (λ (m : ℕ). at_base m p.base ∷ places_of ps) i
    ∙ ap (λ (m : ℕ). at_base v m ∷ places_of ps) j
    ∙ ap (λ (rs : List defined.Place). at_base v b ∷ rs) h
    ∙ ap (λ (m : ℕ). at_base v b ∷ (captured_places (drop m vs) (drop m bs) ++ rest)) e
    ∙ sym (ap (λ (us : List ℕ). captured_places (v ∷ drop (k + 1) vs) us ++ rest) f)
    ∙ sym (ap (λ (us : List ℕ). captured_places us (drop k bs) ++ rest) d)

pub bases_begin : (held : List ℕ) (o : Option (List ℕ)) → held ≡ [] → option_map (λ (ys : List ℕ). held ++ ys) o ≡ o
bases_begin held o e = ap (λ (xs : List ℕ). option_map (λ (ys : List ℕ). xs ++ ys) o) e ∙ none_held o
  where
    none_held : (o : Option (List ℕ)) → option_map (λ (ys : List ℕ). [] ++ ys) o ≡ o
    none_held None = refl
    none_held (Some ys) = refl

module _ (places : List defined.Place) (vs : List ℕ) (o : Option (List ℕ)) where
  abbrev next : List ℕ → ℕ → Option ℕ → Option (List ℕ)
  next held i q = option_map (λ (ys : List ℕ). held ++ ys) (option_and_then (λ (b : ℕ). option_and_then (λ (bs : List ℕ). Some (b ∷ bs)) (bases_of (drop (i + 1) vs) places)) q)

  pub bases_step : (i v b : ℕ) (held more : List ℕ) → drop i vs ≡ v ∷ drop (i + 1) vs → base_in v places ≡ Some b → more ≡ held ++ b ∷ []
      → option_map (λ (ys : List ℕ). held ++ ys) (bases_of (drop i vs) places) ≡ o → option_map (λ (ys : List ℕ). more ++ ys) (bases_of (drop (i + 1) vs) places) ≡ o
  bases_step i v b held more d f e k =
      ap (λ (xs : List ℕ). option_map (λ (ys : List ℕ). xs ++ ys) (bases_of (drop (i + 1) vs) places)) e
      ∙ sym (gathered held b (bases_of (drop (i + 1) vs) places))
      ∙ sym (ap (next held i) f)
      ∙ sym (ap (λ (us : List ℕ). option_map (λ (ys : List ℕ). held ++ ys) (bases_of us places)) d)
      ∙ k

  pub bases_none : (i v : ℕ) (held : List ℕ) → drop i vs ≡ v ∷ drop (i + 1) vs → base_in v places ≡ None
      → option_map (λ (ys : List ℕ). held ++ ys) (bases_of (drop i vs) places) ≡ o → None ≡ o
  bases_none i v held d f k = sym (ap (next held i) f) ∙ sym (ap (λ (us : List ℕ). option_map (λ (ys : List ℕ). held ++ ys) (bases_of us places)) d) ∙ k

  pub bases_end : (i : ℕ) (held : List ℕ) → length vs ≤ i → option_map (λ (ys : List ℕ). held ++ ys) (bases_of (drop i vs) places) ≡ o → Some held ≡ o
  bases_end i held h k =
      sym (ap (λ (us : List ℕ). option_map (λ (ys : List ℕ). held ++ ys) (bases_of us places)) (drop_all i vs h) ∙ ap (λ (us : List ℕ). Some us) (append-nil held)) ∙ k

-- What a call's operands lead to takes the operands that are left, or the call panics.
use Rattle.std.proofs.Common.{refl, sym, ap, ◌∙◌, subst}
use Rattle.std.specs.Prelude.{◌≡◌, ℕ, List, [], ◌∷◌, Bool, Some, None, slice_get, option_and_then}
use Rattle.go_type.specs.Tree as ty
use Rattle.go_type.specs.Tree.{Ty, Tys}
use Rattle.go_type.specs.Underlying.{underlying}
use Rattle.go_core.specs.Memory.{Value, listed}
use Rattle.go_core.specs.CoreTree.{CoreFunc, MethodName, MethodRow, CoreProgram}
use Rattle.go_core.specs.TypeOf.{listed_types, Signature, method_in}
use Rattle.go_core.specs.SoundProgram.{Sound}
use Rattle.go_core.specs.StepInterfaces.{row_of}
use Rattle.go_core.specs.Goroutine.{Place, Called, the_function, the_value, the_dynamic}
use Rattle.go_core.specs.Calls.{Resolved, ready, nil_function, nil_interface, unresolved, bases_of, function_with, row_with, method_with, resolved}
use Rattle.go_core.specs.Untagged.{untagged_types, untagged_list, AreAlike}
use Rattle.go_core.specs.Leaves.{leaf_of, leaves_of}
use Rattle.go_core.specs.Typed.{World, Takes}
use Rattle.go_core.specs.TasksTyped.{CallTyped, calls_function, calls_method, calls_value, calls_dynamic}
use Rattle.go_core.specs.Applies.{values_of_types, AreIn}
use Rattle.go_core.specs.WellFormed.{ids_of, PlacesTyped}
use Rattle.go_core.proofs.UntaggedLemmas.{types_alike, are_alike, takes_alike}
use Rattle.go_core.proofs.MemoryLemmas.{to_lists}
use Rattle.go_core.proofs.SameTypeLemmas.{row_found}
use Rattle.go_core.proofs.TypedScalars.{function_in, interface_in, one_scalar, down}
use Rattle.go_core.proofs.OperatorsInterfaces.{row_takes}
use Rattle.go_core.proofs.LocalFrames.{bases_found}

some_inj : {A : Type 0} (x y : A) → Some x ≡ Some y → x ≡ y
some_inj x y e = cc

-- what is called takes the operands, and has these results
abbrev pub ResolvedTyped : CoreProgram → World → List Ty → Resolved → Type 0
ResolvedTyped p w results (ready func bases row vs) = (ts : List Ty) × Takes p w.cells func bases row ts results × AreIn p w (values_of_types ts) vs
ResolvedTyped p w results nil_function = Unit {0}
ResolvedTyped p w results nil_interface = Unit {0}
ResolvedTyped p w results unresolved = ⊥

module _ (p : CoreProgram) (sound : Sound p) (w : World) where
  -- a method's row is found, and its function takes the receiver and the other operands
  by_method : (n : MethodName) (at : ℕ) (row : MethodRow) (f : CoreFunc) (results : List Ty) (vs : List Value) → row_of p n ≡ Some at → slice_get p.methods at ≡ Some row → slice_get p.funcs row.func ≡ Some f
      → AreAlike results (listed_types f.results) → AreIn p w (values_of_types (n.type_ ∷ listed_types f.params)) vs → ResolvedTyped p w results (method_with p vs (row_of p n))
  by_method n at row f results vs e g k r h =
      let found = row_found n p.methods at e in
      let same : found.row ≡ row = some_inj found.row row (sym found.is_at ∙ g) in
      let type_is : n.type_ ≡ row.type_ = sym (ap (λ (y : MethodRow). y.type_) (sym same) ∙ found.of_type) in
      subst (λ o. ResolvedTyped p w results (method_with p vs o)) (sym e)
      (subst (λ o. ResolvedTyped p w results (row_with vs at o)) (sym g) (
        row.type_ ∷ listed_types f.params,
        takes_alike p w.cells row.func [] (Some at) (row.type_ ∷ listed_types f.params) (row.type_ ∷ listed_types f.params) results (listed_types f.results) refl r (row_takes p sound w at row f g k),
        subst (λ t. AreIn p w (values_of_types (t ∷ listed_types f.params)) vs) type_is h,
      ))

  by_function : (qs : List Place) (func : ℕ) (f : CoreFunc) (vs : List Value) (bases : List ℕ) → slice_get p.funcs func ≡ Some f → bases_of f.captured qs ≡ Some bases → ResolvedTyped p w (listed_types f.results) (ready func bases None vs)
      → ResolvedTyped p w (listed_types f.results) (resolved p (the_function func) qs vs)
  by_function qs func f vs bases e b h =
      subst (λ o. ResolvedTyped p w (listed_types f.results) (function_with func vs (option_and_then (λ (c : CoreFunc). bases_of c.captured qs) o))) (sym e)
      (subst (λ o. ResolvedTyped p w (listed_types f.results) (function_with func vs o)) (sym b) h)

  by_value : (qs : List Place) (t : Ty) (ps rs : Tys) (variadic : Bool) (vs : List Value) → underlying p.names t ≡ ty.func ps rs variadic → AreIn p w (values_of_types (t ∷ listed_types ps)) vs
      → ResolvedTyped p w (listed_types rs) (resolved p the_value qs vs)
  by_value qs t ps rs variadic [] e h = absurd h
  by_value qs t ps rs variadic (x ∷ xs) e h =
      one_scalar p w (leaf_of (ty.func ps rs variadic)) x (λ y. ResolvedTyped p w (listed_types rs) (resolved p the_value qs (y ∷ xs))) (down p w sound.names_set t (ty.func ps rs variadic) x e h.0)
      (λ y k. function_in p w ps rs variadic y (λ z. ResolvedTyped p w (listed_types rs) (resolved p the_value qs ((z ∷ []) ∷ xs))) k tt
      (λ func bases q. (listed_types ps, q, h.1))
      (λ row receiver r at q c. subst (λ o. ResolvedTyped p w (listed_types rs) (row_with (listed receiver ∷ xs) row o)) (sym at) (r.type_ ∷ listed_types ps, q, (to_lists p w (leaves_of p.names r.type_) receiver c, h.1))))

  by_dynamic : (qs : List Place) (t u : Ty) (name package_ : List ℕ) (s : Signature) (vs : List Value) → underlying p.names t ≡ u → method_in name package_ u ≡ Some s → AreIn p w (values_of_types (t ∷ listed_types s.params)) vs
      → ResolvedTyped p w (listed_types s.results) (resolved p (the_dynamic name package_) qs vs)
  by_dynamic qs t u name package_ s [] e f h = absurd h
  by_dynamic qs t (ty.interface ms) name package_ s (x ∷ xs) e f h =
      one_scalar p w (leaf_of (ty.interface ms)) x (λ y. ResolvedTyped p w (listed_types s.results) (resolved p (the_dynamic name package_) qs (y ∷ xs))) (down p w sound.names_set t (ty.interface ms) x e h.0)
      (λ y k. interface_in p w ms y (λ z. ResolvedTyped p w (listed_types s.results) (resolved p (the_dynamic name package_) qs ((z ∷ []) ∷ xs))) k tt
      (λ q ys a c. let z = a name package_ s f in
      let r = z.has_row in
      by_method (record { type_ = q; name = name; package_ = package_ }) r.at r.row r.function (listed_types s.results) (listed ys ∷ xs) r.found r.is_row r.is_function
      (sym (types_alike r.function.results s.results (ap untagged_types r.results_fit ∙ z.results_alike)))
      (to_lists p w (leaves_of p.names q) ys c, are_alike p w (listed_types s.params) (listed_types r.function.params) xs (sym (types_alike r.function.params s.params (ap untagged_types r.params_fit ∙ z.params_alike))) h.1)))
  by_dynamic qs t _ name package_ s vs e f h = absurd (cc)

  pub resolves : (qs : List Place) → PlacesTyped p w qs → (c : Called) (operands given : List Ty) → CallTyped p (ids_of qs) c operands given → (vs : List Value) → AreIn p w (values_of_types operands) vs → ResolvedTyped p w given (resolved p c qs vs)
  resolves qs d _ _ _ (calls_function func f e had no_row) vs h =
      let b = bases_found p w qs f.captured d had in
      by_function qs func f vs b.bases e b.are_bases (listed_types f.params, record { function = f; is_function = e; captured_lie = b.lie; operands_fit = (no_row, refl); results_fit = refl }, h)
  resolves qs d _ _ _ (calls_method n operands results c) vs h =
      by_method n c.at c.row c.function (listed_types results) vs c.found c.is_row c.is_function (ap (λ rs. untagged_list (listed_types rs)) c.results_fit) (subst (λ us. AreIn p w (values_of_types us) vs) c.operands_fit h)
  resolves qs d _ _ _ (calls_value t ps rs variadic e) vs h = by_value qs t ps rs variadic vs e h
  resolves qs d _ _ _ (calls_dynamic t name package_ s e) vs h = by_dynamic qs t (underlying p.names t) name package_ s vs refl e h

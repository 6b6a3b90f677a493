-- The method of a name, by what a search finds.
use Rattle.std.proofs.Common.{◌≡◌, ℕ, ◌≤◌, Bool, true, false, List, [], ◌∷◌, length, refl, ap, sym, ◌∙◌, subst, arith}
use Rattle.std.specs.Prelude.{not, ◌||◌, if◌then◌else◌, Some, None}
use Rattle.go_type.specs.Tree.{Ty, Tys}
use Rattle.go_type.specs.Levels.{tree_of}
use Rattle.go_type.specs.Named.{NamedTy}
use Rattle.go_type.specs.Exported.{IsHeld}
use Rattle.go_type.specs.Members.{method, Sought, sought, members_at, NoneBefore}
use Rattle.go_type.specs.Hits.{has_pointer, Sees, IsSomething, IsIn}
use Rattle.go_type.specs.MethodSet.{HasFrom}
use Rattle.go_type.specs.MethodList.{SpecTy}
use Rattle.go_type.specs.Tried.{IsMethodFrom, spec_at, IsFound}
use Rattle.go_type.specs.declared.types.MethodSpec.{MethodSpec}
use Rattle.go_type.specs.declared.hits.Hit.{Hit}
use Rattle.go_type.specs.declared.hits.Hit.TheVariants.{Nothing, Several, Field, Method}
use Rattle.go_type.proofs.MethodLemmas.{one_depth}

reached_by : (p a b : Bool) → (not p || (a || b)) ≡ true → p ≡ true → (a || b) ≡ true
reached_by true a b h e = h
reached_by false a b h e = cc

not_reached : (p a b : Bool) → (not p || (a || b)) ≡ false → (p ≡ true → (a || b) ≡ true) → ⊥
not_reached true a b h r = let e = r refl in cc
not_reached false a b h r = cc

module _ (ns : List NamedTy) (f : Sought) (t : Ty) (indirect : Bool) (d : ℕ) (before : NoneBefore ns f t d) where
  found_at : (params results : Tys) (variadic : Bool) (x : HasFrom ns f params results variadic t indirect) → 1 ≤ length (members_at ns f d t) → members_at ns f d t ≡ method x.path x.of_ x.on_pointer params results variadic ∷ []
  found_at params results variadic x l =
      let e : d ≡ x.depth = one_depth ns f t d x.depth (method x.path x.of_ x.on_pointer params results variadic) (members_at ns f d t) [] before refl l x.shallowest.before x.shallowest.here in
      subst (λ (n : ℕ). members_at ns f n t ≡ method x.path x.of_ x.on_pointer params results variadic ∷ []) (sym e) x.shallowest.here

-- one signature for one name
pub one_method : (ns : List NamedTy) (f : Sought) (t : Ty) (indirect : Bool) (params results : Tys) (variadic : Bool) (params_ results_ : Tys) (variadic_ : Bool)
    → HasFrom ns f params results variadic t indirect → HasFrom ns f params_ results_ variadic_ t indirect → (params ≡ params_) × (results ≡ results_) × (variadic ≡ variadic_)
one_method ns f t indirect params results variadic params_ results_ variadic_ x y =
    let e = sym x.shallowest.here ∙ found_at ns f t indirect x.depth x.shallowest.before params_ results_ variadic_ y (omega (arith, ap length x.shallowest.here)) in
    (cc, cc, cc)

module _ (n : ℕ) (ts : List Ty) (ns : List NamedTy) (t : Ty) (indirect : Bool) (name package_ : List ℕ) where
  -- no member at all
  pub none_found : ((d : ℕ) → members_at ns (sought name package_) d t ≡ []) → IsFound n ts ns t indirect name package_ None
  none_found none x e g m =
      let h = subst (λ (s : Sought). HasFrom ns s x.params x.results x.variadic t indirect) (ap (λ (y : List ℕ). sought y x.package_) e ∙ ap (λ (y : List ℕ). sought name y) g) m.found in
      let k = sym (none h.depth) ∙ h.shallowest.here in
      cc

  pub unheld : (IsHeld name package_ → ⊥) → IsFound n ts ns t indirect name package_ None
  unheld not_ x e g m = not_ (subst (λ (y : List ℕ). IsHeld name y) g (subst (λ (y : List ℕ). IsHeld y x.package_) e m.held))

  module _ (held : IsHeld name package_) (d : ℕ) (before : NoneBefore ns (sought name package_) t d) where
    here_ : (x : SpecTy) → x.name ≡ name → x.package_ ≡ package_ → IsMethodFrom ns t indirect x → HasFrom ns (sought name package_) x.params x.results x.variadic t indirect
    here_ x e g m = subst (λ (s : Sought). HasFrom ns s x.params x.results x.variadic t indirect) (ap (λ (y : List ℕ). sought y x.package_) e ∙ ap (λ (y : List ℕ). sought name y) g) m.found

    pub found_law : (h : Hit) → Sees ts (members_at ns (sought name package_) d t) h → IsSomething h → IsIn n h → IsFound n ts ns t indirect name package_ (spec_at h indirect name package_)
    found_law Nothing s some within = absurd some
    found_law Several s some within = λ x e g m. let k = found_at ns (sought name package_) t indirect d before x.params x.results x.variadic (here_ x e g m) (omega arith) in absurd (omega (arith, ap length k))
    found_law Field s some within = λ x e g m. let k = sym s.1 ∙ found_at ns (sought name package_) t indirect d before x.params x.results x.variadic (here_ x e g m) (omega (arith, ap length s.1)) in cc
    found_law (Method id on_pointer follows sig) s some within = by (not on_pointer || (follows || indirect)) refl
      where
        spec : MethodSpec
        spec = record { name = name; «package» = package_; sig = sig.now }

        by : (b : Bool) → (not on_pointer || (follows || indirect)) ≡ b → IsFound n ts ns t indirect name package_ (if b then Some (record { name = name; «package» = package_; sig = sig.now }) else None)
        by true r = (
          refl,
          refl,
          within.1,
          record {
            held = held;
            found = record {
              depth = d;
              path = s.0;
              of_ = tree_of ts id;
              on_pointer = on_pointer;
              shallowest = record { before = before; here = s.1 };
              reached = λ p. ap (λ (b : Bool). b || indirect) s.2 ∙ reached_by on_pointer follows indirect r p;
            };
          },
        )
        by false r = λ x e g m.
            let h = here_ x e g m in
            let k = sym s.1 ∙ found_at ns (sought name package_) t indirect d before x.params x.results x.variadic h (omega (arith, ap length s.1)) in
            let q : s.0 ≡ h.path = cc in
            let p : on_pointer ≡ h.on_pointer = cc in
            not_reached on_pointer follows indirect r (λ y. ap (λ (w : Bool). w || indirect) (sym s.2 ∙ ap has_pointer q) ∙ h.reached (sym p ∙ y))

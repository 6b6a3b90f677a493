-- Methods by hits.
use Rattle.std.proofs.Common.{◌≡◌, ℕ, ◌<◌, ◌≤◌, Bool, true, false, List, [], ◌∷◌, length, refl, ap, sym, ◌∙◌, subst, arith, inl, inr}
use Rattle.std.specs.Prelude.{◌⊎◌, ◌↔◌, IsTrue, ◌||◌, ◌&&◌, ◌==◌, not}
use Rattle.std.proofs.lemmas.Bool.{cases_lt, eqb-true}
use Rattle.go_type.specs.Tree.{Ty, no_specs}
use Rattle.go_type.specs.Levels.{tree_of, trees_of, specs_of, SigBelow}
use Rattle.go_type.specs.Named.{NamedTy}
use Rattle.go_type.specs.Same.{sig_eq}
use Rattle.go_type.specs.SameLaws.{sig_decides}
use Rattle.go_type.specs.Members.{Member, method, Sought, members_at, NoneBefore}
use Rattle.go_type.specs.Hits.{has_pointer, Sees, IsSomething, IsIn}
use Rattle.go_type.specs.MethodSet.{HasFrom}
use Rattle.go_type.specs.Receivers.{fits}
use Rattle.go_type.specs.declared.types.Sig.{Sig}
use Rattle.go_type.specs.declared.types.MethodSpec.{MethodSpec}
use Rattle.go_type.specs.declared.hits.Hit.{Hit}
use Rattle.go_type.specs.declared.hits.Hit.TheVariants.{Nothing, Several, Field, Method}

-- one shallowest depth
pub one_depth : (ns : List NamedTy) (f : Sought) (t : Ty) (d e : ℕ) (n : Member) (ms ns_ : List Member) → NoneBefore ns f t d → members_at ns f d t ≡ ms → 1 ≤ length ms → NoneBefore ns f t e → members_at ns f e t ≡ n ∷ ns_ → d ≡ e
one_depth ns f t d e n ms ns_ b h l c k = by (cases_lt d e) (cases_lt e d)
  where
    by : (d < e) ⊎ (e ≤ d) → (e < d) ⊎ (d ≤ e) → d ≡ e
    by (inl x) y = let g : ms ≡ [] = sym h ∙ c.at d x in absurd (omega (arith, ap length g))
    by (inr x) (inl y) = let g : n ∷ ns_ ≡ [] = sym k ∙ b.at e y in cc
    by (inr x) (inr y) = omega arith

both : (a b : Bool) → (a && b) ≡ true → (a ≡ true) × (b ≡ true)
both true b h = (refl, h)
both false b h = cc

join : (a b : Bool) → a ≡ true → b ≡ true → (a && b) ≡ true
join true b h k = k
join false b h k = cc

reached_by : (p a b : Bool) → (not p || (a || b)) ≡ true → p ≡ true → (a || b) ≡ true
reached_by true a b h e = h
reached_by false a b h e = cc

reaches : (p a b : Bool) → (p ≡ true → (a || b) ≡ true) → (not p || (a || b)) ≡ true
reaches true a b h = h refl
reaches false a b h = refl

module _ (ns : List NamedTy) (f : Sought) (t : Ty) (indirect : Bool) (ts : List Ty) (sig : Sig) (same : (a : Sig) → SigBelow (length ts) a → trees_of ts a.params ≡ trees_of ts sig.params → trees_of ts a.results ≡ trees_of ts sig.results → a.variadic ≡ sig.variadic → a ≡ sig) where
  Asked : Type 0
  Asked = HasFrom ns f (trees_of ts sig.params) (trees_of ts sig.results) sig.variadic t indirect

  pub none_has : ((d : ℕ) → members_at ns f d t ≡ []) → HasFrom ns f (trees_of ts sig.params) (trees_of ts sig.results) sig.variadic t indirect → ⊥
  none_has none x = let e = sym (none x.depth) ∙ x.shallowest.here in cc

  module _ (d : ℕ) (before : NoneBefore ns f t d) where
    pub to_has : (h : Hit) → Sees ts (members_at ns f d t) h → fits h indirect sig ≡ true → HasFrom ns f (trees_of ts sig.params) (trees_of ts sig.results) sig.variadic t indirect
    to_has Nothing s e = cc
    to_has Several s e = cc
    to_has Field s e = cc
    to_has (Method id on_pointer follows own) s e =
        let g = both (not on_pointer || (follows || indirect)) (sig_eq own.now sig) e in
        let k : own.now ≡ sig = (sig_decides own.now sig).0 g.1 in
        record {
          depth = d;
          path = s.0;
          of_ = tree_of ts id;
          on_pointer = on_pointer;
          shallowest = record {
            before = before;
            here = subst (λ (x : Sig). members_at ns f d t ≡ method s.0 (tree_of ts id) on_pointer (trees_of ts x.params) (trees_of ts x.results) x.variadic ∷ []) k s.1;
          };
          reached = λ p. ap (λ (b : Bool). b || indirect) s.2 ∙ reached_by on_pointer follows indirect g.0 p;
        }

    module _ (x : HasFrom ns f (trees_of ts sig.params) (trees_of ts sig.results) sig.variadic t indirect) where
      at_depth : 1 ≤ length (members_at ns f d t) → members_at ns f d t ≡ method x.path x.of_ x.on_pointer (trees_of ts sig.params) (trees_of ts sig.results) sig.variadic ∷ []
      at_depth l =
          let e : d ≡ x.depth = one_depth ns f t d x.depth (method x.path x.of_ x.on_pointer (trees_of ts sig.params) (trees_of ts sig.results) sig.variadic) (members_at ns f d t) [] before refl l x.shallowest.before x.shallowest.here in
          subst (λ (n : ℕ). members_at ns f n t ≡ method x.path x.of_ x.on_pointer (trees_of ts sig.params) (trees_of ts sig.results) sig.variadic ∷ []) (sym e) x.shallowest.here

      pub from_has : (h : Hit) → Sees ts (members_at ns f d t) h → IsSomething h → IsIn (length ts) h → fits h indirect sig ≡ true
      from_has Nothing s some within = absurd some
      from_has Several s some within = let e = at_depth (omega arith) in absurd (omega (arith, ap length e))
      from_has Field s some within = let e = sym s.1 ∙ at_depth (omega (arith, ap length s.1)) in cc
      from_has (Method id on_pointer follows own) s some within =
          let e = sym s.1 ∙ at_depth (omega (arith, ap length s.1)) in
          let q : s.0 ≡ x.path = cc in
          let p : on_pointer ≡ x.on_pointer = cc in
          let a : trees_of ts own.now.params ≡ trees_of ts sig.params = cc in
          let b : trees_of ts own.now.results ≡ trees_of ts sig.results = cc in
          let v : own.now.variadic ≡ sig.variadic = cc in
          let k : own.now ≡ sig = same own.now within.1 a b v in
          let r : on_pointer ≡ true → (follows || indirect) ≡ true = λ y. ap (λ (w : Bool). w || indirect) (sym s.2 ∙ ap has_pointer q) ∙ x.reached (sym p ∙ y) in
          join (not on_pointer || (follows || indirect)) (sig_eq own.now sig) (reaches on_pointer follows indirect r) ((sig_decides own.now sig).1 k)

pub no_method : (ts : List Ty) (ms : List MethodSpec) (r : Bool) → r ≡ (length ms == 0) → IsTrue r ↔ (specs_of ts ms ≡ no_specs)
no_method ts [] r e = (λ h. refl, λ h. e)
no_method ts (m ∷ ms) r e = (λ h. let f : length (m ∷ ms) ≡ 0 = eqb-true (length (m ∷ ms)) 0 (sym e ∙ h) in absurd (omega arith), λ h. cc)

-- What is seen of lists of members.
use Rattle.std.proofs.Common.{◌≡◌, ℕ, zero, suc, ◌+◌, ◌-◌, ◌≤◌, Bool, true, false, List, [], ◌∷◌, ◌++◌, length, length-append, map, refl, ap, sym, ◌∙◌, subst, arith}
use Rattle.std.specs.Prelude.{◌||◌, if◌then◌else◌}
use Rattle.std.proofs.lemmas.List.{append-nil, length-map}
use Rattle.go_type.specs.Tree.{Ty}
use denote.Bor.{Bor}
use Rattle.go_type.specs.Levels.{tree_of, trees_of}
use Rattle.go_type.specs.Named.{NamedTy}
use Rattle.go_type.specs.Underlying.{underlying}
use Rattle.go_type.specs.Members.{Member, field, method, behind, Sought, own_members, members_at, through, through_one, fields_in, base_of, steps_to}
use Rattle.go_type.specs.Hits.{has_pointer, Sees, join, after, when}
use Rattle.go_type.specs.declared.types.Sig.{Sig}
use Rattle.go_type.specs.declared.types.TypeId.{TypeId}
use Rattle.go_type.specs.declared.steps.Step.{Step}
use Rattle.go_type.specs.declared.steps.Step.TheVariants as step
use Rattle.go_type.specs.declared.hits.Hit.{Hit}
use Rattle.go_type.specs.declared.hits.Hit.TheVariants.{Nothing, Several, Field, Method}

-- a hit other than Nothing sees something
some_seen : (ts : List Ty) (xs : List Member) (h : Hit) → Sees ts xs h → (h ≡ Nothing → ⊥) → 1 ≤ length xs
some_seen ts xs Nothing s n = absurd (n refl)
some_seen ts xs Several s n = omega arith
some_seen ts xs Field s n = omega (arith, ap length s.1)
some_seen ts xs (Method id b c sig) s n = omega (arith, ap length s.1)

two_seen : (ts : List Ty) (xs ys : List Member) (a b : Hit) → Sees ts xs a → Sees ts ys b → (a ≡ Nothing → ⊥) → (b ≡ Nothing → ⊥) → 2 ≤ length (xs ++ ys)
two_seen ts xs ys a b s t n m = omega (arith, some_seen ts xs a s n, some_seen ts ys b t m, length-append xs ys)

pub sees_join : (ts : List Ty) (xs ys : List Member) (a b : Hit) → Sees ts xs a → Sees ts ys b → Sees ts (xs ++ ys) (join a b)
sees_join ts xs ys Nothing b s t = subst (λ (zs : List Member). Sees ts (zs ++ ys) b) (sym s) t
sees_join ts xs ys Several Nothing s t = omega (arith, length-append xs ys)
sees_join ts xs ys Field Nothing s t = (s.0, ap (λ (zs : List Member). xs ++ zs) t ∙ append-nil xs ∙ s.1)
sees_join ts xs ys (Method id b c sig) Nothing s t = (s.0, ap (λ (zs : List Member). xs ++ zs) t ∙ append-nil xs ∙ s.1, s.2)
sees_join ts xs ys Several Several s t = omega (arith, length-append xs ys)
sees_join ts xs ys Several Field s t = omega (arith, length-append xs ys)
sees_join ts xs ys Several (Method id b c sig) s t = omega (arith, length-append xs ys)
sees_join ts xs ys Field Several s t = omega (arith, length-append xs ys)
sees_join ts xs ys Field Field s t = two_seen ts xs ys Field Field s t (λ e. cc) (λ e. cc)
sees_join ts xs ys Field (Method id b c sig) s t = two_seen ts xs ys Field (Method id b c sig) s t (λ e. cc) (λ e. cc)
sees_join ts xs ys (Method id b c sig) Several s t = omega (arith, length-append xs ys)
sees_join ts xs ys (Method id b c sig) Field s t = two_seen ts xs ys (Method id b c sig) Field s t (λ e. cc) (λ e. cc)
sees_join ts xs ys (Method id b c sig) (Method jd d e tig) s t = two_seen ts xs ys (Method id b c sig) (Method jd d e tig) s t (λ e. cc) (λ e. cc)

pub join_nothing : (a : Hit) → join a Nothing ≡ a
join_nothing Nothing = refl
join_nothing Several = refl
join_nothing Field = refl
join_nothing (Method id b c sig) = refl

pub join_assoc : (a b c : Hit) → join (join a b) c ≡ join a (join b c)
join_assoc Nothing b c = refl
join_assoc Several Nothing c = refl
join_assoc Several Several Nothing = refl
join_assoc Several Several Several = refl
join_assoc Several Several Field = refl
join_assoc Several Several (Method i x y xs) = refl
join_assoc Several Field Nothing = refl
join_assoc Several Field Several = refl
join_assoc Several Field Field = refl
join_assoc Several Field (Method i x y xs) = refl
join_assoc Several (Method j z w ws) Nothing = refl
join_assoc Several (Method j z w ws) Several = refl
join_assoc Several (Method j z w ws) Field = refl
join_assoc Several (Method j z w ws) (Method i x y xs) = refl
join_assoc Field Nothing c = refl
join_assoc Field Several Nothing = refl
join_assoc Field Several Several = refl
join_assoc Field Several Field = refl
join_assoc Field Several (Method i x y xs) = refl
join_assoc Field Field Nothing = refl
join_assoc Field Field Several = refl
join_assoc Field Field Field = refl
join_assoc Field Field (Method i x y xs) = refl
join_assoc Field (Method j z w ws) Nothing = refl
join_assoc Field (Method j z w ws) Several = refl
join_assoc Field (Method j z w ws) Field = refl
join_assoc Field (Method j z w ws) (Method i x y xs) = refl
join_assoc (Method k u v vs) Nothing c = refl
join_assoc (Method k u v vs) Several Nothing = refl
join_assoc (Method k u v vs) Several Several = refl
join_assoc (Method k u v vs) Several Field = refl
join_assoc (Method k u v vs) Several (Method i x y xs) = refl
join_assoc (Method k u v vs) Field Nothing = refl
join_assoc (Method k u v vs) Field Several = refl
join_assoc (Method k u v vs) Field Field = refl
join_assoc (Method k u v vs) Field (Method i x y xs) = refl
join_assoc (Method k u v vs) (Method j z w ws) Nothing = refl
join_assoc (Method k u v vs) (Method j z w ws) Several = refl
join_assoc (Method k u v vs) (Method j z w ws) Field = refl
join_assoc (Method k u v vs) (Method j z w ws) (Method i x y xs) = refl

has_both : (ss p : List Step) → has_pointer (ss ++ p) ≡ (has_pointer ss || has_pointer p)
has_both [] p = refl
has_both (step.Pointer ∷ ss) p = refl
has_both (step.Field i ∷ ss) p = has_both ss p

pub sees_behind : (ts : List Ty) (ss : List Step) (xs : List Member) (h : Hit) → Sees ts xs h → Sees ts (map (behind ss) xs) (after (has_pointer ss) h)
sees_behind ts ss xs Nothing s = ap (map (behind ss)) s
sees_behind ts ss xs Several s = omega (arith, length-map xs (behind ss))
sees_behind ts ss xs Field s = (ss ++ s.0, ap (map (behind ss)) s.1)
sees_behind ts ss xs (Method id b c sig) s = (ss ++ s.0, ap (map (behind ss)) s.1, has_both ss s.0 ∙ ap (λ (x : Bool). has_pointer ss || x) s.2)

-- ---- a walk over a list: what is seen so far, joined with whatever is seen of the rest

pub sees_field : (ts : List Ty) (b d : Bool) (p : List Step) (h : Hit) → h ≡ when d Field → d ≡ b → Sees ts (if b then field p ∷ [] else []) h
sees_field ts b d p h e f = subst (λ (k : Hit). Sees ts (if b then field p ∷ [] else []) k) (sym (e ∙ ap (λ (x : Bool). when x Field) f)) (by b)
  where
    by : (b : Bool) → Sees ts (if b then field p ∷ [] else []) (when b Field)
    by true = (p, refl)
    by false = refl

module _ {X : Type 0} (ts : List Ty) (found : ℕ → List X → List Member) (part : ℕ → X → List Member) (all : ℕ → List Member) where
  pub walk_step : (x : X) (xs rest : List X) (hit one joined : Hit) → rest ≡ x ∷ xs → joined ≡ join hit one → ((i : ℕ) → found i (x ∷ xs) ≡ part i x ++ found (i + 1) xs)
      → ((i : ℕ) → Sees ts (part i x) one)
      → ((h : Hit) → ((j : ℕ) → Sees ts (found j rest) h) → (i : ℕ) → Sees ts (all i) (join hit h))
      → (h : Hit) → ((j : ℕ) → Sees ts (found j xs) h) → (i : ℕ) → Sees ts (all i) (join joined h)
  walk_step x xs rest hit one joined e d more sees walked h s i =
      subst (Sees ts (all i)) (sym (ap (λ (k : Hit). join k h) d ∙ join_assoc hit one h))
      (walked (join one h) (λ j. subst (λ (ys : List X). Sees ts (found j ys) (join one h)) (sym e) (subst (λ (ms : List Member). Sees ts ms (join one h)) (sym (more j)) (sees_join ts (part j x) (found (j + 1) xs) one h (sees j) (s (j + 1))))) i)

  pub walk_end : (rest : List X) (hit : Hit) → length rest ≡ 0 → ((j : ℕ) → found j [] ≡ []) → ((h : Hit) → ((j : ℕ) → Sees ts (found j rest) h) → (i : ℕ) → Sees ts (all i) (join hit h)) → (i : ℕ) → Sees ts (all i) hit
  walk_end [] hit e none walked i = subst (Sees ts (all i)) (join_nothing hit) (walked Nothing none i)
  walk_end (x ∷ xs) hit e none walked i = absurd (omega arith)

pub sees_method : (ts : List Ty) (b d : Bool) (id : TypeId) (on_pointer : Bool) (sig : Bor Sig) (h : Hit) → h ≡ when d (Method id on_pointer false sig) → d ≡ b
    → Sees ts (if b then method [] (tree_of ts id) on_pointer (trees_of ts sig.now.params) (trees_of ts sig.now.results) sig.now.variadic ∷ [] else []) h
sees_method ts b d id on_pointer sig h e f =
    subst (λ (k : Hit). Sees ts (if b then method [] (tree_of ts id) on_pointer (trees_of ts sig.now.params) (trees_of ts sig.now.results) sig.now.variadic ∷ [] else []) k) (sym (e ∙ ap (λ (x : Bool). when x (Method id on_pointer false sig)) f)) (by b)
  where
    by : (b : Bool) → Sees ts (if b then method [] (tree_of ts id) on_pointer (trees_of ts sig.now.params) (trees_of ts sig.now.results) sig.now.variadic ∷ [] else []) (when b (Method id on_pointer false sig))
    by true = ([], refl, refl)
    by false = refl

-- ---- depths

pub members_zero : (ns : List NamedTy) (f : Sought) (n : ℕ) (t : Ty) → n ≡ 0 → own_members ns f t ≡ members_at ns f n t
unfolding members_at
members_zero ns f zero t e = refl
members_zero ns f (suc n) t e = absurd (omega arith)

pub members_step : (ns : List NamedTy) (f : Sought) (n : ℕ) (t : Ty) → (n ≡ 0 → ⊥) → through (members_at ns f (n - 1)) 0 (fields_in (underlying ns t)) ≡ members_at ns f n t
unfolding members_at
members_step ns f zero t h = absurd (h refl)
members_step ns f (suc n) t h = ap (λ (k : ℕ). through (members_at ns f k) 0 (fields_in (underlying ns t))) (omega arith)

pub sees_through : (ts : List Ty) (p : Ty → List Member) (i : ℕ) (t : Ty) (embedded follows : Bool) (h r : Hit) → embedded ≡ true → has_pointer (steps_to i t) ≡ follows → Sees ts (p (base_of t)) h → r ≡ after follows h
    → Sees ts (through_one p i t embedded) r
sees_through ts p i t embedded follows h r e g s d =
    subst (λ (k : Hit). Sees ts (through_one p i t embedded) k) (sym (d ∙ ap (λ (b : Bool). after b h) (sym g)))
    (subst (λ (b : Bool). Sees ts (through_one p i t b) (after (has_pointer (steps_to i t)) h)) (sym e) (sees_behind ts (steps_to i t) (p (base_of t)) h s))

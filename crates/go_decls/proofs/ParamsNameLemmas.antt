-- What is told of names that stand in a function's own scope, by a set of those that stood before.
use Rattle.std.proofs.Common.{arith, ◌≡◌, ◌<◌, ◌∙◌, ℕ, refl, sym, ap, subst, List, [], ◌∷◌, ◌++◌, append_assoc, length, Bool, true, false, ◌||◌, if◌then◌else◌, Option, Some, None, bytes_eq}
use Rattle.std.proofs.lemmas.List.{append-nil}
use Rattle.std.proofs.lemmas.Slice.Eq.{bytes_eq-Decides}
use Rattle.gj_base.specs.declared.place.Place.{Place}
use Rattle.go_syntax.specs.declared.tree.Name.{Name}
use Rattle.go_type.specs.Tree.{Ty}
use Rattle.go_typing.specs.Answer.{Flaw}
use Rattle.go_typing.specs.Env.{Bind, Decl, variable, unknown, is_blank}
use Rattle.go_typing.specs.Scopes.{last_scope, last_changed, with_bind, place_in}
use Rattle.go_typing.specs.Walk.{Walk, bind_of, is_there, fresh, redeclared}
use Rattle.go_typing.specs.Signature.{Param, type_of_param, bound, bound_name, inside, name_flaws, names_flaws}
use Rattle.go_walk.specs.SetsHas.{has_name}
use Rattle.go_walk.specs.declared.sets.names.NameSet.{NameSet}
use Rattle.go_decls.specs.Seen.{is_placed, HasNames}

pub turned : (x y : List ℕ) → bytes_eq x y ≡ bytes_eq y x
turned x y = grind (arith, bytes_eq-Decides)

pub swapped : (a b : Bool) → (a || b) ≡ (b || a)
swapped true true = refl
swapped true false = refl
swapped false true = refl
swapped false false = refl

-- ---- the innermost scope

changed_last : (f : List Bind → List Bind) (ss : List (List Bind)) → 0 < length ss → last_scope (last_changed f ss) ≡ f (last_scope ss)
changed_last f [] h = absurd (omega arith)
changed_last f (s ∷ []) h = refl
changed_last f (s ∷ r ∷ []) h = refl
changed_last f (s ∷ r ∷ t ∷ ss) h = changed_last f (r ∷ t ∷ ss) (omega arith)

changed_open : (f : List Bind → List Bind) (ss : List (List Bind)) → 0 < length ss → 0 < length (last_changed f ss)
changed_open f [] h = absurd (omega arith)
changed_open f (s ∷ []) h = omega arith
changed_open f (s ∷ r ∷ ss) h = omega arith

pub opened : (ss : List (List Bind)) (s : List Bind) → last_scope (ss ++ s ∷ []) ≡ s
opened [] s = refl
opened (r ∷ []) s = refl
opened (r ∷ t ∷ ss) s = opened (t ∷ ss) s

pub opened_open : (ss : List (List Bind)) (s : List Bind) → 0 < length (ss ++ s ∷ [])
opened_open [] s = omega arith
opened_open (r ∷ ss) s = omega arith

pub placed_more : (x : List ℕ) (bs : List Bind) (b : Bind) → is_placed (place_in x (bs ++ b ∷ [])) ≡ (is_placed (place_in x bs) || bytes_eq b.name x)
placed_more x [] b = by_test (bytes_eq b.name x)
  where
    by_test : (t : Bool) → is_placed (if t then Some b.place else None) ≡ (false || t)
    by_test true = refl
    by_test false = refl
placed_more x (a ∷ bs) b = by_test (bytes_eq a.name x) (placed_more x bs b)
  where
    by_test : (t : Bool) → is_placed (place_in x (bs ++ b ∷ [])) ≡ (is_placed (place_in x bs) || bytes_eq b.name x)
        → is_placed (if t then Some a.place else place_in x (bs ++ b ∷ [])) ≡ (is_placed (if t then Some a.place else place_in x bs) || bytes_eq b.name x)
    by_test true h = refl
    by_test false h = h

pub is_none : (o : Option Place) → is_placed o ≡ false → o ≡ None
is_none None h = refl
is_none (Some at) h = let e : true ≡ false = h in cc

pub placed : (o : Option Place) → is_placed o ≡ true → (at : Place) × (o ≡ Some at)
placed None h = let e : false ≡ true = h in absurd (cc)
placed (Some at) h = (at, refl)

-- ---- one name

module _ (n : Name) (v : Walk) where
  named_off : is_blank n.text ≡ false → is_there n v ≡ place_in n.text (last_scope v.scopes)
  named_off off = ap (λ (b : Bool). if b then None else place_in n.text (last_scope v.scopes)) off

  named_on : is_blank n.text ≡ true → is_there n v ≡ None
  named_on on = ap (λ (b : Bool). if b then None else place_in n.text (last_scope v.scopes)) on

  -- a name is declared where its scope hasn't it
  abbrev more : Decl → List (List Bind)
  more d = last_changed (with_bind (bind_of n d)) v.scopes

  bound_free : (u : Option Ty) → is_blank n.text ≡ false → is_there n v ≡ None → (d : Decl) × ((bound (Some n) u v).scopes ≡ more d)
  bound_free None off free = (unknown, ap (λ (o : Option Place). (bound_name n None o v).scopes) free ∙ ap (λ (b : Bool). (if b then v else record v { scopes = more unknown }).scopes) off)
  bound_free (Some u) off free =
      let d : Decl = variable v.next u in
      let w : Walk = fresh u v in
      (d, ap (λ (o : Option Place). (bound_name n (Some u) o v).scopes) free ∙ ap (λ (b : Bool). (if b then w else record w { scopes = more d }).scopes) off)

  bound_blank : (u : Option Ty) → is_blank n.text ≡ true → (bound (Some n) u v).scopes ≡ v.scopes
  bound_blank None on = ap (λ (o : Option Place). (bound_name n None o v).scopes) (named_on on) ∙ ap (λ (b : Bool). (if b then v else record v { scopes = more unknown }).scopes) on
  bound_blank (Some u) on =
      let d : Decl = variable v.next u in
      let w : Walk = fresh u v in
      ap (λ (o : Option Place). (bound_name n (Some u) o v).scopes) (named_on on) ∙ ap (λ (b : Bool). (if b then w else record w { scopes = more d }).scopes) on

  bound_stood : (u : Option Ty) (at : Place) → is_there n v ≡ Some at → (bound (Some n) u v).scopes ≡ v.scopes
  bound_stood None at h = ap (λ (o : Option Place). (bound_name n None o v).scopes) h
  bound_stood (Some u) at h = ap (λ (o : Option Place). (bound_name n (Some u) o v).scopes) h

  open_by : (u : Option Ty) (b : Bool) (o : Option Place) → is_blank n.text ≡ b → is_there n v ≡ o → 0 < length v.scopes → 0 < length (bound (Some n) u v).scopes
  open_by u true o on h l = subst (λ (ss : List (List Bind)). 0 < length ss) (sym (bound_blank u on)) l
  open_by u false (Some at) off h l = subst (λ (ss : List (List Bind)). 0 < length ss) (sym (bound_stood u at h)) l
  open_by u false None off h l =
      let d = bound_free u off h in subst (λ (ss : List (List Bind)). 0 < length ss) (sym d.1) (changed_open (with_bind (bind_of n d.0)) v.scopes l)

  -- ---- with a set of those that stood before

  pub told_blank : (fs : List Flaw) → is_blank n.text ≡ true → fs ≡ fs ++ name_flaws (Some n) v
  told_blank fs on = sym (append-nil fs) ∙ sym (ap (λ (o : Option Place). fs ++ redeclared n o) (named_on on))

  pub seen_blank : (u : Option Ty) (set : NameSet) → is_blank n.text ≡ true → HasNames set (last_scope v.scopes) → HasNames set (last_scope (bound (Some n) u v).scopes)
  seen_blank u set on h = subst (λ (ss : List (List Bind)). HasNames set (last_scope ss)) (sym (bound_blank u on)) h

  there_by : (set : NameSet) (b : Bool) → is_blank n.text ≡ false → has_name n.text set ≡ b → HasNames set (last_scope v.scopes) → is_placed (is_there n v) ≡ b
  there_by set b off q h = ap is_placed (named_off off) ∙ sym (h n.text off) ∙ q

  pub told_stood : (old new : List Flaw) (set : NameSet) → is_blank n.text ≡ false → has_name n.text set ≡ true → HasNames set (last_scope v.scopes) → new ≡ old ++ record { place = n.place; code = 82; name = n.text } ∷ []
      → new ≡ old ++ name_flaws (Some n) v
  told_stood old new set off q h e = let p = placed (is_there n v) (there_by set true off q h) in e ∙ sym (ap (λ (o : Option Place). old ++ redeclared n o) p.1)

  pub seen_stood : (u : Option Ty) (set : NameSet) → is_blank n.text ≡ false → has_name n.text set ≡ true → HasNames set (last_scope v.scopes) → HasNames set (last_scope (bound (Some n) u v).scopes)
  seen_stood u set off q h =
      let p = placed (is_there n v) (there_by set true off q h) in subst (λ (ss : List (List Bind)). HasNames set (last_scope ss)) (sym (bound_stood u p.0 p.1)) h

  pub told_free : (fs : List Flaw) (set : NameSet) → is_blank n.text ≡ false → has_name n.text set ≡ false → HasNames set (last_scope v.scopes) → fs ≡ fs ++ name_flaws (Some n) v
  told_free fs set off q h = sym (append-nil fs) ∙ sym (ap (λ (o : Option Place). fs ++ redeclared n o) (is_none (is_there n v) (there_by set false off q h)))

  pub seen_free : (u : Option Ty) (old new : NameSet) → is_blank n.text ≡ false → has_name n.text old ≡ false → 0 < length v.scopes → ((y : List ℕ) → has_name y new ≡ (bytes_eq y n.text || has_name y old))
      → HasNames old (last_scope v.scopes) → HasNames new (last_scope (bound (Some n) u v).scopes)
  seen_free u old new off q l f h = λ x b.
      let d = bound_free u off (is_none (is_there n v) (there_by old false off q h)) in
      let s : List Bind = last_scope v.scopes in
      let now : last_scope (bound (Some n) u v).scopes ≡ s ++ bind_of n d.0 ∷ [] = ap last_scope d.1 ∙ changed_last (with_bind (bind_of n d.0)) v.scopes l in
      f x ∙ ap (λ (t : Bool). t || has_name x old) (turned x n.text) ∙ ap (λ (t : Bool). bytes_eq n.text x || t) (h x b) ∙ swapped (bytes_eq n.text x) (is_placed (place_in x s))
      ∙ sym (ap (λ (bs : List Bind). is_placed (place_in x bs)) now ∙ placed_more x s (bind_of n d.0))

-- ---- all

open_all : (o : Option Name) (u : Option Ty) (v : Walk) → 0 < length v.scopes → 0 < length (bound o u v).scopes
open_all None None v l = l
open_all None (Some u) v l = l
open_all (Some n) u v l = open_by n v u (is_blank n.text) (is_there n v) refl refl l

-- what is told so far with what is left, and the names that stood before
pub record Left (w : Walk) (rest all : List Param) (before now : List Flaw) (set : NameSet) : Type 0 where
  pub walk : Walk
  pub is_open : 0 < length walk.scopes
  pub names : HasNames set (last_scope walk.scopes)
  pub told : now ++ names_flaws w rest walk ≡ before ++ names_flaws w all (inside w)

pub left_first : (w : Walk) (all : List Param) (fs : List Flaw) (set : NameSet) → ((y : List ℕ) → has_name y set ≡ false) → Left w all all fs fs set
left_first w all fs set h = record {
  walk = inside w;
  is_open = opened_open w.scopes [];
  names = subst (HasNames set) (sym (opened w.scopes [])) (λ x b. h x);
  told = refl;
}

pub left_step : (w : Walk) (p : Param) (rest all : List Param) (before now next : List Flaw) (old new : NameSet) → ((v : Walk) → HasNames old (last_scope v.scopes) → next ≡ now ++ name_flaws p.name v)
    → ((v : Walk) (u : Option Ty) → 0 < length v.scopes → HasNames old (last_scope v.scopes) → HasNames new (last_scope (bound p.name u v).scopes)) → Left w (p ∷ rest) all before now old
    → Left w rest all before next new
left_step w p rest all before now next old new f g h = record {
  walk = bound p.name (type_of_param w p) h.walk;
  is_open = open_all p.name (type_of_param w p) h.walk h.is_open;
  names = g h.walk (type_of_param w p) h.is_open h.names;
  told =
      ap (λ (fs : List Flaw). fs ++ names_flaws w rest (bound p.name (type_of_param w p) h.walk)) (f h.walk h.names)
      ∙ append_assoc now (name_flaws p.name h.walk) (names_flaws w rest (bound p.name (type_of_param w p) h.walk)) ∙ h.told;
}

pub left_last : (w : Walk) (all : List Param) (before now : List Flaw) (set : NameSet) → Left w [] all before now set → now ≡ before ++ names_flaws w all (inside w)
left_last w all before now set h = sym (append-nil now) ∙ h.told

-- A signature that is typed stays so as more declarations are typed.
use Rattle.std.proofs.Common.{◌≡◌, ◌⊎◌, inl, inr, ℕ, suc, List, [], ◌∷◌, ◌++◌, refl, sym, subst, ap, ◌∙◌, Bool, true, false, Option, Some, None, if◌then◌else◌}
use Rattle.gj_base.specs.declared.place.Place.{Place}
use Rattle.go_syntax.specs.Tree as t
use Rattle.go_syntax.specs.declared.tree.Name.{Name}
use Rattle.go_type.specs.Tree.{Ty, Tys}
use Rattle.go_typing.specs.Env.{Decl, variable, Bind, universe, is_blank}
use Rattle.go_typing.specs.Answer.{Flaw, flaw}
use Rattle.go_typing.specs.Scopes.{place_in, with_bind, last_scope, last_changed}
use Rattle.go_typing.specs.Walk.{Walk, bind_of, with_name, is_there, redeclared, fresh}
use Rattle.go_typing.specs.Expressions.{type_in}
use Rattle.go_typing.specs.Signature.{Param, type_of_param, and_type, types_of, param_flaws, params_flaws, is_mixed, mixed_flaws, list_flaws, params_of, results_of, params_place, results_place, name_flaws, bound_name, bound, names_flaws, inside, sig_flaws, SigTypes, both, where_untold, sig_types}
use Rattle.go_typing.specs.Known.{Known, outside, type_found}
use Rattle.go_sound.proofs.Agree.{Agrees, AllAgree}
use Rattle.go_sound.proofs.Clean.{type_clean}

-- no type, or one of these
abbrev pub OfTy : (ℕ → Type 0) → Option Ty → Type 0
OfTy P None = Unit {0}
OfTy P (Some u) = Agrees P u

abbrev pub OfTys : (ℕ → Type 0) → Option Tys → Type 0
OfTys P None = Unit {0}
OfTys P (Some us) = AllAgree P us

pub record SameTy (P : ℕ → Type 0) (o r : Option Ty) : Type 0 where
  pub same : o ≡ r
  pub agrees : OfTy P o

pub record SameTys (P : ℕ → Type 0) (o r : Option Tys) : Type 0 where
  pub same : o ≡ r
  pub agree : OfTys P o

-- one isn't found, or it is the other
abbrev pub LessTy : (ℕ → Type 0) → Option Ty → Option Ty → Type 0
LessTy P o r = (o ≡ None) ⊎ SameTy P o r

abbrev pub LessTys : (ℕ → Type 0) → Option Tys → Option Tys → Type 0
LessTys P o r = (o ≡ None) ⊎ SameTys P o r

no_second : (o : Option Ty) → and_type o None ≡ None
no_second None = refl
no_second (Some u) = refl

and_agrees : (P : ℕ → Type 0) (o : Option Ty) (os : Option Tys) → OfTy P o → OfTys P os → OfTys P (and_type o os)
and_agrees P None None h k = tt
and_agrees P None (Some us) h k = tt
and_agrees P (Some u) None h k = tt
and_agrees P (Some u) (Some us) h k = (h, k)

and_less : (P : ℕ → Type 0) (o r : Option Ty) (os rs : Option Tys) → LessTy P o r → LessTys P os rs → LessTys P (and_type o os) (and_type r rs)
and_less P o r os rs (inl h) k = inl (ap (λ (x : Option Ty). and_type x os) h)
and_less P o r os rs (inr h) (inl k) = inl (ap (and_type o) k ∙ no_second o)
and_less P o r os rs (inr h) (inr k) = inr (record {
  same = ap (λ (x : Option Ty). and_type x os) h.same ∙ ap (and_type r) k.same;
  agree = and_agrees P o os h.agrees k.agree;
})

-- each parameter has a type, the same in both
abbrev AllTyped : Walk → Walk → List Param → Type 0
AllTyped w v [] = Unit {0}
AllTyped w v (p ∷ ps) = ((u : Ty) × (type_of_param w p ≡ Some u) × (type_of_param v p ≡ Some u)) × AllTyped w v ps

some_first : (o : Option Ty) (os : Option Tys) (us : Tys) → and_type o os ≡ Some us → (u : Ty) × (vs : Tys) × (o ≡ Some u) × (os ≡ Some vs)
some_first None None us h = let e : None ≡ Some us = h in cc
some_first None (Some vs) us h = let e : None ≡ Some us = h in cc
some_first (Some u) None us h = let e : None ≡ Some us = h in cc
some_first (Some u) (Some vs) us h = (u, vs, refl, refl)

module _ (P : ℕ → Type 0) (k l : Known) (found : (e : t.Expr) → LessTy P (type_found k e) (type_found l e)) where
  param_less : (p : Param) → LessTy P (type_of_param (outside k) p) (type_of_param (outside l) p)
  param_less p = by_test p.variadic
    where
      by_test : (b : Bool) → LessTy P (if b then None else type_found k p.type_) (if b then None else type_found l p.type_)
      by_test true = inl refl
      by_test false = found p.type_

  types_less : (ps : List Param) → LessTys P (types_of (outside k) ps) (types_of (outside l) ps)
  types_less [] = inr (record { same = refl; agree = tt })
  types_less (p ∷ ps) = and_less P (type_of_param (outside k) p) (type_of_param (outside l) p) (types_of (outside k) ps) (types_of (outside l) ps) (param_less p) (types_less ps)

  both_typed : (p : Param) (u : Ty) → type_of_param (outside k) p ≡ Some u → type_of_param (outside l) p ≡ Some u
  both_typed p u h = by_case (param_less p)
    where
      by_case : LessTy P (type_of_param (outside k) p) (type_of_param (outside l) p) → type_of_param (outside l) p ≡ Some u
      by_case (inl e) = let f : None ≡ Some u = sym e ∙ h in cc
      by_case (inr e) = sym e.same ∙ h

  all_typed : (ps : List Param) (us : Tys) → types_of (outside k) ps ≡ Some us → AllTyped (outside k) (outside l) ps
  all_typed [] us h = tt
  all_typed (p ∷ ps) us h =
      let f = some_first (type_of_param (outside k) p) (types_of (outside k) ps) us h in
      ((f.0, f.2, both_typed p f.0 f.2), all_typed ps f.1 f.3)

  -- ---- what is told of the types

  untold : (m : Known) (p : Param) (u : Ty) → type_of_param (outside m) p ≡ Some u → param_flaws (outside m) p ≡ []
  untold m p u h = by_test p.has_type p.variadic h
    where
      by_test : (a b : Bool) → (if b then None else type_found m p.type_) ≡ Some u → (if a then (if b then flaw p.place 0 ∷ [] else (type_in (outside m) p.type_).flaws) else []) ≡ []
      by_test false b e = refl
      by_test true true e = let f : None ≡ Some u = e in cc
      by_test true false e = type_clean m.names (universe None ∷ m.binds ∷ []) p.type_ u e

  params_same : (ps : List Param) → AllTyped (outside k) (outside l) ps → params_flaws (outside k) ps ≡ params_flaws (outside l) ps
  params_same [] h = refl
  params_same (p ∷ ps) h =
      ap (λ (fs : List Flaw). fs ++ params_flaws (outside k) ps) (untold k p h.0.0 h.0.1 ∙ sym (untold l p h.0.0 h.0.2))
      ∙ ap (λ (fs : List Flaw). param_flaws (outside l) p ++ fs) (params_same ps h.1)

  list_same : (at : Place) (ps : List Param) → AllTyped (outside k) (outside l) ps → types_of (outside k) ps ≡ types_of (outside l) ps → list_flaws (outside k) at ps ≡ list_flaws (outside l) at ps
  list_same at ps h e =
      ap (λ (fs : List Flaw). fs ++ mixed_flaws at (types_of (outside k) ps) (is_mixed ps)) (params_same ps h)
      ∙ ap (λ (o : Option Tys). params_flaws (outside l) ps ++ mixed_flaws at o (is_mixed ps)) e

-- ---- the names

-- two walks with one innermost scope
record SameInside (v w : Walk) : Type 0 where
  pub outer : List Bind
  pub first : List Bind
  pub second : List Bind
  pub inner : List Bind
  pub left : v.scopes ≡ outer ∷ first ∷ inner ∷ []
  pub right : w.scopes ≡ outer ∷ second ∷ inner ∷ []
  pub next : v.next ≡ w.next

there_same : (n : Name) (v w : Walk) → SameInside v w → is_there n v ≡ is_there n w
there_same n v w s =
    ap (λ (ss : List (List Bind)). if is_blank n.text then None else place_in n.text (last_scope ss)) s.left
    ∙ sym (ap (λ (ss : List (List Bind)). if is_blank n.text then None else place_in n.text (last_scope ss)) s.right)

name_same : (n : Name) (d e : Decl) (v w : Walk) → d ≡ e → SameInside v w → SameInside (with_name n d v) (with_name n e w)
name_same n d e v w f s = by_test (is_blank n.text) refl
  where
    left_of : (b : Bool) → is_blank n.text ≡ b → List Bind
    left_of true h = s.inner
    left_of false h = with_bind (bind_of n d) s.inner

    by_test : (b : Bool) → is_blank n.text ≡ b → SameInside (with_name n d v) (with_name n e w)
    by_test true h = record {
      outer = s.outer;
      first = s.first;
      second = s.second;
      inner = s.inner;
      left = ap (λ (c : Bool). (if c then v else record v { scopes = last_changed (with_bind (bind_of n d)) v.scopes }).scopes) h ∙ s.left;
      right = ap (λ (c : Bool). (if c then w else record w { scopes = last_changed (with_bind (bind_of n e)) w.scopes }).scopes) h ∙ s.right;
      next = ap (λ (c : Bool). (if c then v else record v { scopes = last_changed (with_bind (bind_of n d)) v.scopes }).next) h ∙ s.next
          ∙ sym (ap (λ (c : Bool). (if c then w else record w { scopes = last_changed (with_bind (bind_of n e)) w.scopes }).next) h);
    }
    by_test false h = record {
      outer = s.outer;
      first = s.first;
      second = s.second;
      inner = with_bind (bind_of n d) s.inner;
      left = ap (λ (c : Bool). (if c then v else record v { scopes = last_changed (with_bind (bind_of n d)) v.scopes }).scopes) h
          ∙ ap (last_changed (with_bind (bind_of n d))) s.left;
      right = ap (λ (c : Bool). (if c then w else record w { scopes = last_changed (with_bind (bind_of n e)) w.scopes }).scopes) h
          ∙ ap (last_changed (with_bind (bind_of n e))) s.right ∙ ap (λ (x : Decl). s.outer ∷ s.second ∷ with_bind (bind_of n x) s.inner ∷ []) (sym f);
      next = ap (λ (c : Bool). (if c then v else record v { scopes = last_changed (with_bind (bind_of n d)) v.scopes }).next) h ∙ s.next
          ∙ sym (ap (λ (c : Bool). (if c then w else record w { scopes = last_changed (with_bind (bind_of n e)) w.scopes }).next) h);
    }

fresh_same : (u : Ty) (v w : Walk) → SameInside v w → SameInside (fresh u v) (fresh u w)
fresh_same u v w s = record { outer = s.outer; first = s.first; second = s.second; inner = s.inner; left = s.left; right = s.right; next = ap suc s.next }

-- a name is bound as it stands for the same
bound_same : (n : Option Name) (u : Ty) (v w : Walk) → SameInside v w → SameInside (bound n (Some u) v) (bound n (Some u) w)
bound_same None u v w s = fresh_same u v w s
bound_same (Some n) u v w s = subst (λ (o : Option Place). SameInside (bound_name n (Some u) (is_there n v) v) (bound_name n (Some u) o w)) (there_same n v w s) (by_place (is_there n v))
  where
    by_place : (o : Option Place) → SameInside (bound_name n (Some u) o v) (bound_name n (Some u) o w)
    by_place (Some at) = s
    by_place None = name_same n (variable v.next u) (variable w.next u) (fresh u v) (fresh u w) (ap (λ (i : ℕ). variable i u) s.next) (fresh_same u v w s)

told_same : (n : Option Name) (v w : Walk) → SameInside v w → name_flaws n v ≡ name_flaws n w
told_same None v w s = refl
told_same (Some n) v w s = ap (redeclared n) (there_same n v w s)

names_same : (a b : Walk) (ps : List Param) (v w : Walk) → AllTyped a b ps → SameInside v w → names_flaws a ps v ≡ names_flaws b ps w
names_same a b [] v w h s = refl
names_same a b (p ∷ ps) v w h s =
    ap (λ (fs : List Flaw). fs ++ names_flaws a ps (bound p.name (type_of_param a p) v)) (told_same p.name v w s)
    ∙ ap (λ (o : Option Ty). name_flaws p.name w ++ names_flaws a ps (bound p.name o v)) h.0.1
    ∙ ap (λ (fs : List Flaw). name_flaws p.name w ++ fs) (names_same a b ps (bound p.name (Some h.0.0) v) (bound p.name (Some h.0.0) w) h.1 (bound_same p.name h.0.0 v w s))
    ∙ sym (ap (λ (o : Option Ty). name_flaws p.name w ++ names_flaws b ps (bound p.name o w)) h.0.2)

typed_append : (a b : Walk) (ps qs : List Param) → AllTyped a b ps → AllTyped a b qs → AllTyped a b (ps ++ qs)
typed_append a b [] qs h k = k
typed_append a b (p ∷ ps) qs h k = (h.0, typed_append a b ps qs h.1 k)

-- ---- signatures

abbrev pub OfSig : (ℕ → Type 0) → Option SigTypes → Type 0
OfSig P None = Unit {0}
OfSig P (Some s) = AllAgree P s.params × AllAgree P s.results

pub record SameSig (P : ℕ → Type 0) (o r : Option SigTypes) : Type 0 where
  pub same : o ≡ r
  pub agree : OfSig P o

abbrev pub LessSig : (ℕ → Type 0) → Option SigTypes → Option SigTypes → Type 0
LessSig P o r = (o ≡ None) ⊎ SameSig P o r

untold_none : (fs : List Flaw) → where_untold fs None ≡ None
untold_none [] = refl
untold_none (f ∷ fs) = refl

no_results : (o : Option Tys) → both o None ≡ None
no_results None = refl
no_results (Some us) = refl

untold_agrees : (P : ℕ → Type 0) (fs : List Flaw) (o : Option SigTypes) → OfSig P o → OfSig P (where_untold fs o)
untold_agrees P [] o h = h
untold_agrees P (f ∷ fs) o h = tt

both_agree : (P : ℕ → Type 0) (o r : Option Tys) → OfTys P o → OfTys P r → OfSig P (both o r)
both_agree P None None h k = tt
both_agree P None (Some us) h k = tt
both_agree P (Some us) None h k = tt
both_agree P (Some us) (Some vs) h k = (h, k)

module _ (P : ℕ → Type 0) (k l : Known) (found : (e : t.Expr) → LessTy P (type_found k e) (type_found l e)) (s : t.Sig) where
  inside_same : SameInside (inside (outside k)) (inside (outside l))
  inside_same = record { outer = universe None; first = k.binds; second = l.binds; inner = []; left = refl; right = refl; next = refl }

  flaws_same : AllTyped (outside k) (outside l) (params_of s) → AllTyped (outside k) (outside l) (results_of s)
      → types_of (outside k) (params_of s) ≡ types_of (outside l) (params_of s) → types_of (outside k) (results_of s) ≡ types_of (outside l) (results_of s)
      → sig_flaws (outside k) s ≡ sig_flaws (outside l) s
  flaws_same g h d e =
      ap (λ (fs : List Flaw). fs ++ list_flaws (outside k) (results_place s) (results_of s) ++ names_flaws (outside k) (params_of s ++ results_of s) (inside (outside k))) (list_same P k l found (params_place s) (params_of s) g d)
      ∙ ap (λ (fs : List Flaw). list_flaws (outside l) (params_place s) (params_of s) ++ fs ++ names_flaws (outside k) (params_of s ++ results_of s) (inside (outside k))) (list_same P k l found (results_place s) (results_of s) h e)
      ∙ ap (λ (fs : List Flaw). list_flaws (outside l) (params_place s) (params_of s) ++ list_flaws (outside l) (results_place s) (results_of s) ++ fs)
      (names_same (outside k) (outside l) (params_of s ++ results_of s) (inside (outside k)) (inside (outside l)) (typed_append (outside k) (outside l) (params_of s) (results_of s) g h) inside_same)

  same_less : SameTys P (types_of (outside k) (params_of s)) (types_of (outside l) (params_of s)) → SameTys P (types_of (outside k) (results_of s)) (types_of (outside l) (results_of s))
      → (o r : Option Tys) → types_of (outside k) (params_of s) ≡ o → types_of (outside k) (results_of s) ≡ r → LessSig P (sig_types (outside k) s) (sig_types (outside l) s)
  same_less g h None r d e = inl (ap (λ (x : Option Tys). where_untold (sig_flaws (outside k) s) (both x (types_of (outside k) (results_of s)))) d ∙ untold_none (sig_flaws (outside k) s))
  same_less g h (Some ps) None d e =
      inl (ap (λ (x : Option Tys). where_untold (sig_flaws (outside k) s) (both (types_of (outside k) (params_of s)) x)) e
      ∙ ap (where_untold (sig_flaws (outside k) s)) (no_results (types_of (outside k) (params_of s))) ∙ untold_none (sig_flaws (outside k) s))
  same_less g h (Some ps) (Some rs) d e = inr (record {
    same = ap (λ (fs : List Flaw). where_untold fs (both (types_of (outside k) (params_of s)) (types_of (outside k) (results_of s))))
        (flaws_same (all_typed P k l found (params_of s) ps d) (all_typed P k l found (results_of s) rs e) g.same h.same)
        ∙ ap (λ (x : Option Tys). where_untold (sig_flaws (outside l) s) (both x (types_of (outside k) (results_of s)))) g.same
        ∙ ap (λ (x : Option Tys). where_untold (sig_flaws (outside l) s) (both (types_of (outside l) (params_of s)) x)) h.same;
    agree = untold_agrees P (sig_flaws (outside k) s) _ (both_agree P (types_of (outside k) (params_of s)) (types_of (outside k) (results_of s)) g.agree h.agree);
  })

  by_types : LessTys P (types_of (outside k) (params_of s)) (types_of (outside l) (params_of s)) → LessTys P (types_of (outside k) (results_of s)) (types_of (outside l) (results_of s))
      → LessSig P (sig_types (outside k) s) (sig_types (outside l) s)
  by_types (inl g) h = inl (ap (λ (x : Option Tys). where_untold (sig_flaws (outside k) s) (both x (types_of (outside k) (results_of s)))) g ∙ untold_none (sig_flaws (outside k) s))
  by_types (inr g) (inl h) =
      inl (ap (λ (x : Option Tys). where_untold (sig_flaws (outside k) s) (both (types_of (outside k) (params_of s)) x)) h
      ∙ ap (where_untold (sig_flaws (outside k) s)) (no_results (types_of (outside k) (params_of s))) ∙ untold_none (sig_flaws (outside k) s))
  by_types (inr g) (inr h) = same_less g h (types_of (outside k) (params_of s)) (types_of (outside k) (results_of s)) refl refl

  pub sig_less : LessSig P (sig_types (outside k) s) (sig_types (outside l) s)
  sig_less = by_types (types_less P k l found (params_of s)) (types_less P k l found (results_of s))

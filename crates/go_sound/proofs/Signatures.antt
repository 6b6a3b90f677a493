-- A signature of which nothing is told: its parameters and results are of scalar types.
use Rattle.std.proofs.Common.{◌≡◌, List, [], ◌∷◌, ◌++◌, refl, subst, ap, ◌∙◌, Bool, true, false, Option, Some, None, if◌then◌else◌}
use Rattle.gj_base.specs.declared.place.Place.{Place}
use Rattle.go_syntax.specs.Tree as t
use Rattle.go_type.specs.Tree.{Ty, Tys, no_tys, more_tys}
use Rattle.go_core.specs.CoreTree.{CoreProgram}
use Rattle.go_core.specs.TypeOf.{listed_types}
use Rattle.go_core.specs.SoundNode as node
use Rattle.go_typing.specs.Answer.{Flaw, flaw}
use Rattle.go_typing.specs.Typing.{place_of}
use Rattle.go_typing.specs.Walk.{Walk}
use Rattle.go_typing.specs.Expressions.{type_in, type_of}
use Rattle.go_typing.specs.Signature.{Param, Typed, next_named, alone, grouped, type_of_param, and_type, types_of, param_flaws, params_flaws, list_flaws, params_of, results_in, results_of, results_place, sig_flaws, both, where_untold, sig_types}
use Rattle.go_sound.specs.Added.{TypeIsSet, TypesAreSet}
use Rattle.go_sound.specs.SoundTyped.{HasOperators, IsScalarType, AreScalarTypes}
use Rattle.go_sound.specs.SoundValues.{IsReady}
use Rattle.go_sound.proofs.SoundBodies.{no_first, no_second}
use Rattle.go_sound.specs.Grammar.{ParamsOfGrammar, ResultsOfGrammar, SigOfGrammar}
use Rattle.go_sound.proofs.Words.{one_of_three, two_of_three}
use Rattle.go_sound.proofs.Here.{type_there}

-- ---- types that are told of with another name's

module _ (w : Walk) where
  -- a type without `...` of which nothing is told
  pub record IsClean (variadic : Bool) (e : t.Expr) : Type 0 where
    pub single : variadic ≡ false
    pub untold : (type_in w e).flaws ≡ []
    pub operators : HasOperators e

  abbrev pub AllClean : List Param → Type 0
  AllClean [] = Unit {0}
  AllClean (q ∷ qs) = IsClean q.variadic q.type_ × AllClean qs

  told_clean : (at : Place) (variadic : Bool) (e : t.Expr) → HasOperators e → (if variadic then flaw at 0 ∷ [] else (type_in w e).flaws) ≡ [] → IsClean variadic e
  told_clean at true e o h = cc
  told_clean at false e o h = record { single = refl; untold = h; operators = o }

  some_typed : (x y : Typed) → Some x ≡ Some y → x ≡ y
  some_typed x y e = ap (or_this x) e
    where
      or_this : Typed → Option Typed → Typed
      or_this z None = z
      or_this z (Some u) = u

  next_clean : (ps : t.Params) → ParamsOfGrammar ps → params_flaws w (grouped ps) ≡ [] → (y : Typed) → next_named ps ≡ Some y → IsClean y.variadic y.type_
  next_clean t.NoParams o h y e = let f : None ≡ Some y = e in cc
  next_clean (t.MoreParams at (Some n) variadic u ps) o h y e =
      subst (λ (z : Typed). IsClean z.variadic z.type_) (some_typed (record { variadic = variadic; type_ = u }) y e) (told_clean at variadic u o.0 (no_first (if variadic then flaw at 0 ∷ [] else (type_in w u).flaws) _ h))
  next_clean (t.MoreParams at None variadic u ps) o h y e = next_clean ps o.1 (no_second (param_flaws w (alone at variadic u (next_named ps))) _ h) y e

  alone_clean : (at : Place) (variadic : Bool) (u : t.Expr) (o : Option Typed) → HasOperators u → param_flaws w (alone at variadic u o) ≡ [] → ((y : Typed) → o ≡ Some y → IsClean y.variadic y.type_)
      → IsClean (alone at variadic u o).variadic (alone at variadic u o).type_
  alone_clean at true u o i h f = cc
  alone_clean at false (t.NameExpr q x) (Some y) i h f = f y refl
  alone_clean at false (t.NameExpr q x) None i h f = record { single = refl; untold = h; operators = i }
  alone_clean at false _ o i h f = record { single = refl; untold = h; operators = i }

  pub grouped_clean : (ps : t.Params) → ParamsOfGrammar ps → params_flaws w (grouped ps) ≡ [] → AllClean (grouped ps)
  grouped_clean t.NoParams o h = tt
  grouped_clean (t.MoreParams at (Some n) variadic u ps) o h =
      (told_clean at variadic u o.0 (no_first (if variadic then flaw at 0 ∷ [] else (type_in w u).flaws) _ h), grouped_clean ps o.1 (no_second (if variadic then flaw at 0 ∷ [] else (type_in w u).flaws) _ h))
  grouped_clean (t.MoreParams at None variadic u ps) o h =
      let k = no_second (param_flaws w (alone at variadic u (next_named ps))) _ h in
      (alone_clean at variadic u (next_named ps) o.0 (no_first (param_flaws w (alone at variadic u (next_named ps))) _ h) (λ y e. next_clean ps o.1 k y e), grouped_clean ps o.1 k)

  pub results_clean : (rs : t.Results) → ResultsOfGrammar rs → params_flaws w (results_in rs) ≡ [] → AllClean (results_in rs)
  results_clean t.NoResults o h = tt
  results_clean (t.OneResult u) o h = (alone_clean (place_of u) false u None o (no_first (param_flaws w (alone (place_of u) false u None)) [] h) (λ y e. let f : None ≡ Some y = e in cc), tt)
  results_clean (t.ManyResults at ps) o h = grouped_clean ps o h

-- ---- the types that are found

module _ (p : CoreProgram) (w : Walk) where
  pub record IsTypedParam (q : Param) : Type 0 where
    pub type_ : Ty
    pub found : type_of_param w q ≡ Some type_
    pub scalar : IsScalarType p type_
    pub set : TypeIsSet w.names type_

  abbrev pub AllTyped : List Param → Type 0
  AllTyped [] = Unit {0}
  AllTyped (q ∷ qs) = IsTypedParam q × AllTyped qs

  abbrev pub all_append : (qs rs : List Param) → AllTyped qs → AllTyped rs → AllTyped (qs ++ rs)
  all_append [] rs h k = k
  all_append (q ∷ qs) rs h k = (h.0, all_append qs rs h.1 k)

  -- their types
  abbrev pub tys_in : (qs : List Param) → AllTyped qs → Tys
  tys_in [] h = no_tys
  tys_in (q ∷ qs) h = let x = h.0 in more_tys x.type_ (tys_in qs h.1)

  abbrev pub types_in : (qs : List Param) → AllTyped qs → List Ty
  types_in [] h = []
  types_in (q ∷ qs) h = let x = h.0 in x.type_ ∷ types_in qs h.1

  pub types_listed : (qs : List Param) (h : AllTyped qs) → types_in qs h ≡ listed_types (tys_in qs h)
  types_listed [] h = refl
  types_listed (q ∷ qs) h = let x = h.0 in ap (λ (ts : List Ty). x.type_ ∷ ts) (types_listed qs h.1)

  pub types_joined : (qs rs : List Param) (h : AllTyped qs) (k : AllTyped rs) → types_in (qs ++ rs) (all_append qs rs h k) ≡ types_in qs h ++ types_in rs k
  types_joined [] rs h k = refl
  types_joined (q ∷ qs) rs h k = let x = h.0 in ap (λ (ts : List Ty). x.type_ ∷ ts) (types_joined qs rs h.1 k)

  pub record AreFound (qs : List Param) (h : AllTyped qs) : Type 0 where
    pub found : types_of w qs ≡ Some (tys_in qs h)
    pub scalar : AreScalarTypes p (tys_in qs h)
    pub set : TypesAreSet w.names (tys_in qs h)

  pub all_found : (qs : List Param) (h : AllTyped qs) → AreFound qs h
  all_found [] h = record { found = refl; scalar = tt; set = tt }
  all_found (q ∷ qs) h =
      let x = h.0 in
      let r = all_found qs h.1 in
      record {
        found = ap (λ (o : Option Ty). and_type o (types_of w qs)) x.found ∙ ap (and_type (Some x.type_)) r.found;
        scalar = (x.scalar, r.scalar);
        set = (x.set, r.set);
      }

  module _ (a : node.Around) (r : IsReady p a w) where
    param_typed : (q : Param) → IsClean w q.variadic q.type_ → IsTypedParam q
    param_typed q h =
        let c = type_there p a w r q.type_ h.operators h.untold in
        record { type_ = c.type_; found = ap (λ (b : Bool). if b then None else type_of (type_in w q.type_).answer) h.single ∙ c.found; scalar = c.scalar; set = c.set }

    params_typed : (qs : List Param) → AllClean w qs → AllTyped qs
    params_typed [] h = tt
    params_typed (q ∷ qs) h = (param_typed q h.0, params_typed qs h.1)

    pub record IsSig (s : t.Sig) : Type 0 where
      pub params : AllTyped (params_of s)
      pub results : AllTyped (results_of s)

    pub sig_here : (s : t.Sig) → SigOfGrammar s → sig_flaws w s ≡ [] → IsSig s
    sig_here (t.SigOf at ps rs) o h = record {
      params = params_typed (grouped ps) (grouped_clean w ps o.0 (no_first (params_flaws w (grouped ps)) _ (one_of_three (list_flaws w at (grouped ps)) (list_flaws w (results_place (t.SigOf at ps rs)) (results_in rs)) _ h)));
      results = params_typed (results_in rs) (results_clean w rs o.1 (no_first (params_flaws w (results_in rs)) _ (two_of_three (list_flaws w at (grouped ps)) (list_flaws w (results_place (t.SigOf at ps rs)) (results_in rs)) _ h)));
    }

    -- the types of a signature of which nothing is told
    pub sig_found : (s : t.Sig) → sig_flaws w s ≡ [] → (h : AllTyped (params_of s)) (k : AllTyped (results_of s)) → AreFound (params_of s) h → AreFound (results_of s) k
        → sig_types w s ≡ Some (record { params = tys_in (params_of s) h; results = tys_in (results_of s) k })
    sig_found s e h k x y =
        ap (λ (fs : List Flaw). where_untold fs (both (types_of w (params_of s)) (types_of w (results_of s)))) e
        ∙ ap (λ (o : Option Tys). both o (types_of w (results_of s))) x.found ∙ ap (both (Some (tys_in (params_of s) h))) y.found

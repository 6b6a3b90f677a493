-- Values in the statements of a body have cores that have a meaning.
use Rattle.std.proofs.Common.{◌≡◌, ◌⊎◌, inl, inr, List, [], ◌∷◌, ◌++◌, refl, sym, subst, ap, ◌∙◌, Bool, true, false, Option, Some, None, if◌then◌else◌}
use Rattle.gj_base.specs.declared.place.Place.{Place}
use Rattle.go_const.specs.declared.constant.Const.{Const}
use Rattle.go_syntax.specs.Tree.{Expr}
use Rattle.go_type.specs.Tree as ty
use Rattle.go_type.specs.Tree.{Ty, Tys, no_tys, more_tys}
use Rattle.go_type.specs.Named.{NamedTy}
use Rattle.go_type.specs.Underlying.{underlying}
use Rattle.go_core.specs.CoreTree as core
use Rattle.go_core.specs.CoreTree.{CoreProgram}
use Rattle.go_core.specs.SoundNode as sound
use Rattle.go_core.specs.SoundNode.{IsBool}
use Rattle.go_core.specs.Sound.{Gives, GivesSome, SoundExpr}
use Rattle.go_typing.specs.Answer.{Flaw, flaw, Answer, value, pending, type_, package_, built_in, blank, does, wrong, untyped_part, bad, is_known, own}
use Rattle.go_typing.specs.Operand.{Operand, single, is_bool, Settled, settled, unsettled, settled_at, settled_alone, passed_at}
use Rattle.go_typing.specs.Wanted.{wanted, wanted_operand, wanted_alone, alone_operand, settled_answer}
use Rattle.go_typing.specs.Typing.{typing, place_of}
use Rattle.go_typing.specs.Faulty.{IsIn}
use Rattle.go_typing.specs.Walk.{Walk}
use Rattle.go_typing.specs.Expressions.{value_at, value_alone, condition, condition_of, condition_flaws, core_of, type_of, answer_in, flaws_in}
use Rattle.go_sound.specs.Added.{TypeIsSet, TypesAreSet}
use Rattle.go_sound.specs.SoundTyped.{HasOperators, IsScalarType}
use Rattle.go_sound.specs.SoundValues.{IsReady, ValuesAreSound, IsAnyValue, AnyValuesAreSound, ConditionsAreSound}
use Rattle.go_sound.proofs.Agree.{Agrees, AllAgree, AnswerAgrees, Alike, wanted_alike, wanted_alone_alike, under_same}
use Rattle.go_sound.proofs.AgreeTyping.{typing_alike}
use Rattle.go_sound.proofs.AddedTypes.{same_under, type_set, scopes_set}
use Rattle.go_sound.proofs.Grown.{IsSet}
use Rattle.go_sound.proofs.NothingLost.{nothing_is_lost}
use Rattle.go_sound.proofs.SoundNodes.{wanted_are_sound, alone_are_sound}

pub no_first : (fs gs : List Flaw) → fs ++ gs ≡ [] → fs ≡ []
no_first [] gs h = refl
no_first (f ∷ fs) gs h = cc

pub no_second : (fs gs : List Flaw) → fs ++ gs ≡ [] → gs ≡ []
no_second [] gs h = h
no_second (f ∷ fs) gs h = cc

-- ---- a wanted value is one, or has a fault

abbrev pub IsValueOrWrong : Answer → Type 0
IsValueOrWrong (value c t v) = Unit {0}
IsValueOrWrong (wrong f fs) = Unit {0}
IsValueOrWrong _ = ⊥

pub record IsAValue (a : Answer) : Type 0 where
  pub core_ : core.Expr
  pub type_at : Ty
  pub constant_ : Option Const
  pub is_value : a ≡ value core_ type_at constant_

pub value_of : (a : Answer) → IsValueOrWrong a → own a ≡ [] → IsAValue a
value_of (value c t v) h e = record { core_ = c; type_at = t; constant_ = v; is_value = refl }
value_of (wrong f fs) h e = cc
value_of (pending p b) h e = absurd h
value_of (type_ t) h e = absurd h
value_of (package_ p) h e = absurd h
value_of (built_in b) h e = absurd h
value_of blank h e = absurd h
value_of (does s) h e = absurd h
value_of untyped_part h e = absurd h

settled_form : (x : Settled) → IsValueOrWrong (settled_answer x)
settled_form (settled c t v) = tt
settled_form (unsettled f fs) = tt

operand_form : (ns : List NamedTy) (at : Place) (u : Ty) (x : Option Operand) → IsValueOrWrong (wanted_operand ns at u x)
operand_form ns at u None = tt
operand_form ns at u (Some x) = settled_form (settled_at at u (passed_at ns at u x))

pub wanted_form : (ns : List NamedTy) (at : Place) (u : Ty) (a : Answer) → is_known a ≡ true → IsValueOrWrong (wanted ns at u a)
wanted_form ns at u (wrong f fs) h = let e : false ≡ true = h in cc
wanted_form ns at u untyped_part h = let e : false ≡ true = h in cc
wanted_form ns at u (value c t v) h = operand_form ns at u (single (value c t v))
wanted_form ns at u (pending p b) h = operand_form ns at u (single (pending p b))
wanted_form ns at u (type_ t) h = tt
wanted_form ns at u (package_ p) h = tt
wanted_form ns at u (built_in b) h = tt
wanted_form ns at u blank h = tt
wanted_form ns at u (does s) h = tt

alone_operand_form : (ns : List NamedTy) (at : Place) (x : Option Operand) → IsValueOrWrong (alone_operand ns at x)
alone_operand_form ns at None = tt
alone_operand_form ns at (Some x) = settled_form (settled_alone ns at x)

alone_form : (ns : List NamedTy) (at : Place) (a : Answer) → is_known a ≡ true → IsValueOrWrong (wanted_alone ns at a)
alone_form ns at (wrong f fs) h = let e : false ≡ true = h in cc
alone_form ns at untyped_part h = let e : false ≡ true = h in cc
alone_form ns at (value c t v) h = alone_operand_form ns at (single (value c t v))
alone_form ns at (pending p b) h = alone_operand_form ns at (single (pending p b))
alone_form ns at (type_ t) h = tt
alone_form ns at (package_ p) h = tt
alone_form ns at (built_in b) h = tt
alone_form ns at blank h = tt
alone_form ns at (does s) h = tt

-- ---- types that are set

mutual
  pub set_again : (ns : List NamedTy) (u : Ty) → Agrees (IsSet ns) u → TypeIsSet ns u
  set_again ns (ty.named id) h = h
  set_again ns (ty.tuple us) h = sets_again ns us h
  set_again ns _ h = tt

  pub sets_again : (ns : List NamedTy) (us : Tys) → AllAgree (IsSet ns) us → TypesAreSet ns us
  sets_again ns no_tys h = tt
  sets_again ns (more_tys u us) h = (set_again ns u h.0, sets_again ns us h.1)

module _ (p : CoreProgram) (a : sound.Around) (w : Walk) (r : IsReady p a w) where
  pub known_where_untold : (e : Expr) → flaws_in w e ≡ [] → is_known (answer_in w e) ≡ true
  known_where_untold e h = by_case (nothing_is_lost w.names w.scopes r.all_typed e)
    where
      by_case : (is_known (answer_in w e) ≡ true) ⊎ (f : Flaw) × IsIn f (flaws_in w e) → is_known (answer_in w e) ≡ true
      by_case (inl k) = k
      by_case (inr t) = absurd (subst (IsIn t.0) h t.1)

  pub alike_here : (e : Expr) → Alike (w.names ++ r.further) w.names (IsSet w.names) (same_under w.names r.further) (typing (w.names ++ r.further) w.scopes e) (typing w.names w.scopes e)
  alike_here e = typing_alike (w.names ++ r.further) w.names (IsSet w.names) (same_under w.names r.further) w.scopes (scopes_set w.names w.scopes r.types_set) e

  -- a value is wanted of the same answer, with all named types
  wanted_same : (e : Expr) (u : Ty) → TypeIsSet w.names u → wanted p.names (place_of e) u (typing p.names w.scopes e) ≡ wanted w.names (place_of e) u (answer_in w e)
  wanted_same e u s =
      let l = alike_here e in
      let m = wanted_alike (w.names ++ r.further) w.names (IsSet w.names) (same_under w.names r.further) (place_of e) u (typing (w.names ++ r.further) w.scopes e) (type_set w.names u s) l.agrees in
      ap (λ (ns : List NamedTy). wanted ns (place_of e) u (typing ns w.scopes e)) r.names_kept ∙ m.same ∙ ap (wanted w.names (place_of e) u) l.same

  alone_same : (e : Expr) → wanted_alone p.names (place_of e) (typing p.names w.scopes e) ≡ wanted_alone w.names (place_of e) (answer_in w e)
  alone_same e =
      let l = alike_here e in
      let m = wanted_alone_alike (w.names ++ r.further) w.names (IsSet w.names) (same_under w.names r.further) (place_of e) (typing (w.names ++ r.further) w.scopes e) l.agrees in
      ap (λ (ns : List NamedTy). wanted_alone ns (place_of e) (typing ns w.scopes e)) r.names_kept ∙ m.same ∙ ap (wanted_alone w.names (place_of e)) l.same

  alone_set : (e : Expr) (c : core.Expr) (t : Ty) (v : Option Const) → wanted_alone w.names (place_of e) (answer_in w e) ≡ value c t v → TypeIsSet w.names t
  alone_set e c t v h =
      let l = alike_here e in
      let m = wanted_alone_alike (w.names ++ r.further) w.names (IsSet w.names) (same_under w.names r.further) (place_of e) (typing (w.names ++ r.further) w.scopes e) l.agrees in
      let g : AnswerAgrees (IsSet w.names) (value c t v) = subst (AnswerAgrees (IsSet w.names)) (m.same ∙ ap (wanted_alone w.names (place_of e)) l.same ∙ h) m.agrees in
      set_again w.names t g

  pub value_here : (e : Expr) → HasOperators e → (u : Ty) → IsScalarType p u → TypeIsSet w.names u → (value_at w u e).flaws ≡ [] → SoundExpr p a (core_of (value_at w u e).answer) × Gives p (core_of (value_at w u e).answer) u
  value_here e o u s t h =
      let k = known_where_untold e (no_first (flaws_in w e) _ h) in
      let x = value_of (wanted w.names (place_of e) u (answer_in w e)) (wanted_form w.names (place_of e) u (answer_in w e) k) (no_second (flaws_in w e) _ h) in
      let y = wanted_are_sound p a w.scopes r.scopes e o u s x.core_ x.type_at x.constant_ (wanted_same e u t ∙ x.is_value) in
      subst (λ (b : Answer). SoundExpr p a (core_of b) × Gives p (core_of b) u) (sym x.is_value) y

  pub any_value_here : (e : Expr) → HasOperators e → (value_alone w e).flaws ≡ [] → IsAnyValue p a w e
  any_value_here e o h =
      let k = known_where_untold e (no_first (flaws_in w e) _ h) in
      let x = value_of (wanted_alone w.names (place_of e) (answer_in w e)) (alone_form w.names (place_of e) (answer_in w e) k) (no_second (flaws_in w e) _ h) in
      let y = alone_are_sound p a w.scopes r.scopes e o x.core_ x.type_at x.constant_ (alone_same e ∙ x.is_value) in
      record {
        type_ = x.type_at;
        has_type = ap type_of x.is_value;
        is_sound = subst (λ (b : Answer). SoundExpr p a (core_of b)) (sym x.is_value) y.0;
        gives = subst (λ (b : Answer). Gives p (core_of b) x.type_at) (sym x.is_value) y.1;
        scalar = y.2;
        set = alone_set e x.core_ x.type_at x.constant_ x.is_value;
      }

  -- ---- conditions

  bool_there : (u : Ty) → is_bool u ≡ true → IsBool u
  bool_there ty.bool h = tt
  bool_there _ h = let e : false ≡ true = h in cc

  -- a value whose underlying type is boolean
  value_condition : (at : Place) (c : core.Expr) (u : Ty) (v : Option Const) → TypeIsSet w.names u → SoundExpr p a c → Gives p c u → condition_flaws w at (value c u v) ≡ []
      → SoundExpr p a (core_of (condition_of w at (value c u v))) × GivesSome p (core_of (condition_of w at (value c u v))) IsBool
  value_condition at c u v s x g h = by_test (is_bool (underlying w.names u)) refl h
    where
      under_kept : underlying p.names u ≡ underlying w.names u
      under_kept =
          ap (λ (ns : List NamedTy). underlying ns u) r.names_kept ∙ under_same (w.names ++ r.further) w.names (IsSet w.names) (same_under w.names r.further) u (type_set w.names u s)

      by_test : (b : Bool) → is_bool (underlying w.names u) ≡ b → (if b then [] else flaw at 86 ∷ []) ≡ []
          → SoundExpr p a (core_of (if b then value c u v else bad at 86)) × GivesSome p (core_of (if b then value c u v else bad at 86)) IsBool
      by_test true f k = (x, (u, g, bool_there (underlying p.names u) (ap is_bool under_kept ∙ f)))
      by_test false f k = cc

  pub condition_here : (e : Expr) → HasOperators e → (condition w e).flaws ≡ [] → SoundExpr p a (core_of (condition w e).answer) × GivesSome p (core_of (condition w e).answer) IsBool
  condition_here e o h =
      let f = no_first (value_alone w e).flaws _ h in
      let k = known_where_untold e (no_first (flaws_in w e) _ f) in
      let x = value_of (wanted_alone w.names (place_of e) (answer_in w e)) (alone_form w.names (place_of e) (answer_in w e) k) (no_second (flaws_in w e) _ f) in
      let y = alone_are_sound p a w.scopes r.scopes e o x.core_ x.type_at x.constant_ (alone_same e ∙ x.is_value) in
      let g : condition_flaws w (place_of e) (value x.core_ x.type_at x.constant_) ≡ [] = subst (λ (b : Answer). condition_flaws w (place_of e) b ≡ []) x.is_value (no_second (value_alone w e).flaws _ h) in
      subst (λ (b : Answer). SoundExpr p a (core_of (condition_of w (place_of e) b)) × GivesSome p (core_of (condition_of w (place_of e) b)) IsBool) (sym x.is_value)
      (value_condition (place_of e) x.core_ x.type_at x.constant_ (alone_set e x.core_ x.type_at x.constant_ x.is_value) y.0 y.1 g)

pub values_are_sound : ValuesAreSound
values_are_sound p a w r e o u s t h = value_here p a w r e o u s t h

pub any_values_are_sound : AnyValuesAreSound
any_values_are_sound p a w r e o h = any_value_here p a w r e o h

pub conditions_are_sound : ConditionsAreSound
conditions_are_sound p a w r e o h = condition_here p a w r e o h

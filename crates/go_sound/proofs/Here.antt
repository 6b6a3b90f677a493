-- Expressions in the statements of a body: their answers have a meaning, and their types are set.
use Rattle.std.proofs.Common.{◌≡◌, inl, inr, ◌&&◌, List, [], ◌∷◌, ◌++◌, refl, sym, subst, ap, ◌∙◌, IsTrue, Bool, true, false, Option, Some, None, if◌then◌else◌}
use Rattle.gj_base.specs.declared.place.Place.{Place}
use Rattle.gj_base.specs.declared.kind.Op.{Op}
use Rattle.gj_base.specs.declared.kind.Op.TheVariants as operator
use Rattle.go_const.specs.declared.constant.Const.{Const}
use Rattle.go_type.specs.declared.types.Basis.TheVariants as basis
use Rattle.go_syntax.specs.Tree as t
use Rattle.go_type.specs.Tree as ty
use Rattle.go_type.specs.Tree.{Ty, Tys, no_tys, more_tys}
use Rattle.go_type.specs.Named.{NamedTy}
use Rattle.go_type.specs.Underlying.{underlying}
use Rattle.go_core.specs.SameType.{same_type}
use Rattle.go_core.specs.CoreTree as core
use Rattle.go_core.specs.CoreTree.{CoreProgram}
use Rattle.go_core.specs.TypeOf.{types_of, listed_types}
use Rattle.go_core.specs.SoundNode as node
use Rattle.go_core.specs.SoundNode.{IsBool}
use Rattle.go_core.specs.Sound.{Gives, SoundExpr}
use Rattle.go_typing.specs.Answer.{Flaw, flaw, Answer, value, pending, type_, package_, built_in, blank, does, wrong, untyped_part, bad, unless, is_known, where_known, own, Part}
use Rattle.go_typing.specs.Operand.{Operand, typed, constant_operand, truth_operand, pending_operand, nil_operand, single, goes_to, Passed, passed, refused, unassignable, constant_of, untyped_constant}
use Rattle.go_typing.specs.Convert.{is_scalar}
use Rattle.go_typing.specs.Binary as bin
use Rattle.go_typing.specs.Binary.{Comparison, Match, right_taken, two_typed, typed_beside, matched, compared, has_comparison, comparison_value, comparison, on_operands, on_singles}
use Rattle.go_typing.specs.Wanted.{wanted, wanted_type, no_value}
use Rattle.go_typing.specs.Typing.{place_of, typing, operator_row}
use Rattle.go_typing.specs.Faulty.{IsIn}
use Rattle.go_typing.specs.Walk.{Walk}
use Rattle.go_typing.specs.Expressions.{Valued, answer_in, flaws_in, value_at, value_alone, type_in, core_of, type_of, several_types}
use Rattle.go_typing.specs.Assign.{where_typed, all_typed, all_in_flaws}
use Rattle.go_typing.specs.Declare.{SpecType, no_type, of_type, lost_type, spec_type_of, spec_type, spec_known, spec_type_flaws, constant_flaws, constant_value}
use Rattle.go_sound.specs.Added.{TypeIsSet, TypesAreSet}
use Rattle.go_sound.specs.SoundTyped.{is_binary, HasOperators, BoundHasOperators, IsScalarType, AreScalarTypes, IsConstantOf}
use Rattle.go_sound.specs.SoundValues.{IsReady, IsAnyValue}
use Rattle.go_sound.proofs.Agree.{AnswerAgrees, wanted_alike, under_same}
use Rattle.go_sound.proofs.AgreeTyping.{operator_alike}
use Rattle.go_sound.proofs.AddedTypes.{same_under, type_set}
use Rattle.go_sound.proofs.Grown.{IsSet}
use Rattle.go_sound.proofs.NothingLost.{Either, operator_either}
use Rattle.go_sound.proofs.SoundWords.{IsValue, AnswerSound, IsSound, sound, value_sound}
use Rattle.go_sound.proofs.SoundNodes.{nodes, operator_sound, wanted_value, IsAnswerValue, wanted_type_is, HasTheType}
use Rattle.go_sound.proofs.SoundBodies.{value_of, wanted_form, set_again, sets_again, no_first, no_second, known_where_untold, alike_here, value_here, any_value_here}

-- ---- nothing is told

-- a fault of a statement whose parts are typed where nothing is told of them
both_hold : (b c : Bool) → b ≡ true → c ≡ true → (b && c) ≡ true
both_hold b c p q = ap (λ (x : Bool). x && c) p ∙ q

pub typed_told : (b : Bool) (parts gs : List Flaw) → (parts ≡ [] → b ≡ true) → where_typed b parts gs ≡ [] → gs ≡ []
typed_told true [] gs k h = h
typed_told true (f ∷ fs) gs k h = cc
typed_told false parts gs k h = let e : false ≡ true = k h in cc

-- the value of a constant of a type, where that is scalar and where it isn't
abbrev pub value_if : Walk → Ty → t.Expr → Bool → Valued
value_if w u y b =
    if b then record { answer = (value_at w u y).answer; flaws = (value_at w u y).flaws ++ constant_flaws (place_of y) (value_at w u y).answer }
    else record { answer = untyped_part; flaws = flaws_in w y ++ flaw (place_of y) 61 ∷ [] }

module _ (p : CoreProgram) (a : node.Around) (w : Walk) (r : IsReady p a w) where
  -- ---- what a node is here

  pub record Here (x : Answer) : Type 0 where
    pub is_sound : IsSound p a x
    pub agrees : AnswerAgrees (IsSet w.names) x

  pub here : (e : t.Expr) → HasOperators e → Here (answer_in w e)
  here e o =
      let l = alike_here p a w r e in
      record {
        is_sound = subst (IsSound p a) (ap (λ (ns : List NamedTy). typing ns w.scopes e) r.names_kept ∙ l.same) (nodes p a w.scopes r.scopes e o);
        agrees = subst (AnswerAgrees (IsSet w.names)) l.same l.agrees;
      }

  pub constant_here : (k : Const) → Here (untyped_constant k)
  constant_here k = record { is_sound = sound p a _ tt; agrees = tt }

  pub under_kept : (u : Ty) → TypeIsSet w.names u → underlying p.names u ≡ underlying w.names u
  under_kept u s = ap (λ (ns : List NamedTy). underlying ns u) r.names_kept ∙ under_same (w.names ++ r.further) w.names (IsSet w.names) (same_under w.names r.further) u (type_set w.names u s)

  pub operator_here : (at : Place) (op : Op) (x y : Part) → IsTrue (is_binary op) → Here x.answer → Here y.answer → Here (operator_row w.names at op x y)
  operator_here at op x y i h k =
      let l = operator_alike (w.names ++ r.further) w.names (IsSet w.names) (same_under w.names r.further) at op x y h.agrees k.agrees in
      record {
        is_sound = subst (IsSound p a) (ap (λ (ns : List NamedTy). operator_row ns at op x y) r.names_kept ∙ l.same) (operator_sound p a at op x y i h.is_sound k.is_sound);
        agrees = subst (AnswerAgrees (IsSet w.names)) l.same l.agrees;
      }

  -- a row of typed parts that has no fault is typed
  pub operator_known : (at : Place) (op : Op) (x y : Part) → is_known x.answer ≡ true → is_known y.answer ≡ true → own (operator_row w.names at op x y) ≡ [] → is_known (operator_row w.names at op x y) ≡ true
  operator_known at op x y h k e = by_case (operator_either w.names at op x y [] (inl (ap (λ (b : Bool). b && is_known y.answer) h ∙ k)))
    where
      by_case : Either (is_known (operator_row w.names at op x y)) (own (operator_row w.names at op x y)) → is_known (operator_row w.names at op x y) ≡ true
      by_case (inl f) = f
      by_case (inr f) = absurd (subst (IsIn f.0) e f.1)

  -- ---- values

  pub record IsValueAt (u : Ty) (c : core.Expr) : Type 0 where
    pub is_sound : SoundExpr p a c
    pub gives : Gives p c u

  -- a value of a type, wanted of a typed answer
  pub wanted_here : (at : Place) (u : Ty) (x : Answer) → Here x → is_known x ≡ true → IsScalarType p u → TypeIsSet w.names u → own (wanted w.names at u x) ≡ [] → (v : Option Const) × (wanted w.names at u x ≡ value (core_of (wanted w.names at u x)) u v)
      × IsValue p a (core_of (wanted w.names at u x)) u v
  wanted_here at u x h k s t e =
      let y = value_of (wanted w.names at u x) (wanted_form w.names at u x k) e in
      let i : y.type_at ≡ u = subst (HasTheType p a u) (same ∙ y.is_value) (wanted_type_is p a at u x) in
      let z : IsAnswerValue p a (value y.core_ y.type_at y.constant_) = subst (IsAnswerValue p a) (same ∙ y.is_value) (wanted_value p a at u x s h.is_sound) in
      let q : IsValue p a y.core_ u y.constant_ = subst (λ (v : Ty). IsValue p a y.core_ v y.constant_) i z.is_value in
      let f : wanted w.names at u x ≡ value y.core_ u y.constant_ = y.is_value ∙ ap (λ (v : Ty). value y.core_ v y.constant_) i in
      (y.constant_, f ∙ ap (λ (c : core.Expr). value c u y.constant_) (sym (ap core_of f)), subst (λ (c : core.Expr). IsValue p a c u y.constant_) (sym (ap core_of f)) q)
    where
      same : wanted p.names at u x ≡ wanted w.names at u x
      same =
          let l = wanted_alike (w.names ++ r.further) w.names (IsSet w.names) (same_under w.names r.further) at u x (type_set w.names u t) h.agrees in
          ap (λ (ns : List NamedTy). wanted ns at u x) r.names_kept ∙ l.same

  pub value_there : (u : Ty) (e : t.Expr) → HasOperators e → IsScalarType p u → TypeIsSet w.names u → (value_at w u e).flaws ≡ [] → IsValueAt u (core_of (value_at w u e).answer)
  value_there u e o s t h = let v = value_here p a w r e o u s t h in record { is_sound = v.0; gives = v.1 }

  pub any_there : (e : t.Expr) → HasOperators e → (value_alone w e).flaws ≡ [] → IsAnyValue p a w e
  any_there e o h = any_value_here p a w r e o h

  -- all are typed where nothing is told of any
  pub all_known_untold : (es : t.Exprs) → all_in_flaws w es ≡ [] → all_typed w es ≡ true
  all_known_untold t.NoExprs h = refl
  all_known_untold (t.MoreExprs e es) h =
      ap (λ (b : Bool). b && all_typed w es) (known_where_untold p a w r e (no_first (flaws_in w e) (all_in_flaws w es) h)) ∙ all_known_untold es (no_second (flaws_in w e) (all_in_flaws w es) h)

  -- so a fault that waits for its parts is told
  pub never_told : (es : t.Exprs) (f : Flaw) → where_typed (all_typed w es) (all_in_flaws w es) (f ∷ []) ≡ [] → ⊥
  never_told es f h = let e : f ∷ [] ≡ [] = typed_told (all_typed w es) (all_in_flaws w es) (f ∷ []) (all_known_untold es) h in cc

  -- where what else is a part is typed
  pub never_told_with : (b : Bool) (es : t.Exprs) (f : Flaw) → b ≡ true → where_typed (b && all_typed w es) (all_in_flaws w es) (f ∷ []) ≡ [] → ⊥
  never_told_with b es f k h = let e : f ∷ [] ≡ [] = typed_told (b && all_typed w es) (all_in_flaws w es) (f ∷ []) (λ q. both_hold b (all_typed w es) k (all_known_untold es q)) h in cc

  pub never_told_after : (b : Bool) (fs : List Flaw) (es : t.Exprs) (f : Flaw) → (fs ≡ [] → b ≡ true) → where_typed (b && all_typed w es) (fs ++ all_in_flaws w es) (f ∷ []) ≡ [] → ⊥
  never_told_after b fs es f k h =
      let e : f ∷ [] ≡ [] = typed_told (b && all_typed w es) (fs ++ all_in_flaws w es) (f ∷ []) (λ q. both_hold b (all_typed w es) (k (no_first fs (all_in_flaws w es) q)) (all_known_untold es (no_second fs (all_in_flaws w es) q))) h in cc

  pub never_told_before : (b : Bool) (fs : List Flaw) (es : t.Exprs) (f : Flaw) → (fs ≡ [] → b ≡ true) → where_typed (b && all_typed w es) (all_in_flaws w es ++ fs) (f ∷ []) ≡ [] → ⊥
  never_told_before b fs es f k h =
      let e : f ∷ [] ≡ [] = typed_told (b && all_typed w es) (all_in_flaws w es ++ fs) (f ∷ []) (λ q. both_hold b (all_typed w es) (k (no_second (all_in_flaws w es) fs q)) (all_known_untold es (no_first (all_in_flaws w es) fs q))) h in cc

  -- ---- types

  pub record IsAType (o : Option Ty) : Type 0 where
    pub type_ : Ty
    pub found : o ≡ Some type_
    pub scalar : IsScalarType p type_
    pub set : TypeIsSet w.names type_

  type_answer : (at : Place) (x : Answer) → is_known x ≡ true → own (wanted_type at x) ≡ [] → Here x → IsAType (type_of (wanted_type at x))
  type_answer at (type_ u) k e h = record { type_ = u; found = refl; scalar = let s = h.is_sound in s.is_sound; set = set_again w.names u h.agrees }
  type_answer at (wrong f fs) k e h = let g : false ≡ true = k in cc
  type_answer at untyped_part k e h = let g : false ≡ true = k in cc
  type_answer at (value c u v) k e h = cc
  type_answer at (pending q b) k e h = cc
  type_answer at (package_ q) k e h = cc
  type_answer at (built_in b) k e h = cc
  type_answer at blank k e h = cc
  type_answer at (does s) k e h = cc

  pub type_there : (e : t.Expr) → HasOperators e → (type_in w e).flaws ≡ [] → IsAType (type_of (type_in w e).answer)
  type_there e o h = type_answer (place_of e) (answer_in w e) (known_where_untold p a w r e (no_first (flaws_in w e) _ h)) (no_second (flaws_in w e) _ h) (here e o)

  -- the type of a specification
  abbrev pub SpecHere : SpecType → Type 0
  SpecHere no_type = Unit {0}
  SpecHere (of_type u) = IsScalarType p u × TypeIsSet w.names u
  SpecHere lost_type = ⊥

  pub spec_is_known : (s : SpecType) → SpecHere s → spec_known s ≡ true
  spec_is_known no_type h = refl
  spec_is_known (of_type u) h = refl
  spec_is_known lost_type h = absurd h

  spec_of_type : (o : Option Ty) → IsAType o → SpecHere (spec_type_of o)
  spec_of_type o h = subst (λ (x : Option Ty). SpecHere (spec_type_of x)) (sym h.found) (h.scalar, h.set)

  pub spec_there : (u : t.MaybeExpr) → BoundHasOperators u → spec_type_flaws w u ≡ [] → SpecHere (spec_type w u)
  spec_there t.NoExpr o h = tt
  spec_there (t.AnExpr e) o h = spec_of_type (type_of (type_in w e).answer) (type_there e o h)

  -- ---- constants

  pub record IsConstantHere (x : Answer) : Type 0 where
    pub core_ : core.Expr
    pub type_at : Ty
    pub constant_ : Const
    pub is_value : x ≡ value core_ type_at (Some constant_)
    pub is_constant : IsConstantOf p type_at constant_
    pub set : TypeIsSet w.names type_at

  constant_of_type : (c : core.Expr) (u : Ty) (k : Const) (at : Place) → constant_flaws at (value c u (Some k)) ≡ [] → AnswerSound p a (value c u (Some k)) → IsConstantOf p u k
  constant_of_type c (ty.untyped b) k at e h = tt
  constant_of_type c ty.nil k at e h = let f : Some k ≡ None = h in cc
  constant_of_type c (ty.tuple us) k at e h = cc
  constant_of_type c _ k at e h = (h.scalar, h.fits)

  value_constant : (at : Place) (c : core.Expr) (u : Ty) (v : Option Const) → constant_flaws at (value c u v) ≡ [] → Here (value c u v) → IsConstantHere (value c u v)
  value_constant at c u (Some k) e h = let s = h.is_sound in record { core_ = c; type_at = u; constant_ = k; is_value = refl; is_constant = constant_of_type c u k at e s.is_sound; set = set_again w.names u h.agrees }
  value_constant at c u None e h = absurd (no_constant u e)
    where
      no_constant : (v : Ty) → constant_flaws at (value c v None) ≡ [] → ⊥
      no_constant (ty.tuple us) f = cc
      no_constant _ f = cc

  answer_constant : (at : Place) (x : Answer) → is_known x ≡ true → constant_flaws at x ≡ [] → Here x → IsConstantHere x
  answer_constant at (value c u v) k e h = value_constant at c u v e h
  answer_constant at (wrong f fs) k e h = let g : false ≡ true = k in cc
  answer_constant at untyped_part k e h = let g : false ≡ true = k in cc
  answer_constant at (pending q b) k e h = cc
  answer_constant at (type_ u) k e h = cc
  answer_constant at (package_ q) k e h = cc
  answer_constant at (built_in b) k e h = cc
  answer_constant at blank k e h = cc
  answer_constant at (does s) k e h = cc

  scalar_constant : (u : Ty) (k : Const) → IsScalarType p u → node.Fits (underlying p.names u) (constant_of k) → IsConstantOf p u k
  scalar_constant (ty.untyped b) k s f = tt
  scalar_constant _ k s f = (s, f)

  wanted_constant : (at : Place) (u : Ty) (x : Answer) → Here x → is_known x ≡ true → IsScalarType p u → TypeIsSet w.names u → own (wanted w.names at u x) ≡ [] → constant_flaws at (wanted w.names at u x) ≡ [] → IsConstantHere (wanted w.names at u x)
  wanted_constant at u x h k s t e f =
      let y = wanted_here at u x h k s t e in
      by_constant y.0 y.1 y.2 (subst (λ (b : Answer). constant_flaws at b ≡ []) y.1 f)
    where
      c : core.Expr
      c = core_of (wanted w.names at u x)

      by_constant : (v : Option Const) → wanted w.names at u x ≡ value c u v → IsValue p a c u v → constant_flaws at (value c u v) ≡ [] → IsConstantHere (wanted w.names at u x)
      by_constant (Some k) i q g = record { core_ = c; type_at = u; constant_ = k; is_value = i; is_constant = scalar_constant u k s q.fits; set = t }
      by_constant None i q g = absurd (no_constant u g)
        where
          no_constant : (v : Ty) → constant_flaws at (value c v None) ≡ [] → ⊥
          no_constant (ty.tuple us) l = cc
          no_constant _ l = cc

  pub constant_there : (s : SpecType) (y : t.Expr) → HasOperators y → SpecHere s → (constant_value w s y).flaws ≡ [] → IsConstantHere (constant_value w s y).answer
  constant_there no_type y o s h =
      answer_constant (place_of y) (answer_in w y) (known_where_untold p a w r y (no_first (flaws_in w y) _ h)) (no_second (flaws_in w y) _ h) (here y o)
  constant_there lost_type y o s h = absurd s
  constant_there (of_type u) y o s h = by_test (is_scalar (underlying w.names u)) h
    where
      by_test : (b : Bool) → (value_if w u y b).flaws ≡ [] → IsConstantHere (value_if w u y b).answer
      by_test true g =
          let f = no_first (value_at w u y).flaws _ g in
          wanted_constant (place_of y) u (answer_in w y) (here y o) (known_where_untold p a w r y (no_first (flaws_in w y) _ f)) s.0 s.1 (no_second (flaws_in w y) _ f) (no_second (value_at w u y).flaws _ g)
      by_test false g = let f : flaw (place_of y) 61 ∷ [] ≡ [] = no_second (flaws_in w y) _ g in cc

  -- ---- several values

  pub record AreSeveralHere (c : core.Expr) (us : Tys) : Type 0 where
    pub is_sound : SoundExpr p a c
    pub give : types_of p.names c ≡ listed_types us
    pub scalar : AreScalarTypes p us
    pub set : TypesAreSet w.names us

  tuple_there : (c : core.Expr) (us : Tys) (v : Option Const) → Here (value c (ty.tuple us) v) → AreSeveralHere c us
  tuple_there c us v h = let s = h.is_sound in let q = s.is_sound in record { is_sound = q.0; give = q.1; scalar = q.2; set = sets_again w.names us h.agrees }

  some_types : (us vs : Tys) → Some us ≡ Some vs → us ≡ vs
  some_types us vs e = ap (λ (o : Option Tys). or_these o) e
    where
      or_these : Option Tys → Tys
      or_these None = us
      or_these (Some ts) = ts

  several_answer : (x : Answer) (us : Tys) → several_types x ≡ Some us → Here x → AreSeveralHere (core_of x) us
  several_answer (value c (ty.tuple (more_tys u (more_tys v vs))) k) us e h = subst (AreSeveralHere c) (some_types (more_tys u (more_tys v vs)) us e) (tuple_there c (more_tys u (more_tys v vs)) k h)
  several_answer (value c (ty.tuple (more_tys u no_tys)) k) us e h = let f : None ≡ Some us = e in cc
  several_answer (value c (ty.tuple no_tys) k) us e h = let f : None ≡ Some us = e in cc
  several_answer (value c _ k) us e h = let f : None ≡ Some us = e in cc
  several_answer _ us e h = let f : None ≡ Some us = e in cc

  pub several_there : (e : t.Expr) (us : Tys) → HasOperators e → several_types (answer_in w e) ≡ Some us → AreSeveralHere (core_of (answer_in w e)) us
  several_there e us o h = several_answer (answer_in w e) us h (here e o)

  -- ---- a case of a `switch`

  -- an untyped boolean that is no constant
  abbrev IsUntypedTruth : Answer → Type 0
  IsUntypedTruth (value c u v) = (u ≡ ty.untyped basis.Bool) × (v ≡ None)
  IsUntypedTruth (wrong f fs) = Unit {0}
  IsUntypedTruth untyped_part = Unit {0}
  IsUntypedTruth _ = ⊥

  record IsComparison (x : Answer) : Type 0 where
    pub is_comparison : IsUntypedTruth x

  comparison_if : (b : Bool) (x y : Answer) → IsComparison x → IsComparison y → IsComparison (if b then x else y)
  comparison_if true x y h k = h
  comparison_if false x y h k = k

  -- not both are constants
  abbrev IsOpen : Match → Type 0
  IsOpen (bin.alike u c v d x) = v ≡ None
  IsOpen (bin.constants k l) = ⊥
  IsOpen (bin.numbers x y b) = ⊥
  IsOpen _ = Unit {0}

  record IsOpenMatch (m : Match) : Type 0 where
    pub is_open : IsOpen m

  open_if : (b : Bool) (m n : Match) → IsOpenMatch m → IsOpenMatch n → IsOpenMatch (if b then m else n)
  open_if true m n h k = h
  open_if false m n h k = k

  right_open : (u : Ty) (c : core.Expr) (x : Passed) → IsOpenMatch (right_taken u c None x)
  right_open u c (passed d v) = record { is_open = refl }
  right_open u c (refused f fs) = record { is_open = tt }
  right_open u c unassignable = record { is_open = tt }

  two_open : (c : core.Expr) (u : Ty) (d : core.Expr) (v : Ty) (k : Option Const) → IsOpenMatch (two_typed w.names true c u None d v k)
  two_open c u d v k =
      open_if (same_type u v) _ _ (record { is_open = refl })
      (open_if (goes_to w.names u v) _ _ (record { is_open = refl }) (open_if (goes_to w.names v u) _ _ (record { is_open = refl }) (record { is_open = tt })))

  beside_open : (c : core.Expr) (u : Ty) (q : Place) (y : Operand) → IsOpenMatch (typed_beside w.names true c u None q y)
  beside_open c u q (typed d v k) = two_open c u d v k
  beside_open c u q (constant_operand k) = right_open u c _
  beside_open c u q (truth_operand d) = right_open u c _
  beside_open c u q (pending_operand x b) = right_open u c _
  beside_open c u q nil_operand = right_open u c _

  value_open : (at : Place) (u : Ty) (c : core.Expr) (v : Option Const) (d : core.Expr) (k : Option Const) → v ≡ None → IsComparison (comparison_value w.names at operator.Eq u c v d k)
  value_open at u c None d k e = record { is_comparison = (refl, refl) }
  value_open at u c (Some l) d k e = cc

  match_compared : (at : Place) (m : Match) → IsOpenMatch m → IsComparison (comparison w.names at operator.Eq m)
  match_compared at (bin.alike u c v d k) h = comparison_if (has_comparison w.names operator.Eq (underlying w.names u)) _ (bad at 56) (value_open at u c v d k h.is_open) (record { is_comparison = tt })
  match_compared at (bin.constants k l) h = absurd h.is_open
  match_compared at (bin.truths c d) h = record { is_comparison = (refl, refl) }
  match_compared at (bin.numbers x y b) h = absurd h.is_open
  match_compared at (bin.unfit f fs) h = record { is_comparison = tt }
  match_compared at bin.differ h = record { is_comparison = tt }

  known_compared : (b : Bool) (x : Answer) → IsComparison x → IsComparison (where_known b x)
  known_compared true x h = h
  known_compared false x h = record { is_comparison = tt }

  unless_compared : (fs : List Flaw) (at : Place) → IsComparison (unless fs (bad at 55))
  unless_compared [] at = record { is_comparison = tt }
  unless_compared (f ∷ fs) at = record { is_comparison = tt }

  singles_compared : (at q : Place) (c : core.Expr) (u : Ty) (s : Place) (y : Option Operand) → IsComparison (on_singles w.names Comparison at operator.Eq q (Some (typed c u None)) s y)
  singles_compared at q c u s (Some y) = match_compared at (matched w.names true q (typed c u None) s y) (beside_open c u s y)
  singles_compared at q c u s None = unless_compared (no_value q (Some (typed c u None)) ++ no_value s None) at

  -- a value that is no constant, of a scalar type, is a typed operand
  single_typed : (c : core.Expr) (u : Ty) → IsTrue (is_scalar (underlying p.names u)) → single (value c u None) ≡ Some (typed c u None)
  single_typed c (ty.untyped b) s = let e : false ≡ true = s in cc
  single_typed c ty.nil s = let e : false ≡ true = s in cc
  single_typed c (ty.tuple us) s = let e : false ≡ true = s in cc
  single_typed c _ s = refl

  case_compared : (at q : Place) (c : core.Expr) (u : Ty) (y : Part) → IsScalarType p u → IsComparison (operator_row w.names at operator.Eq (record { place = q; answer = value c u None }) y)
  case_compared at q c u y s =
      known_compared (true && is_known y.answer) _
      (subst (λ (x : Option Operand). IsComparison (on_singles w.names Comparison at operator.Eq q x y.place (single y.answer))) (sym (single_typed c u s)) (singles_compared at q c u y.place (single y.answer)))

  truth_answer : (x : Answer) → is_known x ≡ true → Here x → IsComparison x → SoundExpr p a (core_of x) × Gives p (core_of x) ty.bool
  truth_answer (value c u v) k h i =
      let j = i.is_comparison in
      let s = h.is_sound in
      let q : AnswerSound p a (value c (ty.untyped basis.Bool) None) = subst (λ (o : Option Const). AnswerSound p a (value c (ty.untyped basis.Bool) o)) j.1 (subst (λ (z : Ty). AnswerSound p a (value c z v)) j.0 s.is_sound) in
      (q.sound, q.gives)
  truth_answer (wrong f fs) k h i = let e : false ≡ true = k in cc
  truth_answer untyped_part k h i = let e : false ≡ true = k in cc
  truth_answer (pending q b) k h i = absurd i.is_comparison
  truth_answer (type_ u) k h i = absurd i.is_comparison
  truth_answer (package_ q) k h i = absurd i.is_comparison
  truth_answer (built_in b) k h i = absurd i.is_comparison
  truth_answer blank k h i = absurd i.is_comparison
  truth_answer (does s) k h i = absurd i.is_comparison

  -- the comparison of a case with the variable that holds the tag
  pub case_there : (at q : Place) (c : core.Expr) (u : Ty) (e : t.Expr) → HasOperators e → IsScalarType p u → TypeIsSet w.names u → SoundExpr p a c → Gives p c u → flaws_in w e ≡ []
      → own (operator_row w.names at operator.Eq (record { place = q; answer = value c u None }) (record { place = place_of e; answer = answer_in w e })) ≡ []
      → SoundExpr p a (core_of (operator_row w.names at operator.Eq (record { place = q; answer = value c u None }) (record { place = place_of e; answer = answer_in w e })))
      × Gives p (core_of (operator_row w.names at operator.Eq (record { place = q; answer = value c u None }) (record { place = place_of e; answer = answer_in w e }))) ty.bool
  case_there at q c u e o s m x g f h =
      truth_answer (operator_row w.names at operator.Eq tag part) (operator_known at operator.Eq tag part refl (known_where_untold p a w r e f) h)
      (operator_here at operator.Eq tag part refl (record { is_sound = value_sound p a c u None (record { sound = x; gives = g; scalar = s; fits = tt }); agrees = type_set w.names u m }) (here e o))
      (case_compared at q c u part s)
    where
      tag : Part
      tag = record { place = q; answer = value c u None }

      part : Part
      part = record { place = place_of e; answer = answer_in w e }

-- Assignments of which nothing is told.
use Rattle.std.proofs.Common.{◌≡◌, ◌&&◌, ℕ, pos, List, [], ◌∷◌, ◌++◌, append-nil, refl, sym, subst, ap, ◌∙◌, IsTrue, Bool, true, false, Option, Some, None, if◌then◌else◌}
use Rattle.gj_base.specs.declared.place.Place.{Place}
use Rattle.gj_base.specs.declared.kind.Op.{Op}
use Rattle.go_const.specs.declared.constant.Const.TheVariants as form
use Rattle.go_syntax.specs.Tree as t
use Rattle.go_type.specs.Tree.{Ty, Tys, no_tys, more_tys}
use Rattle.go_core.proofs.SameTypeLemmas.{type_one}
use Rattle.go_core.specs.CoreTree as core
use Rattle.go_core.specs.CoreTree.{Target, Var, CoreProgram}
use Rattle.go_core.specs.TypeOf.{types_of, all_types, listed_types}
use Rattle.go_core.specs.SoundNode as node
use Rattle.go_core.specs.Sound.{Gives, LiesAt, SoundExpr, SoundExprs, SoundPlace, SoundTarget, SoundTargets}
use Rattle.go_typing.specs.Env.{Decl, variable, global, constant, type_name, function, imported, nil_value, refused, unknown, Bind, lookup, is_blank}
use Rattle.go_typing.specs.Env as env
use Rattle.go_typing.specs.Answer.{Flaw, flaw, Part, is_known, blank, own}
use Rattle.go_typing.specs.Typing.{place_of, declared_row, operator_row}
use Rattle.go_typing.specs.Walk.{Walk, Around, is_there, uses, uses_all}
use Rattle.go_typing.specs.Expressions.{answer_in, flaws_in, value_at, value_alone, core_of}
use Rattle.go_typing.specs.Assign.{Left, left_blank, left_place, left_wrong, left_declared, left_of, left_flaws, target_of, is_left, left_uses, value_for, assigned_each, count_of, takes, all_take, same_number, lefts_typed, lefts_flaws, targets_of, miscounted, store_did, call_assigned, several_right, first_right, assign_by, assign, updated, update_left, update, one_, step_op, step, Fresh, blank_name, name_of, fresh_by, fresh_of, no_name_flaws, names_flaws, side_typed, sides_typed, fresh_flaws, old_flaws}
use Rattle.go_sound.specs.Added.{TypeIsSet, DeclIsSet}
use Rattle.go_sound.specs.SoundTyped.{is_binary, HasOperators, AllHaveOperators, IsScalarType, OptionIsSound}
use Rattle.go_sound.specs.SoundValues.{IsReady}
use Rattle.go_sound.proofs.NothingLost.{paren_known}
use Rattle.go_sound.proofs.SoundBodies.{no_first, no_second, known_where_untold}
use Rattle.go_sound.proofs.Words.{at_vars, extends_same, one_of_three, two_of_three, three_of_three}
use Rattle.go_sound.proofs.Ready.{State, Like, like_uses, ready_like, before_like, adds_like, Done, like_sides, like_two}
use Rattle.go_sound.proofs.Here.{Here, here, constant_here, operator_here, operator_known, wanted_here, value_there, any_there, never_told, never_told_after, AreSeveralHere, several_there}

pub and_first : (b c : Bool) → (b && c) ≡ true → b ≡ true
and_first true c h = refl
and_first false c h = let e : false ≡ true = h in cc

pub and_second : (b c : Bool) → (b && c) ≡ true → c ≡ true
and_second true c h = h
and_second false c h = let e : false ≡ true = h in cc

-- ---- what is stored

pub record Stored (p : CoreProgram) (a : node.Around) (gs : List Target) (es : core.Exprs) : Type 0 where
  pub values : SoundExprs p a es
  pub targets : SoundTargets p a gs (all_types p.names es)

pub stored_none : (p : CoreProgram) (a : node.Around) → Stored p a [] core.no_exprs
stored_none p a = record { values = tt; targets = tt }

pub stored_more : (p : CoreProgram) (a : node.Around) (g : Target) (c : core.Expr) (u : Ty) (gs : List Target) (es : core.Exprs) → SoundExpr p a c → Gives p c u → SoundTarget p a g u → Stored p a gs es → Stored p a (g ∷ gs) (core.expr c es)
stored_more p a g c u gs es s i k h = record { values = (s, h.values); targets = subst (λ (us : List Ty). SoundTargets p a (g ∷ gs) (us ++ all_types p.names es)) (sym i) (k, h.targets) }

-- the several values of a call
pub stored_several : (p : CoreProgram) (a : node.Around) (gs : List Target) (c : core.Expr) (us : Tys) → SoundExpr p a c → types_of p.names c ≡ listed_types us → SoundTargets p a gs (listed_types us) → Stored p a gs (core.expr c core.no_exprs)
stored_several p a gs c us s g k = record { values = (s, tt); targets = subst (SoundTargets p a gs) (sym (append-nil (types_of p.names c) ∙ g)) k }

module _ (p : CoreProgram) (a : node.Around) (w : Walk) (r : IsReady p a w) where
  -- ---- left sides

  abbrev pub LeftHere : Left → Type 0
  LeftHere left_blank = Unit {0}
  LeftHere (left_place q u) = SoundPlace p a q × LiesAt p a.vars q u × IsScalarType p u × TypeIsSet w.names u
  LeftHere (left_wrong fs) = ⊥

  wrong_told : (e : t.Expr) → flaws_in w e ++ (if is_known (answer_in w e) then flaw (place_of e) 85 ∷ [] else []) ≡ [] → ⊥
  wrong_told e h =
      let k = known_where_untold p a w r e (no_first (flaws_in w e) _ h) in
      let f : flaw (place_of e) 85 ∷ [] ≡ [] = subst (λ (b : Bool). (if b then flaw (place_of e) 85 ∷ [] else []) ≡ []) k (no_second (flaws_in w e) _ h) in cc

  declared_here : (e : t.Expr) (o : Option Decl) → OptionIsSound p a o → ((d : Decl) → o ≡ Some d → DeclIsSet w.names d) → left_flaws (left_declared w e o) ≡ [] → LeftHere (left_declared w e o)
  declared_here e (Some (variable id u)) s k h = ((u, s.1), s.1, s.0, k (variable id u) refl)
  declared_here e (Some (global number u)) s k h = ((u, s.1), s.1, s.0, k (global number u) refl)
  declared_here e None s k h = absurd (wrong_told e h)
  declared_here e (Some (constant c u)) s k h = absurd (wrong_told e h)
  declared_here e (Some (type_name u)) s k h = absurd (wrong_told e h)
  declared_here e (Some (function id ps rs v)) s k h = absurd (wrong_told e h)
  declared_here e (Some (imported path)) s k h = absurd (wrong_told e h)
  declared_here e (Some (env.built_in b)) s k h = absurd (wrong_told e h)
  declared_here e (Some nil_value) s k h = absurd (wrong_told e h)
  declared_here e (Some (refused code)) s k h = absurd (wrong_told e h)
  declared_here e (Some unknown) s k h = absurd (wrong_told e h)

  pub left_here : (e : t.Expr) → left_flaws (left_of w e) ≡ [] → LeftHere (left_of w e)
  left_here (t.NameExpr at x) h = by_test (is_blank x) h
    where
      by_test : (c : Bool) → left_flaws (if c then left_blank else left_declared w (t.NameExpr at x) (lookup x w.scopes)) ≡ [] → LeftHere (if c then left_blank else left_declared w (t.NameExpr at x) (lookup x w.scopes))
      by_test true k = tt
      by_test false k = declared_here (t.NameExpr at x) (lookup x w.scopes) (r.scopes x) (λ d e. r.types_set x d e) k
  left_here (t.ParenExpr at e) h = left_here e h
  left_here e h = absurd (wrong_told e h)

  left_typed : (l : Left) → LeftHere l → is_left l ≡ true
  left_typed left_blank h = refl
  left_typed (left_place q u) h = refl
  left_typed (left_wrong fs) h = absurd h

  pub left_untold : (x : t.Expr) → left_flaws (left_of w x) ≡ [] → is_left (left_of w x) ≡ true
  left_untold x h = left_typed (left_of w x) (left_here x h)

  pub lefts_untold : (xs : t.Exprs) → lefts_flaws w xs ≡ [] → lefts_typed w xs ≡ true
  lefts_untold t.NoExprs h = refl
  lefts_untold (t.MoreExprs x xs) h =
      ap (λ (b : Bool). b && lefts_typed w xs) (left_untold x (no_first (left_flaws (left_of w x)) (lefts_flaws w xs) h)) ∙ lefts_untold xs (no_second (left_flaws (left_of w x)) (lefts_flaws w xs) h)

  -- ---- names on the left of `:=`

  other_told : (e : t.Expr) → no_name_flaws w e ≡ [] → ⊥
  other_told e h =
      let k = known_where_untold p a w r e (no_first (flaws_in w e) _ h) in
      let f : flaw (place_of e) 83 ∷ [] ≡ [] = subst (λ (b : Bool). (if b then flaw (place_of e) 83 ∷ [] else []) ≡ []) k (no_second (flaws_in w e) _ h) in cc

  side_untold : (at : Place) (x : List ℕ) (c : Bool) (o : Option Place) → fresh_flaws w (if c then blank_name else fresh_by at x o) ≡ [] → side_typed w (if c then blank_name else fresh_by at x o) ≡ true
  side_untold at x true o h = refl
  side_untold at x false None h = refl
  side_untold at x false (Some p) h = left_untold (t.NameExpr at x) h

  pub sides_untold : (seen : List (List ℕ)) (xs : t.Exprs) → names_flaws w seen xs ≡ [] → old_flaws w xs ≡ [] → sides_typed w xs ≡ true
  sides_untold seen t.NoExprs h k = refl
  sides_untold seen (t.MoreExprs (t.NameExpr at x) es) h k =
      ap (λ (b : Bool). b && sides_typed w es) (side_untold at x (is_blank x) (is_there (name_of at x) w) (no_first (fresh_flaws w (fresh_of w (t.NameExpr at x))) (old_flaws w es) k))
      ∙ sides_untold (x ∷ seen) es (no_second _ (names_flaws w (x ∷ seen) es) h) (no_second (fresh_flaws w (fresh_of w (t.NameExpr at x))) (old_flaws w es) k)
  sides_untold seen (t.MoreExprs e es) h k = absurd (other_told e (no_first (no_name_flaws w e) (names_flaws w seen es) h))

  -- a variable that is assigned is typed
  abbrev pub IsAPlace : Left → Type 0
  IsAPlace (left_place q u) = Unit {0}
  IsAPlace _ = ⊥

  name_known : (at : Place) (x : List ℕ) (c : Bool) (o : Option Decl) → IsAPlace (if c then left_blank else left_declared w (t.NameExpr at x) o) → is_known (if c then blank else declared_row at x o) ≡ true
  name_known at x true o h = refl
  name_known at x false (Some (variable id u)) h = refl
  name_known at x false (Some (global number u)) h = refl
  name_known at x false _ h = absurd h

  left_known : (e : t.Expr) → IsAPlace (left_of w e) → is_known (answer_in w e) ≡ true
  left_known (t.NameExpr at x) h = name_known at x (is_blank x) (lookup x w.scopes) h
  left_known (t.ParenExpr at e) h = paren_known (answer_in w e) (left_known e h)
  left_known _ h = absurd h

  untold_left : (l : Left) (y : t.Expr) → (value_for w l y).flaws ≡ [] → left_flaws l ≡ []
  untold_left left_blank y h = refl
  untold_left (left_place q u) y h = refl
  untold_left (left_wrong fs) y h = no_first fs (flaws_in w y) h

  pub one_stored : (l : Left) (y : t.Expr) (gs : List Target) (es : core.Exprs) → HasOperators y → LeftHere l → (value_for w l y).flaws ≡ [] → Stored p a gs es → Stored p a (target_of l ∷ gs) (core.expr (core_of (value_for w l y).answer) es)
  one_stored left_blank y gs es o l h k = let v = any_there p a w r y o h in stored_more p a core.blank (core_of (value_alone w y).answer) v.type_ gs es v.is_sound v.gives tt k
  one_stored (left_place q u) y gs es o l h k =
      let v = value_there p a w r u y o l.2 l.3 h in stored_more p a (core.to_place u q) (core_of (value_at w u y).answer) u gs es v.is_sound v.gives (l.0, l.1, refl) k
  one_stored (left_wrong fs) y gs es o l h k = absurd l

  -- a value for a left side
  pub left_stored : (x y : t.Expr) (gs : List Target) (es : core.Exprs) → HasOperators y → (value_for w (left_of w x) y).flaws ≡ [] → Stored p a gs es → Stored p a (target_of (left_of w x) ∷ gs) (core.expr (core_of (value_for w (left_of w x) y).answer) es)
  left_stored x y gs es o h k = one_stored (left_of w x) y gs es o (left_here x (untold_left (left_of w x) y h)) h k

  assigned_here : (xs ys : t.Exprs) → AllHaveOperators ys → (assigned_each w xs ys).flaws ≡ [] → Stored p a (assigned_each w xs ys).targets (assigned_each w xs ys).values
  assigned_here (t.MoreExprs x xs) (t.MoreExprs y ys) o h =
      left_stored x y (assigned_each w xs ys).targets (assigned_each w xs ys).values o.0 (no_first (value_for w (left_of w x) y).flaws (assigned_each w xs ys).flaws h)
      (assigned_here xs ys o.1 (no_second (value_for w (left_of w x) y).flaws (assigned_each w xs ys).flaws h))
  assigned_here t.NoExprs ys o h = stored_none p a
  assigned_here (t.MoreExprs x xs) t.NoExprs o h = stored_none p a

  pub target_takes : (l : Left) (u : Ty) → LeftHere l → takes l u ≡ true → SoundTarget p a (target_of l) u
  target_takes left_blank u h k = tt
  target_takes (left_place q v) u h k = (h.0, h.1, type_one v u k)
  target_takes (left_wrong fs) u h k = absurd h

  targets_here : (xs : t.Exprs) (us : Tys) → same_number xs us ≡ true → lefts_flaws w xs ≡ [] → all_take w xs us ≡ true → SoundTargets p a (targets_of w xs) (listed_types us)
  targets_here t.NoExprs no_tys n h k = tt
  targets_here t.NoExprs (more_tys u us) n h k = let e : false ≡ true = n in cc
  targets_here (t.MoreExprs x xs) no_tys n h k = let e : false ≡ true = n in cc
  targets_here (t.MoreExprs x xs) (more_tys u us) n h k = (
    target_takes (left_of w x) u (left_here x (no_first (left_flaws (left_of w x)) (lefts_flaws w xs) h)) (and_first (takes (left_of w x) u) (all_take w xs us) k),
    targets_here xs us n (no_second (left_flaws (left_of w x)) (lefts_flaws w xs) h) (and_second (takes (left_of w x) u) (all_take w xs us) k),
  )

  pub right_several : (ys : t.Exprs) (d : t.Expr) (us : Tys) → AllHaveOperators ys → several_right w ys ≡ Some us → AreSeveralHere p a w r (core_of (answer_in w (first_right ys d))) us
  right_several t.NoExprs d us o e = let f : None ≡ Some us = e in cc
  right_several (t.MoreExprs y t.NoExprs) d us o e = several_there p a w r y us o.0 e
  right_several (t.MoreExprs y (t.MoreExprs z zs)) d us o e = let f : None ≡ Some us = e in cc

module _ (p : CoreProgram) (a : node.Around) (vs : List Var) (b : Around) (w : Walk) (s : State p a vs b w) where
  pub store_done : (fs : List Flaw) (gs : List Target) (es : core.Exprs) (u : Walk) → Like w u → Stored p (at_vars a vs) gs es → Done p a vs w (store_did fs gs es u)
  store_done fs gs es u l h = record {
    is_sound = ((h.values, h.targets), tt);
    extends = extends_same w.next vs;
    ready = ready_like p (at_vars a vs) w u l s.ready;
    before = before_like w u l s.before;
    adds = adds_like p w u l;
  }

  -- ---- `xs = ys`

  no_count : (at : Place) (xs ys : t.Exprs) (u : Walk) → (miscounted at w xs ys u).flaws ≡ [] → ⊥
  no_count at xs ys u h = never_told_after p (at_vars a vs) w s.ready (lefts_typed w xs) (lefts_flaws w xs) ys (flaw at 84) (lefts_untold p (at_vars a vs) w s.ready xs) h

  call_done : (at : Place) (xs : t.Exprs) (y : t.Expr) (us : Tys) (u : Walk) → Like w u → AreSeveralHere p (at_vars a vs) w s.ready (core_of (answer_in w y)) us → (call_assigned at w xs y us u).flaws ≡ []
      → Done p a vs w (call_assigned at w xs y us u)
  call_done at xs y us u l m h = by_number (same_number xs us) refl h
    where
      stored : same_number xs us ≡ true → (c : Bool) → all_take w xs us ≡ c → lefts_flaws w xs ++ (if c then [] else flaw (place_of y) 61 ∷ []) ≡ [] → Stored p (at_vars a vs) (targets_of w xs) (core.expr (core_of (answer_in w y)) core.no_exprs)
      stored n true k g =
          stored_several p (at_vars a vs) (targets_of w xs) (core_of (answer_in w y)) us m.is_sound m.give (targets_here p (at_vars a vs) w s.ready xs us n (no_first (lefts_flaws w xs) _ g) k)
      stored n false k g = let e : flaw (place_of y) 61 ∷ [] ≡ [] = no_second (lefts_flaws w xs) _ g in cc

      by_number : (c : Bool) → same_number xs us ≡ c
          → (if c then store_did (lefts_flaws w xs ++ (if all_take w xs us then [] else flaw (place_of y) 61 ∷ [])) (targets_of w xs) (core.expr (core_of (answer_in w y)) core.no_exprs) u else miscounted at w xs (t.MoreExprs y t.NoExprs) u).flaws ≡ []
          → Done p a vs w (if c then store_did (lefts_flaws w xs ++ (if all_take w xs us then [] else flaw (place_of y) 61 ∷ [])) (targets_of w xs) (core.expr (core_of (answer_in w y)) core.no_exprs) u else miscounted at w xs (t.MoreExprs y t.NoExprs) u)
      by_number true n g = store_done _ (targets_of w xs) (core.expr (core_of (answer_in w y)) core.no_exprs) u l (stored n (all_take w xs us) refl g)
      by_number false n g = absurd (no_count at xs (t.MoreExprs y t.NoExprs) u g)

  assign_by_done : (at : Place) (xs ys : t.Exprs) (u : Walk) → Like w u → AllHaveOperators ys → (o : Option Tys) → several_right w ys ≡ o → (assign_by at w xs ys o u).flaws ≡ [] → Done p a vs w (assign_by at w xs ys o u)
  assign_by_done at xs ys u l q None e h = by_count (count_of xs ys) h
    where
      by_count : (c : Bool) → (if c then store_did (assigned_each w xs ys).flaws (assigned_each w xs ys).targets (assigned_each w xs ys).values u else miscounted at w xs ys u).flaws ≡ []
          → Done p a vs w (if c then store_did (assigned_each w xs ys).flaws (assigned_each w xs ys).targets (assigned_each w xs ys).values u else miscounted at w xs ys u)
      by_count true g = store_done _ (assigned_each w xs ys).targets (assigned_each w xs ys).values u l (assigned_here p (at_vars a vs) w s.ready xs ys q g)
      by_count false g = absurd (no_count at xs ys u g)
  assign_by_done at xs ys u l q (Some us) e h = call_done at xs (first_right ys (t.NameExpr at [])) us u l (right_several p (at_vars a vs) w s.ready ys (t.NameExpr at []) us q e) h

  pub assign_done : (at : Place) (xs ys : t.Exprs) → AllHaveOperators ys → (assign at xs ys w).flaws ≡ [] → Done p a vs w (assign at xs ys w)
  assign_done at xs ys q h =
      assign_by_done at xs ys (uses_all ys (left_uses xs w)) (like_sides xs ys w s.ready.all_typed) q (several_right w ys) refl h

  -- ---- `x op= y` and `x++`

  update_left_done : (at : Place) (op : Op) (x : t.Expr) (y : Part) (fs : List Flaw) (u : Walk) → Like w u → HasOperators x → IsTrue (is_binary op) → Here p (at_vars a vs) w s.ready y.answer
      → (fs ≡ [] → is_known y.answer ≡ true) → (l : Left) → left_of w x ≡ l → (update_left w at op x y fs l u).flaws ≡ [] → Done p a vs w (update_left w at op x y fs l u)
  update_left_done at op x y fs u l o i m k left_blank e h = cc
  update_left_done at op x y fs u l o i m k (left_wrong gs) e h =
      let n : left_flaws (left_of w x) ≡ [] = ap left_flaws e ∙ no_first gs fs h in absurd (subst (LeftHere p (at_vars a vs) w s.ready) e (left_here p (at_vars a vs) w s.ready x n))
  update_left_done at op x y fs u l o i m k (left_place q v) e h = store_done _ (core.to_place v q ∷ []) (core.expr (core_of (updated w at op x y v)) core.no_exprs) u l stored
    where
      part : Part
      part = record { place = place_of x; answer = answer_in w x }

      left : LeftHere p (at_vars a vs) w s.ready (left_place q v)
      left = subst (LeftHere p (at_vars a vs) w s.ready) e (left_here p (at_vars a vs) w s.ready x (ap left_flaws e))

      told : fs ++ own (operator_row w.names at op part y) ++ own (updated w at op x y v) ≡ []
      told = h

      row : Here p (at_vars a vs) w s.ready (operator_row w.names at op part y)
      row = operator_here p (at_vars a vs) w s.ready at op part y i (here p (at_vars a vs) w s.ready x o) m

      known : is_known (operator_row w.names at op part y) ≡ true
      known =
          operator_known p (at_vars a vs) w s.ready at op part y (left_known p (at_vars a vs) w s.ready x (subst (IsAPlace p (at_vars a vs) w s.ready) (sym e) tt)) (k (one_of_three fs (own (operator_row w.names at op part y)) (own (updated w at op x y v)) told))
          (two_of_three fs (own (operator_row w.names at op part y)) (own (updated w at op x y v)) told)

      stored : Stored p (at_vars a vs) (core.to_place v q ∷ []) (core.expr (core_of (updated w at op x y v)) core.no_exprs)
      stored =
          let z = wanted_here p (at_vars a vs) w s.ready at v (operator_row w.names at op part y) row known left.2 left.3 (three_of_three fs (own (operator_row w.names at op part y)) (own (updated w at op x y v)) told) in
          let c = z.2 in
          stored_more p (at_vars a vs) (core.to_place v q) (core_of (updated w at op x y v)) v [] core.no_exprs c.sound c.gives (left.0, left.1, refl) (stored_none p (at_vars a vs))

  pub update_done : (at : Place) (op : Op) (xs ys : t.Exprs) → AllHaveOperators xs → IsTrue (is_binary op) → AllHaveOperators ys → (update at op xs ys w).flaws ≡ [] → Done p a vs w (update at op xs ys w)
  update_done at op (t.MoreExprs x t.NoExprs) (t.MoreExprs y t.NoExprs) o i q h =
      update_left_done at op x (record { place = place_of y; answer = answer_in w y }) (flaws_in w y) (uses x (uses y w)) (like_two x y w s.ready.all_typed) o.0 i
      (here p (at_vars a vs) w s.ready y q.0) (λ e. known_where_untold p (at_vars a vs) w s.ready y e) (left_of w x) refl h
  update_done at op t.NoExprs ys o i q h = absurd (no_count at t.NoExprs ys w h)
  update_done at op (t.MoreExprs x (t.MoreExprs z zs)) ys o i q h = absurd (no_count at (t.MoreExprs x (t.MoreExprs z zs)) ys w h)
  update_done at op (t.MoreExprs x t.NoExprs) t.NoExprs o i q h = absurd (no_count at (t.MoreExprs x t.NoExprs) t.NoExprs w h)
  update_done at op (t.MoreExprs x t.NoExprs) (t.MoreExprs y (t.MoreExprs z zs)) o i q h = absurd (no_count at (t.MoreExprs x t.NoExprs) (t.MoreExprs y (t.MoreExprs z zs)) w h)

  step_binary : (up : Bool) → IsTrue (is_binary (step_op up))
  step_binary true = refl
  step_binary false = refl

  pub step_done : (at : Place) (xs : t.Exprs) (up : Bool) → AllHaveOperators xs → (step at xs up w).flaws ≡ [] → Done p a vs w (step at xs up w)
  step_done at (t.MoreExprs x t.NoExprs) up o h =
      update_left_done at (step_op up) x (one_ at) [] (uses x w) (like_uses x w s.ready.all_typed) o.0 (step_binary up) (constant_here p (at_vars a vs) w s.ready (form.Int (pos 1))) (λ e. refl) (left_of w x) refl h
  step_done at t.NoExprs up o h = absurd (never_told p (at_vars a vs) w s.ready t.NoExprs (flaw at 84) h)
  step_done at (t.MoreExprs x (t.MoreExprs y ys)) up o h = absurd (never_told p (at_vars a vs) w s.ready (t.MoreExprs x (t.MoreExprs y ys)) (flaw at 84) h)

-- Exactly the faulty statements of a body are told.
use Rattle.std.proofs.Common.{◌≡◌, ◌⊎◌, ◌↔◌, inl, ◌&&◌, ◌||◌, ◌==◌, eqb-true, eq-eqb, ◌∙◌, ℕ, suc, List, [], ◌∷◌, ◌++◌, refl, sym, subst, Bool, true, false, not, Option, Some, None}
use Rattle.gj_base.specs.declared.place.Place.{Place}
use Rattle.go_syntax.specs.Tree as t
use Rattle.go_const.specs.declared.constant.Const.{Const}
use Rattle.go_type.specs.Tree as ty
use Rattle.go_type.specs.Tree.{Ty}
use Rattle.go_typing.specs.Answer.{Flaw, flaw, own}
use Rattle.go_typing.specs.Typing.{place_of}
use Rattle.go_typing.specs.Faulty.{IsIn, HasFault}
use Rattle.go_typing.specs.Walk.{Walk, Around, Did, fresh, pushed, within, uses, uses_all, unused}
use Rattle.go_typing.specs.Expressions.{flaws_in, value_alone, condition, type_of}
use Rattle.go_typing.specs.Labels.{label_of, labels_told}
use Rattle.go_typing.specs.Statements.{unlabeled, with_target, next_label, condition_told, condition_uses, post_did, tag_of, case_answer, case_constant, repeated, repeated_flaws, and_constant, case_tests, Clauses, default_flaws, falls, is_last, is_default, switch_did, stmt, maybe, block, stmts, clause_stmts, clauses, many_told, parts_typed, where_clean, where_whole, whole_told, with_labels}
use Rattle.go_sound.specs.FaultyStatements.{HasConditionFault, HasPostFault, HasTagFault, tag_type, SomeCaseFault, HasStmtFault, HasMaybeFault, HasBlockFault, HasStmtsFault, HasClauseFault, HasClausesFault, PartOrWhole, HasPartFault, UsesTyped, HasWholeFault, StatementsToldExactly, BodiesToldExactly}
use Rattle.go_sound.proofs.Exactly.{both, same, one, node_exact}

module _ (f : Flaw) where
  condition_exact : (w : Walk) (x : t.MaybeExpr) → IsIn f (condition_told w x) ↔ HasConditionFault w x f
  condition_exact w t.NoExpr = same f ⊥
  condition_exact w (t.AnExpr x) = same f (IsIn f (condition w x).flaws)

  post_exact : (s : t.MaybeStmt) (g : Walk → Did) (w : Walk) (Fault : Type 0) → (IsIn f (g w).flaws ↔ Fault) → IsIn f (post_did s g w).flaws ↔ HasPostFault s w f Fault
  post_exact (t.AStmt (t.DefineStmt at xs ys)) g w Fault p = same f _
  post_exact _ g w Fault p = p

  tag_exact : (w : Walk) (x : t.MaybeExpr) → IsIn f (tag_of w x).flaws ↔ HasTagFault w x f
  tag_exact w t.NoExpr = same f ⊥
  tag_exact w (t.AnExpr x) = same f (IsIn f (value_alone w x).flaws)

  repeated_exact : (at : t.Expr) (c : Bool) → IsIn f (repeated_flaws (place_of at) c) ↔ ((c ≡ true) × (f ≡ flaw (place_of at) 92))
  repeated_exact at true = (λ h. (refl, (one f (flaw (place_of at) 92)).0 h), λ r. (one f (flaw (place_of at) 92)).1 r.1)
  repeated_exact at false = (λ h. absurd h, λ r. let e : false ≡ true = r.0 in cc)

  cases_exact : (w : Walk) (tag : ℕ) (u : Option Ty) (number : ℕ) (xs : t.Exprs) (seen : List Const) → IsIn f (case_tests w tag u number xs seen).flaws ↔ SomeCaseFault w tag u xs seen f
  cases_exact w tag u number t.NoExprs seen = same f ⊥
  cases_exact w tag u number (t.MoreExprs x xs) seen =
      both f (flaws_in w x ++ own (case_answer w tag u x) ++ repeated_flaws (place_of x) (repeated (case_constant w u x) seen)) (case_tests w tag u number xs (and_constant (case_constant w u x) seen)).flaws
      ((HasFault w.names w.scopes x f ⊎ IsIn f (own (case_answer w tag u x))) ⊎ ((repeated (case_constant w u x) seen ≡ true) × (f ≡ flaw (place_of x) 92))) (SomeCaseFault w tag u xs (and_constant (case_constant w u x) seen) f)
      (both f (flaws_in w x ++ own (case_answer w tag u x)) (repeated_flaws (place_of x) (repeated (case_constant w u x) seen)) (HasFault w.names w.scopes x f ⊎ IsIn f (own (case_answer w tag u x)))
      ((repeated (case_constant w u x) seen ≡ true) × (f ≡ flaw (place_of x) 92))
      (both f (flaws_in w x) (own (case_answer w tag u x)) (HasFault w.names w.scopes x f) (IsIn f (own (case_answer w tag u x))) (node_exact f w x) (same f (IsIn f (own (case_answer w tag u x)))))
      (repeated_exact x (repeated (case_constant w u x) seen)))
      (cases_exact w tag u number xs (and_constant (case_constant w u x) seen))

-- what is told of a `switch`, where the tag has this type
switch_flaws : (e : t.Expr) (init : Walk → Did) (cs : ℕ → Option Ty → ℕ → Walk → Clauses) (w : Walk) (o : Option Ty) → type_of (value_alone (init w).walk e).answer ≡ o
    → (switch_did (t.AnExpr e) init cs w).flaws
    ≡ (init w).flaws ++ (value_alone (init w).walk e).flaws
    ++ (cs (condition_uses (t.AnExpr e) (init w).walk).next o (condition_uses (t.AnExpr e) (init w).walk).next_label (next_label (fresh (tag_type o) (condition_uses (t.AnExpr e) (init w).walk)))).flaws
switch_flaws e init cs w None h = rw h refl
switch_flaws e init cs w (Some u) h = rw h refl

switch_exact : (f : Flaw) (x : t.MaybeExpr) (init : Walk → Did) (cs : ℕ → Option Ty → ℕ → Walk → Clauses) (w : Walk) (A C : Type 0) → (IsIn f (init w).flaws ↔ A)
    → (IsIn f (cs (condition_uses x (init w).walk).next (tag_of (init w).walk x).type_ (condition_uses x (init w).walk).next_label (next_label (fresh (tag_type (tag_of (init w).walk x).type_) (condition_uses x (init w).walk)))).flaws ↔ C)
    → IsIn f (switch_did x init cs w).flaws ↔ ((A ⊎ HasTagFault (init w).walk x f) ⊎ C)
switch_exact f t.NoExpr init cs w A C p q =
    let r = cs (init w).walk.next (Some ty.bool) (init w).walk.next_label (next_label (fresh ty.bool (init w).walk)) in
    both f ((init w).flaws ++ []) r.flaws (A ⊎ ⊥) C (both f (init w).flaws [] A ⊥ p (same f ⊥)) q
switch_exact f (t.AnExpr e) init cs w A C p q =
    subst (λ (fs : List Flaw). IsIn f fs ↔ ((A ⊎ HasTagFault (init w).walk (t.AnExpr e) f) ⊎ C)) (sym (switch_flaws e init cs w (type_of (value_alone (init w).walk e).answer) refl))
    (both f ((init w).flaws ++ (value_alone (init w).walk e).flaws)
    (cs (condition_uses (t.AnExpr e) (init w).walk).next (tag_of (init w).walk (t.AnExpr e)).type_ (condition_uses (t.AnExpr e) (init w).walk).next_label
    (next_label (fresh (tag_type (tag_of (init w).walk (t.AnExpr e)).type_) (condition_uses (t.AnExpr e) (init w).walk)))).flaws (A ⊎ HasTagFault (init w).walk (t.AnExpr e) f) C
    (both f (init w).flaws (value_alone (init w).walk e).flaws A (HasTagFault (init w).walk (t.AnExpr e) f) p (same f (IsIn f (value_alone (init w).walk e).flaws))) q)

module _ (f : Flaw) where
  second_default : (fs : List Flaw) (g : Flaw) (b c : Bool) → ((b ≡ true) → (c ≡ true) → fs ≡ g ∷ []) → ((b ≡ false) → fs ≡ []) → ((c ≡ false) → fs ≡ []) → IsIn f fs ↔ ((b ≡ true) × (c ≡ true) × (f ≡ g))
  second_default fs g true true p q r = (λ h. (refl, refl, (one f g).0 (subst (IsIn f) (p refl refl) h)), λ k. subst (IsIn f) (sym (p refl refl)) ((one f g).1 k.2))
  second_default fs g false c p q r = (λ h. absurd (subst (IsIn f) (q refl) h), λ k. let e : false ≡ true = k.0 in cc)
  second_default fs g true false p q r = (λ h. absurd (subst (IsIn f) (r refl) h), λ k. let e : false ≡ true = k.1 in cc)

clean_exact : (fs : List Flaw) (A : Flaw → Type 0) → ((h : Flaw) → IsIn h fs ↔ A h) → (xs : List Flaw) (f : Flaw) → IsIn f (where_clean fs xs) ↔ (((h : Flaw) → A h → ⊥) × IsIn f xs)
clean_exact [] A p xs f = (λ h. (λ k a. (p k).1 a, h), λ r. r.1)
clean_exact (g ∷ gs) A p xs f = (λ h. absurd h, λ r. absurd (r.0 g ((p g).0 (inl refl))))

-- where all parts are typed
whole_exact : (m n : ℕ) (fs : List Flaw) (A : Flaw → Type 0) → ((h : Flaw) → IsIn h fs ↔ A h) → (xs : List Flaw) (f : Flaw) → IsIn f (where_whole (m == n) fs xs) ↔ (((h : Flaw) → A h → ⊥) × (m ≡ n) × IsIn f xs)
whole_exact m n fs A p xs f = by_test (m == n) refl
  where
    by_test : (c : Bool) → (m == n) ≡ c → IsIn f (where_whole c fs xs) ↔ (((h : Flaw) → A h → ⊥) × (m ≡ n) × IsIn f xs)
    by_test true e = (λ h. (let r = (clean_exact fs A p xs f).0 h in (r.0, eqb-true m n e, r.1)), λ r. (clean_exact fs A p xs f).1 (r.0, r.2))
    by_test false e = (λ h. absurd h, λ r. let g : true ≡ false = sym (eq-eqb m n r.1) ∙ e in cc)

-- a part of a `switch`, or the whole where nothing is told of a part
part_or_whole : (f : Flaw) (fs : List Flaw) (A : Flaw → Type 0) (at : Place) (cs : t.Clauses) (is_typed : Bool) → ((h : Flaw) → IsIn h fs ↔ A h) → IsIn f (fs ++ where_clean fs (many_told at cs is_typed)) ↔ PartOrWhole A at cs is_typed f
part_or_whole f fs A at cs is_typed p =
    both f fs (where_clean fs (many_told at cs is_typed)) (A f) (((h : Flaw) → A h → ⊥) × IsIn f (many_told at cs is_typed)) (p f) (clean_exact fs A p (many_told at cs is_typed) f)

mutual
  pub stmt_exact : (f : Flaw) (s : t.Stmt) (a : Around) (w : Walk) → IsIn f (stmt s a w).flaws ↔ HasStmtFault s a w f
  stmt_exact f (t.EmptyStmt at) a w = same f ⊥
  stmt_exact f (t.ExprStmt at xs) a w = same f _
  stmt_exact f (t.SendStmt at xs y) a w = one f (flaw at 0)
  stmt_exact f (t.IncDecStmt at xs up) a w = same f _
  stmt_exact f (t.AssignStmt at xs None ys) a w = same f _
  stmt_exact f (t.AssignStmt at xs (Some op) ys) a w = same f _
  stmt_exact f (t.DefineStmt at xs ys) a w = same f _
  stmt_exact f (t.DeclStmt at d) a w = same f _
  stmt_exact f (t.BlockStmt at b) a w = block_exact f b (unlabeled a) w
  stmt_exact f (t.IfStmt at init x b other) a w =
      let d = maybe init (unlabeled a) (pushed w) in
      let c = condition d.walk x in
      let e = block b (unlabeled a) (uses x d.walk) in
      let g = maybe other (unlabeled a) e.walk in
      both f (d.flaws ++ c.flaws ++ e.flaws) g.flaws _ _
      (both f (d.flaws ++ c.flaws) e.flaws _ _ (both f d.flaws c.flaws _ _ (maybe_exact f init (unlabeled a) (pushed w)) (same f (IsIn f c.flaws))) (block_exact f b (unlabeled a) (uses x d.walk))) (maybe_exact f other (unlabeled a) e.walk)
  stmt_exact f (t.ForStmt at init x post b) a w =
      let d = maybe init (unlabeled a) (pushed w) in
      let u = condition_uses x d.walk in
      let q = post_did post (maybe post (unlabeled a)) u in
      let e = block b (with_target (pushed w).next_label true a) (next_label q.walk) in
      both f (d.flaws ++ condition_told d.walk x ++ q.flaws) e.flaws _ _
      (both f (d.flaws ++ condition_told d.walk x) q.flaws _ _ (both f d.flaws (condition_told d.walk x) _ _ (maybe_exact f init (unlabeled a) (pushed w)) (condition_exact f d.walk x))
      (post_exact f post (maybe post (unlabeled a)) u (HasMaybeFault post (unlabeled a) u f) (maybe_exact f post (unlabeled a) u)))
      (block_exact f b (with_target (pushed w).next_label true a) (next_label q.walk))
  stmt_exact f (t.RangeStmt at xs is_new y b) a w = one f (flaw at 0)
  stmt_exact f (t.SwitchStmt at init x cs) a w =
      part_or_whole f (within (switch_did x (maybe init (unlabeled a)) (λ tag u label. clauses cs (with_target label false a) tag u 0 [] false)) w).flaws
      (λ g.
      (HasMaybeFault init (unlabeled a) (pushed w) g ⊎ HasTagFault (maybe init (unlabeled a) (pushed w)).walk x g)
      ⊎ HasClausesFault cs (with_target (condition_uses x (maybe init (unlabeled a) (pushed w)).walk).next_label false a) (condition_uses x (maybe init (unlabeled a) (pushed w)).walk).next (tag_of (maybe init (unlabeled a) (pushed w)).walk x).type_ 0 [] false
      (next_label (fresh (tag_type (tag_of (maybe init (unlabeled a) (pushed w)).walk x).type_) (condition_uses x (maybe init (unlabeled a) (pushed w)).walk))) g)
      at cs (parts_typed a (t.SwitchStmt at init x cs) w (stmt (t.SwitchStmt at init x cs) a w).walk)
      (λ h.
      switch_exact h x (maybe init (unlabeled a)) (λ tag u label. clauses cs (with_target label false a) tag u 0 [] false) (pushed w) _ _ (maybe_exact h init (unlabeled a) (pushed w))
      (clauses_exact h cs (with_target (condition_uses x (maybe init (unlabeled a) (pushed w)).walk).next_label false a) (condition_uses x (maybe init (unlabeled a) (pushed w)).walk).next (tag_of (maybe init (unlabeled a) (pushed w)).walk x).type_ 0 [] false
      (next_label (fresh (tag_type (tag_of (maybe init (unlabeled a) (pushed w)).walk x).type_) (condition_uses x (maybe init (unlabeled a) (pushed w)).walk)))))
  stmt_exact f (t.TypeSwitchStmt at init n x cs) a w = one f (flaw at 0)
  stmt_exact f (t.SelectStmt at cs) a w = one f (flaw at 0)
  stmt_exact f (t.GoStmt at x) a w = one f (flaw at 0)
  stmt_exact f (t.DeferStmt at x) a w = one f (flaw at 0)
  stmt_exact f (t.ReturnStmt at ys) a w = same f _
  stmt_exact f (t.BreakStmt at n) a w = same f _
  stmt_exact f (t.ContinueStmt at n) a w = same f _
  stmt_exact f (t.FallthroughStmt at) a w = one f (flaw at 91)
  stmt_exact f (t.LabeledStmt at n s) a w = stmt_exact f s (record a { label = label_of n }) w

  maybe_exact : (f : Flaw) (s : t.MaybeStmt) (a : Around) (w : Walk) → IsIn f (maybe s a w).flaws ↔ HasMaybeFault s a w f
  maybe_exact f t.NoStmt a w = same f ⊥
  maybe_exact f (t.AStmt s) a w = stmt_exact f s a w

  block_exact : (f : Flaw) (b : t.Block) (a : Around) (w : Walk) → IsIn f (block b a w).flaws ↔ HasBlockFault b a w f
  block_exact f (t.BlockOf at ss end) a w = stmts_exact f ss a (pushed w)

  pub stmts_exact : (f : Flaw) (ss : t.Stmts) (a : Around) (w : Walk) → IsIn f (stmts ss a w).flaws ↔ HasStmtsFault ss a w f
  stmts_exact f t.NoStmts a w = same f ⊥
  stmts_exact f (t.MoreStmts s ss) a w = both f (stmt s (unlabeled a) w).flaws (stmts ss a (stmt s (unlabeled a) w).walk).flaws _ _ (stmt_exact f s (unlabeled a) w) (stmts_exact f ss a (stmt s (unlabeled a) w).walk)

  clause_exact : (f : Flaw) (onward : Bool) (ss : t.Stmts) (a : Around) (w : Walk) → IsIn f (clause_stmts onward ss a w).flaws ↔ HasClauseFault onward ss a w f
  clause_exact f true (t.MoreStmts (t.FallthroughStmt at) t.NoStmts) a w = same f ⊥
  clause_exact f onward t.NoStmts a w = same f ⊥
  clause_exact f onward (t.MoreStmts s ss) a w = both f (stmt s (unlabeled a) w).flaws (clause_stmts onward ss a (stmt s (unlabeled a) w).walk).flaws _ _ (stmt_exact f s (unlabeled a) w) (clause_exact f onward ss a (stmt s (unlabeled a) w).walk)

  clauses_exact : (f : Flaw) (cs : t.Clauses) (a : Around) (tag : ℕ) (u : Option Ty) (number : ℕ) (seen : List Const) (had : Bool) (w : Walk) → IsIn f (clauses cs a tag u number seen had w).flaws ↔ HasClausesFault cs a tag u number seen had w f
  clauses_exact f t.NoClauses a tag u number seen had w = same f ⊥
  clauses_exact f (t.MoreClauses at xs ss cs) a tag u number seen had w =
      let ts = case_tests w tag u number xs seen in
      let d = within (clause_stmts (falls ss && not (is_last cs)) ss a) (uses_all xs w) in
      let r = clauses cs a tag u (suc number) ts.seen (is_default xs || had) d.walk in
      both f (default_flaws at (is_default xs) had ++ ts.flaws ++ d.flaws) r.flaws _ _
      (both f (default_flaws at (is_default xs) had ++ ts.flaws) d.flaws _ _
      (both f (default_flaws at (is_default xs) had) ts.flaws _ _
      (second_default f (default_flaws at (is_default xs) had) (flaw at 92) (is_default xs) had (λ d1 e. rw (d1, e) refl) (λ d1. rw d1 refl) (λ e. by_default (is_default xs) had e)) (cases_exact f w tag u number xs seen))
      (clause_exact f (falls ss && not (is_last cs)) ss a (pushed (uses_all xs w))))
      (clauses_exact f cs a tag u (suc number) ts.seen (is_default xs || had) d.walk)
    where
      by_default : (b c : Bool) → c ≡ false → default_flaws at b c ≡ []
      by_default true c e = rw e refl
      by_default false c e = refl

pub statements_told_exactly : StatementsToldExactly
statements_told_exactly s a w f = stmt_exact f s a w

parts_exact : (at : Place) (ss : t.Stmts) (end : Place) (a : Around) (w : Walk) (f : Flaw)
    → IsIn f
    ((stmts ss (with_labels (t.BlockOf at ss end) a) w).flaws ++ labels_told (t.BlockOf at ss end)
    ++ unused (stmts ss (with_labels (t.BlockOf at ss end) a) w).walk.declared (stmts ss (with_labels (t.BlockOf at ss end) a) w).walk.used)
    ↔ HasPartFault (t.BlockOf at ss end) a w f
parts_exact at ss end a w f =
    let b = t.BlockOf at ss end in
    let d = stmts ss (with_labels b a) w in
    both f (d.flaws ++ labels_told b) (unused d.walk.declared d.walk.used) _ _ (both f d.flaws (labels_told b) _ _ (stmts_exact f ss (with_labels b a) w) (same f (IsIn f (labels_told b)))) (same f (IsIn f (unused d.walk.declared d.walk.used)))

pub bodies_told_exactly : BodiesToldExactly
bodies_told_exactly (t.BlockOf at ss end) a w f =
    let b = t.BlockOf at ss end in
    let d = stmts ss (with_labels b a) w in
    both f (d.flaws ++ labels_told b ++ unused d.walk.declared d.walk.used) (where_whole (d.walk.lost == w.lost) (d.flaws ++ labels_told b ++ unused d.walk.declared d.walk.used) (whole_told a end d.core)) (HasPartFault b a w f)
    (((g : Flaw) → HasPartFault b a w g → ⊥) × UsesTyped b a w × HasWholeFault b a w f) (parts_exact at ss end a w f)
    (whole_exact d.walk.lost w.lost (d.flaws ++ labels_told b ++ unused d.walk.declared d.walk.used) (HasPartFault b a w) (λ h. parts_exact at ss end a w h) (whole_told a end d.core) f)

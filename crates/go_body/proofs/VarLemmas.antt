-- What a specification of variables does, by what was typed of it.
use Rattle.std.proofs.Common.{arith, ◌≡◌, ◌≢◌, ◌<◌, ◌+◌, ◌∙◌, refl, sym, ap, subst, List, [], ◌∷◌, ◌++◌, append_assoc, map, length, Bool, true, false}
use Rattle.std.specs.Prelude.{Option, Some, None, option_map, if◌then◌else◌}
use Rattle.std.proofs.lemmas.List.{append-nil}
use Rattle.gj_base.specs.declared.place.Place.{Place}
use Rattle.go_syntax.specs.declared.tree.Name.{Name}
use Rattle.go_type.specs.Tree.{Ty, Tys}
use Rattle.go_type.specs.Named.{NamedTy}
use Rattle.go_type.specs.Levels.{tree_of, trees_of}
use Rattle.go_type.specs.Table.{places, size}
use Rattle.go_type.specs.declared.types.TypeId.{TypeId}
use Rattle.go_type.specs.declared.table.TypeTable.{TypeTable}
use Rattle.go_core.specs.CoreTree as core
use Rattle.go_core.specs.CoreView.{expr_view, exprs_of as cores_of, stmt_view, target_view}
use Rattle.go_core.specs.declared.node.CoreExpr.{CoreExpr}
use Rattle.go_core.specs.declared.statement.CoreStmt.{CoreStmt}
use Rattle.go_core.specs.declared.statement.Target.{Target}
use Rattle.go_typing.specs.Answer as typing
use Rattle.go_operands.specs.EnvView.{table_of}
use Rattle.go_calls.specs.Words.{types_of}
use Rattle.go_operands.specs.AnswerView.{answer_view, flaw_view}
use Rattle.go_operands.specs.declared.answers.answer.Answer as answers
use Rattle.go_operands.specs.declared.answers.answer.Flaw.{Flaw}
use Rattle.go_typing.specs.Walk as go
use Rattle.go_typing.specs.Walk.{Did, did}
use Rattle.go_typing.specs.Expressions.{core_of}
use Rattle.go_typing.specs.Assign.{Defined, no_more}
use Rattle.go_typing.specs.Declare.{SpecType, lost_type, declare_one, declare_stmts, var_zero, names_number, spec_place, count_told}
use Rattle.go_walk.specs.WalkView.{walk_of, Keeps}
use Rattle.go_walk.specs.declared.walk.walk.Walk.{Walk}
use Rattle.go_expr.specs.declared.typed.raw.Raw as code
use Rattle.go_expr.specs.Raw.{Raw, raw_view, raws_after}
use Rattle.go_assign.specs.Settled.{all_known, all_told, several_in}
use Rattle.go_assign.specs.Outcome.{Does}
use Rattle.go_body.specs.LocalVarsSpecs.{var_raws, stored, same_count, var_each_did, var_miscounted, var_takes, var_whole, var_first, var_several, var_all, var_by, var_given}
use Rattle.go_body.specs.LocalVarsLeft.{DefinesLeft}
use Rattle.go_body.proofs.LeftLemmas.{cores_none}

abbrev tree_at : TypeId → TypeTable → Ty
tree_at i t = tree_of (places t) i

-- ---- names that are all gone through

before_all : (all : go.Walk → Defined) (a b : Walk) (f0 f1 : List Flaw) (o0 o1 : List CoreStmt) (gs : List Target) (cs : List CoreExpr) → DefinesLeft all no_more a b f0 f1 o0 o1 gs cs → (ts : List Ty) → Keeps (table_of b.env) ts → map (stmt_view ts) o1 ≡ map (stmt_view ts) o0 ++ (all (walk_of ts a)).before
before_all all a b f0 f1 o0 o1 gs cs h ts l = sym (append-nil (map (stmt_view ts) o1)) ∙ h.core ts l

targets_all : (all : go.Walk → Defined) (a b : Walk) (f0 f1 : List Flaw) (o0 o1 : List CoreStmt) (gs : List Target) (cs : List CoreExpr) → DefinesLeft all no_more a b f0 f1 o0 o1 gs cs → (ts : List Ty) → Keeps (table_of b.env) ts → map (target_view ts) gs ≡ (all (walk_of ts a)).targets
targets_all all a b f0 f1 o0 o1 gs cs h ts l = sym (append-nil (map (target_view ts) gs)) ∙ h.targets ts l

-- all are stored at once
all_stored : (all : go.Walk → Defined) (values : go.Walk → core.Exprs) (a b : Walk) (f0 f1 : List Flaw) (o0 o1 o2 : List CoreStmt) (gs : List Target) (cs : List CoreExpr) → DefinesLeft all no_more a b f0 f1 o0 o1 gs cs
    → ((ts : List Ty) → Keeps (table_of b.env) ts → map (stmt_view ts) o2 ≡ map (stmt_view ts) o1 ++ core.store (map (target_view ts) gs) (values (walk_of ts a)) ∷ []) → Does (λ w. stored (all w) (values w)) a b f0 f1 o0 o2
all_stored all values a b f0 f1 o0 o1 o2 gs cs h c = record {
  told = λ ts l. sym (append-nil (map flaw_view f1)) ∙ h.told ts l;
  core = λ ts l.
      let w = walk_of ts a in
      let d = all w in
      c ts l
      ∙ ap (λ (x : List core.Target). map (stmt_view ts) o1 ++ core.store x (values w) ∷ []) (targets_all all a b f0 f1 o0 o1 gs cs h ts l)
      ∙ ap (λ (x : List core.Stmt). x ++ core.store d.targets (values w) ∷ []) (before_all all a b f0 f1 o0 o1 gs cs h ts l)
      ∙ append_assoc (map (stmt_view ts) o0) d.before (core.store d.targets (values w) ∷ []);
  walk = h.walk;
  depth = h.depth;
  kept = λ i l. ap (tree_at i) h.table;
  counts = let e : size (table_of b.env) ≡ size (table_of a.env) = ap size h.table in omega (arith, e);
}

pub each_does : (ns : List NamedTy) (s : SpecType) (names : List Name) (rs : List Raw) (a b : Walk) (f0 f1 : List Flaw) (o0 o1 o2 : List CoreStmt) (gs : List Target) (cs : List CoreExpr) → DefinesLeft (var_raws ns s names rs) no_more a b f0 f1 o0 o1 gs cs
    → ((ts : List Ty) → map (stmt_view ts) o2 ≡ map (stmt_view ts) o1 ++ core.store (map (target_view ts) gs) (cores_of (map (expr_view ts) cs)) ∷ []) → Does (var_each_did ns s names rs) a b f0 f1 o0 o2
each_does ns s names rs a b f0 f1 o0 o1 o2 gs cs h c =
    let all = var_raws ns s names rs in
    all_stored all (λ w. (all w).values) a b f0 f1 o0 o1 o2 gs cs h
    (λ ts l. c ts ∙ ap (λ (x : core.Exprs). map (stmt_view ts) o1 ++ core.store (map (target_view ts) gs) x ∷ []) (sym (cores_none (map (expr_view ts) cs)) ∙ h.values ts l))

-- the call, as the one value
abbrev call_core : answers.Answer → TypeTable → core.Expr
call_core x t = core_of (answer_view (places t) x)

pub whole_does : (s : SpecType) (names : List Name) (vs : Tys) (r : code.Raw) (a b : Walk) (f0 f1 : List Flaw) (o0 o1 o2 : List CoreStmt) (gs : List Target) → DefinesLeft (var_takes r.part.place s names vs) no_more a b f0 f1 o0 o1 gs []
    → ((ts : List Ty) → Keeps (table_of b.env) ts → map (stmt_view ts) o2 ≡ map (stmt_view ts) o1 ++ core.store (map (target_view ts) gs) (core.expr (core_of (answer_view (types_of b.env) r.part.answer)) core.no_exprs) ∷ [])
    → Does (var_whole s names vs (raw_view (types_of a.env) r)) a b f0 f1 o0 o2
whole_does s names vs r a b f0 f1 o0 o1 o2 gs h c =
    all_stored (var_takes r.part.place s names vs) (λ w. core.expr (core_of (answer_view (types_of a.env) r.part.answer)) core.no_exprs) a b f0 f1 o0 o1 o2 gs [] h
    (λ ts l. c ts l ∙ ap (λ (t : TypeTable). map (stmt_view ts) o1 ++ core.store (map (target_view ts) gs) (core.expr (call_core r.part.answer t) core.no_exprs) ∷ []) h.table)

-- ---- the counts differ

no_core : (ns : List Name) (w : go.Walk) → (var_zero lost_type ns w).core ≡ []
no_core [] w = refl
no_core (n ∷ ns) w = lost n (go.is_there n w) w ∙ no_core ns (declare_one n (go.is_there n w) None w)
  where
    lost : (m : Name) (o : Option Place) (u : go.Walk) → declare_stmts o u None ++ (var_zero lost_type ns (declare_one m o None u)).core ≡ (var_zero lost_type ns (declare_one m o None u)).core
    lost m None u = refl
    lost m (Some at) u = refl

pub miscounted_does : (at p : Place) (s : SpecType) (names : List Name) (rs : List Raw) (a b : Walk) (f0 f1 f2 : List Flaw) (o0 o1 : List CoreStmt) → p ≡ spec_place names at → map flaw_view f1 ≡ map flaw_view f0 ++ count_told s p (all_known rs) (all_told rs)
    → Does (var_zero lost_type names) a b f1 f2 o0 o1 → Does (var_miscounted at s names rs) a b f0 f2 o0 o1
miscounted_does at p s names rs a b f0 f1 f2 o0 o1 q t h =
    let told : map flaw_view f1 ≡ map flaw_view f0 ++ count_told s (spec_place names at) (all_known rs) (all_told rs) = t ∙ ap (λ (x : Place). map flaw_view f0 ++ count_told s x (all_known rs) (all_told rs)) q in
    record {
      told = λ ts l.
          let zero = var_zero lost_type names (walk_of ts a) in
          h.told ts l ∙ ap (λ (fs : List typing.Flaw). fs ++ zero.flaws) told ∙ append_assoc (map flaw_view f0) (count_told s (spec_place names at) (all_known rs) (all_told rs)) zero.flaws;
      core = λ ts l. h.core ts l ∙ ap (λ (ss : List core.Stmt). map (stmt_view ts) o0 ++ ss) (no_core names (walk_of ts a));
      walk = h.walk;
      depth = h.depth;
      kept = h.kept;
      counts = h.counts;
    }

-- ---- the choices

abbrev DoesIt : (go.Walk → Did) → Walk → Walk → List Flaw → List Flaw → List CoreStmt → List CoreStmt → Type 0
DoesIt d a b f0 f1 o0 o1 = Does d a b f0 f1 o0 o1

abbrev choice : (d e : go.Walk → Did) → Bool → go.Walk → Did
choice d e c w = if c then d w else e w

chosen : (d e : go.Walk → Did) (c : Bool) (a b : Walk) (f0 f1 : List Flaw) (o0 o1 : List CoreStmt) → c ≡ true → Does d a b f0 f1 o0 o1 → Does (λ w. if c then d w else e w) a b f0 f1 o0 o1
chosen d e c a b f0 f1 o0 o1 p h = subst (λ (x : Bool). DoesIt (choice d e x) a b f0 f1 o0 o1) (sym p) h

passed_over : (d e : go.Walk → Did) (c : Bool) (a b : Walk) (f0 f1 : List Flaw) (o0 o1 : List CoreStmt) → c ≡ false → Does e a b f0 f1 o0 o1 → Does (λ w. if c then d w else e w) a b f0 f1 o0 o1
passed_over d e c a b f0 f1 o0 o1 p h = subst (λ (x : Bool). DoesIt (choice d e x) a b f0 f1 o0 o1) (sym p) h

-- as many names as types
same_types : (ts : List Ty) (names : List Name) (is : List TypeId) → length names ≡ length is → names_number names (trees_of ts is) ≡ true
same_types ts [] [] h = refl
same_types ts [] (i ∷ is) h = absurd (omega (arith, h))
same_types ts (n ∷ names) [] h = absurd (omega (arith, h))
same_types ts (n ∷ names) (i ∷ is) h = same_types ts names is (omega (arith, h))

other_types : (ts : List Ty) (names : List Name) (is : List TypeId) → length is ≢ length names → names_number names (trees_of ts is) ≡ false
other_types ts [] [] h = absurd (h refl)
other_types ts [] (i ∷ is) h = refl
other_types ts (n ∷ names) [] h = refl
other_types ts (n ∷ names) (i ∷ is) h = other_types ts names is (λ e. h (omega (arith, e)))

pub several_same : (at : Place) (s : SpecType) (names : List Name) (rs : List Raw) (ts : List Ty) (is : List TypeId) (a b : Walk) (f0 f1 : List Flaw) (o0 o1 : List CoreStmt) → length is ≡ length names → Does (var_first s names (trees_of ts is) rs) a b f0 f1 o0 o1
    → Does (var_several at s names rs (trees_of ts is)) a b f0 f1 o0 o1
several_same at s names rs ts is a b f0 f1 o0 o1 l h =
    chosen (var_first s names (trees_of ts is) rs) (var_miscounted at s names rs) (names_number names (trees_of ts is)) a b f0 f1 o0 o1 (same_types ts names is (sym l)) h

pub several_other : (at : Place) (s : SpecType) (names : List Name) (rs : List Raw) (ts : List Ty) (is : List TypeId) (a b : Walk) (f0 f1 : List Flaw) (o0 o1 : List CoreStmt) → length is ≢ length names → Does (var_miscounted at s names rs) a b f0 f1 o0 o1
    → Does (var_several at s names rs (trees_of ts is)) a b f0 f1 o0 o1
several_other at s names rs ts is a b f0 f1 o0 o1 l h =
    passed_over (var_first s names (trees_of ts is) rs) (var_miscounted at s names rs) (names_number names (trees_of ts is)) a b f0 f1 o0 o1 (other_types ts names is l) h

-- as many names as values, where the last one is held first
count_after : (ts : List Ty) (rs : List code.Raw) (after : List Raw) → length (raws_after ts rs after) ≡ length rs + length after
count_after ts [] after = omega arith
count_after ts (r ∷ rs) after = let h = count_after ts rs (raw_view ts r ∷ after) in omega (arith, h)

counted : (ts : List Ty) (rs : List code.Raw) → length (raws_after ts rs []) ≡ length rs
counted ts rs = let h = count_after ts rs [] in omega (arith, h)

same_values : (names : List Name) (rs : List Raw) → length rs ≡ length names → same_count names rs ≡ true
same_values [] [] h = refl
same_values [] (r ∷ rs) h = absurd (omega (arith, h))
same_values (n ∷ names) [] h = absurd (omega (arith, h))
same_values (n ∷ names) (r ∷ rs) h = same_values names rs (omega (arith, h))

other_values : (names : List Name) (rs : List Raw) → length rs ≢ length names → same_count names rs ≡ false
other_values [] [] h = absurd (h refl)
other_values [] (r ∷ rs) h = refl
other_values (n ∷ names) [] h = refl
other_values (n ∷ names) (r ∷ rs) h = other_values names rs (λ e. h (omega (arith, e)))

pub every_same : (ns : List NamedTy) (at : Place) (s : SpecType) (names : List Name) (ts : List Ty) (rs : List code.Raw) (a b : Walk) (f0 f1 : List Flaw) (o0 o1 : List CoreStmt) → length rs ≡ length names → Does (var_each_did ns s names (raws_after ts rs [])) a b f0 f1 o0 o1
    → Does (var_all ns at s names (raws_after ts rs [])) a b f0 f1 o0 o1
every_same ns at s names ts rs a b f0 f1 o0 o1 l h =
    let qs = raws_after ts rs [] in
    chosen (var_each_did ns s names qs) (var_miscounted at s names qs) (same_count names qs) a b f0 f1 o0 o1 (same_values names qs (counted ts rs ∙ l)) h

pub every_other : (ns : List NamedTy) (at : Place) (s : SpecType) (names : List Name) (ts : List Ty) (rs : List code.Raw) (a b : Walk) (f0 f1 : List Flaw) (o0 o1 : List CoreStmt) → length rs ≢ length names → Does (var_miscounted at s names (raws_after ts rs [])) a b f0 f1 o0 o1
    → Does (var_all ns at s names (raws_after ts rs [])) a b f0 f1 o0 o1
every_other ns at s names ts rs a b f0 f1 o0 o1 l h =
    let qs = raws_after ts rs [] in
    passed_over (var_each_did ns s names qs) (var_miscounted at s names qs) (same_count names qs) a b f0 f1 o0 o1 (other_values names qs (λ e. l (sym (counted ts rs) ∙ e))) h

pub first_some : (s : SpecType) (names : List Name) (vs : Tys) (r : Raw) (rs qs : List Raw) (a b : Walk) (f0 f1 : List Flaw) (o0 o1 : List CoreStmt) → qs ≡ r ∷ rs → Does (var_whole s names vs r) a b f0 f1 o0 o1 → Does (var_first s names vs qs) a b f0 f1 o0 o1
first_some s names vs r rs qs a b f0 f1 o0 o1 p h = subst (λ (x : List Raw). DoesIt (var_first s names vs x) a b f0 f1 o0 o1) (sym p) h

nothing : (a : Walk) (f : List Flaw) (o : List CoreStmt) → Does (did []) a a f f o o
nothing a f o = record { told = λ ts l. sym (append-nil (map flaw_view f)); core = λ ts l. sym (append-nil (map (stmt_view ts) o)); walk = λ ts l. refl; depth = refl; kept = λ i l. refl; counts = omega arith }

pub first_none : (s : SpecType) (names : List Name) (vs : Tys) (qs : List Raw) (a : Walk) (f : List Flaw) (o : List CoreStmt) → qs ≡ [] → Does (var_first s names vs qs) a a f f o o
first_none s names vs qs a f o p = subst (λ (x : List Raw). DoesIt (var_first s names vs x) a a f f o o) (sym p) (nothing a f o)

pub by_some : (ns : List NamedTy) (at : Place) (s : SpecType) (names : List Name) (rs : List Raw) (ts : List Ty) (o : Option (List TypeId)) (is : List TypeId) (a b : Walk) (f0 f1 : List Flaw) (o0 o1 : List CoreStmt) → o ≡ Some is → option_map (trees_of ts) o ≡ several_in rs
    → Does (var_several at s names rs (trees_of ts is)) a b f0 f1 o0 o1 → Does (var_by ns at s names rs (several_in rs)) a b f0 f1 o0 o1
by_some ns at s names rs ts o is a b f0 f1 o0 o1 p q h =
    let e : Some (trees_of ts is) ≡ several_in rs = ap (option_map (trees_of ts)) (sym p) ∙ q in
    subst (λ (x : Option Tys). DoesIt (var_by ns at s names rs x) a b f0 f1 o0 o1) e h

pub by_none : (ns : List NamedTy) (at : Place) (s : SpecType) (names : List Name) (rs : List Raw) (ts : List Ty) (o : Option (List TypeId)) (a b : Walk) (f0 f1 : List Flaw) (o0 o1 : List CoreStmt) → o ≡ None → option_map (trees_of ts) o ≡ several_in rs
    → Does (var_all ns at s names rs) a b f0 f1 o0 o1 → Does (var_by ns at s names rs (several_in rs)) a b f0 f1 o0 o1
by_none ns at s names rs ts o a b f0 f1 o0 o1 p q h =
    let e : None ≡ several_in rs = ap (option_map (trees_of ts)) (sym p) ∙ q in
    subst (λ (x : Option Tys). DoesIt (var_by ns at s names rs x) a b f0 f1 o0 o1) e h

given_some : (ns : List NamedTy) (at : Place) (s : SpecType) (names : List Name) (rs : List Raw) (a b : Walk) (f0 f1 : List Flaw) (o0 o1 : List CoreStmt) → 0 < length rs → Does (var_by ns at s names rs (several_in rs)) a b f0 f1 o0 o1 → Does (var_given ns at s names rs) a b f0 f1 o0 o1
given_some ns at s names [] a b f0 f1 o0 o1 l h = absurd (omega (arith, l))
given_some ns at s names (r ∷ rs) a b f0 f1 o0 o1 l h = h

pub given_by : (ns : List NamedTy) (at : Place) (s : SpecType) (names : List Name) (ts : List Ty) (rs : List code.Raw) (a b : Walk) (f0 f1 : List Flaw) (o0 o1 : List CoreStmt) → 0 < length rs → Does (var_by ns at s names (raws_after ts rs []) (several_in (raws_after ts rs []))) a b f0 f1 o0 o1
    → Does (var_given ns at s names (raws_after ts rs [])) a b f0 f1 o0 o1
given_by ns at s names ts rs a b f0 f1 o0 o1 l h = given_some ns at s names (raws_after ts rs []) a b f0 f1 o0 o1 (let c = counted ts rs in omega (arith, c, l)) h

given_none : (ns : List NamedTy) (at : Place) (s : SpecType) (names : List Name) (rs : List Raw) (a b : Walk) (f0 f1 : List Flaw) (o0 o1 : List CoreStmt) → length rs ≡ 0 → Does (var_zero s names) a b f0 f1 o0 o1 → Does (var_given ns at s names rs) a b f0 f1 o0 o1
given_none ns at s names [] a b f0 f1 o0 o1 l h = h
given_none ns at s names (r ∷ rs) a b f0 f1 o0 o1 l h = absurd (omega (arith, l))

pub given_zero : (ns : List NamedTy) (at : Place) (s : SpecType) (names : List Name) (ts : List Ty) (rs : List code.Raw) (a b : Walk) (f0 f1 : List Flaw) (o0 o1 : List CoreStmt) → length rs ≡ 0 → Does (var_zero s names) a b f0 f1 o0 o1
    → Does (var_given ns at s names (raws_after ts rs [])) a b f0 f1 o0 o1
given_zero ns at s names ts rs a b f0 f1 o0 o1 l h = given_none ns at s names (raws_after ts rs []) a b f0 f1 o0 o1 (counted ts rs ∙ l) h

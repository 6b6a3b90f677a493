-- What a statement does, from what was typed and what is told of it.
use Rattle.std.proofs.Common.{arith, ◌≡◌, ◌≢◌, ◌<◌, ◌∙◌, ℕ, refl, sym, ap, subst, List, [], ◌∷◌, ◌++◌, append_assoc, map, length, get_or, Bool, true, false, ◌&&◌}
use Rattle.std.specs.Prelude.{Option, Some, None, option_map}
use Rattle.std.proofs.lemmas.List.{append-nil, map-append}
use Rattle.gj_base.specs.declared.place.Place.{Place}
use Rattle.go_syntax.specs.Tree as t
use Rattle.go_syntax.specs.View.{expr_view, exprs_of}
use Rattle.go_syntax.specs.declared.tree.Expr.{Expr}
use Rattle.go_syntax.specs.declared.tree.Name.{Name}
use Rattle.go_type.specs.Tree.{Ty, Tys}
use Rattle.go_type.specs.Table.{size}
use Rattle.go_type.specs.declared.table.TypeTable.{TypeTable}
use Rattle.go_core.specs.CoreTree as core
use Rattle.go_core.specs.CoreView.{stmt_view, branch_of}
use Rattle.go_core.specs.declared.statement.BranchKind.{BranchKind}
use Rattle.go_core.specs.declared.statement.CoreStmt.{CoreStmt}
use Rattle.go_core.specs.declared.statement.Label.{Label}
use Rattle.go_typing.specs.Answer as typing
use Rattle.go_typing.specs.Answer.{flaw, Answer, is_known, value, pending, type_, package_, built_in, blank, does, wrong, untyped_part}
use Rattle.go_typing.specs.Env as env
use Rattle.go_typing.specs.Scopes as scopes
use Rattle.go_typing.specs.Typing.{Callee, a_function, a_built_in, by_value, place_of}
use Rattle.go_typing.specs.Uses.{names_in_stmt}
use Rattle.go_operands.specs.EnvView.{table_of, env_of}
use Rattle.go_calls.specs.Words.{names_of, scopes_of}
use Rattle.go_operands.specs.AnswerView.{flaw_view}
use Rattle.go_operands.specs.declared.answers.answer.Flaw.{Flaw}
use Rattle.go_typing.specs.Walk as go
use Rattle.go_typing.specs.Walk.{Did, faulty, also, uses, uses_all, with_uses}
use Rattle.go_typing.specs.Expressions.{answer_in, flaws_in}
use Rattle.go_typing.specs.Assign.{where_typed, all_typed, all_in_flaws}
use Rattle.go_typing.specs.Statements as statements
use Rattle.go_typing.specs.Statements.{expression, called_in, branch_did, not_built, returned_in}
use Rattle.go_walk.specs.WalkView.{walk_of, Keeps}
use Rattle.go_walk.specs.declared.walk.walk.Walk.{Walk}
use Rattle.go_expr.specs.Raw.{Raw, raw_of, raws_of}
use Rattle.go_assign.specs.Settled.{all_known, all_told}
use Rattle.go_assign.specs.Outcome.{Does, Adds}
use Rattle.go_assign.specs.Passed.{Passes, stays}
use Rattle.go_define.specs.SimpleTold.{Told, is_function, performed, one_performed, unless_told}
use Rattle.go_define.proofs.ToldLemmas.{adds_flaws, one_more}

abbrev pub outcome : List core.Stmt → List typing.Flaw → go.Walk → Did
outcome ss fs w = record { core = ss; flaws = fs; walk = w }

pub does_told : (d : go.Walk → Did) (f : go.Walk → go.Walk) (a b : Walk) (f0 f1 : List Flaw) (o0 o1 : List CoreStmt) (fs : List typing.Flaw) (ss : List core.Stmt)
    → ((ts : List Ty) → d (walk_of ts a) ≡ outcome ss fs (f (walk_of ts a))) → Passes f a b → Adds (table_of b.env) fs ss f0 f1 o0 o1 → Does d a b f0 f1 o0 o1
does_told d f a b f0 f1 o0 o1 fs ss e p h = record {
  told = λ ts l. h.told ∙ ap (λ (x : Did). map flaw_view f0 ++ x.flaws) (sym (e ts));
  core = λ ts l. h.core ts l ∙ ap (λ (x : Did). map (stmt_view ts) o0 ++ x.core) (sym (e ts));
  walk = λ ts l. p.walk ts ∙ ap (λ (x : Did). x.walk) (sym (e ts));
  depth = ap (λ (x : scopes.Env). length x.blocks) p.env;
  kept = p.kept;
  counts = p.counts;
}

-- a statement that leaves the walk alone
pub does_here : (d : go.Walk → Did) (a : Walk) (f0 f1 : List Flaw) (o0 o1 : List CoreStmt) (fs : List typing.Flaw) (ss : List core.Stmt) → ((ts : List Ty) → d (walk_of ts a) ≡ outcome ss fs (walk_of ts a)) → Adds (table_of a.env) fs ss f0 f1 o0 o1
    → Does d a a f0 f1 o0 o1
does_here d a f0 f1 o0 o1 fs ss e h = does_told d stays a a f0 f1 o0 o1 fs ss e (record { walk = λ ts. refl; env = refl; kept = λ i l. refl; counts = omega arith }) h

pub does_same : (d e : go.Walk → Did) (a b : Walk) (f0 f1 : List Flaw) (o0 o1 : List CoreStmt) → ((w : go.Walk) → e w ≡ d w) → Does d a b f0 f1 o0 o1 → Does e a b f0 f1 o0 o1
does_same d e a b f0 f1 o0 o1 p h = record {
  told = λ ts l. h.told ts l ∙ ap (λ (x : Did). map flaw_view f0 ++ x.flaws) (sym (p (walk_of ts a)));
  core = λ ts l. h.core ts l ∙ ap (λ (x : Did). map (stmt_view ts) o0 ++ x.core) (sym (p (walk_of ts a)));
  walk = λ ts l. h.walk ts l ∙ ap (λ (x : Did). x.walk) (sym (p (walk_of ts a)));
  depth = h.depth;
  kept = h.kept;
  counts = h.counts;
}

-- ---- several expressions, by what was typed

pub typed_all : (w : go.Walk) (ys : List t.Expr) → all_typed w (exprs_of ys) ≡ all_known (raws_of w.names w.scopes ys)
typed_all w [] = refl
typed_all w (y ∷ ys) = ap (λ (b : Bool). is_known (answer_in w y) && b) (typed_all w ys)

pub told_all : (w : go.Walk) (ys : List t.Expr) → all_in_flaws w (exprs_of ys) ≡ all_told (raws_of w.names w.scopes ys)
told_all w [] = refl
told_all w (y ∷ ys) = ap (λ (fs : List typing.Flaw). flaws_in w y ++ fs) (told_all w ys)

pub where_all : (w : go.Walk) (ys : List t.Expr) (at : Place) (code : ℕ) → where_typed (all_typed w (exprs_of ys)) (all_in_flaws w (exprs_of ys)) (flaw at code ∷ []) ≡ (unless_told at code (raws_of w.names w.scopes ys)).flaws
where_all w ys at code = λ j. where_typed (typed_all w ys j) (told_all w ys j) (flaw at code ∷ [])

-- ---- expression statements

by_function : (at : Place) (id : ℕ) (ps rs : Tys) (v : Bool) (a : Answer) (w : go.Walk) → statements.performed at (a_function id ps rs v) a w ≡ outcome (performed true at a).core (performed true at a).flaws w
by_function at id ps rs v (value c u k) w = refl
by_function at id ps rs v (pending p b) w = refl
by_function at id ps rs v (type_ u) w = refl
by_function at id ps rs v (package_ p) w = refl
by_function at id ps rs v (built_in b) w = refl
by_function at id ps rs v blank w = refl
by_function at id ps rs v (does s) w = refl
by_function at id ps rs v (wrong f fs) w = refl
by_function at id ps rs v untyped_part w = refl

by_built_in : (at : Place) (x : env.Builtin) (a : Answer) (w : go.Walk) → statements.performed at (a_built_in x) a w ≡ outcome (performed false at a).core (performed false at a).flaws w
by_built_in at x (value c u k) w = refl
by_built_in at x (pending p b) w = refl
by_built_in at x (type_ u) w = refl
by_built_in at x (package_ p) w = refl
by_built_in at x (built_in b) w = refl
by_built_in at x blank w = refl
by_built_in at x (does s) w = refl
by_built_in at x (wrong f fs) w = refl
by_built_in at x untyped_part w = refl

by_other : (at : Place) (a : Answer) (w : go.Walk) → statements.performed at by_value a w ≡ outcome (performed false at a).core (performed false at a).flaws w
by_other at (value c u k) w = refl
by_other at (pending p b) w = refl
by_other at (type_ u) w = refl
by_other at (package_ p) w = refl
by_other at (built_in b) w = refl
by_other at blank w = refl
by_other at (does s) w = refl
by_other at (wrong f fs) w = refl
by_other at untyped_part w = refl

by_callee : (at : Place) (c : Callee) (a : Answer) (w : go.Walk) → statements.performed at c a w ≡ outcome (performed (is_function c) at a).core (performed (is_function c) at a).flaws w
by_callee at (a_function id ps rs v) a w = by_function at id ps rs v a w
by_callee at (a_built_in b) a w = by_built_in at b a w
by_callee at by_value a w = by_other at a w

abbrev of_one : Bool → Raw → go.Walk → Did
of_one b r w = outcome (one_performed b r).core (one_performed b r).flaws w

pub one_does : (at : Place) (e : t.Expr) (b : Bool) (r : Raw) (old new : Walk) (f0 f1 : List Flaw) (o0 o1 : List CoreStmt) → ((ts : List Ty) → b ≡ is_function (called_in (walk_of ts old) e)) → r ≡ raw_of (names_of old.env) (scopes_of old.env) e → Passes (uses e) old new
    → Adds (table_of new.env) (one_performed b r).flaws (one_performed b r).core f0 f1 o0 o1 → Does (expression at (t.MoreExprs e t.NoExprs)) old new f0 f1 o0 o1
one_does at e b r old new f0 f1 o0 o1 hb hr p h =
    does_told (expression at (t.MoreExprs e t.NoExprs)) (uses e) old new f0 f1 o0 o1 (one_performed b r).flaws (one_performed b r).core
    (λ ts.
    let w = walk_of ts old in
    ap (also (flaws_in w e)) (by_callee (place_of e) (called_in w e) (answer_in w e) (uses e w))
    ∙ ap (λ (x : Bool). of_one x (raw_of (names_of old.env) (scopes_of old.env) e) (uses e w)) (sym (hb ts))
    ∙ ap (λ (x : Raw). of_one b x (uses e w)) (sym hr))
    p h

not_one : (at : Place) (xs : List Expr) (w : go.Walk) → length xs ≢ 1
    → expression at (exprs_of (map expr_view xs)) w ≡ faulty (where_typed (all_typed w (exprs_of (map expr_view xs))) (all_in_flaws w (exprs_of (map expr_view xs))) (flaw at 84 ∷ [])) (uses_all (exprs_of (map expr_view xs)) w)
not_one at [] w h = refl
not_one at (x ∷ []) w h = absurd (h refl)
not_one at (x ∷ y ∷ ys) w h = refl

pub not_one_does : (at : Place) (xs : List Expr) (rs : List Raw) (old new : Walk) (f0 f1 : List Flaw) (o : List CoreStmt) → length xs ≢ 1 → rs ≡ raws_of (names_of old.env) (scopes_of old.env) (map expr_view xs) → Passes (uses_all (exprs_of (map expr_view xs))) old new
    → map flaw_view f1 ≡ map flaw_view f0 ++ (unless_told at 84 rs).flaws → Does (expression at (exprs_of (map expr_view xs))) old new f0 f1 o o
not_one_does at xs rs old new f0 f1 o n hr p h =
    let es = map expr_view xs in
    does_told (expression at (exprs_of es)) (uses_all (exprs_of es)) old new f0 f1 o o (unless_told at 84 rs).flaws []
    (λ ts.
    let w = walk_of ts old in
    not_one at xs w n
    ∙ ap (λ (fs : List typing.Flaw). outcome [] fs (uses_all (exprs_of es) w)) (where_all w es at 84)
    ∙ ap (λ (x : List Raw). outcome [] (unless_told at 84 x).flaws (uses_all (exprs_of es) w)) (sym hr))
    p (adds_flaws (table_of new.env) (unless_told at 84 rs).flaws f0 f1 o h)

the_one : (xs : List Expr) (x : Expr) → length xs ≡ 1 → x ≡ get_or xs 0 x → t.MoreExprs (expr_view x) t.NoExprs ≡ exprs_of (map expr_view xs)
the_one [] x h e = absurd (omega arith)
the_one (y ∷ []) x h e = ap (λ (z : Expr). t.MoreExprs (expr_view z) t.NoExprs) e
the_one (y ∷ z ∷ zs) x h e = absurd (omega arith)

pub the_one_does : (at : Place) (xs : List Expr) (x : Expr) (old new : Walk) (f0 f1 : List Flaw) (o0 o1 : List CoreStmt) → length xs ≡ 1 → x ≡ get_or xs 0 x → Does (expression at (t.MoreExprs (expr_view x) t.NoExprs)) old new f0 f1 o0 o1
    → Does (expression at (exprs_of (map expr_view xs))) old new f0 f1 o0 o1
the_one_does at xs x old new f0 f1 o0 o1 l e h = subst (λ (es : t.Exprs). Does (expression at es) old new f0 f1 o0 o1) (the_one xs x l e) h

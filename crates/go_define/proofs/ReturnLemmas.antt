-- `return`, from what was typed.
use Rattle.std.proofs.Common.{arith, ◌≡◌, ◌<◌, ◌≤◌, ◌∙◌, ℕ, refl, sym, ap, subst, List, [], ◌∷◌, ◌++◌, append_assoc, map, length, Bool, true, false, ◌||◌, ◌==◌}
use Rattle.std.specs.Prelude.{Option, Some, None, if◌then◌else◌}
use Rattle.std.proofs.lemmas.List.{append-nil}
use Rattle.std.specs.Borrow.{Bor}
use Rattle.gj_base.specs.declared.place.Place.{Place}
use Rattle.go_syntax.specs.Tree as t
use Rattle.go_syntax.specs.View.{expr_view, exprs_of}
use Rattle.go_syntax.specs.declared.tree.Expr.{Expr}
use Rattle.go_type.specs.Tree.{Ty, Tys, no_tys, more_tys}
use Rattle.go_type.specs.Named.{NamedTy}
use Rattle.go_type.specs.Levels.{tree_of, trees_of, IdsBelow}
use Rattle.go_type.specs.Table.{places, size, KeepsTrees}
use Rattle.go_type.specs.declared.types.TypeId.{TypeId}
use Rattle.go_type.specs.declared.table.TypeTable.{TypeTable}
use Rattle.go_core.specs.CoreTree as core
use Rattle.go_core.specs.SameType.{same_types}
use Rattle.go_core.specs.CoreView.{stmt_view}
use Rattle.go_core.specs.declared.statement.CoreStmt.{CoreStmt}
use Rattle.go_typing.specs.Answer as typing
use Rattle.go_typing.specs.Answer.{flaw}
use Rattle.go_typing.specs.Scopes as scopes
use Rattle.go_typing.specs.Typing.{place_of}
use Rattle.go_typing.specs.Uses.{names_in}
use Rattle.go_operands.specs.EnvView.{table_of}
use Rattle.go_calls.specs.Words.{types_of, names_of, scopes_of}
use Rattle.go_operands.specs.AnswerView.{flaw_view}
use Rattle.go_operands.specs.declared.answers.answer.Flaw.{Flaw}
use Rattle.go_typing.specs.Walk as go
use Rattle.go_typing.specs.Walk.{Did, did, faulty, uses, uses_all, with_uses}
use Rattle.go_typing.specs.Expressions.{answer_in, value_at, core_of, several_types}
use Rattle.go_typing.specs.Assign.{several_right, same_number}
use Rattle.go_typing.specs.Statements.{returned_in, returned_to, returned_by, returned_call, returned_each, wrong_count, is_empty, count_types}
use Rattle.go_walk.specs.WalkView.{walk_of, Keeps}
use Rattle.go_walk.specs.declared.walk.walk.Walk.{Walk}
use Rattle.go_expr.specs.Raw.{Raw, raw_of, raws_of}
use Rattle.go_assign.specs.Settled.{all_told, several_in}
use Rattle.go_assign.specs.Outcome.{Does, Adds}
use Rattle.go_define.specs.AroundView.{results_of}
use Rattle.go_assign.specs.Passed.{Passes}
use Rattle.go_define.specs.SimpleTold.{Told, unless_told, same_count, back, back_by, back_each, back_several, back_flaws, back_cores}
use Rattle.go_define.proofs.DoesLemmas.{outcome, does_told, does_here, where_all, told_all}
use Rattle.go_define.proofs.ToldLemmas.{adds_flaws, adds_same}

-- ---- without values

pub bare_does : (at : Place) (us : Tys) (named b : Bool) (a : Walk) (f : List Flaw) (o0 o1 : List CoreStmt) → b ≡ (is_empty us || named) → b ≡ true
    → ((ts : List Ty) → map (stmt_view ts) o1 ≡ map (stmt_view ts) o0 ++ core.return_ core.no_exprs ∷ []) → Does (returned_to at us named t.NoExprs) a a f f o0 o1
bare_does at us named b a f o0 o1 p q h =
    does_here (returned_to at us named t.NoExprs) a f f o0 o1 [] (core.return_ core.no_exprs ∷ [])
    (λ ts. let w = walk_of ts a in ap (λ (c : Bool). if c then did (core.return_ core.no_exprs ∷ []) w else faulty (flaw at 88 ∷ []) w) (sym p ∙ q))
    (record { told = sym (append-nil (map flaw_view f)); core = λ ts l. h ts })

pub bare_refused : (at : Place) (us : Tys) (named b : Bool) (a : Walk) (f0 f1 : List Flaw) (o : List CoreStmt) → b ≡ (is_empty us || named) → b ≡ false → map flaw_view f1 ≡ map flaw_view f0 ++ flaw at 88 ∷ []
    → Does (returned_to at us named t.NoExprs) a a f0 f1 o o
bare_refused at us named b a f0 f1 o p q h =
    does_here (returned_to at us named t.NoExprs) a f0 f1 o o (flaw at 88 ∷ []) []
    (λ ts. let w = walk_of ts a in ap (λ (c : Bool). if c then did (core.return_ core.no_exprs ∷ []) w else faulty (flaw at 88 ∷ []) w) (sym p ∙ q))
    (adds_flaws (table_of a.env) (flaw at 88 ∷ []) f0 f1 o h)

pub no_values : (at : Place) (us : Tys) (named : Bool) (xs : List Expr) (a b : Walk) (f0 f1 : List Flaw) (o0 o1 : List CoreStmt) → length xs ≡ 0 → Does (returned_to at us named t.NoExprs) a b f0 f1 o0 o1 → Does (returned_to at us named (exprs_of (map expr_view xs))) a b f0 f1 o0 o1
no_values at us named [] a b f0 f1 o0 o1 l h = h
no_values at us named (x ∷ xs) a b f0 f1 o0 o1 l h = absurd (omega (arith, l))

-- ---- with values

each_flaws : (w : go.Walk) (us : Tys) (ys : List t.Expr) → (returned_each w us (exprs_of ys)).0.flaws ≡ back_flaws w.names us (raws_of w.names w.scopes ys)
each_flaws w no_tys ys = refl
each_flaws w (more_tys u us) [] = refl
each_flaws w (more_tys u us) (y ∷ ys) = ap (λ (fs : List typing.Flaw). (value_at w u y).flaws ++ fs) (each_flaws w us ys)

each_cores : (w : go.Walk) (us : Tys) (ys : List t.Expr) → (returned_each w us (exprs_of ys)).1 ≡ back_cores w.names us (raws_of w.names w.scopes ys)
each_cores w no_tys ys = refl
each_cores w (more_tys u us) [] = refl
each_cores w (more_tys u us) (y ∷ ys) = ap (core.expr (core_of (value_at w u y).answer)) (each_cores w us ys)

as_many : (w : go.Walk) (us : Tys) (ys : List t.Expr) → same_number (exprs_of ys) us ≡ same_count (raws_of w.names w.scopes ys) us
as_many w no_tys [] = refl
as_many w (more_tys u us) [] = refl
as_many w no_tys (y ∷ ys) = refl
as_many w (more_tys u us) (y ∷ ys) = as_many w us ys

abbrev done : Told → go.Walk → Did
done d w = outcome d.core d.flaws w

miscounts : (at : Place) (w : go.Walk) (ys : List t.Expr) → wrong_count at w (exprs_of ys) ≡ done (unless_told at 88 (raws_of w.names w.scopes ys)) (uses_all (exprs_of ys) w)
miscounts at w ys = ap (λ (fs : List typing.Flaw). outcome [] fs (uses_all (exprs_of ys) w)) (where_all w ys at 88)

by_choice : (b : Bool) (x y : Told) (w : go.Walk) → (if b then done x w else done y w) ≡ done (if b then x else y) w
by_choice true x y w = refl
by_choice false x y w = refl

by_none : (at : Place) (w : go.Walk) (us : Tys) (ys : List t.Expr) → returned_by at w us (exprs_of ys) None ≡ done (back_each w.names at us (raws_of w.names w.scopes ys)) (uses_all (exprs_of ys) w)
by_none at w us ys =
    let rs = raws_of w.names w.scopes ys in
    let v = uses_all (exprs_of ys) w in
    let x : Told = record { core = core.return_ (back_cores w.names us rs) ∷ []; flaws = back_flaws w.names us rs } in
    let given : Did = outcome (core.return_ (returned_each w us (exprs_of ys)).1 ∷ []) (returned_each w us (exprs_of ys)).0.flaws v in
    let same : given ≡ done x v = ap (λ (cs : core.Exprs). outcome (core.return_ cs ∷ []) (returned_each w us (exprs_of ys)).0.flaws v) (each_cores w us ys) ∙ ap (λ (fs : List typing.Flaw). outcome (core.return_ (back_cores w.names us rs) ∷ []) fs v) (each_flaws w us ys) in
    ap (λ (b : Bool). if b then given else wrong_count at w (exprs_of ys)) (as_many w us ys)
    ∙ ap (λ (d : Did). if same_count rs us then d else wrong_count at w (exprs_of ys)) same
    ∙ ap (λ (d : Did). if same_count rs us then done x v else d) (miscounts at w ys)
    ∙ by_choice (same_count rs us) x (unless_told at 88 rs) v

-- one expression is used alone or in a list
used_alone : (y : t.Expr) (w : go.Walk) → uses y w ≡ uses_all (t.MoreExprs y t.NoExprs) w
used_alone y w = ap (λ (xs : List (List ℕ)). with_uses xs w) (sym (append-nil (names_in y)))

by_call : (at : Place) (w : go.Walk) (us : Tys) (y : t.Expr) (vs : Tys) → returned_call at w us y vs ≡ done (back_several at us (raw_of w.names w.scopes y ∷ []) vs) (uses_all (t.MoreExprs y t.NoExprs) w)
by_call at w us y vs =
    let r = raw_of w.names w.scopes y in
    let v = uses_all (t.MoreExprs y t.NoExprs) w in
    let x : Told = record { core = core.return_ (core.expr (core_of (answer_in w y)) core.no_exprs) ∷ []; flaws = [] } in
    let z : Told = record { core = []; flaws = flaw (place_of y) 61 ∷ [] } in
    ap (λ (d : Did). if count_types us == count_types vs then (if same_types us vs then done x (uses y w) else done z (uses y w)) else d) (miscounts at w (y ∷ []))
    ∙ ap (λ (q : go.Walk). if count_types us == count_types vs then (if same_types us vs then done x q else done z q) else done (unless_told at 88 (r ∷ [])) v) (used_alone y w)
    ∙ ap (λ (d : Did). if count_types us == count_types vs then d else done (unless_told at 88 (r ∷ [])) v) (by_choice (same_types us vs) x z v)
    ∙ by_choice (count_types us == count_types vs) (if same_types us vs then x else z) (unless_told at 88 (r ∷ [])) v

by_one : (at : Place) (w : go.Walk) (us : Tys) (y : t.Expr) (o : Option Tys) → returned_by at w us (t.MoreExprs y t.NoExprs) o ≡ done (back_by w.names at us (raw_of w.names w.scopes y ∷ []) o) (uses_all (t.MoreExprs y t.NoExprs) w)
by_one at w us y None = by_none at w us (y ∷ [])
by_one at w us y (Some vs) = by_call at w us y vs

values_given : (at : Place) (w : go.Walk) (us : Tys) (named : Bool) (xs : List Expr) → 0 < length xs
    → returned_to at us named (exprs_of (map expr_view xs)) w ≡ done (back w.names at us (raws_of w.names w.scopes (map expr_view xs))) (uses_all (exprs_of (map expr_view xs)) w)
values_given at w us named [] h = absurd (omega (arith, h))
values_given at w us named (x ∷ []) h = by_one at w us (expr_view x) (several_types (answer_in w (expr_view x)))
values_given at w us named (x ∷ y ∷ ys) h = by_none at w us (expr_view x ∷ expr_view y ∷ map expr_view ys)

trees_kept : (a b : TypeTable) (is : List TypeId) → KeepsTrees a b → IdsBelow (size a) is → trees_of (places b) is ≡ trees_of (places a) is
trees_kept a b [] k h = refl
trees_kept a b (i ∷ is) k h = λ j. more_tys (k i h.0 j) (trees_kept a b is k h.1 j)

pub returned_does : (at : Place) (is : List TypeId) (named : Bool) (xs : List Expr) (rs : List Raw) (old new : Walk) (f0 f1 : List Flaw) (o0 o1 : List CoreStmt) → 0 < length xs → IdsBelow (size (table_of old.env)) is
    → rs ≡ raws_of (names_of old.env) (scopes_of old.env) (map expr_view xs) → Passes (uses_all (exprs_of (map expr_view xs))) old new
    → Adds (table_of new.env) (back (names_of new.env) at (trees_of (types_of new.env) is) rs).flaws (back (names_of new.env) at (trees_of (types_of new.env) is) rs).core f0 f1 o0 o1
    → Does (returned_to at (trees_of (types_of old.env) is) named (exprs_of (map expr_view xs))) old new f0 f1 o0 o1
returned_does at is named xs rs old new f0 f1 o0 o1 l b p q h =
    let es = map expr_view xs in
    let us = trees_of (types_of old.env) is in
    let here : back (names_of new.env) at (trees_of (types_of new.env) is) rs ≡ back (names_of old.env) at us (raws_of (names_of old.env) (scopes_of old.env) es) = λ j. back (q.env j).named_types at (trees_kept (table_of old.env) (table_of new.env) is q.kept b j) (p j) in
    let d = back (names_of old.env) at us (raws_of (names_of old.env) (scopes_of old.env) es) in
    does_told (returned_to at us named (exprs_of es)) (uses_all (exprs_of es)) old new f0 f1 o0 o1 d.flaws d.core (λ ts. values_given at (walk_of ts old) us named xs l) q
    (adds_same (table_of new.env) (back (names_of new.env) at (trees_of (types_of new.env) is) rs) d f0 f1 o0 o1 here h)

-- where the results aren't typed
pub untyped_does : (at : Place) (named : Bool) (xs : List Expr) (rs : List Raw) (old new : Walk) (f0 f1 : List Flaw) (o : List CoreStmt) → rs ≡ raws_of (names_of old.env) (scopes_of old.env) (map expr_view xs) → Passes (uses_all (exprs_of (map expr_view xs))) old new
    → map flaw_view f1 ≡ map flaw_view f0 ++ all_told rs → Does (returned_in at None named (exprs_of (map expr_view xs))) old new f0 f1 o o
untyped_does at named xs rs old new f0 f1 o p q h =
    let es = map expr_view xs in
    does_told (returned_in at None named (exprs_of es)) (uses_all (exprs_of es)) old new f0 f1 o o (all_told rs) []
    (λ ts. let w = walk_of ts old in ap (λ (fs : List typing.Flaw). outcome [] fs (uses_all (exprs_of es) w)) (told_all w es ∙ ap all_told (sym p)))
    q (adds_flaws (table_of new.env) (all_told rs) f0 f1 o h)

-- ---- results, where they are typed

pub results_typed : (at : Place) (ts : List Ty) (o : Option (Bor (List TypeId))) (is : Bor (List TypeId)) (named : Bool) (es : t.Exprs) (a b : Walk) (f0 f1 : List Flaw) (o0 o1 : List CoreStmt) → o ≡ Some is → Does (returned_to at (trees_of ts is.now) named es) a b f0 f1 o0 o1
    → Does (returned_in at (results_of ts o) named es) a b f0 f1 o0 o1
results_typed at ts o is named es a b f0 f1 o0 o1 p h = subst (λ (x : Option (Bor (List TypeId))). Does (returned_in at (results_of ts x) named es) a b f0 f1 o0 o1) (sym p) h

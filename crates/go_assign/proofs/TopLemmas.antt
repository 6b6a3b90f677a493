-- An assignment by what comes of its sides.
use Rattle.std.proofs.Common.{arith, ◌≡◌, ◌+◌, suc, ◌∙◌, refl, sym, ap, subst, List, [], ◌∷◌, ◌++◌, length, map, Some, None, Bool, true, false}
use Rattle.std.specs.Prelude.{if◌then◌else◌}
use Rattle.std.specs.List.{AllByRecursion}
use Rattle.std.proofs.lemmas.List.{append-nil}
use Rattle.gj_base.specs.declared.place.Place.{Place}
use Rattle.go_syntax.specs.Tree as t
use Rattle.go_syntax.specs.View.{exprs_of}
use Rattle.go_type.specs.Tree.{Ty, Tys}
use Rattle.go_type.specs.Levels.{trees_of}
use Rattle.go_type.specs.Named.{NamedTy}
use Rattle.go_type.specs.Table.{size}
use Rattle.go_type.specs.declared.types.TypeId.{TypeId}
use Rattle.go_type.specs.declared.table.TypeTable.{TypeTable}
use Rattle.go_core.specs.CoreTree as core
use Rattle.go_core.specs.CoreView.{stmt_view, var_of}
use Rattle.go_core.specs.declared.statement.CoreStmt.{CoreStmt}
use Rattle.go_operands.specs.AnswerView.{flaw_view}
use Rattle.go_operands.specs.declared.answers.answer.Flaw as code
use Rattle.go_operands.specs.declared.scopes.env.Env.{Env}
use Rattle.go_operands.specs.EnvView.{table_of}
use Rattle.go_calls.specs.Words.{types_of, names_of, scopes_of}
use Rattle.go_typing.specs.Walk as go
use Rattle.go_typing.specs.Walk.{Did, uses_all}
use Rattle.go_typing.specs.Assign.{Left, left_uses, assign, assign_did}
use Rattle.go_walk.specs.WalkView.{walk_of, walk_outside}
use Rattle.go_walk.specs.declared.walk.walk.Walk.{Walk}
use Rattle.go_expr.specs.declared.typed.raw.Raw as raw
use Rattle.go_expr.specs.Raw.{Raw, raw_view, raws_of, raws_after}
use Rattle.go_assign.specs.Outcome.{Does, Adds}
use Rattle.go_assign.specs.Settled.{several_in}
use Rattle.go_assign.specs.Moves.{Moves, Stays}
use Rattle.go_assign.proofs.WalkLemmas.{names_grown, raws_grown, moves_stays, moves_on}
use Rattle.go_assign.proofs.OutcomeLemmas.{does_made}
use Rattle.go_assign.specs.declared.assign.left.Left as left
use Rattle.go_assign.specs.LeftView.{left_view, lefts_after, lefts_of, LeftBelow}
use Rattle.go_assign.specs.Assigning.{paired, as_many, as_many_values, Gives, not_as_many, each_gives, call_gives, assigned_by, assigned}
use Rattle.go_assign.proofs.LeftLemmas.{lefts_kept, lefts_below}
use Rattle.go_assign.proofs.SideLemmas.{lefts_same, gives_did, assigned_did}

-- ---- how many

left_count : (ts : List Ty) (ls : List left.Left) (after : List Left) → length (lefts_after ts ls after) ≡ length ls + length after
left_count ts [] after = omega arith
left_count ts (l ∷ ls) after = let h = left_count ts ls (left_view ts l ∷ after) in omega (arith, h)

raw_count : (ts : List Ty) (rs : List raw.Raw) (after : List Raw) → length (raws_after ts rs after) ≡ length rs + length after
raw_count ts [] after = omega arith
raw_count ts (r ∷ rs) after = let h = raw_count ts rs (raw_view ts r ∷ after) in omega (arith, h)

values_many : (ls : List Left) (rs : List Raw) → length ls ≡ length rs → as_many_values ls rs ≡ true
values_many [] [] h = refl
values_many [] (r ∷ rs) h = absurd (omega (arith, h))
values_many (l ∷ ls) [] h = absurd (omega (arith, h))
values_many (l ∷ ls) (r ∷ rs) h = values_many ls rs (omega (arith, h))

values_not : (ls : List Left) (rs : List Raw) → (length ls ≡ length rs → ⊥) → as_many_values ls rs ≡ false
values_not [] [] h = absurd (h refl)
values_not [] (r ∷ rs) h = refl
values_not (l ∷ ls) [] h = refl
values_not (l ∷ ls) (r ∷ rs) h = values_not ls rs (λ e. h (ap suc e))

types_many : (ts : List Ty) (ls : List Left) (is : List TypeId) → length ls ≡ length is → as_many ls (trees_of ts is) ≡ true
types_many ts [] [] h = refl
types_many ts [] (i ∷ is) h = absurd (omega (arith, h))
types_many ts (l ∷ ls) [] h = absurd (omega (arith, h))
types_many ts (l ∷ ls) (i ∷ is) h = types_many ts ls is (omega (arith, h))

types_not : (ts : List Ty) (ls : List Left) (is : List TypeId) → (length ls ≡ length is → ⊥) → as_many ls (trees_of ts is) ≡ false
types_not ts [] [] h = absurd (h refl)
types_not ts [] (i ∷ is) h = refl
types_not ts (l ∷ ls) [] h = refl
types_not ts (l ∷ ls) (i ∷ is) h = types_not ts ls is (λ e. h (ap suc e))

-- ---- what is told and stored

adds_by : (t : TypeTable) (g h : Gives) (f0 f1 : List code.Flaw) (o0 o1 : List CoreStmt) → h ≡ g → Adds t g.flaws g.core f0 f1 o0 o1 → Adds t h.flaws h.core f0 f1 o0 o1
adds_by t g h f0 f1 o0 o1 p k = subst (λ (x : Gives). Adds t x.flaws x.core f0 f1 o0 o1) (sym p) k

adds_miscount : (t : TypeTable) (g h : Gives) (f0 f1 : List code.Flaw) (out : List CoreStmt) → h ≡ g → g.core ≡ [] → map flaw_view f1 ≡ map flaw_view f0 ++ g.flaws → Adds t h.flaws h.core f0 f1 out out
adds_miscount t g h f0 f1 out p z k =
    adds_by t g h f0 f1 out out p (record { told = k; core = λ ts l. sym (append-nil (map (stmt_view ts) out)) ∙ ap (λ (ss : List core.Stmt). map (stmt_view ts) out ++ ss) (sym z) })

pick_true : (b : Bool) (g h : Gives) → b ≡ true → (if b then g else h) ≡ g
pick_true b g h p = ap (λ (x : Bool). if x then g else h) p

pick_false : (b : Bool) (g h : Gives) → b ≡ false → (if b then g else h) ≡ h
pick_false b g h p = ap (λ (x : Bool). if x then g else h) p

pub each_many : (t : TypeTable) (ns : List NamedTy) (at : Place) (ts : List Ty) (ls : List left.Left) (rs : List raw.Raw) (f0 f1 : List code.Flaw) (o0 o1 : List CoreStmt) → length ls ≡ length rs
    → Adds t (each_gives (paired ns (lefts_after ts ls []) (raws_after ts rs []))).flaws (each_gives (paired ns (lefts_after ts ls []) (raws_after ts rs []))).core f0 f1 o0 o1
    → Adds t (assigned_by ns at (lefts_after ts ls []) (raws_after ts rs []) None).flaws (assigned_by ns at (lefts_after ts ls []) (raws_after ts rs []) None).core f0 f1 o0 o1
each_many t ns at ts ls rs f0 f1 o0 o1 h k =
    let l = lefts_after ts ls [] in
    let r = raws_after ts rs [] in
    let c : length l ≡ length r = (let a = left_count ts ls [] in let b = raw_count ts rs [] in omega (arith, a, b, h)) in
    adds_by t (each_gives (paired ns l r)) (assigned_by ns at l r None) f0 f1 o0 o1 (pick_true (as_many_values l r) (each_gives (paired ns l r)) (not_as_many at l r) (values_many l r c)) k

pub each_miscounted : (t : TypeTable) (ns : List NamedTy) (at : Place) (ts : List Ty) (ls : List left.Left) (rs : List raw.Raw) (f0 f1 : List code.Flaw) (out : List CoreStmt) → (length ls ≡ length rs → ⊥)
    → map flaw_view f1 ≡ map flaw_view f0 ++ (not_as_many at (lefts_after ts ls []) (raws_after ts rs [])).flaws
    → Adds t (assigned_by ns at (lefts_after ts ls []) (raws_after ts rs []) None).flaws (assigned_by ns at (lefts_after ts ls []) (raws_after ts rs []) None).core f0 f1 out out
each_miscounted t ns at ts ls rs f0 f1 out h k =
    let l = lefts_after ts ls [] in
    let r = raws_after ts rs [] in
    let c : length l ≡ length r → ⊥ = λ e. h (let a = left_count ts ls [] in let b = raw_count ts rs [] in omega (arith, a, b, e)) in
    adds_miscount t (not_as_many at l r) (assigned_by ns at l r None) f0 f1 out (pick_false (as_many_values l r) (each_gives (paired ns l r)) (not_as_many at l r) (values_not l r c)) refl k

pub call_many : (t : TypeTable) (ns : List NamedTy) (at : Place) (ts : List Ty) (ls : List left.Left) (rs rest : List Raw) (r : Raw) (is : List TypeId) (f0 f1 : List code.Flaw) (o0 o1 : List CoreStmt) → length ls ≡ length is → rs ≡ r ∷ rest
    → Adds t (call_gives (lefts_after ts ls []) r (trees_of ts is)).flaws (call_gives (lefts_after ts ls []) r (trees_of ts is)).core f0 f1 o0 o1
    → Adds t (assigned_by ns at (lefts_after ts ls []) rs (Some (trees_of ts is))).flaws (assigned_by ns at (lefts_after ts ls []) rs (Some (trees_of ts is))).core f0 f1 o0 o1
call_many t ns at ts ls rs rest r is f0 f1 o0 o1 h p k =
    let l = lefts_after ts ls [] in
    let c : length l ≡ length is = (let a = left_count ts ls [] in omega (arith, a, h)) in
    adds_by t (call_gives l r (trees_of ts is)) (assigned_by ns at l rs (Some (trees_of ts is))) f0 f1 o0 o1
    (ap (λ (x : List Raw). assigned_by ns at l x (Some (trees_of ts is))) p ∙ pick_true (as_many l (trees_of ts is)) (call_gives l r (trees_of ts is)) (not_as_many at l (r ∷ rest)) (types_many ts l is c)) k

miscounted_by : (ns : List NamedTy) (at : Place) (l : List Left) (rs : List Raw) (us : Tys) → as_many l us ≡ false → assigned_by ns at l rs (Some us) ≡ not_as_many at l rs
miscounted_by ns at l [] us h = refl
miscounted_by ns at l (r ∷ rs) us h = pick_false (as_many l us) (call_gives l r us) (not_as_many at l (r ∷ rs)) h

pub call_miscounted : (t : TypeTable) (ns : List NamedTy) (at : Place) (ts : List Ty) (ls : List left.Left) (rs : List Raw) (is : List TypeId) (f0 f1 : List code.Flaw) (out : List CoreStmt) → (length ls ≡ length is → ⊥)
    → map flaw_view f1 ≡ map flaw_view f0 ++ (not_as_many at (lefts_after ts ls []) rs).flaws
    → Adds t (assigned_by ns at (lefts_after ts ls []) rs (Some (trees_of ts is))).flaws (assigned_by ns at (lefts_after ts ls []) rs (Some (trees_of ts is))).core f0 f1 out out
call_miscounted t ns at ts ls rs is f0 f1 out h k =
    let l = lefts_after ts ls [] in
    let c : length l ≡ length is → ⊥ = λ e. h (let a = left_count ts ls [] in omega (arith, a, e)) in
    adds_miscount t (not_as_many at l rs) (assigned_by ns at l rs (Some (trees_of ts is))) f0 f1 out (miscounted_by ns at l rs (trees_of ts is) (types_not ts l is c)) refl k

-- no value at all
pub call_none : (t : TypeTable) (ns : List NamedTy) (at : Place) (ts : List Ty) (ls : List Left) (rs : List Raw) (os : List raw.Raw) (us : Tys) (f0 f1 : List code.Flaw) (out : List CoreStmt) → rs ≡ [] → os ≡ []
    → map flaw_view f1 ≡ map flaw_view f0 ++ (not_as_many at ls (raws_after ts os [])).flaws
    → Adds t (assigned_by ns at ls rs (Some us)).flaws (assigned_by ns at ls rs (Some us)).core f0 f1 out out
call_none t ns at ts ls rs os us f0 f1 out p q k =
    adds_miscount t (not_as_many at ls []) (assigned_by ns at ls rs (Some us)) f0 f1 out (ap (λ (x : List Raw). assigned_by ns at ls x (Some us)) p) refl
    (k ∙ ap (λ (x : List raw.Raw). map flaw_view f0 ++ (not_as_many at ls (raws_after ts x [])).flaws) q)

pub by_types : (t : TypeTable) (ns : List NamedTy) (at : Place) (ls : List Left) (rs : List Raw) (us : Tys) (f0 f1 : List code.Flaw) (o0 o1 : List CoreStmt) → Some us ≡ several_in rs
    → Adds t (assigned_by ns at ls rs (Some us)).flaws (assigned_by ns at ls rs (Some us)).core f0 f1 o0 o1 → Adds t (assigned ns at ls rs).flaws (assigned ns at ls rs).core f0 f1 o0 o1
by_types t ns at ls rs us f0 f1 o0 o1 p k = adds_by t (assigned_by ns at ls rs (Some us)) (assigned ns at ls rs) f0 f1 o0 o1 (ap (assigned_by ns at ls rs) (sym p)) k

pub by_none : (t : TypeTable) (ns : List NamedTy) (at : Place) (ls : List Left) (rs : List Raw) (f0 f1 : List code.Flaw) (o0 o1 : List CoreStmt) → None ≡ several_in rs
    → Adds t (assigned_by ns at ls rs None).flaws (assigned_by ns at ls rs None).core f0 f1 o0 o1 → Adds t (assigned ns at ls rs).flaws (assigned ns at ls rs).core f0 f1 o0 o1
by_none t ns at ls rs f0 f1 o0 o1 p k = adds_by t (assigned_by ns at ls rs None) (assigned ns at ls rs) f0 f1 o0 o1 (ap (assigned_by ns at ls rs) (sym p)) k

-- ---- both sides

pub uses_both : (X Y : t.Exprs) (a b c : Walk) → Moves (left_uses X) a b → Moves (uses_all Y) b c → Moves (λ w. uses_all Y (left_uses X w)) a c
uses_both X Y a b c h k = moves_on (left_uses X) (uses_all Y) a b c h k

pub lefts_later : (b c : Walk) (ls : List left.Left) (ms : List Left) → Stays b c → AllByRecursion (LeftBelow (size (table_of b.env))) ls → lefts_after (types_of b.env) ls [] ≡ ms → lefts_after (types_of c.env) ls [] ≡ ms
lefts_later b c ls ms s h p = lefts_kept (table_of b.env) (table_of c.env) ls s.grows.kept h ∙ p

pub below_later : (b c : Walk) (ls : List left.Left) → Stays b c → AllByRecursion (LeftBelow (size (table_of b.env))) ls → AllByRecursion (LeftBelow (size (table_of c.env))) ls
below_later b c ls s h = lefts_below (size (table_of b.env)) (size (table_of c.env)) ls s.grows.counts h

pub raws_earlier : (a b : Walk) (rs : List Raw) (es : List t.Expr) → Stays a b → rs ≡ raws_of (names_of b.env) (scopes_of b.env) es → rs ≡ raws_of (names_of a.env) (scopes_of a.env) es
raws_earlier a b rs es s h = raws_grown a.env b.env rs es s.grows h

abbrev both : t.Exprs → t.Exprs → go.Walk → go.Walk
both X Y w = uses_all Y (left_uses X w)

-- the environment before the values are typed, at the walk before the statement
said : (at : Place) (X Y : List t.Expr) (a : Walk) (e : Env) (ns : List NamedTy) (ls : List Left) (rs : List Raw) (ts : List Ty) (u : go.Walk) → e ≡ a.env → ns ≡ names_of e → ls ≡ lefts_of (walk_outside e) X → rs ≡ raws_of (names_of e) (scopes_of e) Y
    → gives_did (assigned ns at ls rs) u ≡ assign_did at (walk_of ts a) (exprs_of X) (exprs_of Y) u
said at X Y a e ns ls rs ts u p q h k =
    ap (λ (x : List NamedTy). gives_did (assigned x at ls rs) u) (q ∙ ap names_of p)
    ∙ ap (λ (x : List Left). gives_did (assigned (names_of a.env) at x rs) u)
    (h ∙ ap (λ (x : Env). lefts_of (walk_outside x) X) p ∙ sym (lefts_same (names_of a.env) (scopes_of a.env) a.next a.next_label (map (var_of ts) a.vars.items) a.declared.items a.used.items a.lost X))
    ∙ ap (λ (x : List Raw). gives_did (assigned (names_of a.env) at (lefts_of (walk_of ts a) X) x) u) (k ∙ ap (λ (x : Env). raws_of (names_of x) (scopes_of x) Y) p)
    ∙ assigned_did at (walk_of ts a) X Y u

pub assign_does : (at : Place) (X Y : List t.Expr) (a b c : Walk) (ls : List Left) (rs : List Raw) (f0 f1 : List code.Flaw) (o0 o1 : List CoreStmt) → Moves (λ w. uses_all (exprs_of Y) (left_uses (exprs_of X) w)) a b → b.env ≡ a.env → Stays b c
    → ls ≡ lefts_of (walk_outside b.env) X → rs ≡ raws_of (names_of b.env) (scopes_of b.env) Y
    → Adds (table_of c.env) (assigned (names_of c.env) at ls rs).flaws (assigned (names_of c.env) at ls rs).core f0 f1 o0 o1
    → Does (assign at (exprs_of X) (exprs_of Y)) a c f0 f1 o0 o1
assign_does at X Y a b c ls rs f0 f1 o0 o1 m e s h k d =
    let g = assigned (names_of c.env) at ls rs in
    does_made (assign at (exprs_of X) (exprs_of Y)) (both (exprs_of X) (exprs_of Y)) a c g.flaws g.core f0 f1 o0 o1
    (moves_on (both (exprs_of X) (exprs_of Y)) (λ w. w) a b c m (moves_stays b c s)) d
    (λ ts. said at X Y a b.env (names_of c.env) ls rs ts (both (exprs_of X) (exprs_of Y) (walk_of ts a)) e (names_grown b.env c.env s.grows) h k)

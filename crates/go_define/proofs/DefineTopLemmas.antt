-- `xs := ys` as a statement.
use Rattle.std.proofs.Common.{arith, ◌≡◌, ◌<◌, ◌∙◌, refl, sym, ap, List, [], ◌∷◌, ◌++◌, length, map, Bool, ◌&&◌}
use Rattle.std.proofs.lemmas.List.{append-nil}
use Rattle.std.specs.List.{AllByRecursion}
use Rattle.gj_base.specs.declared.place.Place.{Place}
use Rattle.go_syntax.specs.Tree as t
use Rattle.go_syntax.specs.View.{exprs_of}
use Rattle.go_type.specs.Tree.{Ty}
use Rattle.go_type.specs.Named.{NamedTy}
use Rattle.go_type.specs.Table.{size}
use Rattle.go_core.specs.CoreView.{stmt_view, var_of}
use Rattle.go_core.specs.declared.statement.CoreStmt.{CoreStmt}
use Rattle.go_typing.specs.Answer.{Flaw, flaw}
use Rattle.go_operands.specs.declared.scopes.env.Env.{Env}
use Rattle.go_operands.specs.EnvView.{table_of, env_of}
use Rattle.go_operands.specs.AnswerView.{flaw_view}
use Rattle.go_operands.specs.declared.answers.answer.Flaw as code
use Rattle.go_calls.specs.Words.{types_of, names_of, scopes_of}
use Rattle.go_typing.specs.Walk as go
use Rattle.go_typing.specs.Walk.{Did, uses_all}
use Rattle.go_typing.specs.Assign.{names_flaws, fresh_uses, define, define_flaws, define_by, several_right, first_place, where_typed, sides_told, undeclared}
use Rattle.go_walk.specs.WalkView.{walk_of, walk_outside, depth}
use Rattle.go_walk.specs.declared.walk.walk.Walk.{Walk}
use Rattle.go_expr.specs.Raw.{Raw, raws_of}
use Rattle.go_assign.specs.Outcome.{Does}
use Rattle.go_assign.specs.Settled.{all_known, all_told, several_in}
use Rattle.go_assign.specs.Moves.{Moves, Stays}
use Rattle.go_assign.proofs.WalkLemmas.{names_grown, raws_grown, depth_grown, stays_on, moves_stays, moves_on}
use Rattle.go_assign.proofs.OutcomeLemmas.{made, does_made, does_moved}
use Rattle.go_define.specs.declared.define.fresh.Fresh as code_fresh
use Rattle.go_define.specs.FreshView.{Spot, spots_of, fresh_after, FreshBelow, spots_typed}
use Rattle.go_define.specs.DefineTold.{new_told, names_told}
use Rattle.go_define.specs.Defining.{parts_flaws, spots_flaws, defined_by}
use Rattle.go_define.proofs.FreshLemmas.{outside_grown, freshes_kept, freshes_below}
use Rattle.go_define.proofs.SpotLemmas.{spots_same, names_same, parts_all, define_all}
use Rattle.go_define.proofs.AllLemmas.{sides_said}

pub uses_both : (X Y : t.Exprs) (a b c : Walk) → Moves (fresh_uses X) a b → Moves (uses_all Y) b c → Moves (λ w. uses_all Y (fresh_uses X w)) a c
uses_both X Y a b c h k = moves_on (fresh_uses X) (uses_all Y) a b c h k

pub freshes_later : (b c : Walk) (fs : List code_fresh.Fresh) (ss : List Spot) → Stays b c → AllByRecursion (FreshBelow (size (table_of b.env))) fs → fresh_after (types_of b.env) fs [] ≡ ss → fresh_after (types_of c.env) fs [] ≡ ss
freshes_later b c fs ss s h p = freshes_kept (table_of b.env) (table_of c.env) fs s.grows.kept h ∙ p

pub below_later : (b c : Walk) (fs : List code_fresh.Fresh) → Stays b c → AllByRecursion (FreshBelow (size (table_of b.env))) fs → AllByRecursion (FreshBelow (size (table_of c.env))) fs
below_later b c fs s h = freshes_below (size (table_of b.env)) (size (table_of c.env)) fs s.grows.counts h

pub raws_earlier : (a b : Walk) (rs : List Raw) (es : List t.Expr) → Stays a b → rs ≡ raws_of (names_of b.env) (scopes_of b.env) es → rs ≡ raws_of (names_of a.env) (scopes_of a.env) es
raws_earlier a b rs es s h = raws_grown a.env b.env rs es s.grows h

pub depth_env : (a b : Walk) → b.env ≡ a.env → 0 < depth a → 0 < depth b
depth_env a b e h = let d : depth b ≡ depth a = ap (λ (x : Env). length (env_of x).blocks) e in omega (arith, d, h)

pub depth_later : (a b : Walk) → Stays a b → 0 < depth a → 0 < depth b
depth_later a b s h = let d : depth b ≡ depth a = depth_grown a.env b.env s.grows in omega (arith, d, h)

-- the same in this walk
does_here : (d e : go.Walk → Did) (a c : Walk) (f0 f1 : List code.Flaw) (o0 o1 : List CoreStmt) → ((ts : List Ty) → d (walk_of ts a) ≡ e (walk_of ts a)) → Does d a c f0 f1 o0 o1 → Does e a c f0 f1 o0 o1
does_here d e a c f0 f1 o0 o1 same h = record {
  told = λ ts l. h.told ts l ∙ ap (λ (x : Did). map flaw_view f0 ++ x.flaws) (same ts);
  core = λ ts l. h.core ts l ∙ ap (λ (x : Did). map (stmt_view ts) o0 ++ x.core) (same ts);
  walk = λ ts l. h.walk ts l ∙ ap (λ (x : Did). x.walk) (same ts);
  depth = h.depth;
  kept = h.kept;
  counts = h.counts;
}

abbrev by : List NamedTy → Place → List Flaw → List Spot → List Raw → go.Walk → Did
by ns at fs ss rs u = defined_by ns at fs ss rs (several_in rs) u

abbrev both : t.Exprs → t.Exprs → go.Walk → go.Walk
both X Y w = uses_all Y (fresh_uses X w)

-- the environment before the values are typed, at the walk before the statement
said : (at : Place) (X Y : List t.Expr) (a : Walk) (e : Env) (ns : List NamedTy) (fs : List Flaw) (ss : List Spot) (rs : List Raw) (ts : List Ty) (u : go.Walk) → e ≡ a.env → ns ≡ names_of e → fs ≡ names_told (walk_outside e) at X ss rs → ss ≡ spots_of (walk_outside e) X → rs ≡ raws_of (names_of e) (scopes_of e) Y
    → by ns at fs ss rs u ≡ define_by at (walk_of ts a) (define_flaws at (walk_of ts a) (exprs_of X) (exprs_of Y)) (exprs_of X) (exprs_of Y) (several_right (walk_of ts a) (exprs_of Y)) u
said at X Y a e ns fs ss rs ts u p q r h k =
    let w = walk_of ts a in
    let same : ss ≡ spots_of w X = h ∙ ap (λ (x : Env). spots_of (walk_outside x) X) p ∙ sym (spots_same (names_of a.env) (scopes_of a.env) a.next a.next_label (map (var_of ts) a.vars.items) a.declared.items a.used.items a.lost X) in
    let values : rs ≡ raws_of (names_of a.env) (scopes_of a.env) Y = k ∙ ap (λ (x : Env). raws_of (names_of x) (scopes_of x) Y) p in
    let told : fs ≡ names_told w at X ss rs =
    r ∙ ap (λ (x : Env). names_told (walk_outside x) at X ss rs) p ∙ ap (λ (g : List Flaw). g ++ new_told at X ss rs) (sym (names_same (names_of a.env) (scopes_of a.env) a.next a.next_label (map (var_of ts) a.vars.items) a.declared.items a.used.items a.lost [] X)) in
    ap (λ (x : List NamedTy). by x at fs ss rs u) (q ∙ ap names_of p)
    ∙ ap (λ (x : List Flaw). by (names_of a.env) at x ss rs u) told
    ∙ ap (λ (x : List Spot). by (names_of a.env) at (names_told w at X x rs) x rs u) same
    ∙ ap (λ (x : List Raw). by (names_of a.env) at (names_told w at X (spots_of w X) x) (spots_of w X) x u) values
    ∙ define_all at w X Y u

define_does : (at : Place) (X Y : List t.Expr) (a b c d : Walk) (fs : List Flaw) (ss : List Spot) (rs : List Raw) (f0 f1 : List code.Flaw) (o0 o1 : List CoreStmt) → Moves (both (exprs_of X) (exprs_of Y)) a b → b.env ≡ a.env → Stays b c
    → fs ≡ names_told (walk_outside b.env) at X ss rs → ss ≡ spots_of (walk_outside b.env) X → rs ≡ raws_of (names_of b.env) (scopes_of b.env) Y → Does (defined_by (names_of c.env) at fs ss rs (several_in rs)) c d f0 f1 o0 o1
    → Does (define at (exprs_of X) (exprs_of Y)) a d f0 f1 o0 o1
define_does at X Y a b c d fs ss rs f0 f1 o0 o1 m e s r h k z =
    let f = both (exprs_of X) (exprs_of Y) in
    let g = by (names_of c.env) at fs ss rs in
    does_here (λ w. g (f w)) (define at (exprs_of X) (exprs_of Y)) a d f0 f1 o0 o1
    (λ ts. said at X Y a b.env (names_of c.env) fs ss rs ts (f (walk_of ts a)) e (names_grown b.env c.env s.grows) r h k)
    (does_moved f g a c d f0 f1 o0 o1 (moves_on f (λ w. w) a b c m (moves_stays b c s)) z)

-- by what is told of each name, of all of them, and of the values
pub define_done : (at : Place) (X Y : List t.Expr) (a b c d e : Walk) (g0 g1 g2 : List code.Flaw) (ss : List Spot) (rs : List Raw) (f0 f1 : List code.Flaw) (o0 o1 : List CoreStmt) → Moves (λ w. uses_all (exprs_of Y) (fresh_uses (exprs_of X) w)) a b → b.env ≡ a.env → Stays b c → Stays c d
    → g0 ≡ [] → map flaw_view g1 ≡ map flaw_view g0 ++ names_flaws (walk_outside b.env) [] (exprs_of X) → map flaw_view g2 ≡ map flaw_view g1 ++ new_told at X ss rs
    → ss ≡ spots_of (walk_outside c.env) X → rs ≡ raws_of (names_of c.env) (scopes_of c.env) Y → Does (defined_by (names_of d.env) at (map flaw_view g2) ss rs (several_in rs)) d e f0 f1 o0 o1
    → Does (define at (exprs_of X) (exprs_of Y)) a e f0 f1 o0 o1
define_done at X Y a b c d e g0 g1 g2 ss rs f0 f1 o0 o1 m v s k z p q h r y =
    define_does at X Y a b d e (map flaw_view g2) ss rs f0 f1 o0 o1 m v (stays_on b c d s k)
    (q ∙ ap (λ (x : List Flaw). x ++ new_told at X ss rs) (p ∙ ap (λ (x : List code.Flaw). map flaw_view x ++ names_flaws (walk_outside b.env) [] (exprs_of X)) z))
    (h ∙ ap (λ (w : go.Walk). spots_of w X) (outside_grown b.env c.env s.grows))
    (raws_grown b.env c.env rs Y s.grows r) y

-- ---- where none may stand

undeclared_said : (at p : Place) (X Y : List t.Expr) (a : Walk) (e : Env) (fs : List Flaw) (ss : List Spot) (rs : List Raw) (ts : List Ty) → e ≡ a.env → fs ≡ names_flaws (walk_outside e) [] (exprs_of X) → ss ≡ spots_of (walk_outside e) X → rs ≡ raws_of (names_of e) (scopes_of e) Y
    → p ≡ first_place (exprs_of X) at → parts_flaws (flaw p 83) fs ss rs ≡ sides_told (flaw (first_place (exprs_of X) at) 83) (walk_of ts a) (names_flaws (walk_of ts a) [] (exprs_of X)) (exprs_of X) (exprs_of Y)
undeclared_said at p X Y a e fs ss rs ts q r h k z =
    let w = walk_of ts a in
    let f = flaw (first_place (exprs_of X) at) 83 in
    let same : ss ≡ spots_of w X = h ∙ ap (λ (x : Env). spots_of (walk_outside x) X) q ∙ sym (spots_same (names_of a.env) (scopes_of a.env) a.next a.next_label (map (var_of ts) a.vars.items) a.declared.items a.used.items a.lost X) in
    let values : rs ≡ raws_of (names_of a.env) (scopes_of a.env) Y = k ∙ ap (λ (x : Env). raws_of (names_of x) (scopes_of x) Y) q in
    let told : fs ≡ names_flaws w [] (exprs_of X) =
    r ∙ ap (λ (x : Env). names_flaws (walk_outside x) [] (exprs_of X)) q ∙ sym (names_same (names_of a.env) (scopes_of a.env) a.next a.next_label (map (var_of ts) a.vars.items) a.declared.items a.used.items a.lost [] X) in
    ap (λ (x : Place). parts_flaws (flaw x 83) fs ss rs) z
    ∙ ap (λ (x : List Flaw). parts_flaws f x ss rs) told
    ∙ ap (λ (x : List Spot). parts_flaws f (names_flaws w [] (exprs_of X)) x rs) same
    ∙ ap (λ (x : List Raw). parts_flaws f (names_flaws w [] (exprs_of X)) (spots_of w X) x) values
    ∙ parts_all f w (names_flaws w [] (exprs_of X)) X Y

pub undeclared_done : (at p : Place) (X Y : List t.Expr) (a b c d : Walk) (g0 g1 : List code.Flaw) (typed : Bool) (ss : List Spot) (rs : List Raw) (f0 f1 f2 : List code.Flaw) (out : List CoreStmt) → Moves (λ w. uses_all (exprs_of Y) (fresh_uses (exprs_of X) w)) a b → b.env ≡ a.env → Stays b c → Stays c d
    → g0 ≡ [] → map flaw_view g1 ≡ map flaw_view g0 ++ names_flaws (walk_outside b.env) [] (exprs_of X) → ss ≡ spots_of (walk_outside c.env) X → rs ≡ raws_of (names_of c.env) (scopes_of c.env) Y → typed ≡ spots_typed ss → p ≡ first_place (exprs_of X) at
    → map flaw_view f1 ≡ map flaw_view f0 ++ where_typed (typed && all_known rs) (all_told rs ++ map flaw_view g1) (flaw p 83 ∷ []) → map flaw_view f2 ≡ map flaw_view f1 ++ spots_flaws ss → Does (undeclared at (exprs_of X) (exprs_of Y)) a d f0 f2 out out
undeclared_done at p X Y a b c d g0 g1 typed ss rs f0 f1 f2 out m v s k z q h r y x t u =
    let f = both (exprs_of X) (exprs_of Y) in
    let fs : map flaw_view g1 ≡ names_flaws (walk_outside b.env) [] (exprs_of X) = q ∙ ap (λ (gs : List code.Flaw). map flaw_view gs ++ names_flaws (walk_outside b.env) [] (exprs_of X)) z in
    let names : ss ≡ spots_of (walk_outside b.env) X = h ∙ ap (λ (w : go.Walk). spots_of w X) (outside_grown b.env c.env s.grows) in
    let values : rs ≡ raws_of (names_of b.env) (scopes_of b.env) Y = raws_grown b.env c.env rs Y s.grows r in
    does_made (undeclared at (exprs_of X) (exprs_of Y)) f a d (parts_flaws (flaw p 83) (map flaw_view g1) ss rs) [] f0 f2 out out (moves_on f (λ w. w) a b d m (moves_stays b d (stays_on b c d s k)))
    (record { told = sides_said (flaw p 83) (map flaw_view g1) ss rs f0 f1 f2 typed y t u; core = λ ts l. sym (append-nil (map (stmt_view ts) out)) })
    (λ ts. ap (λ (gs : List Flaw). made [] gs (f (walk_of ts a))) (undeclared_said at p X Y a b.env (map flaw_view g1) ss rs ts v fs names values x))

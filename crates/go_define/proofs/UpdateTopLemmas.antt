-- `x op= y` and `x++` as statements.
use Rattle.std.proofs.Common.{arith, ◌≡◌, ℕ, ◌≤◌, ◌∙◌, refl, sym, ap, subst, List, [], ◌∷◌, ◌++◌, length, map, get_or, Bool, ◌&&◌}
use Rattle.std.specs.List.{AllByRecursion}
use Rattle.std.proofs.lemmas.List.{append-nil}
use Rattle.gj_base.specs.declared.place.Place.{Place}
use Rattle.gj_base.specs.declared.kind.Op.{Op}
use Rattle.go_syntax.specs.Tree as t
use Rattle.go_syntax.specs.View.{expr_view, exprs_of}
use Rattle.go_syntax.specs.declared.tree.Expr.{Expr}
use Rattle.go_type.specs.Tree.{Ty}
use Rattle.go_type.specs.Named.{NamedTy}
use Rattle.go_type.specs.Table.{places, size, KeepsTrees}
use Rattle.go_type.specs.declared.table.TypeTable.{TypeTable}
use Rattle.go_core.specs.CoreTree as core
use Rattle.go_core.specs.CoreView.{stmt_view, var_of}
use Rattle.go_core.specs.declared.statement.CoreStmt.{CoreStmt}
use Rattle.go_typing.specs.Env.{Bind}
use Rattle.go_typing.specs.Answer.{Flaw, flaw, Answer}
use Rattle.go_typing.specs.Typing.{place_of, typing}
use Rattle.go_operands.specs.declared.scopes.env.Env.{Env}
use Rattle.go_operands.specs.EnvView.{table_of}
use Rattle.go_operands.specs.AnswerView.{flaw_view}
use Rattle.go_operands.specs.declared.answers.answer.Flaw as code
use Rattle.go_operands.specs.Parts.{part}
use Rattle.go_calls.specs.Words.{types_of, names_of, scopes_of}
use Rattle.go_typing.specs.Walk as go
use Rattle.go_typing.specs.Walk.{Did, uses, uses_all}
use Rattle.go_typing.specs.Expressions.{answer_in}
use Rattle.go_typing.specs.Assign.{Left, left_place, left_of, lefts_typed, lefts_flaws, update_left, update, step, step_op, one_, where_typed, all_typed, miscounted}
use Rattle.go_walk.specs.WalkView.{walk_of, walk_outside}
use Rattle.go_walk.specs.declared.walk.walk.Walk.{Walk}
use Rattle.go_expr.specs.Raw.{Raw, raw_of, raws_of, Grows}
use Rattle.go_assign.specs.Settled.{all_known, all_told}
use Rattle.go_assign.specs.Outcome.{Does, Adds}
use Rattle.go_assign.specs.Moves.{Moves, Stays}
use Rattle.go_assign.proofs.WalkLemmas.{names_grown, scopes_grown, raw_grown, raws_grown, moves_stays, moves_on}
use Rattle.go_assign.proofs.OutcomeLemmas.{made, does_made, does_moved, does_same}
use Rattle.go_assign.proofs.RawLemmas.{typed_all, told_all}
use Rattle.go_assign.specs.declared.assign.left.Left as code_left
use Rattle.go_assign.specs.declared.assign.left.Left.TheVariants as left
use Rattle.go_assign.specs.LeftView.{left_view, lefts_after, lefts_of, LeftBelow}
use Rattle.go_assign.specs.Assigning.{Gives, not_as_many, all_flaws}
use Rattle.go_assign.proofs.LeftLemmas.{lefts_kept, lefts_below}
use Rattle.go_assign.proofs.SideLemmas.{left_same, lefts_same, gives_did, flaws_all, left_all}
use Rattle.go_define.specs.Updating.{updated, updates_not, steps_not}
use Rattle.go_define.proofs.UpdateLemmas.{updated_did}

-- ---- a table that grows

abbrev at_local : ℕ → Ty → Left
at_local n u = left_place (core.local_ n) u

abbrev at_global : ℕ → Ty → Left
at_global n u = left_place (core.global n) u

left_kept : (a b : TypeTable) (l : code_left.Left) → KeepsTrees a b → LeftBelow (size a) l → left_view (places b) l ≡ left_view (places a) l
left_kept a b left.Blank k h = refl
left_kept a b (left.Local v u) k h = ap (at_local v.0) (k u h)
left_kept a b (left.Global n u) k h = ap (at_global n) (k u h)
left_kept a b (left.Wrong fs) k h = refl

left_below : (m n : ℕ) (l : code_left.Left) → m ≤ n → LeftBelow m l → LeftBelow n l
left_below m n left.Blank k h = tt
left_below m n (left.Local v u) k h = omega (arith, k, h)
left_below m n (left.Global i u) k h = omega (arith, k, h)
left_below m n (left.Wrong fs) k h = tt

pub left_later : (b c : Walk) (l : code_left.Left) → Stays b c → LeftBelow (size (table_of b.env)) l → LeftBelow (size (table_of c.env)) l
left_later b c l s h = left_below (size (table_of b.env)) (size (table_of c.env)) l s.grows.counts h

pub lefts_later : (b c : Walk) (ls : List code_left.Left) (ms : List Left) → Stays b c → AllByRecursion (LeftBelow (size (table_of b.env))) ls → lefts_after (types_of b.env) ls [] ≡ ms → lefts_after (types_of c.env) ls [] ≡ ms
lefts_later b c ls ms s h p = lefts_kept (table_of b.env) (table_of c.env) ls s.grows.kept h ∙ p

pub lefts_below_later : (b c : Walk) (ls : List code_left.Left) → Stays b c → AllByRecursion (LeftBelow (size (table_of b.env))) ls → AllByRecursion (LeftBelow (size (table_of c.env))) ls
lefts_below_later b c ls s h = lefts_below (size (table_of b.env)) (size (table_of c.env)) ls s.grows.counts h

pub raws_earlier : (a b : Walk) (rs : List Raw) (es : List t.Expr) → Stays a b → rs ≡ raws_of (names_of b.env) (scopes_of b.env) es → rs ≡ raws_of (names_of a.env) (scopes_of a.env) es
raws_earlier a b rs es s h = raws_grown a.env b.env rs es s.grows h

abbrev outside : List NamedTy → List (List Bind) → go.Walk
outside ns ss = record { names = ns; scopes = ss; next = 0; next_label = 0; vars = []; declared = []; used = []; lost = 0 }

outside_grown : (a b : Env) → Grows a b → walk_outside b ≡ walk_outside a
outside_grown a b g = ap (λ (ns : List NamedTy). outside ns (scopes_of b)) (names_grown a b g) ∙ ap (outside (names_of a)) (scopes_grown a b g)

-- ---- by the names and scopes before

pub left_before : (a b : Env) (l : Left) (e : t.Expr) → Grows a b → l ≡ left_of (walk_outside b) e → l ≡ left_of (walk_outside a) e
left_before a b l e g h = h ∙ ap (λ (w : go.Walk). left_of w e) (outside_grown a b g)

pub held_same : (r s : Raw) (x : Answer) → x ≡ r.part.answer → r ≡ s → x ≡ s.part.answer
held_same r s x h p = h ∙ ap (λ (y : Raw). y.part.answer) p

pub answer_before : (a b : Env) (r : Raw) (x : Answer) (e : t.Expr) → Grows a b → x ≡ r.part.answer → r ≡ raw_of (names_of b) (scopes_of b) e → x ≡ typing (names_of a) (scopes_of a) e
answer_before a b r x e g h p = h ∙ ap (λ (y : Raw). y.part.answer) (raw_grown a b r e g p)

pub raw_before : (a b : Env) (r s : Raw) (e : t.Expr) → Grows a b → s ≡ r → r ≡ raw_of (names_of b) (scopes_of b) e → s ≡ raw_of (names_of a) (scopes_of a) e
raw_before a b r s e g h p = h ∙ raw_grown a b r e g p

pub answer_same : (r : Raw) (x : Answer) (ns : List NamedTy) (ss : List (List Bind)) (e : t.Expr) → x ≡ r.part.answer → r ≡ raw_of ns ss e → x ≡ typing ns ss e
answer_same r x ns ss e h p = h ∙ ap (λ (y : Raw). y.part.answer) p

-- ---- one of each

pub uses_two : (X Y : t.Expr) (a b c : Walk) → Moves (uses Y) a b → Moves (uses X) b c → Moves (λ w. uses X (uses Y w)) a c
uses_two X Y a b c h k = moves_on (uses Y) (uses X) a b c h k

abbrev gives_at : Place → Op → List NamedTy → Place → Answer → Raw → Left → Gives
gives_at at op ns p x r l = updated ns at op l (part p x) r.part r.flaws

abbrev as_did : go.Walk → Gives → Did
as_did u g = gives_did g u

said : (at : Place) (op : Op) (X : t.Expr) (Y : go.Walk → Raw) (w : go.Walk) (ns : List NamedTy) (p : Place) (x : Answer) (r : Raw) (l : Left) → ns ≡ w.names → p ≡ place_of X → x ≡ answer_in w X → r ≡ Y w → l ≡ left_of w X
    → gives_did (gives_at at op ns p x r l) w ≡ update_left w at op X (Y w).part (Y w).flaws (left_of w X) w
said at op X Y w ns p x r l a b c d e =
    ap (λ (y : List NamedTy). as_did w (gives_at at op y p x r l)) a
    ∙ ap (λ (y : Place). as_did w (gives_at at op w.names y x r l)) b
    ∙ ap (λ (y : Answer). as_did w (gives_at at op w.names (place_of X) y r l)) c
    ∙ ap (λ (y : Raw). as_did w (gives_at at op w.names (place_of X) (answer_in w X) y l)) d
    ∙ ap (λ (y : Left). as_did w (gives_at at op w.names (place_of X) (answer_in w X) (Y w) y)) e
    ∙ updated_did w at op X (Y w).part (Y w).flaws (left_of w X) w

-- the walk only has more types, and what comes of the parts is told and stored
pub update_gives : (at : Place) (op : Op) (X : t.Expr) (Y : go.Walk → Raw) (b c d : Walk) (p : Place) (x : Answer) (r : Raw) (l : code_left.Left) (f0 f1 : List code.Flaw) (o0 o1 : List CoreStmt) → Stays b c → Stays c d → p ≡ place_of X
    → left_view (types_of c.env) l ≡ left_of (walk_outside b.env) X → LeftBelow (size (table_of c.env)) l → x ≡ typing (names_of c.env) (scopes_of c.env) X → ((ts : List Ty) → r ≡ Y (walk_of ts c))
    → Adds (table_of d.env) (updated (names_of d.env) at op (left_view (types_of d.env) l) (part p x) r.part r.flaws).flaws (updated (names_of d.env) at op (left_view (types_of d.env) l) (part p x) r.part r.flaws).core f0 f1 o0 o1
    → Does (λ w. update_left w at op X (Y w).part (Y w).flaws (left_of w X) w) b d f0 f1 o0 o1
update_gives at op X Y b c d p x r l f0 f1 o0 o1 s k q h z y v g =
    let e = gives_at at op (names_of d.env) p x r (left_view (types_of d.env) l) in
    does_made (λ w. update_left w at op X (Y w).part (Y w).flaws (left_of w X) w) (λ w. w) b d e.flaws e.core f0 f1 o0 o1
    (moves_on (λ w. w) (λ w. w) b c d (moves_stays b c s) (moves_stays c d k)) g
    (λ ts.
    said at op X Y (walk_of ts b) (names_of d.env) p x r (left_view (types_of d.env) l)
    (names_grown c.env d.env k.grows ∙ names_grown b.env c.env s.grows) q
    (y ∙ ap (λ (ns : List NamedTy). typing ns (scopes_of c.env) X) (names_grown b.env c.env s.grows) ∙ ap (λ (ss : List (List Bind)). typing (names_of b.env) ss X) (scopes_grown b.env c.env s.grows))
    (v ts ∙ ap Y (s.walk ts))
    (left_kept (table_of c.env) (table_of d.env) l k.grows.kept z ∙ h ∙ sym (left_same (names_of b.env) (scopes_of b.env) b.next b.next_label (map (var_of ts) b.vars.items) b.declared.items b.used.items b.lost X)))

-- uses leave names and scopes as they are
left_used : (w : go.Walk) (us : List Place) (n : ℕ) (X : t.Expr) → left_of (record w { used = us; lost = n }) X ≡ left_of w X
left_used w us n X = left_same w.names w.scopes w.next w.next_label w.vars w.declared us n X ∙ sym (left_same w.names w.scopes w.next w.next_label w.vars w.declared w.used w.lost X)

used_same : (at : Place) (op : Op) (X : t.Expr) (r : Raw) (w : go.Walk) (us : List Place) (n : ℕ)
    → update_left (record w { used = us; lost = n }) at op X r.part r.flaws (left_of (record w { used = us; lost = n }) X) (record w { used = us; lost = n }) ≡ update_left w at op X r.part r.flaws (left_of w X) (record w { used = us; lost = n })
used_same at op X r w us n =
    let u : go.Walk = record w { used = us; lost = n } in
    sym (updated_did u at op X r.part r.flaws (left_of u X) u)
    ∙ ap (λ (l : Left). as_did u (gives_at at op w.names (place_of X) (answer_in w X) r l)) (left_used w us n X)
    ∙ updated_did w at op X r.part r.flaws (left_of w X) u

pub update_one_does : (at : Place) (op : Op) (X Y : t.Expr) (a b d : Walk) (f0 f1 : List code.Flaw) (o0 o1 : List CoreStmt) → Moves (λ w. uses X (uses Y w)) a b
    → Does (λ w. update_left w at op X (raw_of w.names w.scopes Y).part (raw_of w.names w.scopes Y).flaws (left_of w X) w) b d f0 f1 o0 o1
    → Does (update at op (exprs_of (X ∷ [])) (exprs_of (Y ∷ []))) a d f0 f1 o0 o1
update_one_does at op X Y a b d f0 f1 o0 o1 m k =
    let D = λ (w : go.Walk). update_left w at op X (raw_of w.names w.scopes Y).part (raw_of w.names w.scopes Y).flaws (left_of w X) w in
    does_same (λ w. D (uses X (uses Y w))) (update at op (exprs_of (X ∷ [])) (exprs_of (Y ∷ []))) a d f0 f1 o0 o1
    (λ w. used_same at op X (raw_of w.names w.scopes Y) w (uses X (uses Y w)).used (uses X (uses Y w)).lost)
    (does_moved (λ w. uses X (uses Y w)) D a b d f0 f1 o0 o1 m k)

pub step_one_does : (at : Place) (op : Op) (up : Bool) (X : t.Expr) (a b d : Walk) (f0 f1 : List code.Flaw) (o0 o1 : List CoreStmt) → op ≡ step_op up → Moves (uses X) a b → Does (λ w. update_left w at op X (one_ at) [] (left_of w X) w) b d f0 f1 o0 o1
    → Does (step at (exprs_of (X ∷ [])) up) a d f0 f1 o0 o1
step_one_does at op up X a b d f0 f1 o0 o1 p m k =
    let D = λ (w : go.Walk). update_left w at op X (one_ at) [] (left_of w X) w in
    does_same (λ w. D (uses X w)) (step at (exprs_of (X ∷ [])) up) a d f0 f1 o0 o1
    (λ w. used_same at op X (record { part = one_ at; flaws = [] }) w (uses X w).used (uses X w).lost ∙ ap (λ (o : Op). update_left w at o X (one_ at) [] (left_of w X) (uses X w)) p)
    (does_moved (uses X) D a b d f0 f1 o0 o1 m k)

-- ---- a wrong count

pub uses_all_two : (X Y : t.Exprs) (a b c : Walk) → Moves (uses_all Y) a b → Moves (uses_all X) b c → Moves (λ w. uses_all X (uses_all Y w)) a c
uses_all_two X Y a b c h k = moves_on (uses_all Y) (uses_all X) a b c h k

counted : (at : Place) (w : go.Walk) (xs ys : List t.Expr) (u : go.Walk) → gives_did (not_as_many at (lefts_of w xs) (raws_of w.names w.scopes ys)) u ≡ miscounted at w (exprs_of xs) (exprs_of ys) u
counted at w xs ys u =
    let known = lefts_typed w (exprs_of xs) && all_typed w (exprs_of ys) in
    ap (λ (b : Bool). made [] (where_typed (b && all_known (raws_of w.names w.scopes ys)) (all_flaws (lefts_of w xs) ++ all_told (raws_of w.names w.scopes ys)) (flaw at 84 ∷ [])) u) (left_all w xs)
    ∙ ap (λ (b : Bool). made [] (where_typed (lefts_typed w (exprs_of xs) && b) (all_flaws (lefts_of w xs) ++ all_told (raws_of w.names w.scopes ys)) (flaw at 84 ∷ [])) u) (sym (typed_all w ys))
    ∙ ap (λ (fs : List Flaw). made [] (where_typed known (fs ++ all_told (raws_of w.names w.scopes ys)) (flaw at 84 ∷ [])) u) (flaws_all w xs)
    ∙ ap (λ (fs : List Flaw). made [] (where_typed known (lefts_flaws w (exprs_of xs) ++ fs) (flaw at 84 ∷ [])) u) (sym (told_all w ys))

-- of the code's sides, at the walk before the statement
counted_at : (at : Place) (X Y : List t.Expr) (a : Walk) (e : Env) (ls : List Left) (rs : List Raw) (ts : List Ty) (u : go.Walk) → e ≡ a.env → ls ≡ lefts_of (walk_outside e) X → rs ≡ raws_of (names_of e) (scopes_of e) Y
    → gives_did (not_as_many at ls rs) u ≡ miscounted at (walk_of ts a) (exprs_of X) (exprs_of Y) u
counted_at at X Y a e ls rs ts u p h k =
    ap (λ (x : List Left). gives_did (not_as_many at x rs) u)
    (h ∙ ap (λ (x : Env). lefts_of (walk_outside x) X) p ∙ sym (lefts_same (names_of a.env) (scopes_of a.env) a.next a.next_label (map (var_of ts) a.vars.items) a.declared.items a.used.items a.lost X))
    ∙ ap (λ (x : List Raw). gives_did (not_as_many at (lefts_of (walk_of ts a) X) x) u) (k ∙ ap (λ (x : Env). raws_of (names_of x) (scopes_of x) Y) p)
    ∙ counted at (walk_of ts a) X Y u

told_alone : (t : TypeTable) (fs : List Flaw) (f0 f1 : List code.Flaw) (out : List CoreStmt) → map flaw_view f1 ≡ map flaw_view f0 ++ fs → Adds t fs [] f0 f1 out out
told_alone t fs f0 f1 out h = record { told = h; core = λ ts l. sym (append-nil (map (stmt_view ts) out)) }

pub update_not_does : (at : Place) (X Y : List t.Expr) (a b c : Walk) (ls : List Left) (rs : List Raw) (f0 f1 : List code.Flaw) (out : List CoreStmt) → Moves (λ w. uses_all (exprs_of X) (uses_all (exprs_of Y) w)) a b → b.env ≡ a.env → Stays b c
    → ls ≡ lefts_of (walk_outside b.env) X → rs ≡ raws_of (names_of b.env) (scopes_of b.env) Y → map flaw_view f1 ≡ map flaw_view f0 ++ (not_as_many at ls rs).flaws
    → Does (updates_not at (exprs_of X) (exprs_of Y)) a c f0 f1 out out
update_not_does at X Y a b c ls rs f0 f1 out m e s h k d =
    let f = λ (w : go.Walk). uses_all (exprs_of X) (uses_all (exprs_of Y) w) in
    does_made (updates_not at (exprs_of X) (exprs_of Y)) f a c (not_as_many at ls rs).flaws [] f0 f1 out out (moves_on f (λ w. w) a b c m (moves_stays b c s)) (told_alone (table_of c.env) (not_as_many at ls rs).flaws f0 f1 out d)
    (λ ts. counted_at at X Y a b.env ls rs ts (f (walk_of ts a)) e h k)

pub step_not_does : (at : Place) (X : List t.Expr) (a b c : Walk) (es : List code_left.Left) (vs : List Ty) (rs : List Raw) (f0 f1 : List code.Flaw) (out : List CoreStmt) → Moves (uses_all (exprs_of X)) a b → b.env ≡ a.env → Stays b c → es ≡ []
    → rs ≡ raws_of (names_of b.env) (scopes_of b.env) X → map flaw_view f1 ≡ map flaw_view f0 ++ (not_as_many at (lefts_after vs es []) rs).flaws → Does (steps_not at (exprs_of X)) a c f0 f1 out out
step_not_does at X a b c es vs rs f0 f1 out m e s z k d =
    let f = uses_all (exprs_of X) in
    let g = not_as_many at [] rs in
    does_made (steps_not at (exprs_of X)) f a c g.flaws [] f0 f1 out out (moves_on f (λ w. w) a b c m (moves_stays b c s))
    (told_alone (table_of c.env) g.flaws f0 f1 out (d ∙ ap (λ (x : List code_left.Left). map flaw_view f0 ++ (not_as_many at (lefts_after vs x []) rs).flaws) z))
    (λ ts.
    ap (λ (x : List Raw). gives_did (not_as_many at [] x) (f (walk_of ts a))) (k ∙ ap (λ (x : Env). raws_of (names_of x) (scopes_of x) X) e)
    ∙ ap (λ (b : Bool). made [] (where_typed b (all_told (raws_of (names_of a.env) (scopes_of a.env) X)) (flaw at 84 ∷ [])) (f (walk_of ts a))) (sym (typed_all (walk_of ts a) X))
    ∙ ap (λ (fs : List Flaw). made [] (where_typed (all_typed (walk_of ts a) (exprs_of X)) fs (flaw at 84 ∷ [])) (f (walk_of ts a))) (sym (told_all (walk_of ts a) X)))

-- ---- how many

alone_at : (xs : List Expr) (x : Expr) → length xs ≡ 1 → x ≡ get_or xs 0 x → x ∷ [] ≡ xs
alone_at [] x h e = absurd (omega (arith, h))
alone_at (y ∷ []) x h e = ap (λ (z : Expr). z ∷ []) e
alone_at (y ∷ z ∷ ys) x h e = absurd (omega (arith, h))

pub update_single : (at : Place) (op : Op) (xs ys : List Expr) (x y : Expr) (a c : Walk) (f0 f1 : List code.Flaw) (o0 o1 : List CoreStmt) → length xs ≡ 1 → length ys ≡ 1 → x ≡ get_or xs 0 x → y ≡ get_or ys 0 y
    → Does (update at op (exprs_of (expr_view x ∷ [])) (exprs_of (expr_view y ∷ []))) a c f0 f1 o0 o1 → Does (update at op (exprs_of (map expr_view xs)) (exprs_of (map expr_view ys))) a c f0 f1 o0 o1
update_single at op xs ys x y a c f0 f1 o0 o1 h k p q d =
    subst (λ (z : List Expr). Does (update at op (exprs_of (map expr_view xs)) (exprs_of (map expr_view z))) a c f0 f1 o0 o1) (alone_at ys y k q)
    (subst (λ (z : List Expr). Does (update at op (exprs_of (map expr_view z)) (exprs_of (map expr_view (y ∷ [])))) a c f0 f1 o0 o1) (alone_at xs x h p) d)

update_many : (at : Place) (op : Op) (xs ys : List t.Expr) (w : go.Walk) → (length xs ≡ 1 → length ys ≡ 1 → ⊥) → updates_not at (exprs_of xs) (exprs_of ys) w ≡ update at op (exprs_of xs) (exprs_of ys) w
update_many at op [] ys w h = refl
update_many at op (x ∷ []) [] w h = refl
update_many at op (x ∷ []) (y ∷ []) w h = absurd (h refl refl)
update_many at op (x ∷ []) (y ∷ z ∷ ys) w h = refl
update_many at op (x ∷ v ∷ xs) ys w h = refl

pub map_length : (xs : List Expr) → length (map expr_view xs) ≡ length xs
map_length [] = refl
map_length (x ∷ xs) = let h = map_length xs in omega (arith, h)

pub update_counts : (at : Place) (op : Op) (xs ys : List Expr) (a c : Walk) (f0 f1 : List code.Flaw) (out : List CoreStmt) → (length xs ≡ 1 → length ys ≡ 1 → ⊥) → Does (updates_not at (exprs_of (map expr_view xs)) (exprs_of (map expr_view ys))) a c f0 f1 out out
    → Does (update at op (exprs_of (map expr_view xs)) (exprs_of (map expr_view ys))) a c f0 f1 out out
update_counts at op xs ys a c f0 f1 out h d =
    does_same (updates_not at (exprs_of (map expr_view xs)) (exprs_of (map expr_view ys))) (update at op (exprs_of (map expr_view xs)) (exprs_of (map expr_view ys))) a c f0 f1 out out
    (λ w. update_many at op (map expr_view xs) (map expr_view ys) w (λ p q. h (sym (map_length xs) ∙ p) (sym (map_length ys) ∙ q))) d

pub step_single : (at : Place) (up : Bool) (xs : List Expr) (x : Expr) (a c : Walk) (f0 f1 : List code.Flaw) (o0 o1 : List CoreStmt) → length xs ≡ 1 → x ≡ get_or xs 0 x → Does (step at (exprs_of (expr_view x ∷ [])) up) a c f0 f1 o0 o1
    → Does (step at (exprs_of (map expr_view xs)) up) a c f0 f1 o0 o1
step_single at up xs x a c f0 f1 o0 o1 h p d = subst (λ (z : List Expr). Does (step at (exprs_of (map expr_view z)) up) a c f0 f1 o0 o1) (alone_at xs x h p) d

step_many : (at : Place) (up : Bool) (xs : List t.Expr) (w : go.Walk) → (length xs ≡ 1 → ⊥) → steps_not at (exprs_of xs) w ≡ step at (exprs_of xs) up w
step_many at up [] w h = refl
step_many at up (x ∷ []) w h = absurd (h refl)
step_many at up (x ∷ y ∷ xs) w h = refl

pub step_counts : (at : Place) (up : Bool) (xs : List Expr) (a c : Walk) (f0 f1 : List code.Flaw) (out : List CoreStmt) → (length xs ≡ 1 → ⊥) → Does (steps_not at (exprs_of (map expr_view xs))) a c f0 f1 out out
    → Does (step at (exprs_of (map expr_view xs)) up) a c f0 f1 out out
step_counts at up xs a c f0 f1 out h d =
    does_same (steps_not at (exprs_of (map expr_view xs))) (step at (exprs_of (map expr_view xs)) up) a c f0 f1 out out (λ w. step_many at up (map expr_view xs) w (λ p. h (sym (map_length xs) ∙ p))) d

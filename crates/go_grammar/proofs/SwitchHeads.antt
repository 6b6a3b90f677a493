-- Each rule on the headers of `switch`, and on `select`.
use Rattle.std.proofs.Common.{◌≡◌, ◌+◌, ℕ, true, false, nat_lt, List, [], ◌∷◌, ◌++◌, Option, Some, None, refl, ◌∙◌, arith}
use Rattle.std.proofs.lemmas.Bool.{and_left, and_right}
use Rattle.gj_base.specs.declared.place.Place.{Place}
use Rattle.go_syntax.specs.Tree as t
use Rattle.go_syntax.specs.Token.{Token}
use Rattle.go_syntax.specs.declared.keyword.Keyword.TheVariants as word
use Rattle.go_syntax.specs.declared.operator.Operator.TheVariants as o
use Rattle.go_syntax.specs.declared.tree.Name.{Name}
use Rattle.go_grammar.specs.Classes.{IsOp, IsWord, IsSemicolon, written, inserted, name_of, place_of}
use Rattle.go_grammar.specs.Context.{wants_brace, wants_dot}
use Rattle.go_grammar.specs.Frames.{InSwitch, InTag, AnExpr, AStmt, AGuard, OfExpr, OfStmt, OfSwitch, Done, Stack, Operand, Chain, Simple, Right, Defined, AfterLabel, Subject, OnTag, OnGuard, SwitchHead, SwitchTag, InSwitchBraces}
use Rattle.go_grammar.specs.Limits.{has_room, expr_fits, maybe_fits, stmt_fits, maybe_stmt_fits, clauses_fit, last_parts, prefixes}
use Rattle.go_grammar.specs.Grammar.{IsExpr, IsBefore, nothing_before, before, PerhapsSimple, without_simple, with_simple, condition, PerhapsCondition, without_condition, with_condition, IsGuard, guard, named_guard, AreClauses, IsSwitch, expr_switch, type_switch}
use Rattle.go_grammar.specs.Nodes.{is_op, is_semicolon, begins_expr}
use Rattle.go_grammar.specs.Parsed.{run}
use Rattle.go_grammar.proofs.Stepping.{ctx, run_assoc, first_part, second_part}
use Rattle.go_grammar.proofs.Starting.{starts_expr, first_is, from_first, expr_no_semicolon, expr_no_open_brace}
use Rattle.go_grammar.proofs.Begins.{expr_begun}
use Rattle.go_grammar.proofs.PartRules.{shorter}
use Rattle.go_grammar.proofs.OperandRules.{Inside}
use Rattle.go_grammar.proofs.Simples.{one_reads, StartsSimple, simple_in, expr_in_simple}
use Rattle.go_grammar.proofs.StmtReadings.{ended_expr, ends_semicolon, ends_open, spot}
use Rattle.go_grammar.proofs.ControlRules.{semi_no_brace}
use Rattle.go_grammar.proofs.GuardRules.{GuardTokens, guard_reads}
use Rattle.go_grammar.proofs.StmtRules.{StmtReads, Below, inside_of}
use Rattle.go_grammar.proofs.SimpleRules.{define_begins}
use Rattle.go_grammar.proofs.SwitchRules.{switch_part, switched, clauses_read}

-- the stack begins a `switch` at its word
abbrev StartsSwitch : ℕ → Stack → Stack → Type 0
StartsSwitch b s s' = (u : Token) (us : List Token) → IsWord word.Switch u → run (u ∷ us) s ≡ run us (OfSwitch (SwitchHead b u.place) ∷ s')

abbrev SwitchReads : ℕ → List Token → t.Stmt → Type 0
SwitchReads b ts x = stmt_fits b x ≡ true → (s s' : Stack) → StartsSwitch b s s' → (us : List Token) → run (ts ++ us) s ≡ run us (Done (AStmt x) ∷ s')

head_starts : (b : ℕ) (at : Place) (s : Stack) → StartsSimple b true InSwitch (OfSwitch (SwitchHead b at) ∷ s) (OfSwitch (SwitchHead b at) ∷ s)
head_starts b at s u us first =
    let no_semi : is_semicolon u.kind ≡ false = expr_no_semicolon u.kind first in
    let no_open : is_op o.LeftBrace u ≡ false = expr_no_open_brace u.kind first in
    starts_expr u us (OfSwitch (SwitchHead b at)) s (OfStmt (Simple (spot b true InSwitch u.place) []) ∷ OfSwitch (SwitchHead b at) ∷ s) (ctx 0 b true true) (simp (no_semi, no_open))

tag_starts : (b : ℕ) (at : Place) (init : t.MaybeStmt) (s : Stack) → StartsSimple b true InTag (OfSwitch (SwitchTag b at init) ∷ s) (OfSwitch (SwitchTag b at init) ∷ s)
tag_starts b at init s u us first =
    let no_open : is_op o.LeftBrace u ≡ false = expr_no_open_brace u.kind first in
    starts_expr u us (OfSwitch (SwitchTag b at init)) s (OfStmt (Simple (spot b true InTag u.place) []) ∷ OfSwitch (SwitchTag b at init) ∷ s) (ctx 0 b true true) (simp no_open)

switch_init_none : (b : ℕ) (at : Place) (v : Token) (vs : List Token) (s : Stack) → IsSemicolon v → run (v ∷ vs) (OfSwitch (SwitchHead b at) ∷ s) ≡ run vs (OfSwitch (SwitchTag b at t.NoStmt) ∷ s)
switch_init_none b at v vs s (written h) = simp h
switch_init_none b at v vs s (inserted h) = simp h

switch_init_some : (b : ℕ) (at : Place) (y : t.Stmt) (v : Token) (vs : List Token) (s : Stack) → IsSemicolon v → run (v ∷ vs) (Done (AStmt y) ∷ OfSwitch (SwitchHead b at) ∷ s) ≡ run vs (OfSwitch (SwitchTag b at (t.AStmt y)) ∷ s)
switch_init_some b at y v vs s (written h) = simp h
switch_init_some b at y v vs s (inserted h) = simp h

switch_init : (b : ℕ) → Inside b → (ts : List Token) (init : t.MaybeStmt) → PerhapsSimple ts init → maybe_stmt_fits b init ≡ true → (at : Place) (v : Token) (vs : List Token) (s : Stack) → IsSemicolon v → run (ts ++ v ∷ vs) (OfSwitch (SwitchHead b at) ∷ s) ≡ run vs (OfSwitch (SwitchTag b at init) ∷ s)
switch_init b i _ _ without_simple fits at v vs s hv = switch_init_none b at v vs s hv
switch_init b i _ _ (with_simple {ts} {s = y} d) fits at v vs s hv =
    simple_in b i d fits InSwitch refl refl (OfSwitch (SwitchHead b at) ∷ s) (OfSwitch (SwitchHead b at) ∷ s) (head_starts b at s) v vs (ends_semicolon hv) (and_left _ _ (semi_no_brace hv))
    ∙ switch_init_some b at y v vs s hv

-- [Expr] and `{`, before any `;`
head_open : (b : ℕ) → Inside b → (ts : List Token) (e : t.MaybeExpr) → PerhapsCondition ts e → maybe_fits b 0 e ≡ true → has_room b ≡ true → (at : Place) (v : Token) (vs : List Token) (s : Stack) → IsOp o.LeftBrace v → run (ts ++ v ∷ vs) (OfSwitch (SwitchHead b at) ∷ s) ≡ run vs (OfSwitch (InSwitchBraces (switch_part (b + 1) at t.NoStmt (OnTag e) [])) ∷ s)
head_open b i _ _ without_condition fits room at v vs s hv = simp (hv.op, room)
head_open b i _ _ (with_condition {ts} {e} (condition d wants)) fits room at v vs s hv =
    let opened : run (v ∷ vs) (Done (AStmt (t.ExprStmt (place_of ts) (t.MoreExprs e t.NoExprs))) ∷ OfSwitch (SwitchHead b at) ∷ s) ≡ run vs (OfSwitch (InSwitchBraces (switch_part (b + 1) at t.NoStmt (OnTag (t.AnExpr e)) [])) ∷ s) = simp (hv.op, room) in
    expr_in_simple b i d fits InSwitch refl refl (OfSwitch (SwitchHead b at) ∷ s) (OfSwitch (SwitchHead b at) ∷ s) (head_starts b at s) v vs (ends_open hv) (and_right _ _ wants)
    ∙ opened

-- an expression after the `;`, up to the `{`
tag_from : (b : ℕ) → Inside b → (ts : List Token) (e : t.Expr) → IsExpr 1 true ts e → first_is begins_expr ts ≡ true → wants_brace e ≡ false → expr_fits b 0 e ≡ true → has_room b ≡ true → (at : Place) (init : t.MaybeStmt) (v : Token) (vs : List Token) (s : Stack) → IsOp o.LeftBrace v → run (ts ++ v ∷ vs) (OfSwitch (SwitchTag b at init) ∷ s) ≡ run vs (OfSwitch (InSwitchBraces (switch_part (b + 1) at init (OnTag (t.AnExpr e)) [])) ∷ s)
tag_from b i [] e d first wants fits room at init v vs s hv = cc
tag_from b i (w ∷ ts) e d first wants fits room at init v vs s hv =
    let opened : run (v ∷ vs) (Done (AnExpr e) ∷ OfStmt (Simple (spot b true InTag w.place) []) ∷ OfSwitch (SwitchTag b at init) ∷ s) ≡ run vs (OfSwitch (InSwitchBraces (switch_part (b + 1) at init (OnTag (t.AnExpr e)) [])) ∷ s) = simp (hv.op, room) in
    tag_starts b at init s w (ts ++ v ∷ vs) first
    ∙ (one_reads b i true (w ∷ ts) e d 0 true fits v vs (OfStmt (Simple (spot b true InTag w.place) []) ∷ OfSwitch (SwitchTag b at init) ∷ s) (ended_expr true e v (ends_open hv) (and_right _ _ wants))
    ∙ opened)

tag_open : (b : ℕ) → Inside b → (ts : List Token) (e : t.MaybeExpr) → PerhapsCondition ts e → maybe_fits b 0 e ≡ true → has_room b ≡ true → (at : Place) (init : t.MaybeStmt) (v : Token) (vs : List Token) (s : Stack) → IsOp o.LeftBrace v → run (ts ++ v ∷ vs) (OfSwitch (SwitchTag b at init) ∷ s) ≡ run vs (OfSwitch (InSwitchBraces (switch_part (b + 1) at init (OnTag e) [])) ∷ s)
tag_open b i _ _ without_condition fits room at init v vs s hv = simp (hv.op, room)
tag_open b i _ _ (with_condition {ts} {e} (condition d wants)) fits room at init v vs s hv = tag_from b i ts e d (expr_begun d).begins wants fits room at init v vs s hv

expr_head : (b : ℕ) → Inside b → (ts us' : List Token) (init : t.MaybeStmt) (e : t.MaybeExpr) → IsBefore ts init → PerhapsCondition us' e → maybe_stmt_fits b init ≡ true → maybe_fits b 0 e ≡ true → has_room b ≡ true → (at : Place) (v : Token) (vs : List Token) (s : Stack) → IsOp o.LeftBrace v → run ((ts ++ us') ++ v ∷ vs) (OfSwitch (SwitchHead b at) ∷ s) ≡ run vs (OfSwitch (InSwitchBraces (switch_part (b + 1) at init (OnTag e) [])) ∷ s)
expr_head b i _ us' _ e nothing_before cd fits_init fits room at v vs s hv = head_open b i us' e cd fits room at v vs s hv
expr_head b i _ us' _ e (before {ts} {s = init} {u} p semi) cd fits_init fits room at v vs s hv =
    run_assoc (ts ++ u ∷ []) us' (v ∷ vs) (OfSwitch (SwitchHead b at) ∷ s)
    ∙ (run_assoc ts (u ∷ []) (us' ++ v ∷ vs) (OfSwitch (SwitchHead b at) ∷ s)
    ∙ (switch_init b i ts init p fits_init at u (us' ++ v ∷ vs) s semi
    ∙ tag_open b i us' e cd fits room at init v vs s hv))

head_guard_from : (b : ℕ) → Inside b → (ts : List Token) (e : t.Expr) → IsExpr 1 true ts e → first_is begins_expr ts ≡ true → expr_fits b 0 e ≡ true → nat_lt (last_parts e) 500 ≡ true → has_room (prefixes e) ≡ true → wants_dot e ≡ false → has_room b ≡ true → (at : Place) (u v w x : Token) → GuardTokens u v w x → (y : Token) (ys : List Token) (s : Stack) → IsOp o.LeftBrace y → run (ts ++ u ∷ v ∷ w ∷ x ∷ y ∷ ys) (OfSwitch (SwitchHead b at) ∷ s) ≡ run ys (OfSwitch (InSwitchBraces (switch_part (b + 1) at t.NoStmt (OnGuard None e) [])) ∷ s)
head_guard_from b i [] e d first fits short deep wants room at u v w x g y ys s hy = cc
head_guard_from b i (z ∷ ts) e d first fits short deep wants room at u v w x g y ys s hy =
    let opened : run (x ∷ y ∷ ys) (Done (AGuard None e) ∷ OfStmt (Simple (spot b true InSwitch z.place) []) ∷ OfSwitch (SwitchHead b at) ∷ s) ≡ run ys (OfSwitch (InSwitchBraces (switch_part (b + 1) at t.NoStmt (OnGuard None e) [])) ∷ s) = simp (g.close_paren.op, hy.op, room) in
    head_starts b at s z (ts ++ u ∷ v ∷ w ∷ x ∷ y ∷ ys) first
    ∙ (guard_reads b i true (z ∷ ts) e d fits short deep wants u v w x g (y ∷ ys) (OfStmt (Simple (spot b true InSwitch z.place) []) ∷ OfSwitch (SwitchHead b at) ∷ s)
    ∙ opened)

head_guard : (b : ℕ) → Inside b → (ts : List Token) (x : Option Name) (e : t.Expr) → IsGuard ts x e → expr_fits b 0 e ≡ true → nat_lt (last_parts e) 500 ≡ true → has_room (prefixes e) ≡ true → has_room b ≡ true → (at : Place) (v : Token) (vs : List Token) (s : Stack) → IsOp o.LeftBrace v → run (ts ++ v ∷ vs) (OfSwitch (SwitchHead b at) ∷ s) ≡ run vs (OfSwitch (InSwitchBraces (switch_part (b + 1) at t.NoStmt (OnGuard x e) [])) ∷ s)
head_guard b i _ _ e (guard {ts} {u} {v} {w} {x} d wants hu hv hw hx) fits short deep room at y ys s hy =
    run_assoc ts (u ∷ v ∷ w ∷ x ∷ []) (y ∷ ys) (OfSwitch (SwitchHead b at) ∷ s)
    ∙ head_guard_from b i ts e d (expr_begun d).begins fits short deep wants room at u v w x (record { dot = hu; open_paren = hv; word = hw; close_paren = hx }) y ys s hy
head_guard b i _ _ e (named_guard {ts} {y = n} {z = m} {u} {v} {w} {x} hn hm d wants hu hv hw hx) fits short deep room at y ys s hy =
    let es : List t.Expr = t.NameExpr n.place n.text ∷ [] in
    let rest : List Token = u ∷ v ∷ w ∷ x ∷ y ∷ ys in
    let s' : Stack = OfSwitch (SwitchHead b at) ∷ s in
    let name : run (n ∷ m ∷ (ts ++ rest)) s' ≡ run (ts ++ rest) (OfStmt (Right (spot b true InSwitch n.place) es true) ∷ s') = simp (hn.name, hm.op) in
    let opened : run (x ∷ y ∷ ys) (Done (AGuard None e) ∷ OfStmt (Defined (spot b true InSwitch n.place) es []) ∷ s') ≡ run ys (OfSwitch (InSwitchBraces (switch_part (b + 1) at t.NoStmt (OnGuard (Some (name_of n)) e) [])) ∷ s) = simp (hx.op, hy.op, room) in
    run_assoc (n ∷ m ∷ ts) (u ∷ v ∷ w ∷ x ∷ []) (y ∷ ys) s'
    ∙ (name
    ∙ (from_first begins_expr ts (OfStmt (Right (spot b true InSwitch n.place) es true) ∷ s') (OfExpr (Operand (ctx 0 b true true)) ∷ OfExpr (Chain (ctx 0 b true true)) ∷ OfStmt (Defined (spot b true InSwitch n.place) es []) ∷ s') (expr_begun d).begins (define_begins b true InSwitch n.place es s') rest
    ∙ (guard_reads b i true ts e d fits short deep wants u v w x (record { dot = hu; open_paren = hv; word = hw; close_paren = hx }) (y ∷ ys) (OfStmt (Defined (spot b true InSwitch n.place) es []) ∷ s')
    ∙ opened)))

tag_guard_from : (b : ℕ) → Inside b → (ts : List Token) (e : t.Expr) → IsExpr 1 true ts e → first_is begins_expr ts ≡ true → expr_fits b 0 e ≡ true → nat_lt (last_parts e) 500 ≡ true → has_room (prefixes e) ≡ true → wants_dot e ≡ false → has_room b ≡ true → (at : Place) (init : t.MaybeStmt) (u v w x : Token) → GuardTokens u v w x → (y : Token) (ys : List Token) (s : Stack) → IsOp o.LeftBrace y → run (ts ++ u ∷ v ∷ w ∷ x ∷ y ∷ ys) (OfSwitch (SwitchTag b at init) ∷ s) ≡ run ys (OfSwitch (InSwitchBraces (switch_part (b + 1) at init (OnGuard None e) [])) ∷ s)
tag_guard_from b i [] e d first fits short deep wants room at init u v w x g y ys s hy = cc
tag_guard_from b i (z ∷ ts) e d first fits short deep wants room at init u v w x g y ys s hy =
    let opened : run (x ∷ y ∷ ys) (Done (AGuard None e) ∷ OfStmt (Simple (spot b true InTag z.place) []) ∷ OfSwitch (SwitchTag b at init) ∷ s) ≡ run ys (OfSwitch (InSwitchBraces (switch_part (b + 1) at init (OnGuard None e) [])) ∷ s) = simp (g.close_paren.op, hy.op, room) in
    tag_starts b at init s z (ts ++ u ∷ v ∷ w ∷ x ∷ y ∷ ys) first
    ∙ (guard_reads b i true (z ∷ ts) e d fits short deep wants u v w x g (y ∷ ys) (OfStmt (Simple (spot b true InTag z.place) []) ∷ OfSwitch (SwitchTag b at init) ∷ s)
    ∙ opened)

tag_guard : (b : ℕ) → Inside b → (ts : List Token) (x : Option Name) (e : t.Expr) → IsGuard ts x e → expr_fits b 0 e ≡ true → nat_lt (last_parts e) 500 ≡ true → has_room (prefixes e) ≡ true → has_room b ≡ true → (at : Place) (init : t.MaybeStmt) (v : Token) (vs : List Token) (s : Stack) → IsOp o.LeftBrace v → run (ts ++ v ∷ vs) (OfSwitch (SwitchTag b at init) ∷ s) ≡ run vs (OfSwitch (InSwitchBraces (switch_part (b + 1) at init (OnGuard x e) [])) ∷ s)
tag_guard b i _ _ e (guard {ts} {u} {v} {w} {x} d wants hu hv hw hx) fits short deep room at init y ys s hy =
    run_assoc ts (u ∷ v ∷ w ∷ x ∷ []) (y ∷ ys) (OfSwitch (SwitchTag b at init) ∷ s)
    ∙ tag_guard_from b i ts e d (expr_begun d).begins fits short deep wants room at init u v w x (record { dot = hu; open_paren = hv; word = hw; close_paren = hx }) y ys s hy
tag_guard b i _ _ e (named_guard {ts} {y = n} {z = m} {u} {v} {w} {x} hn hm d wants hu hv hw hx) fits short deep room at init y ys s hy =
    let es : List t.Expr = t.NameExpr n.place n.text ∷ [] in
    let rest : List Token = u ∷ v ∷ w ∷ x ∷ y ∷ ys in
    let s' : Stack = OfSwitch (SwitchTag b at init) ∷ s in
    let name : run (n ∷ m ∷ (ts ++ rest)) s' ≡ run (ts ++ rest) (OfStmt (Right (spot b true InTag n.place) es true) ∷ s') = simp (hn.name, hm.op) in
    let opened : run (x ∷ y ∷ ys) (Done (AGuard None e) ∷ OfStmt (Defined (spot b true InTag n.place) es []) ∷ s') ≡ run ys (OfSwitch (InSwitchBraces (switch_part (b + 1) at init (OnGuard (Some (name_of n)) e) [])) ∷ s) = simp (hx.op, hy.op, room) in
    run_assoc (n ∷ m ∷ ts) (u ∷ v ∷ w ∷ x ∷ []) (y ∷ ys) s'
    ∙ (name
    ∙ (from_first begins_expr ts (OfStmt (Right (spot b true InTag n.place) es true) ∷ s') (OfExpr (Operand (ctx 0 b true true)) ∷ OfExpr (Chain (ctx 0 b true true)) ∷ OfStmt (Defined (spot b true InTag n.place) es []) ∷ s') (expr_begun d).begins (define_begins b true InTag n.place es s') rest
    ∙ (guard_reads b i true ts e d fits short deep wants u v w x (record { dot = hu; open_paren = hv; word = hw; close_paren = hx }) (y ∷ ys) (OfStmt (Defined (spot b true InTag n.place) es []) ∷ s')
    ∙ opened)))

guard_head : (b : ℕ) → Inside b → (ts us' : List Token) (init : t.MaybeStmt) (x : Option Name) (e : t.Expr) → IsBefore ts init → IsGuard us' x e → maybe_stmt_fits b init ≡ true → expr_fits b 0 e ≡ true → nat_lt (last_parts e) 500 ≡ true → has_room (prefixes e) ≡ true → has_room b ≡ true → (at : Place) (v : Token) (vs : List Token) (s : Stack) → IsOp o.LeftBrace v → run ((ts ++ us') ++ v ∷ vs) (OfSwitch (SwitchHead b at) ∷ s) ≡ run vs (OfSwitch (InSwitchBraces (switch_part (b + 1) at init (OnGuard x e) [])) ∷ s)
guard_head b i _ us' _ x e nothing_before gd fits_init fits short deep room at v vs s hv = head_guard b i us' x e gd fits short deep room at v vs s hv
guard_head b i _ us' _ x e (before {ts} {s = init} {u} p semi) gd fits_init fits short deep room at v vs s hv =
    run_assoc (ts ++ u ∷ []) us' (v ∷ vs) (OfSwitch (SwitchHead b at) ∷ s)
    ∙ (run_assoc ts (u ∷ []) (us' ++ v ∷ vs) (OfSwitch (SwitchHead b at) ∷ s)
    ∙ (switch_init b i ts init p fits_init at u (us' ++ v ∷ vs) s semi
    ∙ tag_guard b i us' x e gd fits short deep room at init v vs s hv))

-- what is deeper than the next block
below_next : (b : ℕ) → Below b → Below (b + 1)
below_next b below c le room = below c (omega arith) room

-- the clauses and the `}`
braces_read : (b : ℕ) → Below b → has_room b ≡ true → (ts : List Token) (cs : t.Clauses) (w : Token) → AreClauses w.place ts cs → clauses_fit (b + 1) cs ≡ true → (p : Place) (init : t.MaybeStmt) (z : Subject) (ws : List Token) (s : Stack) → IsOp o.RightBrace w → run (ts ++ w ∷ ws) (OfSwitch (InSwitchBraces (switch_part (b + 1) p init z [])) ∷ s) ≡ run ws (Done (AStmt (switched p init z cs)) ∷ s)
braces_read b below room ts cs w d fits p init z ws s hw = clauses_read (b + 1) (inside_of (b + 1) (below_next b below)) (below b (omega arith) room) d fits p init z [] w ws s hw refl

expr_switch_reads : (b : ℕ) → Below b → (ts us' vs : List Token) (init : t.MaybeStmt) (e : t.MaybeExpr) (cs : t.Clauses) (u v w : Token) → IsWord word.Switch u → IsBefore ts init → PerhapsCondition us' e → IsOp o.LeftBrace v → AreClauses w.place vs cs → IsOp o.RightBrace w → SwitchReads b (u ∷ ts ++ us' ++ v ∷ vs ++ w ∷ []) (t.SwitchStmt u.place init e cs)
expr_switch_reads b below ts us' vs init e cs u v w hu bf cd hv dcs hw fits s s' starts us =
    let room : has_room b ≡ true = second_part _ _ (first_part _ _ fits) in
    let fits_e : maybe_fits b 0 e ≡ true = second_part _ _ (first_part _ _ (first_part _ _ fits)) in
    let fits_init : maybe_stmt_fits b init ≡ true = first_part _ _ (first_part _ _ (first_part _ _ fits)) in
    run_assoc (u ∷ ts ++ us' ++ v ∷ vs) (w ∷ []) us s
    ∙ (run_assoc (u ∷ ts ++ us') (v ∷ vs) (w ∷ us) s
    ∙ (starts u ((ts ++ us') ++ v ∷ (vs ++ w ∷ us)) hu
    ∙ (expr_head b (inside_of b below) ts us' init e bf cd fits_init fits_e room u.place v (vs ++ w ∷ us) s' hv
    ∙ braces_read b below room vs cs w dcs (second_part _ _ fits) u.place init (OnTag e) us s' hw)))

type_switch_reads : (b : ℕ) → Below b → (ts us' vs : List Token) (init : t.MaybeStmt) (x : Option Name) (e : t.Expr) (cs : t.Clauses) (u v w : Token) → IsWord word.Switch u → IsBefore ts init → IsGuard us' x e → IsOp o.LeftBrace v → AreClauses w.place vs cs → IsOp o.RightBrace w → SwitchReads b (u ∷ ts ++ us' ++ v ∷ vs ++ w ∷ []) (t.TypeSwitchStmt u.place init x e cs)
type_switch_reads b below ts us' vs init x e cs u v w hu bf gd hv dcs hw fits s s' starts us =
    let room : has_room b ≡ true = second_part _ _ (first_part _ _ fits) in
    let fits_e : expr_fits b 0 e ≡ true = second_part _ _ (first_part _ _ (first_part _ _ fits)) in
    let deep : has_room (prefixes e) ≡ true = second_part _ _ (first_part _ _ (first_part _ _ (first_part _ _ fits))) in
    let short : nat_lt (last_parts e) 500 ≡ true = shorter (last_parts e) (second_part _ _ (first_part _ _ (first_part _ _ (first_part _ _ (first_part _ _ fits))))) in
    let fits_init : maybe_stmt_fits b init ≡ true = first_part _ _ (first_part _ _ (first_part _ _ (first_part _ _ (first_part _ _ fits)))) in
    run_assoc (u ∷ ts ++ us' ++ v ∷ vs) (w ∷ []) us s
    ∙ (run_assoc (u ∷ ts ++ us') (v ∷ vs) (w ∷ us) s
    ∙ (starts u ((ts ++ us') ++ v ∷ (vs ++ w ∷ us)) hu
    ∙ (guard_head b (inside_of b below) ts us' init x e bf gd fits_init fits_e short deep room u.place v (vs ++ w ∷ us) s' hv
    ∙ braces_read b below room vs cs w dcs (second_part _ _ fits) u.place init (OnGuard x e) us s' hw)))

switch_reads : (b : ℕ) → Below b → {ts : List Token} {x : t.Stmt} → IsSwitch ts x → SwitchReads b ts x
switch_reads b below (expr_switch {ts} {us} {vs} {init} {e} {cs} {u} {v} {w} hu bf cd hv dcs hw) = expr_switch_reads b below ts us vs init e cs u v w hu bf cd hv dcs hw
switch_reads b below (type_switch {ts} {us} {vs} {init} {x} {e} {cs} {u} {v} {w} hu bf gd hv dcs hw) = type_switch_reads b below ts us vs init x e cs u v w hu bf gd hv dcs hw

label_starts_switch : (b n : ℕ) (s : Stack) → StartsSwitch b (OfStmt (AfterLabel b n) ∷ s) s
label_starts_switch b n s u us h = simp h.word

pub switch_stmt_reads : (b : ℕ) → Below b → (at : Place) {ts : List Token} {x : t.Stmt} → IsSwitch ts x → StmtReads b at ts x
switch_stmt_reads b below at {ts} {x} d fits n short u us s hu place = switch_reads b below d fits (OfStmt (AfterLabel b n) ∷ s) s (label_starts_switch b n s) (u ∷ us)

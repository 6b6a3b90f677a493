-- Each rule on `if` and `for`.
use Rattle.std.proofs.Common.{◌≡◌, ◌+◌, ◌≤◌, ℕ, true, false, nat_lt, ◌&&◌, List, [], ◌∷◌, ◌++◌, refl, ◌∙◌, ap, append_assoc, arith}
use Rattle.std.proofs.lemmas.Bool.{and_left, and_right}
use Rattle.std.proofs.lemmas.Bool.Decides.{nat_tests}
use Rattle.gj_base.specs.declared.place.Place.{Place}
use Rattle.go_syntax.specs.Tree as t
use Rattle.go_syntax.specs.Token.{Token}
use Rattle.go_syntax.specs.declared.keyword.Keyword.TheVariants as word
use Rattle.go_syntax.specs.declared.operator.Operator.TheVariants as o
use Rattle.go_grammar.specs.Classes.{IsOp, IsWord, IsSemicolon, written, inserted, place_of}
use Rattle.go_grammar.specs.Context.{wants_brace}
use Rattle.go_grammar.specs.Frames.{Headed, AnExpr, AStmt, ABlock, Frame, OfExpr, OfStmt, OfControl, Done, Stack, Operand, Chain, Simple, InBlock, AfterLabel, IfPart, AtIf, Condition, Then, AtElse, Other}
use Rattle.go_grammar.specs.Limits.{has_room, is_short, expr_fits, stmt_fits, stmts_fit, block_fits, maybe_stmt_fits, elses}
use Rattle.go_grammar.specs.Grammar.{IsExpr, IsBlock, block_braces, IsBefore, nothing_before, before, PerhapsSimple, without_simple, with_simple, IsCondition, condition, IsIf, without_else, with_else, IsElse, else_if, else_block}
use Rattle.go_grammar.specs.Nodes.{is_op, is_word, is_semicolon, begins_expr}
use Rattle.go_grammar.specs.Parsed.{run}
use Rattle.go_grammar.proofs.Stepping.{ctx, of_kind, run_assoc, first_part, second_part}
use Rattle.go_grammar.proofs.Starting.{starts_expr, from_first, expr_no_semicolon}
use Rattle.go_grammar.proofs.Begins.{expr_begun}
use Rattle.go_grammar.proofs.OperandRules.{Inside}
use Rattle.go_grammar.proofs.Simples.{one_reads, StartsSimple, simple_in, expr_in_simple}
use Rattle.go_grammar.proofs.StmtReadings.{EndsStmt, EndsList, ended_expr, ends_semicolon, ends_open, spot}
use Rattle.go_grammar.proofs.StmtRules.{StmtReads}

abbrev if_part : ℕ → Place → ℕ → t.MaybeStmt → IfPart
if_part b at n init = record { blocks = b; place = at; elses = n; init = init }

pub semi_no_brace : {u : Token} → IsSemicolon u → is_op o.LeftBrace u ≡ false
semi_no_brace (written h) = ap (λ k. is_op o.LeftBrace (of_kind k)) h
semi_no_brace (inserted h) = ap (λ k. is_op o.LeftBrace (of_kind k)) h

if_starts : (b : ℕ) (x : IfPart) (s : Stack) → x.blocks ≡ b → StartsSimple b true Headed (OfControl (AtIf x) ∷ s) (OfControl (AtIf x) ∷ s)
if_starts b x s same u us first =
    let no_semi : is_semicolon u.kind ≡ false = expr_no_semicolon u.kind first in
    starts_expr u us (OfControl (AtIf x)) s (OfStmt (Simple (spot b true Headed u.place) []) ∷ OfControl (AtIf x) ∷ s) (ctx 0 b true false) (simp (no_semi, same))

if_init_none : (x : IfPart) (v : Token) (vs : List Token) (s : Stack) → IsSemicolon v → run (v ∷ vs) (OfControl (AtIf x) ∷ s) ≡ run vs (OfControl (Condition x) ∷ s)
if_init_none x v vs s (written h) = simp h
if_init_none x v vs s (inserted h) = simp h

if_init_some : (b n : ℕ) (at : Place) (y : t.Stmt) (v : Token) (vs : List Token) (s : Stack) → IsSemicolon v → run (v ∷ vs) (Done (AStmt y) ∷ OfControl (AtIf (if_part b at n t.NoStmt)) ∷ s) ≡ run vs (OfControl (Condition (if_part b at n (t.AStmt y))) ∷ s)
if_init_some b n at y v vs s (written h) = simp h
if_init_some b n at y v vs s (inserted h) = simp h

if_init : (b : ℕ) → Inside b → (ts : List Token) (init : t.MaybeStmt) → PerhapsSimple ts init → maybe_stmt_fits b init ≡ true → (n : ℕ) (at : Place) (v : Token) (vs : List Token) (s : Stack) → IsSemicolon v → run (ts ++ v ∷ vs) (OfControl (AtIf (if_part b at n t.NoStmt)) ∷ s) ≡ run vs (OfControl (Condition (if_part b at n init)) ∷ s)
if_init b i _ _ without_simple fits n at v vs s hv = if_init_none (if_part b at n t.NoStmt) v vs s hv
if_init b i _ _ (with_simple {ts} {s = y} d) fits n at v vs s hv =
    simple_in b i d fits Headed refl refl (OfControl (AtIf (if_part b at n t.NoStmt)) ∷ s) (OfControl (AtIf (if_part b at n t.NoStmt)) ∷ s) (if_starts b (if_part b at n t.NoStmt) s refl) v vs (ends_semicolon hv) (and_left _ _ (semi_no_brace hv))
    ∙ if_init_some b n at y v vs s hv

-- an expression in a frame of a header, up to the token after it
pub header_expr : (b : ℕ) → Inside b → (ts : List Token) (e : t.Expr) → IsExpr 1 true ts e → expr_fits b 0 e ≡ true → (f : Frame) (s s' : Stack) → ((u : Token) (us : List Token) → begins_expr u.kind ≡ true → run (u ∷ us) (f ∷ s) ≡ run (u ∷ us) (OfExpr (Operand (ctx 0 b true false)) ∷ OfExpr (Chain (ctx 0 b true false)) ∷ s')) → (v : Token) (vs : List Token) → EndsStmt v → (is_op o.LeftBrace v && wants_brace e) ≡ false → run (ts ++ v ∷ vs) (f ∷ s) ≡ run (v ∷ vs) (Done (AnExpr e) ∷ s')
header_expr b i ts e d fits f s s' starts v vs hv brace =
    from_first begins_expr ts (f ∷ s) (OfExpr (Operand (ctx 0 b true false)) ∷ OfExpr (Chain (ctx 0 b true false)) ∷ s') (expr_begun d).begins starts (v ∷ vs)
    ∙ one_reads b i true ts e d 0 false fits v vs s' (ended_expr true e v hv brace)

-- a condition with its `{`
if_head : (b : ℕ) → Inside b → (ts us' : List Token) (init : t.MaybeStmt) (e : t.Expr) → IsBefore ts init → IsCondition us' e → maybe_stmt_fits b init ≡ true → expr_fits b 0 e ≡ true → has_room b ≡ true → (n : ℕ) (at : Place) (v : Token) (vs : List Token) (s : Stack) → IsOp o.LeftBrace v → run ((ts ++ us') ++ v ∷ vs) (OfControl (AtIf (if_part b at n t.NoStmt)) ∷ s) ≡ run vs (OfStmt (InBlock (b + 1) v.place []) ∷ OfControl (Then (if_part b at n init) e) ∷ s)
if_head b i _ us' _ e nothing_before (condition d wants) fits_init fits room n at v vs s hv =
    let x : IfPart = if_part b at n t.NoStmt in
    let opened : run (v ∷ vs) (Done (AStmt (t.ExprStmt (place_of us') (t.MoreExprs e t.NoExprs))) ∷ OfControl (AtIf x) ∷ s) ≡ run vs (OfStmt (InBlock (b + 1) v.place []) ∷ OfControl (Then x e) ∷ s) = simp (hv.op, room) in
    expr_in_simple b i d fits Headed refl refl (OfControl (AtIf x) ∷ s) (OfControl (AtIf x) ∷ s) (if_starts b x s refl) v vs (ends_open hv) (and_right _ _ wants)
    ∙ opened
if_head b i _ us' _ e (before {ts} {s = init} {u} p semi) (condition d wants) fits_init fits room n at v vs s hv =
    let x : IfPart = if_part b at n t.NoStmt in
    let y : IfPart = if_part b at n init in
    let opened : run (v ∷ vs) (Done (AnExpr e) ∷ OfControl (Condition y) ∷ s) ≡ run vs (OfStmt (InBlock (b + 1) v.place []) ∷ OfControl (Then y e) ∷ s) = simp (hv.op, room) in
    run_assoc (ts ++ u ∷ []) us' (v ∷ vs) (OfControl (AtIf x) ∷ s)
    ∙ (run_assoc ts (u ∷ []) (us' ++ v ∷ vs) (OfControl (AtIf x) ∷ s)
    ∙ (if_init b i ts init p fits_init n at u (us' ++ v ∷ vs) s semi
    ∙ (header_expr b i us' e d fits (OfControl (Condition y)) s (OfControl (Condition y) ∷ s) (λ w ws first. starts_expr w ws (OfControl (Condition y)) s (OfControl (Condition y) ∷ s) (ctx 0 b true false) refl) v vs (ends_open hv) (and_right _ _ wants)
    ∙ opened)))

-- the stack begins an `if` at its word, after so many `else`
abbrev StartsIf : ℕ → ℕ → Stack → Stack → Type 0
StartsIf b n s s' = (u : Token) (us : List Token) → IsWord word.If u → run (u ∷ us) s ≡ run us (OfControl (AtIf (if_part b u.place n t.NoStmt)) ∷ s')

-- how many `else` a statement has, an `if`
abbrev pub elses_after : t.Stmt → ℕ
elses_after (t.IfStmt at init e bl other) = elses other
elses_after _ = 0

abbrev pub IfReads : ℕ → List Token → t.Stmt → Type 0
IfReads b ts x = stmt_fits b x ≡ true → (n : ℕ) → n + elses_after x ≤ 500 → (s s' : Stack) → StartsIf b n s s' → (u : Token) (us : List Token) → EndsList u → run (ts ++ u ∷ us) s ≡ run (u ∷ us) (Done (AStmt x) ∷ s')

abbrev pub ElseReads : ℕ → List Token → t.Stmt → Type 0
ElseReads b ts x = stmt_fits b x ≡ true → (n : ℕ) → nat_lt n 500 ≡ true → n + elses (t.AStmt x) ≤ 500 → (at : Place) (init : t.MaybeStmt) (e : t.Expr) (bl : t.Block) (u : Token) (us : List Token) (s : Stack) → EndsList u → run (ts ++ u ∷ us) (OfControl (AtElse (if_part b at n init) e bl) ∷ s) ≡ run (u ∷ us) (Done (AStmt (t.IfStmt at init e bl (t.AStmt x))) ∷ s)

-- `if`, its condition and its block
if_then : (b : ℕ) → Inside b → (ts us' vs' : List Token) (init : t.MaybeStmt) (e : t.Expr) (bl : t.Block) (v : Token) → IsWord word.If v → IsBefore ts init → IsCondition us' e → IsBlock vs' bl → maybe_stmt_fits b init ≡ true → expr_fits b 0 e ≡ true → block_fits b bl ≡ true → (n : ℕ) (s s' : Stack) → StartsIf b n s s' → (us : List Token) → run ((v ∷ ts ++ us' ++ vs') ++ us) s ≡ run us (Done (ABlock bl) ∷ OfControl (Then (if_part b v.place n init) e) ∷ s')
if_then b i ts us' _ init e _ v hv bf cd (block_braces {ts = body} {ss} {u = x} {v = y} hx d hy) fits_init fits_e fits_bl n s s' starts us =
    let room : has_room b ≡ true = first_part _ _ fits_bl in
    let within : stmts_fit (b + 1) ss ≡ true = second_part _ _ fits_bl in
    run_assoc (v ∷ ts ++ us') (x ∷ body ++ y ∷ []) us s
    ∙ (ap (λ zs. run ((v ∷ ts ++ us') ++ x ∷ zs) s) (append_assoc body (y ∷ []) us)
    ∙ (starts v ((ts ++ us') ++ x ∷ (body ++ y ∷ us)) hv
    ∙ (if_head b i ts us' init e bf cd fits_init fits_e room n v.place x (body ++ y ∷ us) s' hx
    ∙ i room y.place body ss d within x.place y us (OfControl (Then (if_part b v.place n init) e) ∷ s') hy refl)))

pub without_else_reads : (b : ℕ) → Inside b → (ts us' vs' : List Token) (init : t.MaybeStmt) (e : t.Expr) (bl : t.Block) (v : Token) → IsWord word.If v → IsBefore ts init → IsCondition us' e → IsBlock vs' bl → IfReads b (v ∷ ts ++ us' ++ vs') (t.IfStmt v.place init e bl t.NoStmt)
without_else_reads b i ts us' vs' init e bl v hv bf cd d fits n short s s' starts u us hu =
    let no_else : is_word word.Else u ≡ false = hu.no_else in
    let over : run (u ∷ us) (Done (ABlock bl) ∷ OfControl (Then (if_part b v.place n init) e) ∷ s') ≡ run (u ∷ us) (Done (AStmt (t.IfStmt v.place init e bl t.NoStmt)) ∷ s') = simp no_else in
    if_then b i ts us' vs' init e bl v hv bf cd d (first_part _ _ (first_part _ _ (first_part _ _ fits))) (second_part _ _ (first_part _ _ (first_part _ _ fits))) (second_part _ _ (first_part _ _ fits)) n s s' starts (u ∷ us)
    ∙ over

below_limit : (n m : ℕ) → n + m ≤ 500 → 1 ≤ m → nat_lt n 500 ≡ true
below_limit n m h h' = grind (arith, nat_tests)

pub with_else_reads : (b : ℕ) → Inside b → (ts us' vs' ws : List Token) (init : t.MaybeStmt) (e : t.Expr) (bl : t.Block) (y : t.Stmt) (v w : Token) → IsWord word.If v → IsBefore ts init → IsCondition us' e → IsBlock vs' bl → IsWord word.Else w → 1 ≤ elses (t.AStmt y) → ElseReads b ws y → IfReads b (v ∷ ts ++ us' ++ vs' ++ w ∷ ws) (t.IfStmt v.place init e bl (t.AStmt y))
with_else_reads b i ts us' vs' ws init e bl y v w hv bf cd d hw some ih fits n short s s' starts u us hu =
    let room : nat_lt n 500 ≡ true = below_limit n (elses (t.AStmt y)) short some in
    let taken : run (w ∷ (ws ++ u ∷ us)) (Done (ABlock bl) ∷ OfControl (Then (if_part b v.place n init) e) ∷ s') ≡ run (ws ++ u ∷ us) (OfControl (AtElse (if_part b v.place n init) e bl) ∷ s') = simp (hw.word, room) in
    run_assoc (v ∷ ts ++ us' ++ vs') (w ∷ ws) (u ∷ us) s
    ∙ (if_then b i ts us' vs' init e bl v hv bf cd d (second_part _ _ (first_part _ _ (first_part _ _ (first_part _ _ fits)))) (second_part _ _ (first_part _ _ (first_part _ _ fits))) (second_part _ _ (first_part _ _ fits)) n s s' starts (w ∷ ws ++ u ∷ us)
    ∙ (taken
    ∙ ih (second_part _ _ fits) n room short v.place init e bl u us s' hu))

else_starts : (b n : ℕ) (at : Place) (init : t.MaybeStmt) (e : t.Expr) (bl : t.Block) (s : Stack) → nat_lt n 500 ≡ true → StartsIf b (n + 1) (OfControl (AtElse (if_part b at n init) e bl) ∷ s) (OfControl (Other (if_part b at n init) e bl) ∷ s)
else_starts b n at init e bl s room u us hu = simp (hu.word, room)

one_else : (n m k : ℕ) → k ≡ m + 1 → n + k ≤ 500 → n + 1 + m ≤ 500
one_else n m k same h = omega (arith, same)

pub else_if_reads : (b : ℕ) (ts : List Token) (x : t.Stmt) → elses (t.AStmt x) ≡ elses_after x + 1 → IfReads b ts x → ElseReads b ts x
else_if_reads b ts x same ih fits n room short at init e bl u us s hu =
    ih fits (n + 1) (one_else n (elses_after x) (elses (t.AStmt x)) same short) (OfControl (AtElse (if_part b at n init) e bl) ∷ s) (OfControl (Other (if_part b at n init) e bl) ∷ s) (else_starts b n at init e bl s room) u us hu

pub else_block_reads : (b : ℕ) → Inside b → (ts : List Token) (c : t.Block) → IsBlock ts c → ElseReads b ts (t.BlockStmt (place_of ts) c)
else_block_reads b i _ _ (block_braces {ts = body} {ss} {u = x} {v = y} hx d hy) fits n room' short at init e bl u us s hu =
    let room : has_room b ≡ true = first_part _ _ fits in
    let within : stmts_fit (b + 1) ss ≡ true = second_part _ _ fits in
    let p : IfPart = if_part b at n init in
    let opened : run (x ∷ (body ++ y ∷ u ∷ us)) (OfControl (AtElse p e bl) ∷ s) ≡ run (body ++ y ∷ u ∷ us) (OfStmt (InBlock (b + 1) x.place []) ∷ OfControl (Other p e bl) ∷ s) = simp (hx.op, room) in
    ap (λ zs. run (x ∷ zs) (OfControl (AtElse p e bl) ∷ s)) (append_assoc body (y ∷ []) (u ∷ us))
    ∙ (opened
    ∙ i room y.place body ss d within x.place y (u ∷ us) (OfControl (Other p e bl) ∷ s) hy refl)

if_place : {ts : List Token} {x : t.Stmt} → IsIf ts x → elses (t.AStmt x) ≡ elses_after x + 1
if_place (without_else h bf cd d) = refl
if_place (with_else h bf cd d k y) = refl

else_some : {ts : List Token} {x : t.Stmt} → IsElse ts x → 1 ≤ elses (t.AStmt x)
else_some (else_if (without_else h bf cd d)) = omega arith
else_some (else_if (with_else h bf cd d k y)) = omega arith
else_some (else_block d) = omega arith

mutual
  pub if_reads : (b : ℕ) → Inside b → {ts : List Token} {x : t.Stmt} → IsIf ts x → IfReads b ts x
  if_reads b i (without_else {ts} {us} {vs} {init} {e} {b = bl} {u} h bf cd d) = without_else_reads b i ts us vs init e bl u h bf cd d
  if_reads b i (with_else {ts} {us} {vs} {ws} {init} {e} {b = bl} {s = y} {u} {v} h bf cd d k z) = with_else_reads b i ts us vs ws init e bl y u v h bf cd d k (else_some z) (else_reads b i z)

  else_reads : (b : ℕ) → Inside b → {ts : List Token} {x : t.Stmt} → IsElse ts x → ElseReads b ts x
  else_reads b i (else_if {ts} {s = x} d) = else_if_reads b ts x (if_place d) (if_reads b i d)
  else_reads b i (else_block {ts} {b = bl} d) = else_block_reads b i ts bl d

short_elses : (n : ℕ) → is_short n ≡ true → 0 + n ≤ 500
short_elses n h = grind (arith, nat_tests)

if_short : (b : ℕ) {ts : List Token} (x : t.Stmt) → IsIf ts x → stmt_fits b x ≡ true → 0 + elses_after x ≤ 500
if_short b _ (without_else h bf cd d) fits = omega arith
if_short b _ (with_else {s = y} h bf cd d k z) fits = short_elses (elses (t.AStmt y)) (first_part _ _ (first_part _ _ (first_part _ _ (first_part _ _ fits))))

label_starts_if : (b n : ℕ) (s : Stack) → StartsIf b 0 (OfStmt (AfterLabel b n) ∷ s) s
label_starts_if b n s u us h = simp h.word

pub if_stmt_reads : (b : ℕ) → Inside b → (at : Place) {ts : List Token} {x : t.Stmt} → IsIf ts x → StmtReads b at ts x
if_stmt_reads b i at {ts} {x} d fits n short u us s hu place = if_reads b i d fits 0 (if_short b x d fits) (OfStmt (AfterLabel b n) ∷ s) s (label_starts_if b n s) u us hu

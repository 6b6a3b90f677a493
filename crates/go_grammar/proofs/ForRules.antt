-- Each rule on `for`.
use Rattle.std.proofs.Common.{◌≡◌, ◌+◌, ℕ, Bool, true, false, List, [], ◌∷◌, ◌++◌, refl, sym, ◌∙◌, ap, append_assoc}
use Rattle.std.proofs.lemmas.Bool.{and_left, and_right}
use Rattle.gj_base.specs.declared.place.Place.{Place}
use Rattle.go_syntax.specs.Tree as t
use Rattle.go_syntax.specs.Token.{Token}
use Rattle.go_syntax.specs.declared.keyword.Keyword.TheVariants as word
use Rattle.go_syntax.specs.declared.operator.Operator.TheVariants as o
use Rattle.go_grammar.specs.Classes.{IsOp, IsWord, IsSemicolon, written, inserted, place_of}
use Rattle.go_grammar.specs.Frames.{Ctx, Headed, InFor, AnExpr, AStmt, ARanging, OfExpr, OfStmt, OfControl, Done, Stack, Operand, Chain, Simple, InBlock, AfterLabel, ForPart, AtFor, ForCondition, Post, ForBody, AtRange, RangeBody}
use Rattle.go_grammar.specs.Limits.{has_room, expr_fits, exprs_fit, maybe_fits, stmt_fits, stmts_fit, maybe_stmt_fits}
use Rattle.go_grammar.specs.Grammar.{AreExprs, IsBlock, block_braces, PerhapsSimple, without_simple, with_simple, IsCondition, condition, PerhapsCondition, without_condition, with_condition, PerhapsPost, without_post, with_post, PerhapsHeaderExpr, without_header_expr, with_header_expr, IsFor, for_condition, for_clauses, for_range, for_range_assign, for_range_define}
use Rattle.go_grammar.specs.Nodes.{is_op, is_word, is_semicolon, begins_expr}
use Rattle.go_grammar.specs.Parsed.{run, hands, after_step}
use Rattle.go_grammar.specs.ExprSteps as step
use Rattle.go_grammar.proofs.Stepping.{ctx, run_assoc, first_part, second_part, Halts, halts_op}
use Rattle.go_grammar.proofs.Starting.{firm_stays, operand_firm, starts_expr, first_is, from_first, expr_no_semicolon, expr_no_open_brace, expr_no_range}
use Rattle.go_grammar.proofs.Begins.{expr_begun}
use Rattle.go_grammar.proofs.Readings.{halted_expr}
use Rattle.go_grammar.proofs.ListRules as list
use Rattle.go_grammar.proofs.ListRules.{front_of, last_of}
use Rattle.go_grammar.proofs.OperandRules.{Inside}
use Rattle.go_grammar.proofs.Exprs.{exprs_read, exprs_first}
use Rattle.go_grammar.proofs.SimpleRules.{left_side}
use Rattle.go_grammar.proofs.Simples.{one_reads, StartsSimple, simple_in, expr_in_simple}
use Rattle.go_grammar.proofs.StmtReadings.{ended_expr, ends_semicolon, ends_open, spot}
use Rattle.go_grammar.proofs.ControlRules.{semi_no_brace, header_expr}
use Rattle.go_grammar.proofs.StmtRules.{StmtReads}

abbrev for_part : ℕ → Place → ForPart
for_part b at = record { blocks = b; place = at }

for_starts : (b : ℕ) (at : Place) (s : Stack) → StartsSimple b true InFor (OfControl (AtFor (for_part b at)) ∷ s) (OfControl (AtFor (for_part b at)) ∷ s)
for_starts b at s u us first =
    let no_open : is_op o.LeftBrace u ≡ false = expr_no_open_brace u.kind first in
    let no_semi : is_semicolon u.kind ≡ false = expr_no_semicolon u.kind first in
    let no_range : is_word word.Range u ≡ false = expr_no_range u.kind first in
    starts_expr u us (OfControl (AtFor (for_part b at))) s (OfStmt (Simple (spot b true InFor u.place) []) ∷ OfControl (AtFor (for_part b at)) ∷ s) (ctx 0 b true false) (simp (no_open, no_semi, no_range))

-- [Expr] and `{`
for_open : (b : ℕ) → Inside b → (ts : List Token) (e : t.MaybeExpr) → PerhapsCondition ts e → maybe_fits b 0 e ≡ true → has_room b ≡ true → (at : Place) (v : Token) (vs : List Token) (s : Stack) → IsOp o.LeftBrace v → run (ts ++ v ∷ vs) (OfControl (AtFor (for_part b at)) ∷ s) ≡ run vs (OfStmt (InBlock (b + 1) v.place []) ∷ OfControl (ForBody (for_part b at) t.NoStmt e t.NoStmt) ∷ s)
for_open b i _ _ without_condition fits room at v vs s hv = simp (hv.op, room)
for_open b i _ _ (with_condition {ts} {e} (condition d wants)) fits room at v vs s hv =
    let opened : run (v ∷ vs) (Done (AStmt (t.ExprStmt (place_of ts) (t.MoreExprs e t.NoExprs))) ∷ OfControl (AtFor (for_part b at)) ∷ s) ≡ run vs (OfStmt (InBlock (b + 1) v.place []) ∷ OfControl (ForBody (for_part b at) t.NoStmt (t.AnExpr e) t.NoStmt) ∷ s) = simp (hv.op, room) in
    expr_in_simple b i d fits InFor refl refl (OfControl (AtFor (for_part b at)) ∷ s) (OfControl (AtFor (for_part b at)) ∷ s) (for_starts b at s) v vs (ends_open hv) (and_right _ _ wants)
    ∙ opened

for_init_none : (x : ForPart) (v : Token) (vs : List Token) (s : Stack) → IsSemicolon v → run (v ∷ vs) (OfControl (AtFor x) ∷ s) ≡ run vs (OfControl (ForCondition x t.NoStmt) ∷ s)
for_init_none x v vs s (written h) = simp h
for_init_none x v vs s (inserted h) = simp h

for_init_some : (x : ForPart) (y : t.Stmt) (v : Token) (vs : List Token) (s : Stack) → IsSemicolon v → run (v ∷ vs) (Done (AStmt y) ∷ OfControl (AtFor x) ∷ s) ≡ run vs (OfControl (ForCondition x (t.AStmt y)) ∷ s)
for_init_some x y v vs s (written h) = simp h
for_init_some x y v vs s (inserted h) = simp h

for_init : (b : ℕ) → Inside b → (ts : List Token) (init : t.MaybeStmt) → PerhapsSimple ts init → maybe_stmt_fits b init ≡ true → (at : Place) (v : Token) (vs : List Token) (s : Stack) → IsSemicolon v → run (ts ++ v ∷ vs) (OfControl (AtFor (for_part b at)) ∷ s) ≡ run vs (OfControl (ForCondition (for_part b at) init) ∷ s)
for_init b i _ _ without_simple fits at v vs s hv = for_init_none (for_part b at) v vs s hv
for_init b i _ _ (with_simple {ts} {s = y} d) fits at v vs s hv =
    simple_in b i d fits InFor refl refl (OfControl (AtFor (for_part b at)) ∷ s) (OfControl (AtFor (for_part b at)) ∷ s) (for_starts b at s) v vs (ends_semicolon hv) (and_left _ _ (semi_no_brace hv))
    ∙ for_init_some (for_part b at) y v vs s hv

for_cond_none : (x : ForPart) (init : t.MaybeStmt) (v : Token) (vs : List Token) (s : Stack) → IsSemicolon v → run (v ∷ vs) (OfControl (ForCondition x init) ∷ s) ≡ run vs (OfControl (Post x init t.NoExpr) ∷ s)
for_cond_none x init v vs s (written h) = simp h
for_cond_none x init v vs s (inserted h) = simp h

for_cond_some : (x : ForPart) (init : t.MaybeStmt) (e : t.Expr) (v : Token) (vs : List Token) (s : Stack) → IsSemicolon v → run (v ∷ vs) (Done (AnExpr e) ∷ OfControl (ForCondition x init) ∷ s) ≡ run vs (OfControl (Post x init (t.AnExpr e)) ∷ s)
for_cond_some x init e v vs s (written h) = simp h
for_cond_some x init e v vs s (inserted h) = simp h

for_cond_begins : (b : ℕ) (at : Place) (init : t.MaybeStmt) (s : Stack) (u : Token) (us : List Token) → begins_expr u.kind ≡ true → run (u ∷ us) (OfControl (ForCondition (for_part b at) init) ∷ s) ≡ run (u ∷ us) (OfExpr (Operand (ctx 0 b true false)) ∷ OfExpr (Chain (ctx 0 b true false)) ∷ OfControl (ForCondition (for_part b at) init) ∷ s)
for_cond_begins b at init s u us first =
    let no_semi : is_semicolon u.kind ≡ false = expr_no_semicolon u.kind first in
    starts_expr u us (OfControl (ForCondition (for_part b at) init)) s (OfControl (ForCondition (for_part b at) init) ∷ s) (ctx 0 b true false) (simp no_semi)

for_cond : (b : ℕ) → Inside b → (ts : List Token) (e : t.MaybeExpr) → PerhapsHeaderExpr ts e → maybe_fits b 0 e ≡ true → (at : Place) (init : t.MaybeStmt) (v : Token) (vs : List Token) (s : Stack) → IsSemicolon v → run (ts ++ v ∷ vs) (OfControl (ForCondition (for_part b at) init) ∷ s) ≡ run vs (OfControl (Post (for_part b at) init e) ∷ s)
for_cond b i _ _ without_header_expr fits at init v vs s hv = for_cond_none (for_part b at) init v vs s hv
for_cond b i _ _ (with_header_expr {ts} {e} d) fits at init v vs s hv =
    header_expr b i ts e d fits (OfControl (ForCondition (for_part b at) init)) s (OfControl (ForCondition (for_part b at) init) ∷ s) (for_cond_begins b at init s) v vs (ends_semicolon hv) (and_left _ _ (semi_no_brace hv))
    ∙ for_cond_some (for_part b at) init e v vs s hv

post_starts : (b : ℕ) (at : Place) (init : t.MaybeStmt) (e : t.MaybeExpr) (s : Stack) → StartsSimple b true Headed (OfControl (Post (for_part b at) init e) ∷ s) (OfControl (Post (for_part b at) init e) ∷ s)
post_starts b at init e s u us first =
    let no_open : is_op o.LeftBrace u ≡ false = expr_no_open_brace u.kind first in
    starts_expr u us (OfControl (Post (for_part b at) init e)) s (OfStmt (Simple (spot b true Headed u.place) []) ∷ OfControl (Post (for_part b at) init e) ∷ s) (ctx 0 b true false) (simp no_open)

for_post : (b : ℕ) → Inside b → (ts : List Token) (post : t.MaybeStmt) → PerhapsPost ts post → maybe_stmt_fits b post ≡ true → has_room b ≡ true → (at : Place) (init : t.MaybeStmt) (e : t.MaybeExpr) (v : Token) (vs : List Token) (s : Stack) → IsOp o.LeftBrace v → run (ts ++ v ∷ vs) (OfControl (Post (for_part b at) init e) ∷ s) ≡ run vs (OfStmt (InBlock (b + 1) v.place []) ∷ OfControl (ForBody (for_part b at) init e post) ∷ s)
for_post b i _ _ without_post fits room at init e v vs s hv = simp (hv.op, room)
for_post b i _ _ (with_post {ts} {s = y} d wants) fits room at init e v vs s hv =
    let opened : run (v ∷ vs) (Done (AStmt y) ∷ OfControl (Post (for_part b at) init e) ∷ s) ≡ run vs (OfStmt (InBlock (b + 1) v.place []) ∷ OfControl (ForBody (for_part b at) init e (t.AStmt y)) ∷ s) = simp (hv.op, room) in
    simple_in b i d fits Headed refl refl (OfControl (Post (for_part b at) init e) ∷ s) (OfControl (Post (for_part b at) init e) ∷ s) (post_starts b at init e s) v vs (ends_open hv) (and_right _ _ wants)
    ∙ opened

-- the header's expression after `range`, with its `{`
range_open : (b : ℕ) → Inside b → (ts : List Token) (e : t.Expr) → IsCondition ts e → expr_fits b 0 e ≡ true → has_room b ≡ true → (at : Place) (es : List t.Expr) (fresh : Bool) (v : Token) (vs : List Token) (s : Stack) → IsOp o.LeftBrace v → run (ts ++ v ∷ vs) (OfExpr (Operand (ctx 0 b true false)) ∷ OfExpr (Chain (ctx 0 b true false)) ∷ OfControl (AtRange (for_part b at) es fresh) ∷ s) ≡ run vs (OfStmt (InBlock (b + 1) v.place []) ∷ OfControl (RangeBody (for_part b at) es fresh e) ∷ s)
range_open b i ts e (condition d wants) fits room at es fresh v vs s hv =
    let opened : run (v ∷ vs) (Done (AnExpr e) ∷ OfControl (AtRange (for_part b at) es fresh) ∷ s) ≡ run vs (OfStmt (InBlock (b + 1) v.place []) ∷ OfControl (RangeBody (for_part b at) es fresh e) ∷ s) = simp (hv.op, room) in
    one_reads b i true ts e d 0 false fits v vs (OfControl (AtRange (for_part b at) es fresh) ∷ s) (ended_expr true e v (ends_open hv) (and_right _ _ wants))
    ∙ opened

-- after `x, y = range`, an expression begins
ranging_begins : (b : ℕ) (at : Place) (es : List t.Expr) (fresh : Bool) (s : Stack) (u : Token) (us : List Token) → begins_expr u.kind ≡ true → run (u ∷ us) (Done (ARanging es fresh) ∷ OfControl (AtFor (for_part b at)) ∷ s) ≡ run (u ∷ us) (OfExpr (Operand (ctx 0 b true false)) ∷ OfExpr (Chain (ctx 0 b true false)) ∷ OfControl (AtRange (for_part b at) es fresh) ∷ s)
ranging_begins b at es fresh s u us first =
    let c : Ctx = ctx 0 b true false in
    let s' : Stack = OfExpr (Chain c) ∷ OfControl (AtRange (for_part b at) es fresh) ∷ s in
    ap (λ x. after_step u (run us) x) (firm_stays (step.operand u c s') (hands u s) (operand_firm u c s'))
    ∙ sym (ap (λ x. after_step u (run us) x) (firm_stays (step.operand u c s') (hands u s') (operand_firm u c s')))

abbrev StartsFor : ℕ → Stack → Stack → Type 0
StartsFor b s s' = (u : Token) (us : List Token) → IsWord word.For u → run (u ∷ us) s ≡ run us (OfControl (AtFor (for_part b u.place)) ∷ s')

abbrev ForReads : ℕ → List Token → t.Stmt → Type 0
ForReads b ts x = stmt_fits b x ≡ true → (s s' : Stack) → StartsFor b s s' → (z : Token) (us : List Token) → run (ts ++ z ∷ us) s ≡ run (z ∷ us) (Done (AStmt x) ∷ s')

for_condition_reads : (b : ℕ) → Inside b → (ts us' : List Token) (e : t.MaybeExpr) (bl : t.Block) (v : Token) → IsWord word.For v → PerhapsCondition ts e → IsBlock us' bl → ForReads b (v ∷ ts ++ us') (t.ForStmt v.place t.NoStmt e t.NoStmt bl)
for_condition_reads b i ts _ e _ v hv cd (block_braces {ts = body} {ss} {u = x} {v = y} hx d hy) fits s s' starts z us =
    let room : has_room b ≡ true = first_part _ _ (second_part _ _ fits) in
    let within : stmts_fit (b + 1) ss ≡ true = second_part _ _ (second_part _ _ fits) in
    let fits_e : maybe_fits b 0 e ≡ true = first_part _ _ (first_part _ _ fits) in
    run_assoc (v ∷ ts) (x ∷ body ++ y ∷ []) (z ∷ us) s
    ∙ (ap (λ zs. run ((v ∷ ts) ++ x ∷ zs) s) (append_assoc body (y ∷ []) (z ∷ us))
    ∙ (starts v (ts ++ x ∷ (body ++ y ∷ (z ∷ us))) hv
    ∙ (for_open b i ts e cd fits_e room v.place x (body ++ y ∷ (z ∷ us)) s' hx
    ∙ i room y.place body ss d within x.place y (z ∷ us) (OfControl (ForBody (for_part b v.place) t.NoStmt e t.NoStmt) ∷ s') hy refl)))

for_clauses_read : (b : ℕ) → Inside b → (ts us' vs' ws : List Token) (init post : t.MaybeStmt) (e : t.MaybeExpr) (bl : t.Block) (u v w : Token) → IsWord word.For u → PerhapsSimple ts init → IsSemicolon v → PerhapsHeaderExpr us' e → IsSemicolon w → PerhapsPost vs' post → IsBlock ws bl → ForReads b (u ∷ ts ++ v ∷ us' ++ w ∷ vs' ++ ws) (t.ForStmt u.place init e post bl)
for_clauses_read b i ts us' vs' _ init post e _ u v w hu pi hv pe hw pp (block_braces {ts = body} {ss} {u = x} {v = y} hx d hy) fits s s' starts z us =
    let room : has_room b ≡ true = first_part _ _ (second_part _ _ fits) in
    let within : stmts_fit (b + 1) ss ≡ true = second_part _ _ (second_part _ _ fits) in
    let fits_post : maybe_stmt_fits b post ≡ true = second_part _ _ (first_part _ _ fits) in
    let fits_e : maybe_fits b 0 e ≡ true = second_part _ _ (first_part _ _ (first_part _ _ fits)) in
    let fits_init : maybe_stmt_fits b init ≡ true = first_part _ _ (first_part _ _ (first_part _ _ fits)) in
    let rest : List Token = body ++ y ∷ (z ∷ us) in
    run_assoc (u ∷ ts ++ v ∷ us' ++ w ∷ vs') (x ∷ body ++ y ∷ []) (z ∷ us) s
    ∙ (ap (λ zs. run ((u ∷ ts ++ v ∷ us' ++ w ∷ vs') ++ x ∷ zs) s) (append_assoc body (y ∷ []) (z ∷ us))
    ∙ (run_assoc (u ∷ ts ++ v ∷ us') (w ∷ vs') (x ∷ rest) s
    ∙ (run_assoc (u ∷ ts) (v ∷ us') (w ∷ vs' ++ x ∷ rest) s
    ∙ (starts u (ts ++ v ∷ (us' ++ (w ∷ vs' ++ x ∷ rest))) hu
    ∙ (for_init b i ts init pi fits_init u.place v (us' ++ (w ∷ vs' ++ x ∷ rest)) s' hv
    ∙ (for_cond b i us' e pe fits_e u.place init w (vs' ++ x ∷ rest) s' hw
    ∙ (for_post b i vs' post pp fits_post room u.place init e x rest s' hx
    ∙ i room y.place body ss d within x.place y (z ∷ us) (OfControl (ForBody (for_part b u.place) init e post) ∷ s') hy refl)))))))

for_range_reads : (b : ℕ) → Inside b → (ts us' : List Token) (e : t.Expr) (bl : t.Block) (u v : Token) → IsWord word.For u → IsWord word.Range v → IsCondition ts e → IsBlock us' bl → ForReads b (u ∷ v ∷ ts ++ us') (t.RangeStmt u.place t.NoExprs false e bl)
for_range_reads b i ts _ e _ u v hu hv cd (block_braces {ts = body} {ss} {u = x} {v = y} hx d hy) fits s s' starts z us =
    let room : has_room b ≡ true = first_part _ _ (second_part _ _ fits) in
    let within : stmts_fit (b + 1) ss ≡ true = second_part _ _ (second_part _ _ fits) in
    let fits_e : expr_fits b 0 e ≡ true = first_part _ _ fits in
    let rest : List Token = ts ++ x ∷ (body ++ y ∷ (z ∷ us)) in
    let range : run (v ∷ rest) (OfControl (AtFor (for_part b u.place)) ∷ s') ≡ run rest (OfExpr (Operand (ctx 0 b true false)) ∷ OfExpr (Chain (ctx 0 b true false)) ∷ OfControl (AtRange (for_part b u.place) [] false) ∷ s') = simp hv.word in
    run_assoc (u ∷ v ∷ ts) (x ∷ body ++ y ∷ []) (z ∷ us) s
    ∙ (ap (λ zs. run ((u ∷ v ∷ ts) ++ x ∷ zs) s) (append_assoc body (y ∷ []) (z ∷ us))
    ∙ (starts u (v ∷ rest) hu
    ∙ (range
    ∙ (range_open b i ts e cd fits_e room u.place [] false x (body ++ y ∷ (z ∷ us)) s' hx
    ∙ i room y.place body ss d within x.place y (z ∷ us) (OfControl (RangeBody (for_part b u.place) [] false e) ∷ s') hy refl))))

-- the operator after the left side
record EndsLeft (v : Token) (fresh : Bool) : Type 0 where
  pub halts : Halts v
  pub takes : (b : ℕ) (at : Place) (fs : List t.Expr) (e : t.Expr) (w : Token) (ws : List Token) (s : Stack) → IsWord word.Range w → run (v ∷ w ∷ ws) (Done (AnExpr e) ∷ OfStmt (Simple (spot b true InFor at) fs) ∷ s) ≡ run ws (Done (ARanging (fs ++ e ∷ []) fresh) ∷ s)

assign_ends : {v : Token} → IsOp o.Assign v → EndsLeft v false
assign_ends {v} hv = record {
  halts = halts_op hv refl;
  takes = λ b at fs e w ws s hw. simp (hv.op, hw.word);
}

define_ends : {v : Token} → IsOp o.Define v → EndsLeft v true
define_ends {v} hv = record {
  halts = halts_op hv refl;
  takes = λ b at fs e w ws s hw. simp (hv.op, hw.word);
}

condition_first : {ts : List Token} {e : t.Expr} → IsCondition ts e → first_is begins_expr ts ≡ true
condition_first (condition d wants) = (expr_begun d).begins

left_from : (b : ℕ) → Inside b → (ts : List Token) (xs : t.Exprs) → AreExprs true ts xs → exprs_fit b 0 xs ≡ true → first_is begins_expr ts ≡ true → (at : Place) (v : Token) (vs : List Token) (s : Stack) → Halts v → run (ts ++ v ∷ vs) (OfControl (AtFor (for_part b at)) ∷ s) ≡ run (v ∷ vs) (Done (AnExpr (last_of xs)) ∷ OfStmt (Simple (spot b true InFor (place_of ts)) (front_of xs)) ∷ OfControl (AtFor (for_part b at)) ∷ s)
left_from b i [] xs d fits first at v vs s hv = cc
left_from b i (w ∷ ts) xs d fits first at v vs s hv =
    for_starts b at s w (ts ++ v ∷ vs) first
    ∙ left_side b true (w ∷ ts) xs (exprs_read b i d) fits InFor refl w.place v vs (OfControl (AtFor (for_part b at)) ∷ s) (halted_expr true (last_of xs) hv)

left_in_for : (b : ℕ) → Inside b → (ts : List Token) (xs : t.Exprs) → AreExprs true ts xs → exprs_fit b 0 xs ≡ true → (at : Place) (v : Token) (vs : List Token) (s : Stack) → Halts v → run (ts ++ v ∷ vs) (OfControl (AtFor (for_part b at)) ∷ s) ≡ run (v ∷ vs) (Done (AnExpr (last_of xs)) ∷ OfStmt (Simple (spot b true InFor (place_of ts)) (front_of xs)) ∷ OfControl (AtFor (for_part b at)) ∷ s)
left_in_for b i ts xs d fits at v vs s hv = left_from b i ts xs d fits (exprs_first d) at v vs s hv

-- `x, y =` or `x, y :=` and `range`, from the frame after the operator on
range_with : (b : ℕ) → Inside b → (ts us' vs' : List Token) (xs : t.Exprs) (e : t.Expr) (bl : t.Block) (fresh : Bool) (u v w : Token) → IsWord word.For u → AreExprs true ts xs → EndsLeft v fresh → IsWord word.Range w → IsCondition us' e → IsBlock vs' bl → ForReads b (u ∷ ts ++ v ∷ w ∷ us' ++ vs') (t.RangeStmt u.place xs fresh e bl)
range_with b i ts us' _ xs e _ fresh u v w hu dx hv hw cd (block_braces {ts = body} {ss} {u = x} {v = y} hx d hy) fits s s' starts z us =
    let room : has_room b ≡ true = first_part _ _ (second_part _ _ fits) in
    let within : stmts_fit (b + 1) ss ≡ true = second_part _ _ (second_part _ _ fits) in
    let fits_e : expr_fits b 0 e ≡ true = second_part _ _ (first_part _ _ fits) in
    let fits_xs : exprs_fit b 0 xs ≡ true = first_part _ _ (first_part _ _ fits) in
    let rest : List Token = us' ++ x ∷ (body ++ y ∷ (z ∷ us)) in
    let at : Place = place_of ts in
    let p : ForPart = for_part b u.place in
    let es : List t.Expr = front_of xs ++ last_of xs ∷ [] in
    run_assoc (u ∷ ts ++ v ∷ w ∷ us') (x ∷ body ++ y ∷ []) (z ∷ us) s
    ∙ (ap (λ zs. run ((u ∷ ts ++ v ∷ w ∷ us') ++ x ∷ zs) s) (append_assoc body (y ∷ []) (z ∷ us))
    ∙ (run_assoc (u ∷ ts) (v ∷ w ∷ us') (x ∷ (body ++ y ∷ (z ∷ us))) s
    ∙ (starts u (ts ++ v ∷ w ∷ rest) hu
    ∙ (left_in_for b i ts xs dx fits_xs u.place v (w ∷ rest) s' hv.halts
    ∙ (hv.takes b at (front_of xs) (last_of xs) w rest (OfControl (AtFor p) ∷ s') hw
    ∙ (from_first begins_expr us' (Done (ARanging es fresh) ∷ OfControl (AtFor p) ∷ s') (OfExpr (Operand (ctx 0 b true false)) ∷ OfExpr (Chain (ctx 0 b true false)) ∷ OfControl (AtRange p es fresh) ∷ s') (condition_first cd) (ranging_begins b u.place es fresh s') (x ∷ (body ++ y ∷ (z ∷ us)))
    ∙ (range_open b i us' e cd fits_e room u.place es fresh x (body ++ y ∷ (z ∷ us)) s' hx
    ∙ (i room y.place body ss d within x.place y (z ∷ us) (OfControl (RangeBody p es fresh e) ∷ s') hy refl
    ∙ ap (λ zs. run (z ∷ us) (Done (AStmt (t.RangeStmt u.place zs fresh e (t.BlockOf x.place ss y.place))) ∷ s')) (list.exprs_whole dx)))))))))

for_reads : (b : ℕ) → Inside b → {ts : List Token} {x : t.Stmt} → IsFor ts x → ForReads b ts x
for_reads b i (for_condition {ts} {us} {e} {b = bl} {u} h cd d) = for_condition_reads b i ts us e bl u h cd d
for_reads b i (for_clauses {ts} {us} {vs} {ws} {init} {post} {e} {b = bl} {u} {v} {w} h pi hv pe hw pp d) = for_clauses_read b i ts us vs ws init post e bl u v w h pi hv pe hw pp d
for_reads b i (for_range {ts} {us} {e} {b = bl} {u} {v} h hv cd d) = for_range_reads b i ts us e bl u v h hv cd d
for_reads b i (for_range_assign {ts} {us} {vs} {xs} {e} {b = bl} {u} {v} {w} h dx hv hw cd d) = range_with b i ts us vs xs e bl false u v w h dx (assign_ends hv) hw cd d
for_reads b i (for_range_define {ts} {us} {vs} {xs} {e} {b = bl} {u} {v} {w} h dx hv hw cd d) = range_with b i ts us vs xs e bl true u v w h dx (define_ends hv) hw cd d

label_starts_for : (b n : ℕ) (s : Stack) → StartsFor b (OfStmt (AfterLabel b n) ∷ s) s
label_starts_for b n s u us h = simp h.word

pub for_stmt_reads : (b : ℕ) → Inside b → (at : Place) {ts : List Token} {x : t.Stmt} → IsFor ts x → StmtReads b at ts x
for_stmt_reads b i at {ts} {x} d fits n short u us s hu place = for_reads b i d fits (OfStmt (AfterLabel b n) ∷ s) s (label_starts_for b n s) u us

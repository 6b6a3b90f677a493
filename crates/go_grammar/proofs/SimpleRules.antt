-- Each rule on simple statements.
use Rattle.std.proofs.Common.{◌≡◌, ℕ, Bool, true, false, not, ◌&&◌, ◌||◌, List, [], ◌∷◌, ◌++◌, Option, Some, None, refl, sym, ◌∙◌, ap, subst}
use Rattle.std.proofs.lemmas.Bool.{and_left, and_right}
use Rattle.gj_base.specs.declared.place.Place.{Place}
use Rattle.gj_base.specs.declared.kind.Op.{Op}
use Rattle.go_syntax.specs.Tree as t
use Rattle.go_syntax.specs.Token.{Token}
use Rattle.go_syntax.specs.View.{exprs_of}
use Rattle.go_syntax.specs.declared.kind.TokenKind.{TokenKind}
use Rattle.go_syntax.specs.declared.kind.TokenKind.TheVariants as kind
use Rattle.go_syntax.specs.declared.keyword.Keyword.TheVariants as word
use Rattle.go_syntax.specs.declared.operator.Operator.TheVariants as o
use Rattle.go_grammar.specs.Classes.{IsOp, IsAssign, assign_op, binary_op, place_of}
use Rattle.go_grammar.specs.Context.{MayFollow, MayFollowLast, wants_brace, last_wants_brace}
use Rattle.go_grammar.specs.Frames.{Mode, AnExpr, AStmt, OfExpr, OfStmt, Done, Stack, Operand, Chain, Simple, Right, Assigned, Defined, Sent}
use Rattle.go_grammar.specs.Limits.{exprs_fit}
use Rattle.go_grammar.specs.Grammar.{AreExprs, one_expr, more_exprs}
use Rattle.go_grammar.specs.Nodes.{is_op, is_word, begins_expr}
use Rattle.go_grammar.specs.Parsed.{run}
use Rattle.go_grammar.specs.StmtSteps.{takes_guard, is_tag, is_for, is_one_name}
use Rattle.go_grammar.proofs.Stepping.{ctx, of_kind, run_assoc, first_part, second_part, halts, halts_op, halting}
use Rattle.go_grammar.proofs.Starting.{starts_expr, first_is, from_first, expr_no_range}
use Rattle.go_grammar.proofs.Readings.{ExprReads, AfterExpr, halted_expr}
use Rattle.go_grammar.proofs.ListRules.{front_of, last_of, ExprsRead, GoesOn}
use Rattle.go_grammar.proofs.StmtReadings.{EndsStmt, BraceMay, ended_expr, spot, SimpleReads}

last_brace_at : (e : t.Expr) (es : t.Exprs) → wants_brace (last_of (t.MoreExprs e es)) ≡ last_wants_brace (t.MoreExprs e es)
last_brace_at e t.NoExprs = refl
last_brace_at e (t.MoreExprs f es) = last_brace_at f es

pub last_brace : {h : Bool} {ts : List Token} {es : t.Exprs} → AreExprs h ts es → wants_brace (last_of es) ≡ last_wants_brace es
last_brace (one_expr {e} d) = refl
last_brace (more_exprs {e} {es} d x ds) = last_brace_at e es

last_may_at : (e : t.Expr) (es : t.Exprs) (u : Token) → MayFollowLast (t.MoreExprs e es) u → MayFollow (last_of (t.MoreExprs e es)) u
last_may_at e t.NoExprs u h = h
last_may_at e (t.MoreExprs f es) u h = last_may_at f es u h

pub last_may : {h : Bool} {ts : List Token} {es : t.Exprs} (u : Token) → AreExprs h ts es → MayFollowLast es u → MayFollow (last_of es) u
last_may u (one_expr {e} d) h = h
last_may u (more_exprs {e} {es} d x ds) h = last_may_at e es u h

-- between expressions on the left
left_goes : (b : ℕ) (h : Bool) (m : Mode) (at : Place) (s : Stack) → is_tag m ≡ false → GoesOn b 0 h (λ es. OfStmt (Simple (spot b h m at) es)) s
left_goes b h m at s plain fs e v vs hv first = simp (plain, hv.op)

assigned_goes : (b : ℕ) (h : Bool) (m : Mode) (at : Place) (es : List t.Expr) (op : Option Op) (s : Stack) → GoesOn b 0 h (λ fs. OfStmt (Assigned (spot b h m at) es op fs)) s
assigned_goes b h m at es op s fs e v vs hv first = simp hv.op

defined_goes : (b : ℕ) (h : Bool) (m : Mode) (at : Place) (es : List t.Expr) (s : Stack) → is_tag m ≡ false → GoesOn b 0 h (λ fs. OfStmt (Defined (spot b h m at) es fs)) s
defined_goes b h m at es s plain fs e v vs hv first = simp (plain, hv.op)

-- the left side, up to the token after it
pub left_side : (b : ℕ) (h : Bool) (ts : List Token) (es : t.Exprs) → ExprsRead b h ts es → exprs_fit b 0 es ≡ true → (m : Mode) → is_tag m ≡ false → (at : Place) (u : Token) (us : List Token) (s : Stack) → AfterExpr h (last_of es) u → run (ts ++ u ∷ us) (OfExpr (Operand (ctx 0 b h (takes_guard m))) ∷ OfExpr (Chain (ctx 0 b h (takes_guard m))) ∷ OfStmt (Simple (spot b h m at) []) ∷ s) ≡ run (u ∷ us) (Done (AnExpr (last_of es)) ∷ OfStmt (Simple (spot b h m at) (front_of es)) ∷ s)
left_side b h ts es ih fits m plain at u us s after = ih 0 (takes_guard m) fits (λ xs. OfStmt (Simple (spot b h m at) xs)) [] s (left_goes b h m at s plain) u us after

brace_of : (h : Bool) (es : t.Exprs) (u : Token) → wants_brace (last_of es) ≡ last_wants_brace es → (is_op o.LeftBrace u && (not h || last_wants_brace es)) ≡ false → BraceMay h (last_of es) u
brace_of h es u same k = subst (λ x. (is_op o.LeftBrace u && (not h || x)) ≡ false) (sym same) k

-- Exprs
pub exprs_stmt_reads : (b : ℕ) (h : Bool) (ts : List Token) (es : t.Exprs) → AreExprs h ts es → exprs_of (front_of es ++ last_of es ∷ []) ≡ es → ExprsRead b h ts es → SimpleReads b h ts (t.ExprStmt (place_of ts) es)
exprs_stmt_reads b h ts es ds whole ih fits m plain u us s x colon brace =
    let no_comma : is_op o.Comma u ≡ false = x.no_comma in
    let no_assign : is_op o.Assign u ≡ false = x.no_assign in
    let no_define : is_op o.Define u ≡ false = x.no_define in
    let no_op : assign_op u.kind ≡ None = x.no_op in
    let no_arrow : is_op o.Arrow u ≡ false = x.no_arrow in
    let no_increment : is_op o.Increment u ≡ false = x.no_increment in
    let no_decrement : is_op o.Decrement u ≡ false = x.no_decrement in
    let over : run (u ∷ us) (Done (AnExpr (last_of es)) ∷ OfStmt (Simple (spot b h m (place_of ts)) (front_of es)) ∷ s) ≡ run (u ∷ us) (Done (AStmt (t.ExprStmt (place_of ts) (exprs_of (front_of es ++ last_of es ∷ [])))) ∷ s) = simp (plain, no_comma, no_assign, no_define, no_op, no_arrow, no_increment, no_decrement, colon) in
    left_side b h ts es ih fits m plain (place_of ts) u us s (ended_expr h (last_of es) u x (brace_of h es u (last_brace ds) brace))
    ∙ (over ∙ ap (λ ys. run (u ∷ us) (Done (AStmt (t.ExprStmt (place_of ts) ys)) ∷ s)) whole)

-- after `=`, an expression begins
right_begins : (b : ℕ) (h : Bool) (m : Mode) (at : Place) (es : List t.Expr) (s : Stack) (u : Token) (us : List Token) → begins_expr u.kind ≡ true → run (u ∷ us) (OfStmt (Right (spot b h m at) es false) ∷ s) ≡ run (u ∷ us) (OfExpr (Operand (ctx 0 b h false)) ∷ OfExpr (Chain (ctx 0 b h false)) ∷ OfStmt (Assigned (spot b h m at) es None []) ∷ s)
right_begins b h m at es s u us first =
    let no_range : (is_for m && is_word word.Range u) ≡ false = and_right _ _ (expr_no_range u.kind first) in
    starts_expr u us (OfStmt (Right (spot b h m at) es false)) s (OfStmt (Assigned (spot b h m at) es None []) ∷ s) (ctx 0 b h false) (simp no_range)

pub define_begins : (b : ℕ) (h : Bool) (m : Mode) (at : Place) (es : List t.Expr) (s : Stack) (u : Token) (us : List Token) → begins_expr u.kind ≡ true → run (u ∷ us) (OfStmt (Right (spot b h m at) es true) ∷ s) ≡ run (u ∷ us) (OfExpr (Operand (ctx 0 b h (takes_guard m && is_one_name es))) ∷ OfExpr (Chain (ctx 0 b h (takes_guard m && is_one_name es))) ∷ OfStmt (Defined (spot b h m at) es []) ∷ s)
define_begins b h m at es s u us first =
    let no_range : (is_for m && is_word word.Range u) ≡ false = and_right _ _ (expr_no_range u.kind first) in
    starts_expr u us (OfStmt (Right (spot b h m at) es true)) s (OfStmt (Defined (spot b h m at) es []) ∷ s) (ctx 0 b h (takes_guard m && is_one_name es)) (simp no_range)

-- expressions after an operator, up to the statement's end
right_side : (b : ℕ) (h : Bool) (us' : List Token) (ys : t.Exprs) (m : Mode) (at : Place) (es : List t.Expr) (op : Option Op) (u : Token) (us : List Token) (s : Stack) → AreExprs h us' ys → exprs_of (front_of ys ++ last_of ys ∷ []) ≡ ys → ExprsRead b h us' ys → exprs_fit b 0 ys ≡ true → EndsStmt u → (is_op o.LeftBrace u && (not h || last_wants_brace ys)) ≡ false → run (us' ++ u ∷ us) (OfExpr (Operand (ctx 0 b h false)) ∷ OfExpr (Chain (ctx 0 b h false)) ∷ OfStmt (Assigned (spot b h m at) es op []) ∷ s) ≡ run (u ∷ us) (Done (AStmt (t.AssignStmt at (exprs_of es) op ys)) ∷ s)
right_side b h us' ys m at es op u us s ds whole ih fits x brace =
    let no_comma : is_op o.Comma u ≡ false = x.no_comma in
    let over : run (u ∷ us) (Done (AnExpr (last_of ys)) ∷ OfStmt (Assigned (spot b h m at) es op (front_of ys)) ∷ s) ≡ run (u ∷ us) (Done (AStmt (t.AssignStmt at (exprs_of es) op (exprs_of (front_of ys ++ last_of ys ∷ [])))) ∷ s) = simp no_comma in
    ih 0 false fits (λ fs. OfStmt (Assigned (spot b h m at) es op fs)) [] s (assigned_goes b h m at es op s) u us (ended_expr h (last_of ys) u x (brace_of h ys u (last_brace ds) brace))
    ∙ (over ∙ ap (λ zs. run (u ∷ us) (Done (AStmt (t.AssignStmt at (exprs_of es) op zs)) ∷ s)) whole)

-- Exprs "=" Exprs
pub assign_reads : (b : ℕ) (h : Bool) (ts us' : List Token) (xs ys : t.Exprs) (v : Token) → exprs_of (front_of xs ++ last_of xs ∷ []) ≡ xs → ExprsRead b h ts xs → IsOp o.Assign v → first_is begins_expr us' ≡ true → AreExprs h us' ys → exprs_of (front_of ys ++ last_of ys ∷ []) ≡ ys → ExprsRead b h us' ys → place_of ts ≡ place_of (ts ++ v ∷ us') → SimpleReads b h (ts ++ v ∷ us') (t.AssignStmt (place_of ts) xs None ys)
assign_reads b h ts us' xs ys v whole ihx hv first ds whole' ihy place fits m plain u us s x colon brace =
    let at : Place = place_of (ts ++ v ∷ us') in
    let es : List t.Expr = front_of xs ++ last_of xs ∷ [] in
    let taken : run (v ∷ us' ++ u ∷ us) (Done (AnExpr (last_of xs)) ∷ OfStmt (Simple (spot b h m at) (front_of xs)) ∷ s) ≡ run (us' ++ u ∷ us) (OfStmt (Right (spot b h m at) es false) ∷ s) = simp (plain, hv.op) in
    run_assoc ts (v ∷ us') (u ∷ us) (OfExpr (Operand (ctx 0 b h (takes_guard m))) ∷ OfExpr (Chain (ctx 0 b h (takes_guard m))) ∷ OfStmt (Simple (spot b h m at) []) ∷ s)
    ∙ (left_side b h ts xs ihx (first_part _ _ fits) m plain at v (us' ++ u ∷ us) s (halted_expr h (last_of xs) (halts_op hv refl))
    ∙ (taken
    ∙ (from_first begins_expr us' (OfStmt (Right (spot b h m at) es false) ∷ s) (OfExpr (Operand (ctx 0 b h false)) ∷ OfExpr (Chain (ctx 0 b h false)) ∷ OfStmt (Assigned (spot b h m at) es None []) ∷ s) first (right_begins b h m at es s) (u ∷ us)
    ∙ (right_side b h us' ys m at es None u us s ds whole' ihy (second_part _ _ fits) x brace
    ∙ (ap (λ zs. run (u ∷ us) (Done (AStmt (t.AssignStmt at zs None ys)) ∷ s)) whole
    ∙ ap (λ p. run (u ∷ us) (Done (AStmt (t.AssignStmt p xs None ys)) ∷ s)) (sym place))))))

assign_no_comma : (k : TokenKind) (op : Op) → assign_op k ≡ Some op → is_op o.Comma (of_kind k) ≡ false
assign_no_comma (kind.Op o.Comma) op h = cc
assign_no_comma _ op h = refl

assign_no_assign : (k : TokenKind) (op : Op) → assign_op k ≡ Some op → is_op o.Assign (of_kind k) ≡ false
assign_no_assign (kind.Op o.Assign) op h = cc
assign_no_assign _ op h = refl

assign_no_define : (k : TokenKind) (op : Op) → assign_op k ≡ Some op → is_op o.Define (of_kind k) ≡ false
assign_no_define (kind.Op o.Define) op h = cc
assign_no_define _ op h = refl

assign_halts : (k : TokenKind) (op : Op) → assign_op k ≡ Some op → halting k ≡ true
assign_halts (kind.Op o.AddAssign) op h = refl
assign_halts (kind.Op o.SubAssign) op h = refl
assign_halts (kind.Op o.MulAssign) op h = refl
assign_halts (kind.Op o.DivAssign) op h = refl
assign_halts (kind.Op o.RemAssign) op h = refl
assign_halts (kind.Op o.AndAssign) op h = refl
assign_halts (kind.Op o.OrAssign) op h = refl
assign_halts (kind.Op o.XorAssign) op h = refl
assign_halts (kind.Op o.ShlAssign) op h = refl
assign_halts (kind.Op o.ShrAssign) op h = refl
assign_halts (kind.Op o.AndNotAssign) op h = refl
assign_halts _ op h = cc

-- Exprs op "=" Exprs
pub op_assign_reads : (b : ℕ) (h : Bool) (ts us' : List Token) (xs ys : t.Exprs) (v : Token) (op : Op) → exprs_of (front_of xs ++ last_of xs ∷ []) ≡ xs → ExprsRead b h ts xs → IsAssign op v → AreExprs h us' ys → exprs_of (front_of ys ++ last_of ys ∷ []) ≡ ys → ExprsRead b h us' ys → place_of ts ≡ place_of (ts ++ v ∷ us') → SimpleReads b h (ts ++ v ∷ us') (t.AssignStmt (place_of ts) xs (Some op) ys)
op_assign_reads b h ts us' xs ys v op whole ihx hv ds whole' ihy place fits m plain u us s x colon brace =
    let at : Place = place_of (ts ++ v ∷ us') in
    let es : List t.Expr = front_of xs ++ last_of xs ∷ [] in
    let is : assign_op v.kind ≡ Some op = hv.assign in
    let no_comma : is_op o.Comma v ≡ false = assign_no_comma v.kind op hv.assign in
    let no_assign : is_op o.Assign v ≡ false = assign_no_assign v.kind op hv.assign in
    let no_define : is_op o.Define v ≡ false = assign_no_define v.kind op hv.assign in
    let taken : run (v ∷ us' ++ u ∷ us) (Done (AnExpr (last_of xs)) ∷ OfStmt (Simple (spot b h m at) (front_of xs)) ∷ s) ≡ run (us' ++ u ∷ us) (OfExpr (Operand (ctx 0 b h false)) ∷ OfExpr (Chain (ctx 0 b h false)) ∷ OfStmt (Assigned (spot b h m at) es (Some op) []) ∷ s) = simp (plain, is, no_comma, no_assign, no_define) in
    run_assoc ts (v ∷ us') (u ∷ us) (OfExpr (Operand (ctx 0 b h (takes_guard m))) ∷ OfExpr (Chain (ctx 0 b h (takes_guard m))) ∷ OfStmt (Simple (spot b h m at) []) ∷ s)
    ∙ (left_side b h ts xs ihx (first_part _ _ fits) m plain at v (us' ++ u ∷ us) s (halted_expr h (last_of xs) (halts v (assign_halts v.kind op hv.assign)))
    ∙ (taken
    ∙ (right_side b h us' ys m at es (Some op) u us s ds whole' ihy (second_part _ _ fits) x brace
    ∙ (ap (λ zs. run (u ∷ us) (Done (AStmt (t.AssignStmt at zs (Some op) ys)) ∷ s)) whole
    ∙ ap (λ p. run (u ∷ us) (Done (AStmt (t.AssignStmt p xs (Some op) ys)) ∷ s)) (sym place)))))

-- Exprs ":=" Exprs
pub define_reads : (b : ℕ) (h : Bool) (ts us' : List Token) (xs ys : t.Exprs) (v : Token) → exprs_of (front_of xs ++ last_of xs ∷ []) ≡ xs → ExprsRead b h ts xs → IsOp o.Define v → first_is begins_expr us' ≡ true → AreExprs h us' ys → exprs_of (front_of ys ++ last_of ys ∷ []) ≡ ys → ExprsRead b h us' ys → place_of ts ≡ place_of (ts ++ v ∷ us') → SimpleReads b h (ts ++ v ∷ us') (t.DefineStmt (place_of ts) xs ys)
define_reads b h ts us' xs ys v whole ihx hv first ds whole' ihy place fits m plain u us s x colon brace =
    let at : Place = place_of (ts ++ v ∷ us') in
    let es : List t.Expr = front_of xs ++ last_of xs ∷ [] in
    let g : Bool = takes_guard m && is_one_name es in
    let no_comma : is_op o.Comma u ≡ false = x.no_comma in
    let taken : run (v ∷ us' ++ u ∷ us) (Done (AnExpr (last_of xs)) ∷ OfStmt (Simple (spot b h m at) (front_of xs)) ∷ s) ≡ run (us' ++ u ∷ us) (OfStmt (Right (spot b h m at) es true) ∷ s) = simp (plain, hv.op) in
    let over : run (u ∷ us) (Done (AnExpr (last_of ys)) ∷ OfStmt (Defined (spot b h m at) es (front_of ys)) ∷ s) ≡ run (u ∷ us) (Done (AStmt (t.DefineStmt at (exprs_of es) (exprs_of (front_of ys ++ last_of ys ∷ [])))) ∷ s) = simp (plain, no_comma) in
    run_assoc ts (v ∷ us') (u ∷ us) (OfExpr (Operand (ctx 0 b h (takes_guard m))) ∷ OfExpr (Chain (ctx 0 b h (takes_guard m))) ∷ OfStmt (Simple (spot b h m at) []) ∷ s)
    ∙ (left_side b h ts xs ihx (first_part _ _ fits) m plain at v (us' ++ u ∷ us) s (halted_expr h (last_of xs) (halts_op hv refl))
    ∙ (taken
    ∙ (from_first begins_expr us' (OfStmt (Right (spot b h m at) es true) ∷ s) (OfExpr (Operand (ctx 0 b h g)) ∷ OfExpr (Chain (ctx 0 b h g)) ∷ OfStmt (Defined (spot b h m at) es []) ∷ s) first (define_begins b h m at es s) (u ∷ us)
    ∙ (ihy 0 g (second_part _ _ fits) (λ fs. OfStmt (Defined (spot b h m at) es fs)) [] s (defined_goes b h m at es s plain) u us (ended_expr h (last_of ys) u x (brace_of h ys u (last_brace ds) brace))
    ∙ (over
    ∙ (ap (λ zs. run (u ∷ us) (Done (AStmt (t.DefineStmt at zs (exprs_of (front_of ys ++ last_of ys ∷ [])))) ∷ s)) whole
    ∙ (ap (λ zs. run (u ∷ us) (Done (AStmt (t.DefineStmt at xs zs)) ∷ s)) whole'
    ∙ ap (λ p. run (u ∷ us) (Done (AStmt (t.DefineStmt p xs ys)) ∷ s)) (sym place))))))))

arrow_after : (h : Bool) (e : t.Expr) (v : Token) → IsOp o.Arrow v → MayFollow e v → AfterExpr h e v
arrow_after h e v hv m = ((m, ap (λ k. is_op o.Dot (of_kind k)) hv.op, ap (λ k. is_op o.LeftBracket (of_kind k)) hv.op, ap (λ k. is_op o.LeftParen (of_kind k)) hv.op, and_left _ _ (ap (λ k. is_op o.LeftBrace (of_kind k)) hv.op)), ap binary_op hv.op)

-- Exprs "<-" Expr
pub send_reads : (b : ℕ) (h : Bool) (ts us' : List Token) (cs : t.Exprs) (e : t.Expr) (v : Token) → AreExprs h ts cs → exprs_of (front_of cs ++ last_of cs ∷ []) ≡ cs → ExprsRead b h ts cs → MayFollowLast cs v → IsOp o.Arrow v → ExprReads b h us' e → place_of ts ≡ place_of (ts ++ v ∷ us') → SimpleReads b h (ts ++ v ∷ us') (t.SendStmt (place_of ts) cs e)
send_reads b h ts us' cs e v ds whole ihx may hv ihe place fits m plain u us s x colon brace =
    let at : Place = place_of (ts ++ v ∷ us') in
    let es : List t.Expr = front_of cs ++ last_of cs ∷ [] in
    let taken : run (v ∷ us' ++ u ∷ us) (Done (AnExpr (last_of cs)) ∷ OfStmt (Simple (spot b h m at) (front_of cs)) ∷ s) ≡ run (us' ++ u ∷ us) (OfExpr (Operand (ctx 0 b h false)) ∷ OfExpr (Chain (ctx 0 b h false)) ∷ OfStmt (Sent at es) ∷ s) = simp (plain, hv.op) in
    run_assoc ts (v ∷ us') (u ∷ us) (OfExpr (Operand (ctx 0 b h (takes_guard m))) ∷ OfExpr (Chain (ctx 0 b h (takes_guard m))) ∷ OfStmt (Simple (spot b h m at) []) ∷ s)
    ∙ (left_side b h ts cs ihx (first_part _ _ fits) m plain at v (us' ++ u ∷ us) s (arrow_after h (last_of cs) v hv (last_may v ds may))
    ∙ (taken
    ∙ (ihe 0 false (second_part _ _ fits) u us (OfStmt (Sent at es) ∷ s) (ended_expr h e u x brace)
    ∙ (ap (λ zs. run (u ∷ us) (Done (AStmt (t.SendStmt at zs e)) ∷ s)) whole
    ∙ ap (λ p. run (u ∷ us) (Done (AStmt (t.SendStmt p cs e)) ∷ s)) (sym place)))))

-- Exprs "++"
pub increment_reads : (b : ℕ) (h : Bool) (ts : List Token) (es : t.Exprs) (v : Token) → exprs_of (front_of es ++ last_of es ∷ []) ≡ es → ExprsRead b h ts es → IsOp o.Increment v → place_of ts ≡ place_of (ts ++ v ∷ []) → SimpleReads b h (ts ++ v ∷ []) (t.IncDecStmt (place_of ts) es true)
increment_reads b h ts es v whole ih hv place fits m plain u us s x colon brace =
    let at : Place = place_of (ts ++ v ∷ []) in
    let taken : run (v ∷ u ∷ us) (Done (AnExpr (last_of es)) ∷ OfStmt (Simple (spot b h m at) (front_of es)) ∷ s) ≡ run (u ∷ us) (Done (AStmt (t.IncDecStmt at (exprs_of (front_of es ++ last_of es ∷ [])) true)) ∷ s) = simp (plain, hv.op) in
    run_assoc ts (v ∷ []) (u ∷ us) (OfExpr (Operand (ctx 0 b h (takes_guard m))) ∷ OfExpr (Chain (ctx 0 b h (takes_guard m))) ∷ OfStmt (Simple (spot b h m at) []) ∷ s)
    ∙ (left_side b h ts es ih fits m plain at v (u ∷ us) s (halted_expr h (last_of es) (halts_op hv refl))
    ∙ (taken
    ∙ (ap (λ zs. run (u ∷ us) (Done (AStmt (t.IncDecStmt at zs true)) ∷ s)) whole
    ∙ ap (λ p. run (u ∷ us) (Done (AStmt (t.IncDecStmt p es true)) ∷ s)) (sym place))))

-- Exprs "--"
pub decrement_reads : (b : ℕ) (h : Bool) (ts : List Token) (es : t.Exprs) (v : Token) → exprs_of (front_of es ++ last_of es ∷ []) ≡ es → ExprsRead b h ts es → IsOp o.Decrement v → place_of ts ≡ place_of (ts ++ v ∷ []) → SimpleReads b h (ts ++ v ∷ []) (t.IncDecStmt (place_of ts) es false)
decrement_reads b h ts es v whole ih hv place fits m plain u us s x colon brace =
    let at : Place = place_of (ts ++ v ∷ []) in
    let taken : run (v ∷ u ∷ us) (Done (AnExpr (last_of es)) ∷ OfStmt (Simple (spot b h m at) (front_of es)) ∷ s) ≡ run (u ∷ us) (Done (AStmt (t.IncDecStmt at (exprs_of (front_of es ++ last_of es ∷ [])) false)) ∷ s) = simp (plain, hv.op) in
    run_assoc ts (v ∷ []) (u ∷ us) (OfExpr (Operand (ctx 0 b h (takes_guard m))) ∷ OfExpr (Chain (ctx 0 b h (takes_guard m))) ∷ OfStmt (Simple (spot b h m at) []) ∷ s)
    ∙ (left_side b h ts es ih fits m plain at v (u ∷ us) s (halted_expr h (last_of es) (halts_op hv refl))
    ∙ (taken
    ∙ (ap (λ zs. run (u ∷ us) (Done (AStmt (t.IncDecStmt at zs false)) ∷ s)) whole
    ∙ ap (λ p. run (u ∷ us) (Done (AStmt (t.IncDecStmt p es false)) ∷ s)) (sym place))))

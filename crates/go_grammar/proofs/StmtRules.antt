-- Each rule on lists of statements, and on statements but for control.
use Rattle.std.proofs.Common.{◌≡◌, ◌+◌, ◌≤◌, ℕ, Bool, true, false, cond, nat_lt, ◌||◌, List, [], ◌∷◌, ◌++◌, Option, refl, sym, ◌∙◌, ap, append_assoc, append-nil, arith}
use Rattle.std.proofs.lemmas.Bool.{and_left}
use Rattle.std.proofs.lemmas.Bool.Decides.{nat_tests}
use Rattle.gj_base.specs.declared.place.Place.{Place}
use Rattle.go_syntax.specs.Tree as t
use Rattle.go_syntax.specs.Token.{Token}
use Rattle.go_syntax.specs.View.{exprs_of, stmts_of}
use Rattle.go_syntax.specs.declared.kind.TokenKind.{TokenKind}
use Rattle.go_syntax.specs.declared.kind.TokenKind.TheVariants as kind
use Rattle.go_syntax.specs.declared.keyword.Keyword.TheVariants as word
use Rattle.go_syntax.specs.declared.operator.Operator.TheVariants as o
use Rattle.go_syntax.specs.declared.tree.Name.{Name}
use Rattle.go_grammar.specs.Classes.{IsOp, IsWord, IsName, IsSemicolon, written, inserted, name_of, place_of}
use Rattle.go_grammar.specs.Frames.{Mode, Listed, Headed, AnExpr, AStmt, ABlock, ADecl, Frame, OfExpr, OfStmt, OfDecl, Done, Stack, Goes, Over, Deep, Operand, Chain, Simple, InBlock, Declared, Inner, AtGo, AtDefer, AtReturn, Returned, AfterLabel, Labeled, AtValues, AtTypes}
use Rattle.go_grammar.specs.Limits.{has_room, is_short, stmt_fits, stmts_fit, block_fits, decl_fits, labels}
use Rattle.go_grammar.specs.Grammar.{IsBlock, block_braces, AreStmts, PerhapsName, without_name, with_name}
use Rattle.go_grammar.specs.Nodes.{is_op, is_name_token, is_semicolon, begins_expr, begins_stmt, place_of_decl, place_of_block}
use Rattle.go_grammar.specs.Parsed.{run, row}
use Rattle.go_grammar.specs.ExprSteps as step
use Rattle.go_grammar.specs.StmtSteps.{takes_guard, is_tag, begin_stmt}
use Rattle.go_grammar.proofs.Stepping.{ctx, of_kind, run_assoc, first_part, second_part}
use Rattle.go_grammar.proofs.Starting.{firm, with_kind, same_start, starts_expr, first_is, from_first}
use Rattle.go_grammar.proofs.Readings.{ExprReads}
use Rattle.go_grammar.proofs.ListRules.{front_of, last_of, ExprsRead, GoesOn}
use Rattle.go_grammar.proofs.OperandRules.{StmtsRead, Inside}
use Rattle.go_grammar.proofs.StmtReadings.{EndsList, ended_expr, spot, SimpleReads, list_semicolon, list_close}

-- a statement with so many blocks open round it, from where a label may have been, after so many labels
abbrev pub StmtReads : ℕ → Place → List Token → t.Stmt → Type 0
StmtReads b at ts x = stmt_fits b x ≡ true → (n : ℕ) → n + labels x ≤ 500 → (u : Token) (us : List Token) (s : Stack) → EndsList u → u.place ≡ at → run (ts ++ u ∷ us) (OfStmt (AfterLabel b n) ∷ s) ≡ run (u ∷ us) (Done (AStmt x) ∷ s)

abbrev pub begins_stmt_kind : TokenKind → Bool
begins_stmt_kind k = begins_stmt (of_kind k)

-- a frame that holds statements, with so many blocks open in it
pub record HoldsStmts (b : ℕ) (frame : List t.Stmt → Frame) (last : Token → Type 0) (s : Stack) : Type 0 where
  pub begins : (xs : List t.Stmt) (u : Token) (us : List Token) → begins_stmt u ≡ true → run (u ∷ us) (frame xs ∷ s) ≡ run (u ∷ us) (OfStmt (AfterLabel b 0) ∷ frame xs ∷ s)
  pub empty : (xs : List t.Stmt) (u : Token) (us : List Token) → IsSemicolon u → run (u ∷ us) (frame xs ∷ s) ≡ run us (frame xs ∷ s)
  pub more : (xs : List t.Stmt) (x : t.Stmt) (u : Token) (us : List Token) → IsSemicolon u → run (u ∷ us) (Done (AStmt x) ∷ frame xs ∷ s) ≡ run us (frame (xs ++ x ∷ []) ∷ s)
  pub over : (xs : List t.Stmt) (x : t.Stmt) (u : Token) (us : List Token) → last u → run (u ∷ us) (Done (AStmt x) ∷ frame xs ∷ s) ≡ run (u ∷ us) (frame (xs ++ x ∷ []) ∷ s)
  pub ends : (u : Token) → last u → EndsList u

abbrev pub stmts_list : t.Stmts → List t.Stmt
stmts_list t.NoStmts = []
stmts_list (t.MoreStmts x xs) = x ∷ stmts_list xs

pub stmts_whole : (xs : t.Stmts) → stmts_of (stmts_list xs) ≡ xs
stmts_whole t.NoStmts = refl
stmts_whole (t.MoreStmts x xs) = ap (λ ys. t.MoreStmts x ys) (stmts_whole xs)

abbrev pub ListReads : ℕ → Place → List Token → t.Stmts → Type 1
ListReads b at ts xs = stmts_fit b xs ≡ true → (frame : List t.Stmt → Frame) (last : Token → Type 0) (s : Stack) → HoldsStmts b frame last s → (ys : List t.Stmt) (u : Token) (us : List Token) → last u → u.place ≡ at → run (ts ++ u ∷ us) (frame ys ∷ s) ≡ run (u ∷ us) (frame (ys ++ stmts_list xs) ∷ s)

-- all lists of statements with so many blocks open round them are read
abbrev pub Lists : ℕ → Type 1
Lists b = (at : Place) (ts : List Token) (xs : t.Stmts) → AreStmts at ts xs → ListReads b at ts xs

-- and so where any deeper block may be open
abbrev pub Below : ℕ → Type 1
Below b = (c : ℕ) → b ≤ c → has_room c ≡ true → Lists (c + 1)

pub no_stmts_read : (b : ℕ) (at : Place) → ListReads b at [] t.NoStmts
no_stmts_read b at fits frame last s holds ys u us hu place = ap (λ xs. run (u ∷ us) (frame xs ∷ s)) (sym (append-nil ys))

zero_labels : (b : ℕ) (x : t.Stmt) → stmt_fits b x ≡ true → 0 + labels x ≤ 500
zero_labels b (t.LabeledStmt at y x) h = let k : labels x + 1 ≤ 500 = short_labels (labels x + 1) (first_part _ _ h) in omega arith
  where
    short_labels : (n : ℕ) → is_short n ≡ true → n ≤ 500
    short_labels n h = grind (arith, nat_tests)
zero_labels b _ h = omega arith

stmt_in : (b : ℕ) (at : Place) (ts : List Token) (x : t.Stmt) → first_is begins_stmt_kind ts ≡ true → StmtReads b at ts x → stmt_fits b x ≡ true → (frame : List t.Stmt → Frame) (last : Token → Type 0) (s : Stack) → HoldsStmts b frame last s → (ys : List t.Stmt) (u : Token) (us : List Token) → EndsList u → u.place ≡ at → run (ts ++ u ∷ us) (frame ys ∷ s) ≡ run (u ∷ us) (Done (AStmt x) ∷ frame ys ∷ s)
stmt_in b at ts x first ih fits frame last s holds ys u us hu place =
    from_first begins_stmt_kind ts (frame ys ∷ s) (OfStmt (AfterLabel b 0) ∷ frame ys ∷ s) first (holds.begins ys) (u ∷ us)
    ∙ ih fits 0 (zero_labels b x fits) u us (frame ys ∷ s) hu place

pub last_stmt_reads : (b : ℕ) (at : Place) (ts : List Token) (x : t.Stmt) → first_is begins_stmt_kind ts ≡ true → StmtReads b at ts x → ListReads b at ts (t.MoreStmts x t.NoStmts)
last_stmt_reads b at ts x first ih fits frame last s holds ys u us hu place =
    stmt_in b at ts x first ih (first_part _ _ fits) frame last s holds ys u us (holds.ends u hu) place
    ∙ holds.over ys x u us hu

pub missing_stmt_reads : (b : ℕ) (at : Place) (ts : List Token) (xs : t.Stmts) (v : Token) → IsSemicolon v → ListReads b at ts xs → ListReads b at (v ∷ ts) xs
missing_stmt_reads b at ts xs v hv ih fits frame last s holds ys u us hu place =
    holds.empty ys v (ts ++ u ∷ us) hv ∙ ih fits frame last s holds ys u us hu place

pub more_stmts_read : (b : ℕ) (at : Place) (ts us' : List Token) (x : t.Stmt) (xs : t.Stmts) (v : Token) → first_is begins_stmt_kind ts ≡ true → StmtReads b v.place ts x → IsSemicolon v → ListReads b at us' xs → ListReads b at (ts ++ v ∷ us') (t.MoreStmts x xs)
more_stmts_read b at ts us' x xs v first ih hv ihs fits frame last s holds ys u us hu place =
    run_assoc ts (v ∷ us') (u ∷ us) (frame ys ∷ s)
    ∙ (stmt_in b v.place ts x first ih (first_part _ _ fits) frame last s holds ys v (us' ++ u ∷ us) (list_semicolon hv) refl
    ∙ (holds.more ys x v (us' ++ u ∷ us) hv
    ∙ (ihs (second_part _ _ fits) frame last s holds (ys ++ x ∷ []) u us hu place
    ∙ ap (λ zs. run (u ∷ us) (frame zs ∷ s)) (append_assoc ys (x ∷ []) (stmts_list xs)))))

-- what begins a statement is firm
room_firm : (a : Bool) (s : Stack) → firm (cond a (Goes s) Deep) ≡ true
room_firm true s = refl
room_firm false s = refl

stmt_firm_at : (k : TokenKind) (u : Token) (b n : ℕ) (s : Stack) → firm (begin_stmt (with_kind k u) b n s) ≡ true
stmt_firm_at (kind.Op o.LeftBrace) u b n s = room_firm (has_room b) _
stmt_firm_at (kind.Word word.Const) u b n s = refl
stmt_firm_at _ u b n s = refl

stmt_firm : (u : Token) (b n : ℕ) (s : Stack) → firm (begin_stmt u b n s) ≡ true
stmt_firm u b n s = stmt_firm_at u.kind u b n s

label_row : (u : Token) (b n : ℕ) (s : Stack) → begins_stmt u ≡ true → row u (OfStmt (AfterLabel b n)) s ≡ begin_stmt u b n s
label_row u b n s begins = ap (λ x. cond x (begin_stmt u b n s) (Over (AStmt (t.EmptyStmt u.place)) s)) begins

-- a frame that begins a statement at the token
pub stmt_starts : (u : Token) (us : List Token) (f : Frame) (s s' : Stack) (b n : ℕ) → begins_stmt u ≡ true → row u f s ≡ begin_stmt u b n s' → run (u ∷ us) (f ∷ s) ≡ run (u ∷ us) (OfStmt (AfterLabel b n) ∷ s')
stmt_starts u us f s s' b n begins e = same_start u us f (OfStmt (AfterLabel b n)) s s' (e ∙ sym (label_row u b n s' begins)) (ap firm (label_row u b n s' begins) ∙ stmt_firm u b n s')

stmt_no_end : (k : TokenKind) → begins_stmt_kind k ≡ true → (is_semicolon k || is_op o.RightBrace (of_kind k)) ≡ false
stmt_no_end kind.Semi h = sym h
stmt_no_end kind.Auto h = sym h
stmt_no_end (kind.Op o.RightBrace) h = sym h
stmt_no_end _ h = refl

block_begins : (b : ℕ) (at : Place) (s : Stack) (xs : List t.Stmt) (u : Token) (us : List Token) → begins_stmt u ≡ true → run (u ∷ us) (OfStmt (InBlock b at xs) ∷ s) ≡ run (u ∷ us) (OfStmt (AfterLabel b 0) ∷ OfStmt (InBlock b at xs) ∷ s)
block_begins b at s xs u us h =
    let no_end : (is_semicolon u.kind || is_op o.RightBrace u) ≡ false = stmt_no_end u.kind h in
    stmt_starts u us (OfStmt (InBlock b at xs)) s (OfStmt (InBlock b at xs) ∷ s) b 0 h (simp no_end)

block_empty : (b : ℕ) (at : Place) (s : Stack) (xs : List t.Stmt) (u : Token) (us : List Token) → IsSemicolon u → run (u ∷ us) (OfStmt (InBlock b at xs) ∷ s) ≡ run us (OfStmt (InBlock b at xs) ∷ s)
block_empty b at s xs u us (written h) = simp h
block_empty b at s xs u us (inserted h) = simp h

block_more : (b : ℕ) (at : Place) (s : Stack) (xs : List t.Stmt) (x : t.Stmt) (u : Token) (us : List Token) → IsSemicolon u → run (u ∷ us) (Done (AStmt x) ∷ OfStmt (InBlock b at xs) ∷ s) ≡ run us (OfStmt (InBlock b at (xs ++ x ∷ [])) ∷ s)
block_more b at s xs x u us (written h) = simp h
block_more b at s xs x u us (inserted h) = simp h

block_holds : (b : ℕ) (at : Place) (s : Stack) → HoldsStmts b (λ xs. OfStmt (InBlock b at xs)) (λ u. IsOp o.RightBrace u) s
block_holds b at s = record {
  begins = block_begins b at s;
  empty = block_empty b at s;
  more = block_more b at s;
  over = λ xs x u us h. simp h.op;
  ends = λ u h. list_close h;
}

pub stmts_of_lists : (b : ℕ) → Lists b → StmtsRead b
stmts_of_lists b lists at ts xs d fits at' v us s hv place =
    let closed : run (v ∷ us) (OfStmt (InBlock b at' (stmts_list xs)) ∷ s) ≡ run us (Done (ABlock (t.BlockOf at' (stmts_of (stmts_list xs)) v.place)) ∷ s) = simp hv.op in
    lists at ts xs d fits (λ ys. OfStmt (InBlock b at' ys)) (λ u. IsOp o.RightBrace u) s (block_holds b at' s) [] v us hv place
    ∙ (closed ∙ ap (λ ys. run us (Done (ABlock (t.BlockOf at' ys v.place)) ∷ s)) (stmts_whole xs))

pub inside_of : (b : ℕ) → Below b → Inside b
inside_of b below room = stmts_of_lists (b + 1) (below b (omega arith) room)

-- a block, from the stack that opens it to its tree
abbrev pub Opens : ℕ → Stack → Stack → Type 0
Opens b s s' = (u : Token) (us : List Token) → IsOp o.LeftBrace u → has_room b ≡ true → run (u ∷ us) s ≡ run us (OfStmt (InBlock (b + 1) u.place []) ∷ s')

pub block_is_read : (b : ℕ) → Inside b → (ts : List Token) (bl : t.Block) → IsBlock ts bl → block_fits b bl ≡ true → (s s' : Stack) → Opens b s s' → (us : List Token) → run (ts ++ us) s ≡ run us (Done (ABlock bl) ∷ s')
block_is_read b inside _ _ (block_braces {ts} {ss} {u} {v} hu d hv) fits s s' opens us =
    let room : has_room b ≡ true = first_part _ _ fits in
    let within : stmts_fit (b + 1) ss ≡ true = second_part _ _ fits in
    run_assoc (u ∷ ts) (v ∷ []) us s
    ∙ (opens u (ts ++ v ∷ us) hu room
    ∙ inside room v.place ts ss d within u.place v us s' hv refl)

-- declarations

-- the stack begins a declaration at its word
pub record StartsDecl (b : ℕ) (s s' : Stack) : Type 0 where
  pub on_const : (u : Token) (us : List Token) → IsWord word.Const u → run (u ∷ us) s ≡ run us (OfDecl (AtValues (record { blocks = b; place = u.place; constant = true; group = false; specs = [] })) ∷ s')
  pub on_var : (u : Token) (us : List Token) → IsWord word.Var u → run (u ∷ us) s ≡ run us (OfDecl (AtValues (record { blocks = b; place = u.place; constant = false; group = false; specs = [] })) ∷ s')
  pub on_type : (u : Token) (us : List Token) → IsWord word.Type u → run (u ∷ us) s ≡ run us (OfDecl (AtTypes (record { blocks = b; place = u.place; group = false; specs = [] })) ∷ s')

-- a declaration, up to the token after it
abbrev pub DeclReads : ℕ → List Token → t.Decl → Type 0
DeclReads b ts x = decl_fits b x ≡ true → (s s' : Stack) → StartsDecl b s s' → (u : Token) (us : List Token) → EndsList u → run (ts ++ u ∷ us) s ≡ run (u ∷ us) (Done (ADecl x) ∷ s')

declaration_starts : (b n : ℕ) (s : Stack) → StartsDecl b (OfStmt (AfterLabel b n) ∷ s) (OfStmt Declared ∷ s)
declaration_starts b n s = record {
  on_const = λ u us h. simp h.word;
  on_var = λ u us h. simp h.word;
  on_type = λ u us h. simp h.word;
}

pub declaration_reads : (b : ℕ) (at : Place) (ts : List Token) (x : t.Decl) → place_of_decl x ≡ place_of ts → DeclReads b ts x → StmtReads b at ts (t.DeclStmt (place_of ts) x)
declaration_reads b at ts x same ih fits n short u us s hu place =
    ih fits (OfStmt (AfterLabel b n) ∷ s) (OfStmt Declared ∷ s) (declaration_starts b n s) u us hu
    ∙ ap (λ p. run (u ∷ us) (Done (AStmt (t.DeclStmt p x)) ∷ s)) same

-- simple statements

abbrev pub mode_at : TokenKind → ℕ → Mode
mode_at (kind.Word x) n = Headed
mode_at _ n = Listed n

simple_row : (k : TokenKind) (u : Token) (b n : ℕ) (s : Stack) → begins_expr k ≡ true → row (with_kind k u) (OfStmt (AfterLabel b n)) s ≡ step.begin_expr (with_kind k u) (ctx 0 b false false) (OfStmt (Simple (spot b false (mode_at k n) u.place) []) ∷ s)
simple_row kind.Name u b n s h = refl
simple_row kind.Int u b n s h = refl
simple_row kind.Rune u b n s h = refl
simple_row kind.Str u b n s h = refl
simple_row (kind.Op o.LeftParen) u b n s h = refl
simple_row (kind.Op o.LeftBracket) u b n s h = refl
simple_row (kind.Op o.Mul) u b n s h = refl
simple_row (kind.Op o.Arrow) u b n s h = refl
simple_row (kind.Op o.Add) u b n s h = refl
simple_row (kind.Op o.Sub) u b n s h = refl
simple_row (kind.Op o.Not) u b n s h = refl
simple_row (kind.Op o.Xor) u b n s h = refl
simple_row (kind.Op o.And) u b n s h = refl
simple_row (kind.Word word.Chan) u b n s h = refl
simple_row (kind.Word word.Func) u b n s h = refl
simple_row (kind.Word word.Interface) u b n s h = refl
simple_row (kind.Word word.Map) u b n s h = refl
simple_row (kind.Word word.Struct) u b n s h = refl
simple_row _ u b n s h = cc

mode_plain : (k : TokenKind) (n : ℕ) → is_tag (mode_at k n) ≡ false
mode_plain (kind.Word x) n = refl
mode_plain _ n = refl

mode_no_guard : (k : TokenKind) (n : ℕ) → false ≡ takes_guard (mode_at k n)
mode_no_guard (kind.Word x) n = refl
mode_no_guard _ n = refl

pub simple_stmt_reads : (b : ℕ) (at : Place) (ts : List Token) (x : t.Stmt) → first_is begins_expr ts ≡ true → labels x ≡ 0 → SimpleReads b false ts x → StmtReads b at ts x
simple_stmt_reads b at [] x first none ih fits n short u us s hu place = cc
simple_stmt_reads b at (v ∷ ts) x first none ih fits n short u us s hu place =
    let m : Mode = mode_at v.kind n in
    starts_expr v (ts ++ u ∷ us) (OfStmt (AfterLabel b n)) s (OfStmt (Simple (spot b false m v.place) []) ∷ s) (ctx 0 b false false) (simple_row v.kind v b n s first)
    ∙ (ap (λ g. run (v ∷ ts ++ u ∷ us) (OfExpr (Operand (ctx 0 b false g)) ∷ OfExpr (Chain (ctx 0 b false g)) ∷ OfStmt (Simple (spot b false m v.place) []) ∷ s)) (mode_no_guard v.kind n)
    ∙ ih fits m (mode_plain v.kind n) u us s hu.ends (and_left _ _ hu.no_colon) (and_left _ _ hu.no_brace))

-- labels

label_short : (n m : ℕ) → n + (m + 1) ≤ 500 → nat_lt n 500 ≡ true
label_short n m h = grind (arith, nat_tests)

label_more : (n m : ℕ) → n + (m + 1) ≤ 500 → n + 1 + m ≤ 500
label_more n m h = omega arith

label_taken : (b n : ℕ) (v w : Token) (rest : List Token) (s : Stack) → IsName v → IsOp o.Colon w → nat_lt n 500 ≡ true → run (v ∷ w ∷ rest) (OfStmt (AfterLabel b n) ∷ s) ≡ run rest (OfStmt (AfterLabel b (n + 1)) ∷ OfStmt (Labeled (name_of v)) ∷ s)
label_taken b n v w rest s hv hw short = simp (hv.name, hw.op, short)

pub label_reads : (b : ℕ) (at : Place) (ts : List Token) (x : t.Stmt) (v w : Token) → IsName v → IsOp o.Colon w → StmtReads b at ts x → StmtReads b at (v ∷ w ∷ ts) (t.LabeledStmt v.place (name_of v) x)
label_reads b at ts x v w hv hw ih fits n short u us s hu place =
    label_taken b n v w (ts ++ u ∷ us) s hv hw (label_short n (labels x) short)
    ∙ ih (second_part _ _ fits) (n + 1) (label_more n (labels x) short) u us (OfStmt (Labeled (name_of v)) ∷ s) hu place

pub label_of_none_reads : (b : ℕ) (at : Place) (v w : Token) → IsName v → IsOp o.Colon w → StmtReads b at (v ∷ w ∷ []) (t.LabeledStmt v.place (name_of v) (t.EmptyStmt at))
label_of_none_reads b at v w hv hw fits n short u us s hu place =
    let none : begins_stmt u ≡ false = hu.no_stmt in
    let over : run (u ∷ us) (OfStmt (AfterLabel b (n + 1)) ∷ OfStmt (Labeled (name_of v)) ∷ s) ≡ run (u ∷ us) (Done (AStmt (t.LabeledStmt v.place (name_of v) (t.EmptyStmt u.place))) ∷ s) = simp none in
    label_taken b n v w (u ∷ us) s hv hw (label_short n 0 short)
    ∙ (over ∙ ap (λ p. run (u ∷ us) (Done (AStmt (t.LabeledStmt v.place (name_of v) (t.EmptyStmt p))) ∷ s)) place)

-- blocks and words

inner_opens : (b n : ℕ) (s : Stack) → Opens b (OfStmt (AfterLabel b n) ∷ s) (OfStmt Inner ∷ s)
inner_opens b n s u us h room = simp (h.op, room)

block_place : (ts : List Token) (bl : t.Block) → IsBlock ts bl → place_of_block bl ≡ place_of ts
block_place _ _ (block_braces hu d hv) = refl

pub block_stmt_reads : (b : ℕ) (at : Place) (ts : List Token) (bl : t.Block) → Inside b → IsBlock ts bl → StmtReads b at ts (t.BlockStmt (place_of ts) bl)
block_stmt_reads b at ts bl inside d fits n short u us s hu place =
    block_is_read b inside ts bl d fits (OfStmt (AfterLabel b n) ∷ s) (OfStmt Inner ∷ s) (inner_opens b n s) (u ∷ us)
    ∙ ap (λ p. run (u ∷ us) (Done (AStmt (t.BlockStmt p bl)) ∷ s)) (block_place ts bl d)

pub go_reads : (b : ℕ) (at : Place) (ts : List Token) (e : t.Expr) (v : Token) → IsWord word.Go v → ExprReads b false ts e → StmtReads b at (v ∷ ts) (t.GoStmt v.place e)
go_reads b at ts e v hv ih fits n short u us s hu place =
    simp (hv.word, ih 0 false fits u us (OfStmt (AtGo v.place) ∷ s) (ended_expr false e u hu.ends (and_left _ _ hu.no_brace)))

pub defer_reads : (b : ℕ) (at : Place) (ts : List Token) (e : t.Expr) (v : Token) → IsWord word.Defer v → ExprReads b false ts e → StmtReads b at (v ∷ ts) (t.DeferStmt v.place e)
defer_reads b at ts e v hv ih fits n short u us s hu place =
    simp (hv.word, ih 0 false fits u us (OfStmt (AtDefer v.place) ∷ s) (ended_expr false e u hu.ends (and_left _ _ hu.no_brace)))

pub return_none_reads : (b : ℕ) (at : Place) (v : Token) → IsWord word.Return v → StmtReads b at (v ∷ []) (t.ReturnStmt v.place t.NoExprs)
return_none_reads b at v hv fits n short u us s hu place = let none : begins_expr u.kind ≡ false = hu.no_expr in simp (hv.word, none)

return_begins : (b : ℕ) (at : Place) (s : Stack) (u : Token) (us : List Token) → begins_expr u.kind ≡ true → run (u ∷ us) (OfStmt (AtReturn b at) ∷ s) ≡ run (u ∷ us) (OfExpr (Operand (ctx 0 b false false)) ∷ OfExpr (Chain (ctx 0 b false false)) ∷ OfStmt (Returned b at []) ∷ s)
return_begins b at s u us first = starts_expr u us (OfStmt (AtReturn b at)) s (OfStmt (Returned b at []) ∷ s) (ctx 0 b false false) (simp first)

returned_goes : (b : ℕ) (at : Place) (s : Stack) → GoesOn b 0 false (λ es. OfStmt (Returned b at es)) s
returned_goes b at s fs e v vs hv first = simp hv.op

pub return_reads : (b : ℕ) (at : Place) (ts : List Token) (es : t.Exprs) (v : Token) → IsWord word.Return v → first_is begins_expr ts ≡ true → exprs_of (front_of es ++ last_of es ∷ []) ≡ es → ExprsRead b false ts es → StmtReads b at (v ∷ ts) (t.ReturnStmt v.place es)
return_reads b at ts es v hv first whole ih fits n short u us s hu place =
    let no_comma : is_op o.Comma u ≡ false = hu.ends.no_comma in
    let taken : run (v ∷ ts ++ u ∷ us) (OfStmt (AfterLabel b n) ∷ s) ≡ run (ts ++ u ∷ us) (OfStmt (AtReturn b v.place) ∷ s) = simp hv.word in
    let over : run (u ∷ us) (Done (AnExpr (last_of es)) ∷ OfStmt (Returned b v.place (front_of es)) ∷ s) ≡ run (u ∷ us) (Done (AStmt (t.ReturnStmt v.place (exprs_of (front_of es ++ last_of es ∷ [])))) ∷ s) = simp no_comma in
    taken
    ∙ (from_first begins_expr ts (OfStmt (AtReturn b v.place) ∷ s) (OfExpr (Operand (ctx 0 b false false)) ∷ OfExpr (Chain (ctx 0 b false false)) ∷ OfStmt (Returned b v.place []) ∷ s) first (return_begins b v.place s) (u ∷ us)
    ∙ (ih 0 false fits (λ xs. OfStmt (Returned b v.place xs)) [] s (returned_goes b v.place s) u us (ended_expr false (last_of es) u hu.ends (and_left _ _ hu.no_brace))
    ∙ (over ∙ ap (λ xs. run (u ∷ us) (Done (AStmt (t.ReturnStmt v.place xs)) ∷ s)) whole)))

pub break_reads : (b : ℕ) (at : Place) (ts : List Token) (x : Option Name) (v : Token) → IsWord word.Break v → PerhapsName ts x → StmtReads b at (v ∷ ts) (t.BreakStmt v.place x)
break_reads b at _ _ v hv without_name fits n short u us s hu place = let none : is_name_token u.kind ≡ false = hu.no_name in simp (hv.word, none)
break_reads b at _ _ v hv (with_name {u = w} hw) fits n short u us s hu place = simp (hv.word, hw.name)

pub continue_reads : (b : ℕ) (at : Place) (ts : List Token) (x : Option Name) (v : Token) → IsWord word.Continue v → PerhapsName ts x → StmtReads b at (v ∷ ts) (t.ContinueStmt v.place x)
continue_reads b at _ _ v hv without_name fits n short u us s hu place = let none : is_name_token u.kind ≡ false = hu.no_name in simp (hv.word, none)
continue_reads b at _ _ v hv (with_name {u = w} hw) fits n short u us s hu place = simp (hv.word, hw.name)

pub fallthrough_reads : (b : ℕ) (at : Place) (v : Token) → IsWord word.Fallthrough v → StmtReads b at (v ∷ []) (t.FallthroughStmt v.place)
fallthrough_reads b at v hv fits n short u us s hu place = simp hv.word

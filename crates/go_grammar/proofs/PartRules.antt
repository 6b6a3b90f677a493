-- Operands with the parts after them.
use Rattle.std.proofs.Common.{◌≡◌, ◌+◌, ℕ, Bool, true, false, not, nat_lt, ◌&&◌, ◌||◌, List, [], ◌∷◌, ◌++◌, Option, Some, None, refl, sym, ◌∙◌, ap, arith}
use Rattle.std.proofs.lemmas.Bool.{and_left, and_right}
use Rattle.std.proofs.lemmas.Bool.Decides.{nat_tests}
use Rattle.go_syntax.specs.Tree as t
use Rattle.go_syntax.specs.Token.{Token}
use Rattle.go_syntax.specs.declared.operator.Operator.TheVariants as o
use Rattle.go_grammar.specs.Classes.{IsOp, IsName, name_of, place_of, begins_type}
use Rattle.go_grammar.specs.Context.{MayFollow, wants_dot, wants_brace, takes_literal}
use Rattle.go_grammar.specs.Limits.{has_room, is_short, expr_fits, maybe_fits, parts}
use Rattle.go_grammar.specs.Frames.{Ctx, AnExpr, OfExpr, OfPart, OfType, Done, Stack, Operand, Chain, Tail, Base, AssertOpen, Asserted, Bracket, Index, High, HighExpr, Most, AType}
use Rattle.go_grammar.specs.Nodes.{is_op, is_word, place_of_expr, begins_expr, maybe}
use Rattle.go_grammar.specs.Parsed.{run}
use Rattle.go_grammar.proofs.Stepping.{ctx, of_kind, run_assoc, first_part, second_part, Halts, halts_op, halted_type}
use Rattle.go_grammar.proofs.Starting.{starts_expr, starts_type, first_is, from_first, expr_no_colon, expr_no_bracket, type_no_type_word}
use Rattle.go_grammar.proofs.Readings.{TypeReads, ExprReads, AfterUnary, halted_expr}
use Rattle.go_grammar.proofs.ChainRules.{UnaryReads}
use Rattle.go_syntax.specs.declared.keyword.Keyword.TheVariants as word

abbrev pub is_signature : t.Expr → Bool
is_signature (t.FuncType at sig) = true
is_signature _ = false

-- parts may come after the operand at the token
abbrev pub AfterPrimary : t.Expr → Token → Type 0
AfterPrimary e u = MayFollow e u × ((wants_dot e && is_op o.Dot u) ≡ false) × ((is_signature e && is_op o.LeftBrace u) ≡ false)

abbrev pub PrimaryReads : ℕ → Bool → List Token → t.Expr → Type 0
PrimaryReads b h ts e = (d : ℕ) (g : Bool) → expr_fits b d e ≡ true → (u : Token) (us : List Token) (s : Stack) → AfterPrimary e u → run (ts ++ u ∷ us) (OfExpr (Operand (ctx d b h g)) ∷ s) ≡ run (u ∷ us) (OfExpr (Tail (ctx d b h g) (parts e) e) ∷ s)

abbrev pub OperandReads : ℕ → List Token → t.Expr → Type 0
OperandReads b ts e = (d : ℕ) (h g : Bool) → expr_fits b d e ≡ true → (u : Token) (us : List Token) (s : Stack) → AfterPrimary e u → run (ts ++ u ∷ us) (OfExpr (Operand (ctx d b h g)) ∷ s) ≡ run (u ∷ us) (OfExpr (Tail (ctx d b h g) 0 e) ∷ s)

pub operand_primary : (b : ℕ) (h : Bool) (ts : List Token) (e : t.Expr) → parts e ≡ 0 → OperandReads b ts e → PrimaryReads b h ts e
operand_primary b h ts e none ih d g fits u us s after = ih d h g fits u us s after ∙ ap (λ n. run (u ∷ us) (OfExpr (Tail (ctx d b h g) n e) ∷ s)) (sym none)

no_brace : (h x : Bool) → (x && (not h || true)) ≡ false → x ≡ false
no_brace true true k = k
no_brace false true k = k
no_brace true false k = refl
no_brace false false k = refl

sig_brace : (h : Bool) (e : t.Expr) (x : Bool) → (x && (not h || wants_brace e)) ≡ false → (is_signature e && x) ≡ false
sig_brace h (t.FuncType at sig) x k = no_brace h x k
sig_brace h _ x k = refl

header_literal : (e : t.Expr) → wants_brace e ≡ false → takes_literal true e ≡ false
header_literal (t.NameExpr at x) k = refl
header_literal (t.SelectExpr at e x) k = refl
header_literal (t.BinaryExpr at x op y) k = refl
header_literal (t.UnaryExpr at op e) k = refl
header_literal (t.FuncType at sig) k = refl
header_literal _ k = k

no_literal : (h x : Bool) (e : t.Expr) → (x && (not h || wants_brace e)) ≡ false → (x && takes_literal h e) ≡ false
no_literal h false e k = refl
no_literal true true e k = header_literal e k
no_literal false true e k = cc

after_unary : (h : Bool) (e : t.Expr) (u : Token) → AfterUnary h e u → AfterPrimary e u
after_unary h e u a = (a.0, and_right _ _ a.1, sig_brace h e (is_op o.LeftBrace u) a.4)

over_tail : (c : Ctx) (n : ℕ) (e : t.Expr) (u : Token) (us : List Token) (s : Stack) → AfterUnary c.header e u → run (u ∷ us) (OfExpr (Tail c n e) ∷ s) ≡ run (u ∷ us) (Done (AnExpr e) ∷ s)
over_tail c n e u us s a =
    let dot : is_op o.Dot u ≡ false = a.1 in
    let bracket : is_op o.LeftBracket u ≡ false = a.2 in
    let paren : is_op o.LeftParen u ≡ false = a.3 in
    let brace : (is_op o.LeftBrace u && takes_literal c.header e) ≡ false = no_literal c.header (is_op o.LeftBrace u) e a.4 in
    simp (dot, bracket, paren, brace)

pub primary_unary : (b : ℕ) (h : Bool) (ts : List Token) (e : t.Expr) → PrimaryReads b h ts e → UnaryReads b h ts e
primary_unary b h ts e ih d g fits u us s after = ih d g fits u us s (after_unary h e u after) ∙ over_tail (ctx d b h g) (parts e) e u us s after

pub dot_after : (e : t.Expr) (v : Token) → wants_dot e ≡ false → IsOp o.Dot v → AfterPrimary e v
dot_after e v w hv = (and_right _ _ (ap begins_type hv.op), and_left _ _ w, and_right _ _ (ap (λ k. is_op o.LeftBrace (of_kind k)) hv.op))

bracket_after : (e : t.Expr) (v : Token) → MayFollow e v → IsOp o.LeftBracket v → AfterPrimary e v
bracket_after e v m hv = (m, and_right _ _ (ap (λ k. is_op o.Dot (of_kind k)) hv.op), and_right _ _ (ap (λ k. is_op o.LeftBrace (of_kind k)) hv.op))

pub paren_after : (e : t.Expr) (v : Token) → MayFollow e v → IsOp o.LeftParen v → AfterPrimary e v
paren_after e v m hv = (m, and_right _ _ (ap (λ k. is_op o.Dot (of_kind k)) hv.op), and_right _ _ (ap (λ k. is_op o.LeftBrace (of_kind k)) hv.op))

literal_no_signature : (h : Bool) (e : t.Expr) → takes_literal h e ≡ true → is_signature e ≡ false
literal_no_signature h (t.FuncType at sig) k = sym k
literal_no_signature h _ k = refl

pub brace_after : (h : Bool) (e : t.Expr) (v : Token) → takes_literal h e ≡ true → IsOp o.LeftBrace v → AfterPrimary e v
brace_after h e v k hv = (and_right _ _ (ap begins_type hv.op), and_right _ _ (ap (λ x. is_op o.Dot (of_kind x)) hv.op), and_left _ _ (literal_no_signature h e k))

pub shorter : (n : ℕ) → is_short (n + 1) ≡ true → nat_lt n 500 ≡ true
shorter n h = grind (arith, nat_tests)

abbrev pub base : Ctx → ℕ → t.Expr → Base
base c n e = record { ctx = c; count = n; expr = e }

-- "." name
pub select_reads : (b : ℕ) (h : Bool) (ts : List Token) (e : t.Expr) (v w : Token) → place_of_expr e ≡ place_of ts → PrimaryReads b h ts e → wants_dot e ≡ false → IsOp o.Dot v → IsName w → PrimaryReads b h (ts ++ v ∷ w ∷ []) (t.SelectExpr (place_of ts) e (name_of w))
select_reads b h ts e v w place ih wants hv n d g fits u us s after =
    let short : nat_lt (parts e) 500 ≡ true = shorter (parts e) (first_part _ _ fits) in
    let taken : run (v ∷ w ∷ u ∷ us) (OfExpr (Tail (ctx d b h g) (parts e) e) ∷ s) ≡ run (u ∷ us) (OfExpr (Tail (ctx d b h g) (parts e + 1) (t.SelectExpr (place_of_expr e) e (name_of w))) ∷ s) = simp (hv.op, n.name, short) in
    run_assoc ts (v ∷ w ∷ []) (u ∷ us) (OfExpr (Operand (ctx d b h g)) ∷ s)
    ∙ (ih d g (second_part _ _ fits) v (w ∷ u ∷ us) s (dot_after e v wants hv)
    ∙ (taken ∙ ap (λ at. run (u ∷ us) (OfExpr (Tail (ctx d b h g) (parts e + 1) (t.SelectExpr at e (name_of w))) ∷ s)) place))

-- after `.(`, a type begins
asserted_begins : (d b : ℕ) (h g : Bool) (n : ℕ) (e : t.Expr) (s : Stack) → has_room d ≡ true → (u : Token) (us : List Token) → begins_type u.kind ≡ true → run (u ∷ us) (OfPart (AssertOpen (base (ctx d b h g) n e)) ∷ s) ≡ run (u ∷ us) (OfType (AType (ctx (d + 1) b false false)) ∷ OfPart (Asserted (base (ctx d b h g) n e)) ∷ s)
asserted_begins d b h g n e s room u us first =
    let no_guard : (g && is_word word.Type u) ≡ false = and_right _ _ (type_no_type_word u.kind first) in
    starts_type u us (OfPart (AssertOpen (base (ctx d b h g) n e))) s (OfPart (Asserted (base (ctx d b h g) n e)) ∷ s) (ctx (d + 1) b false false) (simp (no_guard, room))

-- "." "(" Type ")"
pub assert_reads : (b : ℕ) (h : Bool) (ts us' : List Token) (e ty : t.Expr) (v w x : Token) → place_of_expr e ≡ place_of ts → PrimaryReads b h ts e → wants_dot e ≡ false → IsOp o.Dot v → IsOp o.LeftParen w → first_is begins_type us' ≡ true → TypeReads b us' ty → IsOp o.RightParen x → PrimaryReads b h (ts ++ v ∷ w ∷ us' ++ x ∷ []) (t.AssertExpr (place_of ts) e ty)
assert_reads b h ts us' e ty v w x place ih wants hv hw first iht hx d g fits u us s after =
    let short : nat_lt (parts e) 500 ≡ true = shorter (parts e) (first_part _ _ (first_part _ _ (first_part _ _ fits))) in
    let room : has_room d ≡ true = second_part _ _ (first_part _ _ fits) in
    let x' : Base = base (ctx d b h g) (parts e) e in
    let rest : List Token = us' ++ (x ∷ u ∷ us) in
    let opened : run (v ∷ w ∷ rest) (OfExpr (Tail (ctx d b h g) (parts e) e) ∷ s) ≡ run rest (OfPart (AssertOpen x') ∷ s) = simp (hv.op, hw.op, short, room) in
    let closed : run (x ∷ u ∷ us) (Done (AnExpr ty) ∷ OfPart (Asserted x') ∷ s) ≡ run (u ∷ us) (OfExpr (Tail (ctx d b h g) (parts e + 1) (t.AssertExpr (place_of_expr e) e ty)) ∷ s) = simp (hx.op, short) in
    run_assoc (ts ++ v ∷ w ∷ us') (x ∷ []) (u ∷ us) (OfExpr (Operand (ctx d b h g)) ∷ s)
    ∙ (run_assoc ts (v ∷ w ∷ us') (x ∷ u ∷ us) (OfExpr (Operand (ctx d b h g)) ∷ s)
    ∙ (ih d g (second_part _ _ (first_part _ _ (first_part _ _ fits))) v (w ∷ rest) s (dot_after e v wants hv)
    ∙ (opened
    ∙ (from_first begins_type us' (OfPart (AssertOpen x') ∷ s) (OfType (AType (ctx (d + 1) b false false)) ∷ OfPart (Asserted x') ∷ s) first (asserted_begins d b h g (parts e) e s room) (x ∷ u ∷ us)
    ∙ (iht (d + 1) false false (second_part _ _ fits) x (u ∷ us) (OfPart (Asserted x') ∷ s) (halted_type ty (halts_op hx refl))
    ∙ (closed
    ∙ ap (λ at. run (u ∷ us) (OfExpr (Tail (ctx d b h g) (parts e + 1) (t.AssertExpr at e ty)) ∷ s)) place))))))

index_begins : (d b : ℕ) (h g : Bool) (n : ℕ) (e : t.Expr) (s : Stack) → has_room d ≡ true → (u : Token) (us : List Token) → begins_expr u.kind ≡ true → run (u ∷ us) (OfPart (Bracket (base (ctx d b h g) n e)) ∷ s) ≡ run (u ∷ us) (OfExpr (Operand (ctx (d + 1) b false false)) ∷ OfExpr (Chain (ctx (d + 1) b false false)) ∷ OfPart (Index (base (ctx d b h g) n e)) ∷ s)
index_begins d b h g n e s room u us first =
    let no_colon : is_op o.Colon u ≡ false = expr_no_colon u.kind first in
    starts_expr u us (OfPart (Bracket (base (ctx d b h g) n e))) s (OfPart (Index (base (ctx d b h g) n e)) ∷ s) (ctx (d + 1) b false false) (simp (no_colon, room))

-- an index or the first bound of a slice, up to the token after it
in_brackets : (b : ℕ) (us' : List Token) (i : t.Expr) → first_is begins_expr us' ≡ true → ExprReads b false us' i → (d : ℕ) (h g : Bool) (n : ℕ) (e : t.Expr) (v : Token) (vs : List Token) (s : Stack) → has_room d ≡ true → expr_fits b (d + 1) i ≡ true → Halts v → run (us' ++ v ∷ vs) (OfPart (Bracket (base (ctx d b h g) n e)) ∷ s) ≡ run (v ∷ vs) (Done (AnExpr i) ∷ OfPart (Index (base (ctx d b h g) n e)) ∷ s)
in_brackets b us' i first ih d h g n e v vs s room fits hv =
    from_first begins_expr us' (OfPart (Bracket (base (ctx d b h g) n e)) ∷ s) (OfExpr (Operand (ctx (d + 1) b false false)) ∷ OfExpr (Chain (ctx (d + 1) b false false)) ∷ OfPart (Index (base (ctx d b h g) n e)) ∷ s) first (index_begins d b h g n e s room) (v ∷ vs)
    ∙ ih (d + 1) false fits v vs (OfPart (Index (base (ctx d b h g) n e)) ∷ s) (halted_expr false i hv)

-- the `[` after an operand
bracket_opened : (d b : ℕ) (h g : Bool) (n : ℕ) (e : t.Expr) (v : Token) (vs : List Token) (s : Stack) → IsOp o.LeftBracket v → has_room d ≡ true → nat_lt n 500 ≡ true → run (v ∷ vs) (OfExpr (Tail (ctx d b h g) n e) ∷ s) ≡ run vs (OfPart (Bracket (base (ctx d b h g) n e)) ∷ s)
bracket_opened d b h g n e v vs s hv room short = simp (hv.op, room, short)

-- "[" Expr "]"
pub index_reads : (b : ℕ) (h : Bool) (ts us' : List Token) (e i : t.Expr) (v x : Token) → place_of_expr e ≡ place_of ts → PrimaryReads b h ts e → MayFollow e v → IsOp o.LeftBracket v → first_is begins_expr us' ≡ true → ExprReads b false us' i → IsOp o.RightBracket x → PrimaryReads b h (ts ++ v ∷ us' ++ x ∷ []) (t.IndexExpr (place_of ts) e i)
index_reads b h ts us' e i v x place ih may hv first ihi hx d g fits u us s after =
    let short : nat_lt (parts e) 500 ≡ true = shorter (parts e) (first_part _ _ (first_part _ _ (first_part _ _ fits))) in
    let room : has_room d ≡ true = second_part _ _ (first_part _ _ fits) in
    let closed : run (x ∷ u ∷ us) (Done (AnExpr i) ∷ OfPart (Index (base (ctx d b h g) (parts e) e)) ∷ s) ≡ run (u ∷ us) (OfExpr (Tail (ctx d b h g) (parts e + 1) (t.IndexExpr (place_of_expr e) e i)) ∷ s) = simp (hx.op, short) in
    run_assoc (ts ++ v ∷ us') (x ∷ []) (u ∷ us) (OfExpr (Operand (ctx d b h g)) ∷ s)
    ∙ (run_assoc ts (v ∷ us') (x ∷ u ∷ us) (OfExpr (Operand (ctx d b h g)) ∷ s)
    ∙ (ih d g (second_part _ _ (first_part _ _ (first_part _ _ fits))) v (us' ++ (x ∷ u ∷ us)) s (bracket_after e v may hv)
    ∙ (bracket_opened d b h g (parts e) e v (us' ++ (x ∷ u ∷ us)) s hv room short
    ∙ (in_brackets b us' i first ihi d h g (parts e) e x (u ∷ us) s room (second_part _ _ fits) (halts_op hx refl)
    ∙ (closed
    ∙ ap (λ at. run (u ∷ us) (OfExpr (Tail (ctx d b h g) (parts e + 1) (t.IndexExpr at e i)) ∷ s)) place)))))

abbrev pub option_of : t.MaybeExpr → Option t.Expr
option_of t.NoExpr = None
option_of (t.AnExpr e) = Some e

pub maybe_option : (i : t.MaybeExpr) → maybe (option_of i) ≡ i
maybe_option t.NoExpr = refl
maybe_option (t.AnExpr e) = refl

-- [Expr] ":" after `[`
abbrev pub LowReads : ℕ → List Token → t.MaybeExpr → Type 0
LowReads b ts i = (d : ℕ) (h g : Bool) → has_room d ≡ true → maybe_fits b (d + 1) i ≡ true → (n : ℕ) (e : t.Expr) (v : Token) (vs : List Token) (s : Stack) → IsOp o.Colon v → run (ts ++ v ∷ vs) (OfPart (Bracket (base (ctx d b h g) n e)) ∷ s) ≡ run vs (OfPart (High (base (ctx d b h g) n e) (option_of i)) ∷ s)

pub no_low_reads : (b : ℕ) → LowReads b [] t.NoExpr
no_low_reads b d h g room fits n e v vs s hv = simp hv.op

pub low_reads : (b : ℕ) (ts : List Token) (i : t.Expr) → first_is begins_expr ts ≡ true → ExprReads b false ts i → LowReads b ts (t.AnExpr i)
low_reads b ts i first ih d h g room fits n e v vs s hv = in_brackets b ts i first ih d h g n e v vs s room fits (halts_op hv refl) ∙ simp hv.op

high_begins : (d b : ℕ) (h g : Bool) (n : ℕ) (e : t.Expr) (low : Option t.Expr) (s : Stack) → has_room d ≡ true → (u : Token) (us : List Token) → begins_expr u.kind ≡ true → run (u ∷ us) (OfPart (High (base (ctx d b h g) n e) low) ∷ s) ≡ run (u ∷ us) (OfExpr (Operand (ctx (d + 1) b false false)) ∷ OfExpr (Chain (ctx (d + 1) b false false)) ∷ OfPart (HighExpr (base (ctx d b h g) n e) low) ∷ s)
high_begins d b h g n e low s room u us first =
    let no_close : is_op o.RightBracket u ≡ false = expr_no_bracket u.kind first in
    starts_expr u us (OfPart (High (base (ctx d b h g) n e) low)) s (OfPart (HighExpr (base (ctx d b h g) n e) low) ∷ s) (ctx (d + 1) b false false) (simp (no_close, room))

-- the second bound, up to the token after it
second_bound : (b : ℕ) (us' : List Token) (i : t.Expr) → first_is begins_expr us' ≡ true → ExprReads b false us' i → (d : ℕ) (h g : Bool) (n : ℕ) (e : t.Expr) (low : Option t.Expr) (v : Token) (vs : List Token) (s : Stack) → has_room d ≡ true → expr_fits b (d + 1) i ≡ true → Halts v → run (us' ++ v ∷ vs) (OfPart (High (base (ctx d b h g) n e) low) ∷ s) ≡ run (v ∷ vs) (Done (AnExpr i) ∷ OfPart (HighExpr (base (ctx d b h g) n e) low) ∷ s)
second_bound b us' i first ih d h g n e low v vs s room fits hv =
    from_first begins_expr us' (OfPart (High (base (ctx d b h g) n e) low) ∷ s) (OfExpr (Operand (ctx (d + 1) b false false)) ∷ OfExpr (Chain (ctx (d + 1) b false false)) ∷ OfPart (HighExpr (base (ctx d b h g) n e) low) ∷ s) first (high_begins d b h g n e low s room) (v ∷ vs)
    ∙ ih (d + 1) false fits v vs (OfPart (HighExpr (base (ctx d b h g) n e) low) ∷ s) (halted_expr false i hv)

-- [Expr] "]" after `[i:`
abbrev pub HighReads : ℕ → List Token → t.MaybeExpr → Type 0
HighReads b ts j = (d : ℕ) (h g : Bool) → has_room d ≡ true → maybe_fits b (d + 1) j ≡ true → (n : ℕ) → nat_lt n 500 ≡ true → (e : t.Expr) (low : Option t.Expr) (v : Token) (vs : List Token) (s : Stack) → IsOp o.RightBracket v → run (ts ++ v ∷ vs) (OfPart (High (base (ctx d b h g) n e) low) ∷ s) ≡ run vs (OfExpr (Tail (ctx d b h g) (n + 1) (t.SliceExpr (place_of_expr e) e (maybe low) j t.NoExpr)) ∷ s)

pub no_high_reads : (b : ℕ) → HighReads b [] t.NoExpr
no_high_reads b d h g room fits n short e low v vs s hv = simp (hv.op, short)

pub high_reads : (b : ℕ) (ts : List Token) (j : t.Expr) → first_is begins_expr ts ≡ true → ExprReads b false ts j → HighReads b ts (t.AnExpr j)
high_reads b ts j first ih d h g room fits n short e low v vs s hv = second_bound b ts j first ih d h g n e low v vs s room fits (halts_op hv refl) ∙ simp (hv.op, short)

-- "[" [Expr] ":" [Expr] "]"
pub slice_reads : (b : ℕ) (h : Bool) (ts low high : List Token) (e : t.Expr) (i j : t.MaybeExpr) (v w x : Token) → place_of_expr e ≡ place_of ts → PrimaryReads b h ts e → MayFollow e v → IsOp o.LeftBracket v → LowReads b low i → IsOp o.Colon w → HighReads b high j → IsOp o.RightBracket x → PrimaryReads b h (ts ++ v ∷ low ++ w ∷ high ++ x ∷ []) (t.SliceExpr (place_of ts) e i j t.NoExpr)
slice_reads b h ts low high e i j v w x place ih may hv ihi hw ihj hx d g fits u us s after =
    let short : nat_lt (parts e) 500 ≡ true = shorter (parts e) (first_part _ _ (first_part _ _ (first_part _ _ (first_part _ _ (first_part _ _ fits))))) in
    let fits_e : expr_fits b d e ≡ true = second_part _ _ (first_part _ _ (first_part _ _ (first_part _ _ (first_part _ _ fits)))) in
    let room : has_room d ≡ true = second_part _ _ (first_part _ _ (first_part _ _ (first_part _ _ fits))) in
    let fits_i : maybe_fits b (d + 1) i ≡ true = second_part _ _ (first_part _ _ (first_part _ _ fits)) in
    let fits_j : maybe_fits b (d + 1) j ≡ true = second_part _ _ (first_part _ _ fits) in
    let c : Ctx = ctx d b h g in
    let n : ℕ = parts e in
    run_assoc (ts ++ v ∷ low ++ w ∷ high) (x ∷ []) (u ∷ us) (OfExpr (Operand c) ∷ s)
    ∙ (run_assoc (ts ++ v ∷ low) (w ∷ high) (x ∷ u ∷ us) (OfExpr (Operand c) ∷ s)
    ∙ (run_assoc ts (v ∷ low) (w ∷ high ++ (x ∷ u ∷ us)) (OfExpr (Operand c) ∷ s)
    ∙ (ih d g fits_e v (low ++ (w ∷ high ++ (x ∷ u ∷ us))) s (bracket_after e v may hv)
    ∙ (bracket_opened d b h g n e v (low ++ (w ∷ high ++ (x ∷ u ∷ us))) s hv room short
    ∙ (ihi d h g room fits_i n e w (high ++ (x ∷ u ∷ us)) s hw
    ∙ (ihj d h g room fits_j n short e (option_of i) x (u ∷ us) s hx
    ∙ (ap (λ at. run (u ∷ us) (OfExpr (Tail c (n + 1) (t.SliceExpr at e (maybe (option_of i)) j t.NoExpr)) ∷ s)) place
    ∙ ap (λ y. run (u ∷ us) (OfExpr (Tail c (n + 1) (t.SliceExpr (place_of ts) e y j t.NoExpr)) ∷ s)) (maybe_option i))))))))

-- "[" [Expr] ":" Expr ":" Expr "]"
pub full_slice_reads : (b : ℕ) (h : Bool) (ts low high most : List Token) (e j k : t.Expr) (i : t.MaybeExpr) (v w y x : Token) → place_of_expr e ≡ place_of ts → PrimaryReads b h ts e → MayFollow e v → IsOp o.LeftBracket v → LowReads b low i → IsOp o.Colon w → first_is begins_expr high ≡ true → ExprReads b false high j → IsOp o.Colon y → ExprReads b false most k → IsOp o.RightBracket x → PrimaryReads b h (ts ++ v ∷ low ++ w ∷ high ++ y ∷ most ++ x ∷ []) (t.SliceExpr (place_of ts) e i (t.AnExpr j) (t.AnExpr k))
full_slice_reads b h ts low high most e j k i v w y x place ih may hv ihi hw first ihj hy ihk hx d g fits u us s after =
    let short : nat_lt (parts e) 500 ≡ true = shorter (parts e) (first_part _ _ (first_part _ _ (first_part _ _ (first_part _ _ (first_part _ _ fits))))) in
    let fits_e : expr_fits b d e ≡ true = second_part _ _ (first_part _ _ (first_part _ _ (first_part _ _ (first_part _ _ fits)))) in
    let room : has_room d ≡ true = second_part _ _ (first_part _ _ (first_part _ _ (first_part _ _ fits))) in
    let fits_i : maybe_fits b (d + 1) i ≡ true = second_part _ _ (first_part _ _ (first_part _ _ fits)) in
    let fits_j : expr_fits b (d + 1) j ≡ true = second_part _ _ (first_part _ _ fits) in
    let fits_k : expr_fits b (d + 1) k ≡ true = second_part _ _ fits in
    let c : Ctx = ctx d b h g in
    let c' : Ctx = ctx (d + 1) b false false in
    let n : ℕ = parts e in
    let low' : Option t.Expr = option_of i in
    let colon : run (y ∷ (most ++ (x ∷ u ∷ us))) (Done (AnExpr j) ∷ OfPart (HighExpr (base c n e) low') ∷ s) ≡ run (most ++ (x ∷ u ∷ us)) (OfExpr (Operand c') ∷ OfExpr (Chain c') ∷ OfPart (Most (base c n e) low' j) ∷ s) = simp (hy.op, room) in
    let closed : run (x ∷ u ∷ us) (Done (AnExpr k) ∷ OfPart (Most (base c n e) low' j) ∷ s) ≡ run (u ∷ us) (OfExpr (Tail c (n + 1) (t.SliceExpr (place_of_expr e) e (maybe low') (t.AnExpr j) (t.AnExpr k))) ∷ s) = simp (hx.op, short) in
    run_assoc (ts ++ v ∷ low ++ w ∷ high ++ y ∷ most) (x ∷ []) (u ∷ us) (OfExpr (Operand c) ∷ s)
    ∙ (run_assoc (ts ++ v ∷ low ++ w ∷ high) (y ∷ most) (x ∷ u ∷ us) (OfExpr (Operand c) ∷ s)
    ∙ (run_assoc (ts ++ v ∷ low) (w ∷ high) (y ∷ most ++ (x ∷ u ∷ us)) (OfExpr (Operand c) ∷ s)
    ∙ (run_assoc ts (v ∷ low) (w ∷ high ++ (y ∷ most ++ (x ∷ u ∷ us))) (OfExpr (Operand c) ∷ s)
    ∙ (ih d g fits_e v (low ++ (w ∷ high ++ (y ∷ most ++ (x ∷ u ∷ us)))) s (bracket_after e v may hv)
    ∙ (bracket_opened d b h g n e v (low ++ (w ∷ high ++ (y ∷ most ++ (x ∷ u ∷ us)))) s hv room short
    ∙ (ihi d h g room fits_i n e w (high ++ (y ∷ most ++ (x ∷ u ∷ us))) s hw
    ∙ (second_bound b high j first ihj d h g n e low' y (most ++ (x ∷ u ∷ us)) s room fits_j (halts_op hy refl)
    ∙ (colon
    ∙ (ihk (d + 1) false fits_k x (u ∷ us) (OfPart (Most (base c n e) low' j) ∷ s) (halted_expr false k (halts_op hx refl))
    ∙ (closed
    ∙ (ap (λ at. run (u ∷ us) (OfExpr (Tail c (n + 1) (t.SliceExpr at e (maybe low') (t.AnExpr j) (t.AnExpr k))) ∷ s)) place
    ∙ ap (λ z. run (u ∷ us) (OfExpr (Tail c (n + 1) (t.SliceExpr (place_of ts) e z (t.AnExpr j) (t.AnExpr k))) ∷ s)) (maybe_option i))))))))))))

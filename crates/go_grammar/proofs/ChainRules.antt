-- Chains of binary operators and prefixes. While a chain is read, the frame on top of the stack below its
-- operand is `Chain` or the `Left` of a looser operator.
use Rattle.std.proofs.Common.{◌≡◌, ◌+◌, ◌<◌, ◌≤◌, ℕ, Bool, true, false, cond, nat_lt, ◌&&◌, List, ◌∷◌, ◌++◌, Option, Some, None, refl, sym, ◌∙◌, ap, subst, arith}
use Rattle.std.proofs.lemmas.Bool.{and_left}
use Rattle.std.proofs.lemmas.Bool.Decides.{nat_tests}
use Rattle.gj_base.specs.declared.place.Place.{Place}
use Rattle.gj_base.specs.declared.kind.Op.{Op}
use Rattle.go_syntax.specs.Tree as t
use Rattle.go_syntax.specs.Token.{Token}
use Rattle.go_syntax.specs.declared.kind.TokenKind.{TokenKind}
use Rattle.go_syntax.specs.declared.kind.TokenKind.TheVariants as kind
use Rattle.go_syntax.specs.declared.operator.Operator.TheVariants as o
use Rattle.go_syntax.specs.declared.tree.Prefix.{Prefix}
use Rattle.go_syntax.specs.declared.tree.Prefix.TheVariants as «prefix»
use Rattle.go_syntax.specs.declared.tree.ChanDir.TheVariants as dir
use Rattle.go_grammar.specs.Classes.{IsOp, IsBinary, binary_op, prefix_op, level, place_of}
use Rattle.go_grammar.specs.Context.{MayFollow, is_receive, is_channel}
use Rattle.go_grammar.specs.Limits.{has_room, is_short, expr_fits, operators}
use Rattle.go_grammar.specs.Frames.{Ctx, deeper, AnExpr, AChain, ExprFrame, OfExpr, Done, Stack, Goes, Deep, Operand, Chain, Left, Before}
use Rattle.go_grammar.specs.ExprSteps as step
use Rattle.go_grammar.specs.Nodes as node
use Rattle.go_grammar.specs.Nodes.{is_op, place_of_expr}
use Rattle.go_grammar.specs.Parsed.{run, after_step, goes_on, hands}
use Rattle.go_grammar.proofs.Stepping.{ctx, of_kind, run_assoc, first_part, second_part}
use Rattle.go_grammar.proofs.Starting.{with_kind}
use Rattle.go_grammar.proofs.Readings.{AfterUnary, ExprReads}
use Rattle.go_grammar.proofs.TypeRules.{room_below}

abbrev pub UnaryReads : ℕ → Bool → List Token → t.Expr → Type 0
UnaryReads b h ts e = (d : ℕ) (g : Bool) → expr_fits b d e ≡ true → (u : Token) (us : List Token) (s : Stack) → AfterUnary h e u → run (ts ++ u ∷ us) (OfExpr (Operand (ctx d b h g)) ∷ s) ≡ run (u ∷ us) (Done (AnExpr e) ∷ s)

-- a frame that waits for an operand of an operator that binds at least as tightly as a level, with so
-- many operators before it
pub data Waits (c : Ctx) : ℕ → ℕ → ExprFrame → Type 0 where
  first : {k : ℕ} → Waits c k 0 (Chain c)
  right : {k m : ℕ} {a : t.Expr} {op : Op} → level op < k → Waits c k m (Left c m a op)

-- a binary operator that the token is binds no tighter than a level
abbrev pub Looser : ℕ → Token → Type 0
Looser k u = (op : Op) → binary_op u.kind ≡ Some op → level op ≤ k

abbrev pub LevelReads : ℕ → ℕ → Bool → List Token → t.Expr → Type 0
LevelReads b k h ts e = (d : ℕ) (g : Bool) → expr_fits b d e ≡ true → (f : ExprFrame) (m : ℕ) → Waits (ctx d b h g) k m f → m + operators e ≤ 500 → (u : Token) (us : List Token) (s : Stack) → AfterUnary h e u → Looser k u → run (ts ++ u ∷ us) (OfExpr (Operand (ctx d b h g)) ∷ OfExpr f ∷ s) ≡ run (u ∷ us) (Done (AChain (m + operators e) e) ∷ OfExpr f ∷ s)

alone : (c : Ctx) (k m : ℕ) (f : ExprFrame) (e : t.Expr) (u : Token) (us : List Token) (s : Stack) → Waits c k m f → run (u ∷ us) (Done (AnExpr e) ∷ OfExpr f ∷ s) ≡ run (u ∷ us) (Done (AChain m e) ∷ OfExpr f ∷ s)
alone c k _ _ e u us s first = refl
alone c k _ _ e u us s (right lt) = refl

pub next_level : (n : ℕ) → n < n + 1
next_level n = omega arith

looser_next : (k : ℕ) (u : Token) → Looser k u → Looser (k + 1) u
looser_next k u looser op e = let l = looser op e in omega arith

no_more : (m n : ℕ) → n ≡ 0 → m ≡ m + n
no_more m n h = omega (arith, h)

pub unary_level : (b : ℕ) (h : Bool) (ts : List Token) (e : t.Expr) → operators e ≡ 0 → UnaryReads b h ts e → LevelReads b 6 h ts e
unary_level b h ts e none ih d g fits f m w short u us s after looser =
    ih d g fits u us (OfExpr f ∷ s) after
    ∙ (alone (ctx d b h g) 6 m f e u us s w
    ∙ ap (λ n. run (u ∷ us) (Done (AChain n e) ∷ OfExpr f ∷ s)) (no_more m (operators e) none))

pub looser_waits : (c : Ctx) (k m : ℕ) (f : ExprFrame) → Waits c k m f → Waits c (k + 1) m f
looser_waits c k _ _ first = first
looser_waits c k _ _ (right lt) = right (omega arith)

pub tighter_level : (b k : ℕ) (h : Bool) (ts : List Token) (e : t.Expr) → LevelReads b (k + 1) h ts e → LevelReads b k h ts e
tighter_level b k h ts e ih d g fits f m w short u us s after looser =
    ih d g fits f m (looser_waits (ctx d b h g) k m f w) short u us s after (λ op e'. let l = looser op e' in omega arith)

-- the frame with another count
abbrev pub recount : ExprFrame → ℕ → ExprFrame
recount (Left c m a op) n = Left c n a op
recount f n = f

recounted : (c : Ctx) (k m n j : ℕ) (f : ExprFrame) (e : t.Expr) (u : Token) (us : List Token) (s : Stack) → Waits c k m f → run (u ∷ us) (Done (AChain j e) ∷ OfExpr (recount f n) ∷ s) ≡ run (u ∷ us) (Done (AChain j e) ∷ OfExpr f ∷ s)
recounted c k m n j _ e u us s first = refl
recounted c k m n j _ e u us s (right lt) = refl

-- the operator after an operand
pub taken_operator : (c : Ctx) (m n : ℕ) (f : ExprFrame) (a : t.Expr) (op : Op) (v : Token) (vs : List Token) (s : Stack) → Waits c (level op) m f → binary_op v.kind ≡ Some op → nat_lt n 500 ≡ true → run (v ∷ vs) (Done (AChain n a) ∷ OfExpr f ∷ s) ≡ run vs (OfExpr (Operand c) ∷ OfExpr (Left c (n + 1) a op) ∷ OfExpr (recount f n) ∷ s)
taken_operator c m n _ a op v vs s first hb short = simp (hb, short)
taken_operator c m n _ a op v vs s (right {op = op'} lt) hb short =
    let tight : nat_lt (level op') (level op) ≡ true = grind (arith, nat_tests) in
    simp (hb, tight, short)

-- the right operand is done
folded_at : (c : Ctx) (m n : ℕ) (a e : t.Expr) (op : Op) (u : Token) (us : List Token) (s : Stack) (x : Option Op) → binary_op u.kind ≡ x → ((op' : Op) → x ≡ Some op' → level op' ≤ level op) → run (u ∷ us) (Done (AChain n e) ∷ OfExpr (Left c m a op) ∷ s) ≡ run (u ∷ us) (Done (AChain n (t.BinaryExpr (place_of_expr a) a op e)) ∷ s)
folded_at c m n a e op u us s None hx looser = simp hx
folded_at c m n a e op u us s (Some op') hx looser =
    let le : level op' ≤ level op = looser op' refl in
    let slack : nat_lt (level op) (level op') ≡ false = grind (arith, nat_tests) in
    simp (hx, slack)

no_dot : (k : TokenKind) (op : Op) → binary_op k ≡ Some op → is_op o.Dot (of_kind k) ≡ false
no_dot (kind.Op o.Dot) op h = cc
no_dot _ op h = refl

no_bracket : (k : TokenKind) (op : Op) → binary_op k ≡ Some op → is_op o.LeftBracket (of_kind k) ≡ false
no_bracket (kind.Op o.LeftBracket) op h = cc
no_bracket _ op h = refl

no_paren : (k : TokenKind) (op : Op) → binary_op k ≡ Some op → is_op o.LeftParen (of_kind k) ≡ false
no_paren (kind.Op o.LeftParen) op h = cc
no_paren _ op h = refl

no_brace : (k : TokenKind) (op : Op) → binary_op k ≡ Some op → is_op o.LeftBrace (of_kind k) ≡ false
no_brace (kind.Op o.LeftBrace) op h = cc
no_brace _ op h = refl

pub after_operand : (h : Bool) (a : t.Expr) (v : Token) (op : Op) → binary_op v.kind ≡ Some op → MayFollow a v → AfterUnary h a v
after_operand h a v op hb m = (m, no_dot v.kind op hb, no_bracket v.kind op hb, no_paren v.kind op hb, and_left _ _ (no_brace v.kind op hb))

pub same_level : (k : TokenKind) (op op' : Op) → binary_op k ≡ Some op → binary_op k ≡ Some op' → level op' ≤ level op
same_level k op op' h h' = let e : op' ≡ op = cc in let e' : level op' ≡ level op = ap level e in omega arith

pub less_than : (n x y : ℕ) → n + (x + 1 + y) ≤ 500 → nat_lt (n + x) 500 ≡ true
less_than n x y h = grind (arith, nat_tests)

sum_of : (m x y : ℕ) → m + x + 1 + y ≡ m + (x + 1 + y)
sum_of m x y = omega arith

pub left_short : (m x y : ℕ) → m + (x + 1 + y) ≤ 500 → m + x ≤ 500
left_short m x y h = omega arith

pub all_short : (m x y : ℕ) → m + (x + 1 + y) ≤ 500 → m + x + 1 + y ≤ 500
all_short m x y h = omega arith

pub binary_level : (b : ℕ) (h : Bool) (ts us' : List Token) (x y : t.Expr) (v : Token) (op : Op) → IsBinary op v → MayFollow x v → place_of_expr x ≡ place_of ts → LevelReads b (level op) h ts x → LevelReads b (level op + 1) h us' y → LevelReads b (level op) h (ts ++ v ∷ us') (t.BinaryExpr (place_of ts) x op y)
binary_level b h ts us' x y v op hv may place ihx ihy d g fits f m w short u us s after looser =
    let c : Ctx = ctx d b h g in
    let fits_x : expr_fits b d x ≡ true = second_part _ _ (first_part _ _ fits) in
    let fits_y : expr_fits b d y ≡ true = second_part _ _ fits in
    let n : ℕ = m + operators x in
    let f' : ExprFrame = recount f n in
    run_assoc ts (v ∷ us') (u ∷ us) (OfExpr (Operand c) ∷ OfExpr f ∷ s)
    ∙ (ihx d g fits_x f m w (left_short m (operators x) (operators y) short) v (us' ++ u ∷ us) s (after_operand h x v op hv.binary may) (λ op' e. same_level v.kind op op' hv.binary e)
    ∙ (taken_operator c m n f x op v (us' ++ u ∷ us) s w hv.binary (less_than m (operators x) (operators y) short)
    ∙ (ihy d g fits_y (Left c (n + 1) x op) (n + 1) (right (next_level (level op))) (all_short m (operators x) (operators y) short) u us (OfExpr f' ∷ s) after (looser_next (level op) u looser)
    ∙ (folded_at c (n + 1) (n + 1 + operators y) x y op u us (OfExpr f' ∷ s) (binary_op u.kind) refl looser
    ∙ (recounted c (level op) m n (n + 1 + operators y) f (t.BinaryExpr (place_of_expr x) x op y) u us s w
    ∙ (ap (λ j. run (u ∷ us) (Done (AChain j (t.BinaryExpr (place_of_expr x) x op y)) ∷ OfExpr f ∷ s)) (sum_of m (operators x) (operators y))
    ∙ ap (λ at. run (u ∷ us) (Done (AChain (m + (operators x + 1 + operators y)) (t.BinaryExpr at x op y)) ∷ OfExpr f ∷ s)) place))))))

short_is : (n : ℕ) → is_short n ≡ true → n ≤ 500
short_is n h = grind (arith, nat_tests)

pub short_chain : (b d : ℕ) (e : t.Expr) → expr_fits b d e ≡ true → 0 + operators e ≤ 500
short_chain b d (t.BinaryExpr at x op y) h = let n : operators (t.BinaryExpr at x op y) ≤ 500 = short_is (operators (t.BinaryExpr at x op y)) (first_part _ _ (first_part _ _ h)) in omega arith
short_chain b d _ h = omega arith

over_chain : (c : Ctx) (n : ℕ) (e : t.Expr) (u : Token) (us : List Token) (s : Stack) → binary_op u.kind ≡ None → run (u ∷ us) (Done (AChain n e) ∷ OfExpr (Chain c) ∷ s) ≡ run (u ∷ us) (Done (AnExpr e) ∷ s)
over_chain c n e u us s h = simp h

pub expr_reads : (b : ℕ) (h : Bool) (ts : List Token) (e : t.Expr) → LevelReads b 1 h ts e → ExprReads b h ts e
expr_reads b h ts e ih d g fits u us s after =
    let no_op : binary_op u.kind ≡ None = after.1 in
    ih d g fits (Chain (ctx d b h g)) 0 first (short_chain b d e fits) u us s after.0 (λ op e'. absurd (some_none op (sym e' ∙ no_op)))
    ∙ over_chain (ctx d b h g) (0 + operators e) e u us s no_op
  where
    some_none : (op : Op) → Some op ≡ None → ⊥
    some_none op p = cc

-- prefixes

same_prefix : (p q : Prefix) → Some p ≡ Some q → p ≡ q
same_prefix p q h = cc

prefix_operand : (k : TokenKind) (p : Prefix) (v : Token) (c : Ctx) (s : Stack) → prefix_op k ≡ Some p → step.operand (with_kind k v) c s ≡ (cond (has_room c.depth) (Goes (OfExpr (Operand (deeper c)) ∷ OfExpr (Before v.place p) ∷ s)) Deep)
prefix_operand (kind.Op o.Add) p v c s h = ap (λ q. cond (has_room c.depth) (Goes (OfExpr (Operand (deeper c)) ∷ OfExpr (Before v.place q) ∷ s)) Deep) (same_prefix _ _ h)
prefix_operand (kind.Op o.Sub) p v c s h = ap (λ q. cond (has_room c.depth) (Goes (OfExpr (Operand (deeper c)) ∷ OfExpr (Before v.place q) ∷ s)) Deep) (same_prefix _ _ h)
prefix_operand (kind.Op o.Not) p v c s h = ap (λ q. cond (has_room c.depth) (Goes (OfExpr (Operand (deeper c)) ∷ OfExpr (Before v.place q) ∷ s)) Deep) (same_prefix _ _ h)
prefix_operand (kind.Op o.Xor) p v c s h = ap (λ q. cond (has_room c.depth) (Goes (OfExpr (Operand (deeper c)) ∷ OfExpr (Before v.place q) ∷ s)) Deep) (same_prefix _ _ h)
prefix_operand (kind.Op o.Mul) p v c s h = ap (λ q. cond (has_room c.depth) (Goes (OfExpr (Operand (deeper c)) ∷ OfExpr (Before v.place q) ∷ s)) Deep) (same_prefix _ _ h)
prefix_operand (kind.Op o.And) p v c s h = ap (λ q. cond (has_room c.depth) (Goes (OfExpr (Operand (deeper c)) ∷ OfExpr (Before v.place q) ∷ s)) Deep) (same_prefix _ _ h)
prefix_operand (kind.Op o.Arrow) p v c s h = ap (λ q. cond (has_room c.depth) (Goes (OfExpr (Operand (deeper c)) ∷ OfExpr (Before v.place q) ∷ s)) Deep) (same_prefix _ _ h)
prefix_operand _ p v c s h = cc

pub before_taken : (b d : ℕ) (h g : Bool) (p : Prefix) (v : Token) (vs : List Token) (s : Stack) → prefix_op v.kind ≡ Some p → has_room d ≡ true → run (v ∷ vs) (OfExpr (Operand (ctx d b h g)) ∷ s) ≡ run vs (OfExpr (Operand (ctx (d + 1) b h g)) ∷ OfExpr (Before v.place p) ∷ s)
before_taken b d h g p v vs s hp room =
    ap (λ x. after_step v (run vs) (goes_on (hands v s) x)) (prefix_operand v.kind p v (ctx d b h g) s hp)
    ∙ simp room

pub unary_is : (at : Place) (p : Prefix) (e : t.Expr) → (is_receive p && is_channel e) ≡ false → node.unary at p e ≡ t.UnaryExpr at p e
unary_is at «prefix».Receive (t.ChanType at' dir.Both e) h = cc
unary_is at p (t.ChanType at' dir.Both e) h = refl
unary_is at p _ h = refl

pub before_reads : (b : ℕ) (h : Bool) (ts : List Token) (e : t.Expr) (v : Token) (p : Prefix) → prefix_op v.kind ≡ Some p → (is_receive p && is_channel e) ≡ false → UnaryReads b h ts e → UnaryReads b h (v ∷ ts) (t.UnaryExpr v.place p e)
before_reads b h ts e v p hp apart ih d g fits u us s after =
    before_taken b d h g p v (ts ++ u ∷ us) s hp (first_part _ _ fits)
    ∙ (ih (d + 1) g (second_part _ _ fits) u us (OfExpr (Before v.place p) ∷ s) after
    ∙ ap (λ x. run (u ∷ us) (Done (AnExpr x) ∷ s)) (unary_is v.place p e apart))

pub receive_channel_reads : (b : ℕ) (h : Bool) (ts : List Token) (at : Place) (e : t.Expr) (v : Token) → IsOp o.Arrow v → UnaryReads b h ts (t.ChanType at dir.Both e) → UnaryReads b h (v ∷ ts) (t.ChanType v.place dir.Receive e)
receive_channel_reads b h ts at e v hv ih d g fits u us s after =
    let room : has_room (d + 1) ≡ true = first_part _ _ fits in
    let two : d + 2 ≡ d + 1 + 1 = omega arith in
    let within : (has_room (d + 1) && expr_fits b (d + 1 + 1) e) ≡ true = subst (λ n. (has_room (d + 1) && expr_fits b n e) ≡ true) two fits in
    before_taken b d h g «prefix».Receive v (ts ++ u ∷ us) s (ap prefix_op hv.op) (room_below d room)
    ∙ ih (d + 1) g within u us (OfExpr (Before v.place «prefix».Receive) ∷ s) after

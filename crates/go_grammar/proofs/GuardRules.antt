-- An expression with `.(type)` after it: from where it begins, the machine comes to the guard at its `)`.
use Rattle.std.proofs.Common.{◌≡◌, ◌+◌, ◌≤◌, ℕ, Bool, true, false, nat_lt, ◌&&◌, List, ◌∷◌, ◌++◌, Some, None, refl, ◌∙◌, ap, subst, arith}
use Rattle.gj_base.specs.declared.place.Place.{Place}
use Rattle.gj_base.specs.declared.kind.Op.{Op}
use Rattle.go_syntax.specs.Tree as t
use Rattle.go_syntax.specs.Token.{Token}
use Rattle.go_syntax.specs.declared.keyword.Keyword.TheVariants as word
use Rattle.go_syntax.specs.declared.operator.Operator.TheVariants as o
use Rattle.go_syntax.specs.declared.tree.Prefix.{Prefix}
use Rattle.go_syntax.specs.declared.tree.Prefix.TheVariants as «prefix»
use Rattle.go_syntax.specs.declared.tree.ChanDir.TheVariants as dir
use Rattle.go_grammar.specs.Classes.{IsOp, IsWord, IsBinary, prefix_op, level, place_of}
use Rattle.go_grammar.specs.Context.{MayFollow, wants_dot, is_receive, is_channel}
use Rattle.go_grammar.specs.Limits.{has_room, expr_fits, operators, parts, last_parts, prefixes}
use Rattle.go_grammar.specs.Frames.{Ctx, AGuard, ExprFrame, OfExpr, Done, Stack, Operand, Chain, Left, Before, Tail}
use Rattle.go_grammar.specs.Grammar.{IsExpr, binary, tighter, unary, IsUnary, operator_before, receive_channel, primary, IsPrimary, operand, select, assert, index, slice, full_slice, call_of_none, call, literal, IsOperand, int, rune, string, name, parens, function, function_type_operand, type_operand, IsBegunType, slice_type, array_type, counted_array_type, map_type, chan_type, send_type, struct_type, interface_type}
use Rattle.go_grammar.specs.Parsed.{run}
use Rattle.go_grammar.proofs.Stepping.{ctx, run_assoc, first_part, second_part}
use Rattle.go_grammar.proofs.Begins.{expr_begun}
use Rattle.go_grammar.proofs.ChainRules.{Waits, first, right, next_level, looser_waits, recount, taken_operator, after_operand, same_level, left_short, less_than, all_short, before_taken, unary_is, short_chain}
use Rattle.go_grammar.proofs.PartRules.{dot_after}
use Rattle.go_grammar.proofs.TypeRules.{room_below}
use Rattle.go_grammar.proofs.OperandRules.{Inside}
use Rattle.go_grammar.proofs.Exprs.{level_reads, primary_reads}

-- the four tokens of the guard
pub record GuardTokens (u v w x : Token) : Type 0 where
  pub dot : IsOp o.Dot u
  pub open_paren : IsOp o.LeftParen v
  pub word : IsWord word.Type w
  pub close_paren : IsOp o.RightParen x

begun_last : {ts : List Token} {e : t.Expr} → IsBegunType ts e → last_parts e ≡ parts e
begun_last (slice_type h h' d) = refl
begun_last (array_type h n h' d) = refl
begun_last (counted_array_type h h' h'' d) = refl
begun_last (map_type h h' k h'' d) = refl
begun_last (chan_type h n d) = refl
begun_last (send_type h h' d) = refl
begun_last (struct_type h h' d h'') = refl
begun_last (interface_type h h' d h'') = refl

begun_prefixes : {ts : List Token} {e : t.Expr} → IsBegunType ts e → prefixes e ≡ 0
begun_prefixes (slice_type h h' d) = refl
begun_prefixes (array_type h n h' d) = refl
begun_prefixes (counted_array_type h h' h'' d) = refl
begun_prefixes (map_type h h' k h'' d) = refl
begun_prefixes (chan_type h n d) = refl
begun_prefixes (send_type h h' d) = refl
begun_prefixes (struct_type h h' d h'') = refl
begun_prefixes (interface_type h h' d h'') = refl

operand_last : {ts : List Token} {e : t.Expr} → IsOperand ts e → last_parts e ≡ parts e
operand_last (int h) = refl
operand_last (rune h) = refl
operand_last (string h) = refl
operand_last (name h) = refl
operand_last (parens h d h') = refl
operand_last (function h d b) = refl
operand_last (function_type_operand h d) = refl
operand_last (type_operand d) = begun_last d

operand_prefixes : {ts : List Token} {e : t.Expr} → IsOperand ts e → prefixes e ≡ 0
operand_prefixes (int h) = refl
operand_prefixes (rune h) = refl
operand_prefixes (string h) = refl
operand_prefixes (name h) = refl
operand_prefixes (parens h d h') = refl
operand_prefixes (function h d b) = refl
operand_prefixes (function_type_operand h d) = refl
operand_prefixes (type_operand d) = begun_prefixes d

primary_last : {h : Bool} {ts : List Token} {e : t.Expr} → IsPrimary h ts e → last_parts e ≡ parts e
primary_last (operand d) = operand_last d
primary_last (select d w a b) = refl
primary_last (assert d w a b ty c) = refl
primary_last (index d m a i c) = refl
primary_last (slice d m a i b j c) = refl
primary_last (full_slice d m a i b j c k x) = refl
primary_last (call_of_none d m a b) = refl
primary_last (call d m a es x y z) = refl
primary_last (literal d m l) = refl

primary_prefixes : {h : Bool} {ts : List Token} {e : t.Expr} → IsPrimary h ts e → prefixes e ≡ 0
primary_prefixes (operand d) = operand_prefixes d
primary_prefixes (select d w a b) = refl
primary_prefixes (assert d w a b ty c) = refl
primary_prefixes (index d m a i c) = refl
primary_prefixes (slice d m a i b j c) = refl
primary_prefixes (full_slice d m a i b j c k x) = refl
primary_prefixes (call_of_none d m a b) = refl
primary_prefixes (call d m a es x y z) = refl
primary_prefixes (literal d m l) = refl

-- a unary expression and the guard's tokens
abbrev GuardUnary : ℕ → Bool → List Token → t.Expr → Type 0
GuardUnary b h ts e = (d : ℕ) → expr_fits b d e ≡ true → nat_lt (last_parts e) 500 ≡ true → has_room (d + prefixes e) ≡ true → wants_dot e ≡ false → (u v w x : Token) → GuardTokens u v w x → (us : List Token) (s : Stack) → run (ts ++ u ∷ v ∷ w ∷ x ∷ us) (OfExpr (Operand (ctx d b h true)) ∷ s) ≡ run (x ∷ us) (Done (AGuard None e) ∷ s)

no_prefix : (d n : ℕ) → n ≡ 0 → d + n ≡ d
no_prefix d n h = omega (arith, h)

guard_primary : (b : ℕ) → Inside b → (h : Bool) (ts : List Token) (e : t.Expr) → IsPrimary h ts e → GuardUnary b h ts e
guard_primary b i h ts e p d fits short deep wants u v w x g us s =
    let short' : nat_lt (parts e) 500 ≡ true = subst (λ n. nat_lt n 500 ≡ true) (primary_last p) short in
    let room : has_room d ≡ true = subst (λ n. has_room n ≡ true) (no_prefix d (prefixes e) (primary_prefixes p)) deep in
    let taken : run (u ∷ v ∷ w ∷ x ∷ us) (OfExpr (Tail (ctx d b h true) (parts e) e) ∷ s) ≡ run (x ∷ us) (Done (AGuard None e) ∷ s) = simp (g.dot.op, g.open_paren.op, g.word.word, short', room) in
    primary_reads b i p d true fits u (v ∷ w ∷ x ∷ us) s (dot_after e u wants g.dot)
    ∙ taken

deeper_by : (d n : ℕ) → d + (n + 1) ≡ d + 1 + n
deeper_by d n = omega arith

guard_before : (b : ℕ) (h : Bool) (ts : List Token) (e : t.Expr) (y : Token) (p : Prefix) → prefix_op y.kind ≡ Some p → (is_receive p && is_channel e) ≡ false → GuardUnary b h ts e → GuardUnary b h (y ∷ ts) (t.UnaryExpr y.place p e)
guard_before b h ts e y p hp apart ih d fits short deep wants u v w x g us s =
    let deep' : has_room (d + 1 + prefixes e) ≡ true = subst (λ n. has_room n ≡ true) (deeper_by d (prefixes e)) deep in
    before_taken b d h true p y (ts ++ u ∷ v ∷ w ∷ x ∷ us) s hp (first_part _ _ fits)
    ∙ (ih (d + 1) (second_part _ _ fits) short deep' wants u v w x g us (OfExpr (Before y.place p) ∷ s)
    ∙ ap (λ z. run (x ∷ us) (Done (AGuard None z) ∷ s)) (unary_is y.place p e apart))

guard_receive : (b : ℕ) (h : Bool) (ts : List Token) (at : Place) (e : t.Expr) (y : Token) → IsOp o.Arrow y → GuardUnary b h ts (t.ChanType at dir.Both e) → GuardUnary b h (y ∷ ts) (t.ChanType y.place dir.Receive e)
guard_receive b h ts at e y hy ih d fits short deep wants u v w x g us s =
    let room : has_room (d + 1) ≡ true = first_part _ _ fits in
    let two : d + 2 ≡ d + 1 + 1 = omega arith in
    let none : d + 1 ≡ d + 1 + 0 = omega arith in
    let within : (has_room (d + 1) && expr_fits b (d + 1 + 1) e) ≡ true = subst (λ n. (has_room (d + 1) && expr_fits b n e) ≡ true) two fits in
    let deep' : has_room (d + 1 + 0) ≡ true = subst (λ n. has_room n ≡ true) none room in
    before_taken b d h true «prefix».Receive y (ts ++ u ∷ v ∷ w ∷ x ∷ us) s (ap prefix_op hy.op) (room_below d room)
    ∙ ih (d + 1) within short deep' wants u v w x g us (OfExpr (Before y.place «prefix».Receive) ∷ s)

guard_unary : (b : ℕ) → Inside b → {h : Bool} {ts : List Token} {e : t.Expr} → IsUnary h ts e → GuardUnary b h ts e
guard_unary b i (operator_before {h} {u} {ts} {e} p x apart d) = guard_before b h ts e u p x apart (guard_unary b i d)
guard_unary b i (receive_channel {h} {u} {ts} {at} {e} x d) = guard_receive b h ts at e u x (guard_unary b i d)
guard_unary b i (primary {h} {ts} {e} d) = guard_primary b i h ts e d

-- a chain and the guard's tokens
abbrev GuardLevel : ℕ → ℕ → Bool → List Token → t.Expr → Type 0
GuardLevel b k h ts e = (d : ℕ) → expr_fits b d e ≡ true → nat_lt (last_parts e) 500 ≡ true → has_room (d + prefixes e) ≡ true → wants_dot e ≡ false → (f : ExprFrame) (m : ℕ) → Waits (ctx d b h true) k m f → m + operators e ≤ 500 → (u v w x : Token) → GuardTokens u v w x → (us : List Token) (s : Stack) → run (ts ++ u ∷ v ∷ w ∷ x ∷ us) (OfExpr (Operand (ctx d b h true)) ∷ OfExpr f ∷ s) ≡ run (x ∷ us) (Done (AGuard None e) ∷ OfExpr f ∷ s)

recounted_guard : (c : Ctx) (k m n : ℕ) (f : ExprFrame) (e : t.Expr) (u : Token) (us : List Token) (s : Stack) → Waits c k m f → run (u ∷ us) (Done (AGuard None e) ∷ OfExpr (recount f n) ∷ s) ≡ run (u ∷ us) (Done (AGuard None e) ∷ OfExpr f ∷ s)
recounted_guard c k m n _ e u us s first = refl
recounted_guard c k m n _ e u us s (right lt) = refl

guard_binary : (b : ℕ) → Inside b → (h : Bool) (ts us' : List Token) (a e : t.Expr) (y : Token) (op : Op) → IsBinary op y → MayFollow a y → IsExpr (level op) h ts a → GuardLevel b (level op + 1) h us' e → GuardLevel b (level op) h (ts ++ y ∷ us') (t.BinaryExpr (place_of ts) a op e)
guard_binary b i h ts us' a e y op hy may da ih d fits short deep wants f m wt chain u v w x g us s =
    let c : Ctx = ctx d b h true in
    let fits_a : expr_fits b d a ≡ true = second_part _ _ (first_part _ _ fits) in
    let fits_e : expr_fits b d e ≡ true = second_part _ _ fits in
    let n : ℕ = m + operators a in
    let f' : ExprFrame = recount f n in
    let rest : List Token = u ∷ v ∷ w ∷ x ∷ us in
    run_assoc ts (y ∷ us') rest (OfExpr (Operand c) ∷ OfExpr f ∷ s)
    ∙ (level_reads b i da d true fits_a f m wt (left_short m (operators a) (operators e) chain) y (us' ++ rest) s (after_operand h a y op hy.binary may) (λ op' k. same_level y.kind op op' hy.binary k)
    ∙ (taken_operator c m n f a op y (us' ++ rest) s wt hy.binary (less_than m (operators a) (operators e) chain)
    ∙ (ih d fits_e short deep wants (Left c (n + 1) a op) (n + 1) (right (next_level (level op))) (all_short m (operators a) (operators e) chain) u v w x g us (OfExpr f' ∷ s)
    ∙ (ap (λ p. run (x ∷ us) (Done (AGuard None (t.BinaryExpr p a op e)) ∷ OfExpr f' ∷ s)) (expr_begun da).place
    ∙ recounted_guard c (level op) m n f (t.BinaryExpr (place_of ts) a op e) x us s wt))))

guard_tighter : (b k : ℕ) (h : Bool) (ts : List Token) (e : t.Expr) → GuardLevel b (k + 1) h ts e → GuardLevel b k h ts e
guard_tighter b k h ts e ih d fits short deep wants f m wt chain u v w x g us s = ih d fits short deep wants f m (looser_waits (ctx d b h true) k m f wt) chain u v w x g us s

guard_alone : (b : ℕ) (h : Bool) (ts : List Token) (e : t.Expr) → GuardUnary b h ts e → GuardLevel b 6 h ts e
guard_alone b h ts e ih d fits short deep wants f m wt chain u v w x g us s = ih d fits short deep wants u v w x g us (OfExpr f ∷ s)

guard_level : (b : ℕ) → Inside b → {k : ℕ} {h : Bool} {ts : List Token} {e : t.Expr} → IsExpr k h ts e → GuardLevel b k h ts e
guard_level b i (binary {h} {ts} {us} {a} {b = e} {u} op x m d d') = guard_binary b i h ts us a e u op x m d (guard_level b i d')
guard_level b i (tighter {k} {h} {ts} {e} lt d) = guard_tighter b k h ts e (guard_level b i d)
guard_level b i (unary {h} {ts} {e} d) = guard_alone b h ts e (guard_unary b i d)

-- the whole expression
pub guard_reads : (b : ℕ) → Inside b → (h : Bool) (ts : List Token) (e : t.Expr) → IsExpr 1 h ts e → expr_fits b 0 e ≡ true → nat_lt (last_parts e) 500 ≡ true → has_room (prefixes e) ≡ true → wants_dot e ≡ false → (u v w x : Token) → GuardTokens u v w x → (us : List Token) (s : Stack) → run (ts ++ u ∷ v ∷ w ∷ x ∷ us) (OfExpr (Operand (ctx 0 b h true)) ∷ OfExpr (Chain (ctx 0 b h true)) ∷ s) ≡ run (x ∷ us) (Done (AGuard None e) ∷ s)
guard_reads b i h ts e d fits short deep wants u v w x g us s =
    let none : prefixes e ≡ 0 + prefixes e = omega arith in
    guard_level b i d 0 fits short (subst (λ n. has_room n ≡ true) none deep) wants (Chain (ctx 0 b h true)) 0 first (short_chain b 0 e fits) u v w x g us s

-- Each step of a frame of an expression keeps the invariant.
use Rattle.std.proofs.Common.{◌≡◌, ◌≤◌, ◌<◌, ◌+◌, ◌&&◌, Bool, true, false, ℕ, List, [], ◌∷◌, ◌++◌, Option, Some, None, refl, sym, ◌∙◌, subst, append_assoc, arith, if◌then◌else◌, ◌⊎◌, inl, inr, ⊎_elim}
use Rattle.gj_base.specs.declared.place.Place.{Place}
use Rattle.gj_base.specs.declared.kind.Op.{Op}
use Rattle.go_syntax.specs.Tree as t
use Rattle.go_syntax.specs.Token.{Token}
use Rattle.go_syntax.specs.declared.kind.TokenKind.{TokenKind}
use Rattle.go_syntax.specs.declared.kind.TokenKind.TheVariants as kind
use Rattle.go_syntax.specs.declared.operator.Operator.TheVariants as o
use Rattle.go_syntax.specs.declared.tree.Name.{Name}
use Rattle.std.proofs.Common.{nat_lt, ◌-◌, zero, suc}
use Rattle.std.proofs.lemmas.Bool.{ltb-true}
use Rattle.std.proofs.lemmas.Bool.Decides.{nat_tests}
use Rattle.go_syntax.specs.declared.tree.Prefix.{Prefix}
use Rattle.go_syntax.specs.declared.tree.Prefix.TheVariants as «prefix»
use Rattle.go_syntax.specs.declared.tree.ChanDir.TheVariants as dir
use Rattle.gj_base.specs.declared.kind.Op.TheVariants as op
use Rattle.go_grammar.specs.Classes.{IsBinary, binary_op, level, prefix_op, place_of, begins_type}
use Rattle.go_grammar.specs.Limits.{has_room, one_longer}
use Rattle.go_grammar.specs.Context.{MayFollow, takes_literal, is_literal_type, is_receive, is_channel, wants_brace, wants_result, wants_dot}
use Rattle.go_grammar.specs.Grammar as g
use Rattle.go_grammar.specs.Grammar.{IsExpr, IsUnary, IsPrimary}
use Rattle.go_grammar.specs.Frames as f
use Rattle.go_grammar.specs.Frames.{Ctx, inside, ExprFrame, Frame, OfExpr, OfPart, OfType, OfSig, OfStmt, Done, Stack, Flow, AnExpr, AChain, AGuard, ASig, ABlock}
use Rattle.go_grammar.specs.Nodes.{is_op, place_of_expr, name_in, unary, binary}
use Rattle.go_grammar.specs.ExprSteps.{tail, expr_row, expr_meets, chain_meets, guard_meets, func_meets, body_meets, first_operand, right_operand, then_right, open_block}
use Rattle.go_grammar.proofs.TokenLemmas.{op_of}
use Rattle.go_grammar.proofs.Wanted.{First, AnyFirst, AllowsFirst, Starts, NameFact, After, IsGuardOf, guard_of, Want, WUnary, WBlock, Is, TakesExpr, to_expr, to_value, to_block}
use Rattle.go_grammar.proofs.HeldExprs as h
use Rattle.go_grammar.proofs.HeldExprs.{HoldsExpr, waits_expr, first_of}
use Rattle.go_grammar.proofs.HeldStmts as hs
use Rattle.go_grammar.proofs.Stands.{Opens, o_stuck, o_deep, Good, good, over, stuck, open_one, open_new, within, within_new, good_at, opens_at, takes_first, good_if, good_op, open_if, open_op, room, short}
use Rattle.go_grammar.proofs.BeginSound.{operand_opens, unnamed}

-- the `{` of a block
pub block_opens : (u : Token) (b : ℕ) (s : Stack) → Opens u WBlock [] s (open_block u b s)
block_opens u b s = open_op o.LeftBrace (λ q. open_if (has_room b) (λ z. open_one (OfStmt (f.InBlock (b + 1) u.place [])) (hs.in_block to_block q (record { held = λ at us r d. d }))) (λ z. o_deep)) (λ n. o_stuck)

some_op : (x y : Op) → Some x ≡ Some y → x ≡ y
some_op x y q = cc

-- levels
binary_level_of : (k : TokenKind) (x : Op) → binary_op k ≡ Some x → (1 ≤ level x) × (level x ≤ 5)
binary_level_of (kind.Op o.Add) x q = subst (λ z. (1 ≤ level z) × (level z ≤ 5)) (some_op op.Add x q) (omega arith, omega arith)
binary_level_of (kind.Op o.Sub) x q = subst (λ z. (1 ≤ level z) × (level z ≤ 5)) (some_op op.Sub x q) (omega arith, omega arith)
binary_level_of (kind.Op o.Mul) x q = subst (λ z. (1 ≤ level z) × (level z ≤ 5)) (some_op op.Mul x q) (omega arith, omega arith)
binary_level_of (kind.Op o.Div) x q = subst (λ z. (1 ≤ level z) × (level z ≤ 5)) (some_op op.Div x q) (omega arith, omega arith)
binary_level_of (kind.Op o.Rem) x q = subst (λ z. (1 ≤ level z) × (level z ≤ 5)) (some_op op.Rem x q) (omega arith, omega arith)
binary_level_of (kind.Op o.And) x q = subst (λ z. (1 ≤ level z) × (level z ≤ 5)) (some_op op.And x q) (omega arith, omega arith)
binary_level_of (kind.Op o.Or) x q = subst (λ z. (1 ≤ level z) × (level z ≤ 5)) (some_op op.Or x q) (omega arith, omega arith)
binary_level_of (kind.Op o.Xor) x q = subst (λ z. (1 ≤ level z) × (level z ≤ 5)) (some_op op.Xor x q) (omega arith, omega arith)
binary_level_of (kind.Op o.Shl) x q = subst (λ z. (1 ≤ level z) × (level z ≤ 5)) (some_op op.Shl x q) (omega arith, omega arith)
binary_level_of (kind.Op o.Shr) x q = subst (λ z. (1 ≤ level z) × (level z ≤ 5)) (some_op op.Shr x q) (omega arith, omega arith)
binary_level_of (kind.Op o.AndNot) x q = subst (λ z. (1 ≤ level z) × (level z ≤ 5)) (some_op op.AndNot x q) (omega arith, omega arith)
binary_level_of (kind.Op o.AndThen) x q = subst (λ z. (1 ≤ level z) × (level z ≤ 5)) (some_op op.AndThen x q) (omega arith, omega arith)
binary_level_of (kind.Op o.OrElse) x q = subst (λ z. (1 ≤ level z) × (level z ≤ 5)) (some_op op.OrElse x q) (omega arith, omega arith)
binary_level_of (kind.Op o.Eq) x q = subst (λ z. (1 ≤ level z) × (level z ≤ 5)) (some_op op.Eq x q) (omega arith, omega arith)
binary_level_of (kind.Op o.Ne) x q = subst (λ z. (1 ≤ level z) × (level z ≤ 5)) (some_op op.Ne x q) (omega arith, omega arith)
binary_level_of (kind.Op o.Lt) x q = subst (λ z. (1 ≤ level z) × (level z ≤ 5)) (some_op op.Lt x q) (omega arith, omega arith)
binary_level_of (kind.Op o.Le) x q = subst (λ z. (1 ≤ level z) × (level z ≤ 5)) (some_op op.Le x q) (omega arith, omega arith)
binary_level_of (kind.Op o.Gt) x q = subst (λ z. (1 ≤ level z) × (level z ≤ 5)) (some_op op.Gt x q) (omega arith, omega arith)
binary_level_of (kind.Op o.Ge) x q = subst (λ z. (1 ≤ level z) × (level z ≤ 5)) (some_op op.Ge x q) (omega arith, omega arith)
binary_level_of _ x q = absurd (cc)

pub binary_level : {u : Token} {x : Op} → IsBinary x u → (1 ≤ level x) × (level x ≤ 5)
binary_level {u} {x} b = binary_level_of u.kind x b.binary

-- an expression of a level is one of each lower level
lower : (d k : ℕ) {h : Bool} {ts : List Token} {e : t.Expr} → d + k ≤ 6 → IsExpr (k + d) h ts e → IsExpr k h ts e
lower zero k {h} {ts} {e} le x = let q : k + zero ≡ k = omega arith in subst (λ j. IsExpr j h ts e) q x
lower (suc d) k {h} {ts} {e} le x = let q : k + suc d ≡ (k + 1) + d = omega arith in g.tighter (omega arith) (lower d (k + 1) (omega arith) (subst (λ j. IsExpr j h ts e) q x))

pub lowered : (j k : ℕ) {h : Bool} {ts : List Token} {e : t.Expr} → k ≤ j → j ≤ 6 → IsExpr j h ts e → IsExpr k h ts e
lowered j k {h} {ts} {e} le six x = let q : j ≡ k + (j - k) = omega arith in lower (j - k) k (omega arith) (subst (λ i. IsExpr i h ts e) q x)

pub of_unary : (k : ℕ) {h : Bool} {ts : List Token} {e : t.Expr} → k ≤ 6 → IsUnary h ts e → IsExpr k h ts e
of_unary k le d = lowered 6 k le (omega arith) (g.unary d)

-- what begins goes on so
pub starts_more : (ts us : List Token) (p : Place) → Starts ts p → Starts (ts ++ us) p
starts_more [] us p s = absurd s
starts_more (x ∷ xs) us p s = s

pub first_more : (ts us : List Token) (r : First) → AllowsFirst r ts → AllowsFirst r (ts ++ us)
first_more [] us r s = absurd s
first_more (x ∷ xs) us r s = s

pub starts_place : (ts : List Token) (p : Place) → Starts ts p → place_of ts ≡ p
starts_place [] p s = absurd s
starts_place (x ∷ xs) p s = sym s

pub and_parts : (a b : Bool) → (a && b) ≡ true → (a ≡ true) × (b ≡ true)
and_parts true b q = (refl, q)
and_parts false b q = absurd (cc)

and_second : (a b : Bool) → (a && b) ≡ false → a ≡ true → b ≡ false
and_second true b q p = q
and_second false b q p = absurd (cc)

and_first : (a b : Bool) → (a && b) ≡ false → b ≡ true → a ≡ false
and_first true b q p = absurd (cc)
and_first false b q p = refl

pub and_no : (b : Bool) → (b && false) ≡ false
and_no true = refl
and_no false = refl

literal_takes : (h : Bool) (e : t.Expr) → takes_literal h e ≡ false → is_literal_type e ≡ false
literal_takes h (t.NameExpr at x) q = refl
literal_takes h (t.SelectExpr at e x) q = refl
literal_takes h (t.ArrayType at n e) q = q
literal_takes h (t.SliceType at e) q = q
literal_takes h (t.StructType at x) q = q
literal_takes h (t.MapType at k e) q = q
literal_takes h _ q = refl

-- the tail of an operand
pub tail_good : {k : ℕ} {r : First} {ts : List Token} {e : t.Expr} (c : Ctx) (u : Token) (n : ℕ) (s : Stack) → IsPrimary c.header ts e → Starts ts (place_of_expr e) → AllowsFirst r ts → NameFact ts e → MayFollow e u → (wants_dot e && is_op o.Dot u) ≡ false → (is_op o.LeftBrace u ≡ true → takes_literal c.header e ≡ false → wants_brace e ≡ false) → Good u (WUnary k c.header c.guard r) ts s (tail u c n e s)
tail_good {k} {r} {ts} {e} c u n s d p a nf m wd b =
    let base : f.Base = record { ctx = c; count = n; expr = e } in
    good_if (is_op o.Dot u) (λ q. good (short n u.place (open_one (OfPart (f.Dot base)) (h.dot (h.base d p a) (and_first (wants_dot e) (is_op o.Dot u) wd q) (op_of q))))) (λ z.
    good_op o.LeftBracket (λ q. good (room c (short n u.place (open_one (OfPart (f.Bracket base)) (h.bracket (h.base d p a) m q))))) (λ z.
    good_op o.LeftParen (λ q. good (room c (short n u.place (open_one (OfPart (f.Args base [])) (h.args (h.base d p a) m q h.no_args))))) (λ z.
    good_if (is_op o.LeftBrace u && takes_literal c.header e)
    (λ q. let both = and_parts (is_op o.LeftBrace u) (takes_literal c.header e) q in
    good (room c (short n u.place (open_one (OfPart (f.InBraces (record { ctx = c; count = n; place = place_of_expr e; ty = Some e }) [])) (h.in_braces (h.typed_literal d p a (both.1) (op_of (both.0)) (record { held = λ us r i. i })))))))
    (λ q. over (g.primary d, record { starts = p; first = a; follow = m; brace = λ y. b y (and_second (is_op o.LeftBrace u) (takes_literal c.header e) q y); named = nf })))))

pub expr_row_good : {x : ExprFrame} {ts : List Token} {w : Want} (u : Token) (s : Stack) → HoldsExpr x ts w → Good u w ts s (expr_row u x s)
expr_row_good u s (h.operand {c}) = good (operand_opens u c s tt)
expr_row_good u s (h.tail {c} {n} {e} d p a nf wr wb wd) = tail_good c u n s d p a nf (subst (λ z. (z && begins_type u.kind) ≡ false) (sym wr) refl) (subst (λ z. (z && is_op o.Dot u) ≡ false) (sym wd) refl) (λ x y. wb)
expr_row_good u s _ = stuck

-- a prefix before an operand
some_prefix : (x y : Prefix) → Some x ≡ Some y → x ≡ y
some_prefix x y q = cc

receive_kind : (k : TokenKind) (x : Prefix) → prefix_op k ≡ Some x → is_receive x ≡ true → k ≡ kind.Op o.Arrow
receive_kind (kind.Op o.Arrow) x q p = refl
receive_kind (kind.Op o.Add) x q p = absurd (let e : x ≡ «prefix».Plus = sym (some_prefix «prefix».Plus x q) in let z : is_receive «prefix».Plus ≡ true = subst (λ y. is_receive y ≡ true) e p in cc)
receive_kind (kind.Op o.Sub) x q p = absurd (let e : x ≡ «prefix».Neg = sym (some_prefix «prefix».Neg x q) in let z : is_receive «prefix».Neg ≡ true = subst (λ y. is_receive y ≡ true) e p in cc)
receive_kind (kind.Op o.Not) x q p = absurd (let e : x ≡ «prefix».Not = sym (some_prefix «prefix».Not x q) in let z : is_receive «prefix».Not ≡ true = subst (λ y. is_receive y ≡ true) e p in cc)
receive_kind (kind.Op o.Xor) x q p = absurd (let e : x ≡ «prefix».Compl = sym (some_prefix «prefix».Compl x q) in let z : is_receive «prefix».Compl ≡ true = subst (λ y. is_receive y ≡ true) e p in cc)
receive_kind (kind.Op o.Mul) x q p = absurd (let e : x ≡ «prefix».Star = sym (some_prefix «prefix».Star x q) in let z : is_receive «prefix».Star ≡ true = subst (λ y. is_receive y ≡ true) e p in cc)
receive_kind (kind.Op o.And) x q p = absurd (let e : x ≡ «prefix».Address = sym (some_prefix «prefix».Address x q) in let z : is_receive «prefix».Address ≡ true = subst (λ y. is_receive y ≡ true) e p in cc)
receive_kind _ x q p = absurd (cc)

-- what is kept of an operand after a prefix
record Prefixed (p : Place) (x : Prefix) (e e' : t.Expr) : Type 0 where
  place : place_of_expr e' ≡ p
  result : wants_result e' ≡ wants_result e
  brace : wants_brace e' ≡ wants_brace e
  nameless : name_in e' ≡ None
  dot : wants_dot e' ≡ wants_dot e

plain_prefix : {h : Bool} {u : Token} {ts : List Token} (x : Prefix) (e : t.Expr) → prefix_op u.kind ≡ Some x → is_channel e ≡ false → IsUnary h ts e → IsUnary h (u ∷ ts) (t.UnaryExpr u.place x e)
plain_prefix x e q n d = g.operator_before x q (subst (λ z. (is_receive x && z) ≡ false) (sym n) (and_no (is_receive x))) d

channel_prefix : {h : Bool} {u : Token} {ts : List Token} (x : Prefix) (at : Place) (e : t.Expr) (b : Bool) → b ≡ is_receive x → prefix_op u.kind ≡ Some x → IsUnary h ts (t.ChanType at dir.Both e) → IsUnary h (u ∷ ts) (if b then t.ChanType u.place dir.Receive e else t.UnaryExpr u.place x (t.ChanType at dir.Both e))
channel_prefix {u = u} x at e true p q d = g.receive_channel (record { op = receive_kind u.kind x q (sym p) }) d
channel_prefix x at e false p q d = g.operator_before x q (subst (λ z. (z && true) ≡ false) p refl) d

channel_facts : (p : Place) (x : Prefix) (at : Place) (e : t.Expr) (b : Bool) → Prefixed p x (t.ChanType at dir.Both e) (if b then t.ChanType p dir.Receive e else t.UnaryExpr p x (t.ChanType at dir.Both e))
channel_facts p x at e true = record { place = refl; result = refl; brace = refl; nameless = refl; dot = refl }
channel_facts p x at e false = record { place = refl; result = refl; brace = refl; nameless = refl; dot = refl }

prefix_facts : (p : Place) (x : Prefix) (e : t.Expr) → Prefixed p x e (unary p x e)
prefix_facts p x (t.ChanType at dir.Both e) = channel_facts p x at e (is_receive x)
prefix_facts p x _ = record { place = refl; result = refl; brace = refl; nameless = refl; dot = refl }

prefix_unary : {h : Bool} {u : Token} {ts : List Token} (x : Prefix) (e : t.Expr) → prefix_op u.kind ≡ Some x → IsUnary h ts e → IsUnary h (u ∷ ts) (unary u.place x e)
prefix_unary x (t.ChanType at dir.Both e) q d = channel_prefix x at e (is_receive x) refl q d
prefix_unary x e q d = plain_prefix x e q refl d

-- an operand that goes on as the left one of an operator
right_opens : {k : ℕ} {r : First} {vs : List Token} {e : t.Expr} (c : Ctx) (u : Token) (n : ℕ) (x : Op) (s : Stack) → IsBinary x u → k ≤ level x → IsExpr (level x) c.header vs e → Starts vs (place_of_expr e) → AllowsFirst r vs → MayFollow e u → Opens u (WUnary k c.header c.guard r) vs s (then_right u c n e x s)
right_opens {e = e} c u n x s b le d p a m = short n u.place (open_new (OfExpr (f.Left c (one_longer n) e x)) (OfExpr (f.Operand c)) (h.left le d p a b m) h.operand)

expr_is : {w : Want} {h g : Bool} {r : First} (u : Token) {vs : List Token} {e : t.Expr} → TakesExpr w h g r → IsExpr 1 h vs e → After u r vs e → Is u w (AnExpr e) vs
expr_is u to_expr d a = (d, a)
expr_is u to_value d a = g.expr_value d

first_good : {w : Want} {r : First} {vs : List Token} {e : t.Expr} (c : Ctx) (u : Token) (n : ℕ) (s : Stack) (x : Option Op) → x ≡ binary_op u.kind → TakesExpr w c.header c.guard r → first_of w ≡ r → IsExpr 1 c.header vs e → ((y : Op) → IsBinary y u → IsExpr (level y) c.header vs e) → After u r vs e → Good u w vs s (first_operand u c n e s x)
first_good c u n s None q k z d l a = over (expr_is u k d a)
first_good {w} {r} {vs} {e} c u n s (Some x) q k z d l a =
    let b : IsBinary x u = record { binary = sym q } in
    good (within (OfExpr (f.Chain c)) [] (h.chain k) (right_opens c u n x (OfExpr (f.Chain c) ∷ s) b (binary_level b).0 (l x b) a.starts (subst (λ y. AllowsFirst y vs) (sym z) a.first) a.follow))

binary_is : {h : Bool} {k : ℕ} {r : First} {ts vs : List Token} {a e : t.Expr} {v : Token} (u : Token) (x : Op) → k ≤ level x → IsBinary x v → MayFollow a v → IsExpr (level x) h ts a → Starts ts (place_of_expr a) → AllowsFirst r ts → IsExpr (level x + 1) h vs e → After u AnyFirst vs e → ((y : Op) → IsBinary y u → level y ≤ level x) → (n : ℕ) (g' : Bool) → Is u (WUnary k h g' r) (AChain n (binary a x e)) (ts ++ v ∷ vs)
binary_is {h} {k} {r} {ts} {vs} {a} {e} {v} u x le b m d p al d' af up n g' =
    let whole : IsExpr (level x) h (ts ++ v ∷ vs) (binary a x e) = subst (λ z. IsExpr (level x) h (ts ++ v ∷ vs) (t.BinaryExpr z a x e)) (starts_place ts (place_of_expr a) p) (g.binary x b m d d') in (
      lowered (level x) k le (let l = binary_level b in omega (arith, l.1)) whole,
      λ y c. lowered (level x) (level y) (up y c) (let l = binary_level b in omega (arith, l.1)) whole,
      record { starts = starts_more ts (v ∷ vs) (place_of_expr a) p; first = first_more ts (v ∷ vs) r al; follow = af.follow; brace = af.brace; named = unnamed (binary a x e) refl },
    )

same_binary : {x y : Op} {u : Token} → IsBinary x u → IsBinary y u → x ≡ y
same_binary {x} {y} a b = some_op x y (sym a.binary ∙ b.binary)

not_less : (a b : ℕ) → nat_lt a b ≡ false → b ≤ a
not_less a b q = grind (arith, nat_tests)

right_good : {k : ℕ} {r : First} {ts vs : List Token} {a e : t.Expr} {v : Token} (c : Ctx) (u : Token) (m : ℕ) (x : Op) (s : Stack) (y : Option Op) → y ≡ binary_op u.kind → k ≤ level x → IsBinary x v → MayFollow a v → IsExpr (level x) c.header ts a → Starts ts (place_of_expr a) → AllowsFirst r ts → IsExpr (level x + 1) c.header vs e → ((z : Op) → IsBinary z u → IsExpr (level z) c.header vs e) → After u AnyFirst vs e → Good u (WUnary k c.header c.guard r) (ts ++ v ∷ vs) s (right_operand u c m a x e s y)
right_good {e = e} c u m x s None q le b mf d p al d' l af = over (binary_is u x le b mf d p al d' af (λ z w. absurd (let w' = w.binary in cc)) m c.guard)
right_good {k} {r} {ts} {vs} {a} {e} {v} c u m x s (Some y) q le b mf d p al d' l af =
    let i : IsBinary y u = record { binary = sym q } in
    good_if (nat_lt (level x) (level y))
    (λ z. good (opens_at (sym (append_assoc ts (v ∷ []) vs)) (within (OfExpr (f.Left c m a x)) (ts ++ v ∷ []) (h.left le d p al b mf) (right_opens c u m y (OfExpr (f.Left c m a x) ∷ s) i (let w : level x < level y = ltb-true (level x) (level y) z in omega (arith, w)) (l y i) af.starts af.first af.follow))))
    (λ z. over (binary_is u x le b mf d p al d' af (λ y' i'. subst (λ o'. level o' ≤ level x) (same_binary i i') (not_less (level x) (level y) z)) m c.guard))

pub expr_meets_good : {x : ExprFrame} {ts : List Token} {w : Want} (vs : List Token) (u : Token) (e : t.Expr) (s : Stack) → HoldsExpr x ts w → Is u (waits_expr x w) (AnExpr e) vs → Good u w (ts ++ vs) s (expr_meets u x e s)
expr_meets_good vs u e s (h.before {p} {u = v} q a) i =
    let pf = prefix_facts v.place p e in
    over (prefix_unary p e q (i.0), record { starts = pf.place; first = a; follow = subst (λ z. (z && begins_type u.kind) ≡ false) (sym pf.result) (i.1).follow; brace = λ b. pf.brace ∙ (i.1).brace b; named = unnamed (unary v.place p e) pf.nameless })
expr_meets_good vs u e s (h.chain {c} {w} {r} k) i =
    let z = takes_first k in
    let a : After u r vs e = subst (λ y. After u y vs e) z (i.1) in
    first_good c u 0 s (binary_op u.kind) refl k z (of_unary 1 (omega arith) (i.0)) (λ y b. of_unary (level y) (let l = binary_level b in omega (arith, l.1)) (i.0)) a
expr_meets_good vs u e s (h.left {c} {n} {a} {op} {ts} {u = v} le d p al b m) i =
    good_at (append_assoc ts (v ∷ []) vs) (right_good c u n op s (binary_op u.kind) refl le b m d p al (of_unary (level op + 1) (let l = binary_level b in omega (arith, l.1)) (i.0)) (λ y b'. of_unary (level y) (let l = binary_level b' in omega (arith, l.1)) (i.0)) (i.1))
expr_meets_good vs u e s (h.in_parens {c} {u = v} p a) i =
    good_op o.RightParen (λ q. good (open_one (OfExpr (f.Tail c 0 (t.ParenExpr v.place e))) (h.tail (g.operand (g.parens p (i.0) q)) refl a (unnamed (t.ParenExpr v.place e) refl) refl refl refl))) (λ z. stuck)
expr_meets_good vs u e s (h.type_operand {c}) i =
    tail_good c u 0 s (g.operand (g.type_operand (i.0))) (i.2) (i.1) (unnamed e (i.5)) (i.3) (i.6) (λ x y. i.4 ∙ literal_takes c.header e y)
expr_meets_good vs u e s _ i = stuck

pub chain_meets_good : {x : ExprFrame} {ts : List Token} {w : Want} (vs : List Token) (u : Token) (n : ℕ) (e : t.Expr) (s : Stack) → HoldsExpr x ts w → Is u (waits_expr x w) (AChain n e) vs → Good u w (ts ++ vs) s (chain_meets u x n e s)
chain_meets_good vs u n e s (h.chain {c} {w} {r} k) i =
    let z = takes_first k in
    let a : After u r vs e = subst (λ y. After u y vs e) z (i.2) in
    first_good c u n s (binary_op u.kind) refl k z (i.0) (i.1) a
chain_meets_good vs u n e s (h.left {c} {n = m} {a} {op} {ts} {u = v} le d p al b mf) i =
    good_at (append_assoc ts (v ∷ []) vs) (right_good c u n op s (binary_op u.kind) refl le b mf d p al (i.0) (i.1) (i.2))
chain_meets_good vs u n e s _ i = stuck

-- a guard goes through
either_level : {k : ℕ} {h : Bool} {ts : List Token} {e : t.Expr} → k ≤ 6 → (IsUnary h ts e ⊎ ((k ≤ 6) × IsExpr k h ts e)) → IsExpr k h ts e
either_level {k} le d = ⊎_elim (λ a. of_unary k le a) (λ b. b.1) d

before_guard : {k : ℕ} {h : Bool} {ts : List Token} {e : t.Expr} {v : Token} (x : Prefix) → prefix_op v.kind ≡ Some x → IsGuardOf 7 h ts e → IsGuardOf k h (v ∷ ts) (unary v.place x e)
before_guard {v = v} x q (guard_of {e} d st wd a b c) =
    let pf = prefix_facts v.place x e in
    guard_of (inl (prefix_unary x e q (⊎_elim (λ z. z) (λ z. absurd (let l = z.0 in omega (arith, l))) d))) pf.place (pf.dot ∙ wd) a b c

left_guard : {k : ℕ} {hd : Bool} {ts vs : List Token} {a e : t.Expr} {v : Token} (x : Op) → k ≤ level x → IsBinary x v → MayFollow a v → IsExpr (level x) hd ts a → Starts ts (place_of_expr a) → IsGuardOf (level x + 1) hd vs e → IsGuardOf k hd (ts ++ v ∷ vs) (binary a x e)
left_guard {k} {hd} {ts} {a = a} {v = v} x le b m i p (guard_of {ys} {e} {d = d'} {p = p'} {w = w'} d st wd q r c) =
    let l = binary_level b in
    let j : IsExpr (level x + 1) hd ys e = either_level (omega (arith, l.1)) d in
    let node : IsExpr (level x) hd (ts ++ v ∷ ys) (binary a x e) = subst (λ z. IsExpr (level x) hd (ts ++ v ∷ ys) (t.BinaryExpr z a x e)) (starts_place ts (place_of_expr a) p) (g.binary x b m i j) in
    subst (λ z. IsGuardOf k hd z (binary a x e)) (append_assoc ts (v ∷ ys) (d' ∷ p' ∷ w' ∷ []))
    (guard_of (inr (omega (arith, l.1, le), lowered (level x) k le (omega (arith, l.1)) node)) (starts_more ts (v ∷ ys) (place_of_expr a) p) wd q r c)

chain_guard : {w : Want} {hd gd : Bool} {r : First} {vs : List Token} {e : t.Expr} (u : Token) (y : Option Name) → TakesExpr w hd gd r → gd ≡ true → y ≡ None → IsGuardOf 1 hd vs e → Is u w (AGuard y e) vs
chain_guard u y to_expr z n i = (z, n, i)
chain_guard u y to_value z n i = absurd (cc)

pub guard_meets_good : {x : ExprFrame} {ts : List Token} {w : Want} (vs : List Token) (u : Token) (y : Option Name) (e : t.Expr) (s : Stack) → HoldsExpr x ts w → Is u (waits_expr x w) (AGuard y e) vs → Good u w (ts ++ vs) s (guard_meets x y e s)
guard_meets_good vs u y e s (h.before {p} q a) i = over (i.0, i.1, before_guard p q (i.2))
guard_meets_good vs u y e s (h.chain k) i = over (chain_guard u y k (i.0) (i.1) (i.2))
guard_meets_good vs u y e s (h.left {op} {ts} {u = v} le d p al b m) i = good_at (append_assoc ts (v ∷ []) vs) (over (i.0, i.1, left_guard op le b m d p (i.2)))
guard_meets_good vs u y e s _ i = stuck

pub func_meets_good : {x : ExprFrame} {ts : List Token} {w : Want} (vs : List Token) (u : Token) (sig : t.Sig) (s : Stack) → HoldsExpr x ts w → Is u (waits_expr x w) (ASig sig) vs → Good u w (ts ++ vs) s (func_meets u x sig s)
func_meets_good vs u sig s (h.at_func {c} {u = v} k a) i =
    good_op o.LeftBrace
    (λ q. good (within_new (OfExpr (f.AtBody c v.place sig)) (h.at_body k (i.0) a) (block_opens u c.blocks (OfExpr (f.AtBody c v.place sig) ∷ s))))
    (λ n. tail_good c u 0 s (g.operand (g.function_type_operand k (i.0))) refl a (unnamed (t.FuncType v.place sig) refl) (i.1) (i.2) (λ x y. absurd (cc)))
func_meets_good vs u sig s _ i = stuck

pub body_meets_good : {x : ExprFrame} {ts : List Token} {w : Want} (vs : List Token) (u : Token) (b : t.Block) (s : Stack) → HoldsExpr x ts w → Is u (waits_expr x w) (ABlock b) vs → Good u w (ts ++ vs) s (body_meets u x b s)
body_meets_good vs u b s (h.at_body {c} {sig = sig} {u = v} k d a) i = tail_good c u 0 s (g.operand (g.function k d (i.0))) refl a (unnamed (t.FuncExpr v.place sig b) refl) refl refl (λ x y. refl)
body_meets_good vs u b s _ i = stuck

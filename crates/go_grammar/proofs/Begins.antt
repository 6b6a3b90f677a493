-- What a type or an expression begins with, and where it stands.
use Rattle.std.proofs.Common.{◌≡◌, ℕ, Bool, true, false, List, [], ◌∷◌, ◌++◌, ◌⊎◌, inl, inr, Some, refl, ◌∙◌, ap}
use Rattle.go_syntax.specs.Tree as t
use Rattle.go_syntax.specs.Token.{Token}
use Rattle.go_syntax.specs.declared.kind.TokenKind.{TokenKind}
use Rattle.go_syntax.specs.declared.kind.TokenKind.TheVariants as kind
use Rattle.go_syntax.specs.declared.keyword.Keyword.TheVariants as word
use Rattle.go_syntax.specs.declared.operator.Operator.TheVariants as o
use Rattle.go_syntax.specs.declared.tree.Prefix.{Prefix}
use Rattle.go_grammar.specs.Classes.{place_of, begins_type, prefix_op}
use Rattle.go_grammar.specs.Context.{wants_dot, type_wants_dot}
use Rattle.go_grammar.specs.Frames.{Ctx, Stack, OfExpr, TypeOperand}
use Rattle.go_grammar.specs.Limits.{operators, parts}
use Rattle.go_grammar.specs.Grammar.{IsTypeName, plain_name, package_name, IsExpr, binary, tighter, unary, IsUnary, operator_before, receive_channel, primary, IsPrimary, operand, select, assert, index, slice, full_slice, call_of_none, call, literal, IsOperand, int, rune, string, name, parens, function, function_type_operand, type_operand, IsType, type_name, type_parens, pointer_type, receive_type, function_type, begun_type, IsBegunType, slice_type, array_type, counted_array_type, map_type, chan_type, send_type, struct_type, interface_type}
use Rattle.go_grammar.specs.ExprSteps as step
use Rattle.go_grammar.specs.Nodes.{begins_expr, place_of_expr}
use Rattle.go_grammar.proofs.Starting.{first_is, first_of_more, with_kind}
use Rattle.go_grammar.proofs.SigRules.{begins_unnamed}

-- a type that is an operand begins with the token
abbrev pub begins_begun : TokenKind → Bool
begins_begun (kind.Op o.LeftBracket) = true
begins_begun (kind.Word word.Map) = true
begins_begun (kind.Word word.Chan) = true
begins_begun (kind.Word word.Struct) = true
begins_begun (kind.Word word.Interface) = true
begins_begun _ = false

pub begun_first : {ts : List Token} {e : t.Expr} → IsBegunType ts e → first_is begins_begun ts ≡ true
begun_first (slice_type h h' d) = ap begins_begun h.op
begun_first (array_type h n h' d) = ap begins_begun h.op
begun_first (counted_array_type h h' h'' d) = ap begins_begun h.op
begun_first (map_type h h' k h'' d) = ap begins_begun h.word
begun_first (chan_type h n d) = ap begins_begun h.word
begun_first (send_type h h' d) = ap begins_begun h.word
begun_first (struct_type h h' d h'') = ap begins_begun h.word
begun_first (interface_type h h' d h'') = ap begins_begun h.word

begun_unnamed_at : (k : TokenKind) → begins_begun k ≡ true → begins_unnamed k ≡ true
begun_unnamed_at (kind.Op o.LeftBracket) h = refl
begun_unnamed_at (kind.Word word.Map) h = refl
begun_unnamed_at (kind.Word word.Chan) h = refl
begun_unnamed_at (kind.Word word.Struct) h = refl
begun_unnamed_at (kind.Word word.Interface) h = refl
begun_unnamed_at _ h = cc

unnamed_expr_at : (k : TokenKind) → begins_unnamed k ≡ true → begins_expr k ≡ true
unnamed_expr_at (kind.Op o.LeftParen) h = refl
unnamed_expr_at (kind.Op o.LeftBracket) h = refl
unnamed_expr_at (kind.Op o.Mul) h = refl
unnamed_expr_at (kind.Op o.Arrow) h = refl
unnamed_expr_at (kind.Word word.Chan) h = refl
unnamed_expr_at (kind.Word word.Func) h = refl
unnamed_expr_at (kind.Word word.Interface) h = refl
unnamed_expr_at (kind.Word word.Map) h = refl
unnamed_expr_at (kind.Word word.Struct) h = refl
unnamed_expr_at _ h = cc

unnamed_type_at : (k : TokenKind) → begins_unnamed k ≡ true → begins_type k ≡ true
unnamed_type_at (kind.Op o.LeftParen) h = refl
unnamed_type_at (kind.Op o.LeftBracket) h = refl
unnamed_type_at (kind.Op o.Mul) h = refl
unnamed_type_at (kind.Op o.Arrow) h = refl
unnamed_type_at (kind.Word word.Chan) h = refl
unnamed_type_at (kind.Word word.Func) h = refl
unnamed_type_at (kind.Word word.Interface) h = refl
unnamed_type_at (kind.Word word.Map) h = refl
unnamed_type_at (kind.Word word.Struct) h = refl
unnamed_type_at _ h = cc

-- a wider class has what a narrower one has
pub first_wider : (p q : TokenKind → Bool) → ((k : TokenKind) → p k ≡ true → q k ≡ true) → (ts : List Token) → first_is p ts ≡ true → first_is q ts ≡ true
first_wider p q wider [] h = h
first_wider p q wider (u ∷ ts) h = wider u.kind h

pub begun_unnamed : (ts : List Token) → first_is begins_begun ts ≡ true → first_is begins_unnamed ts ≡ true
begun_unnamed ts h = first_wider begins_begun begins_unnamed begun_unnamed_at ts h

pub type_first : {ts : List Token} {e : t.Expr} → IsType ts e → IsTypeName ts e ⊎ (first_is begins_unnamed ts ≡ true)
type_first (type_name d) = inl d
type_first (type_parens h d h') = inr (ap begins_unnamed h.op)
type_first (pointer_type h d) = inr (ap begins_unnamed h.op)
type_first (receive_type h h' d) = inr (ap begins_unnamed h.op)
type_first (function_type h d) = inr (ap begins_unnamed h.word)
type_first (begun_type d) = inr (begun_unnamed _ (begun_first d))

type_name_begins : {ts : List Token} {e : t.Expr} → IsTypeName ts e → first_is begins_type ts ≡ true
type_name_begins (plain_name n) = ap begins_type n.name
type_name_begins (package_name n h m) = ap begins_type n.name

begins_either : (ts : List Token) (e : t.Expr) → (IsTypeName ts e ⊎ (first_is begins_unnamed ts ≡ true)) → first_is begins_type ts ≡ true
begins_either ts e (inl d) = type_name_begins d
begins_either ts e (inr h) = first_wider begins_unnamed begins_type unnamed_type_at ts h

pub type_begins : {ts : List Token} {e : t.Expr} → IsType ts e → first_is begins_type ts ≡ true
type_begins {ts} {e} d = begins_either ts e (type_first d)

-- the operand that is a type is read as one
pub begun_operand : (k : TokenKind) (u : Token) (c : Ctx) (s : Stack) → begins_begun k ≡ true → step.operand (with_kind k u) c s ≡ step.begin_type (with_kind k u) c (OfExpr (TypeOperand c) ∷ s)
begun_operand (kind.Op o.LeftBracket) u c s h = refl
begun_operand (kind.Word word.Map) u c s h = refl
begun_operand (kind.Word word.Chan) u c s h = refl
begun_operand (kind.Word word.Struct) u c s h = refl
begun_operand (kind.Word word.Interface) u c s h = refl
begun_operand _ u c s h = cc

pub begun_dot : {ts : List Token} {e : t.Expr} → IsBegunType ts e → wants_dot e ≡ type_wants_dot e
begun_dot (slice_type h h' d) = refl
begun_dot (array_type h n h' d) = refl
begun_dot (counted_array_type h h' h'' d) = refl
begun_dot (map_type h h' k h'' d) = refl
begun_dot (chan_type h n d) = refl
begun_dot (send_type h h' d) = refl
begun_dot (struct_type h h' d h'') = refl
begun_dot (interface_type h h' d h'') = refl

begun_parts : {ts : List Token} {e : t.Expr} → IsBegunType ts e → parts e ≡ 0
begun_parts (slice_type h h' d) = refl
begun_parts (array_type h n h' d) = refl
begun_parts (counted_array_type h h' h'' d) = refl
begun_parts (map_type h h' k h'' d) = refl
begun_parts (chan_type h n d) = refl
begun_parts (send_type h h' d) = refl
begun_parts (struct_type h h' d h'') = refl
begun_parts (interface_type h h' d h'') = refl

pub operand_parts : {ts : List Token} {e : t.Expr} → IsOperand ts e → parts e ≡ 0
operand_parts (int h) = refl
operand_parts (rune h) = refl
operand_parts (string h) = refl
operand_parts (name h) = refl
operand_parts (parens h d h') = refl
operand_parts (function h d b) = refl
operand_parts (function_type_operand h d) = refl
operand_parts (type_operand d) = begun_parts d

begun_operators : {ts : List Token} {e : t.Expr} → IsBegunType ts e → operators e ≡ 0
begun_operators (slice_type h h' d) = refl
begun_operators (array_type h n h' d) = refl
begun_operators (counted_array_type h h' h'' d) = refl
begun_operators (map_type h h' k h'' d) = refl
begun_operators (chan_type h n d) = refl
begun_operators (send_type h h' d) = refl
begun_operators (struct_type h h' d h'') = refl
begun_operators (interface_type h h' d h'') = refl

operand_operators : {ts : List Token} {e : t.Expr} → IsOperand ts e → operators e ≡ 0
operand_operators (int h) = refl
operand_operators (rune h) = refl
operand_operators (string h) = refl
operand_operators (name h) = refl
operand_operators (parens h d h') = refl
operand_operators (function h d b) = refl
operand_operators (function_type_operand h d) = refl
operand_operators (type_operand d) = begun_operators d

primary_operators : {h : Bool} {ts : List Token} {e : t.Expr} → IsPrimary h ts e → operators e ≡ 0
primary_operators (operand d) = operand_operators d
primary_operators (select d w a b) = refl
primary_operators (assert d w a b ty c) = refl
primary_operators (index d m a i c) = refl
primary_operators (slice d m a i b j c) = refl
primary_operators (full_slice d m a i b j c k x) = refl
primary_operators (call_of_none d m a b) = refl
primary_operators (call d m a es x y z) = refl
primary_operators (literal d m l) = refl

pub unary_operators : {h : Bool} {ts : List Token} {e : t.Expr} → IsUnary h ts e → operators e ≡ 0
unary_operators (operator_before p x y d) = refl
unary_operators (receive_channel x d) = refl
unary_operators (primary d) = primary_operators d

pub place_of_more : (p : TokenKind → Bool) (ts us : List Token) → first_is p ts ≡ true → place_of ts ≡ place_of (ts ++ us)
place_of_more p [] us h = cc
place_of_more p (u ∷ ts) us h = refl

-- the tokens begin an expression, and it stands where they do
pub record Begun (ts : List Token) (e : t.Expr) : Type 0 where
  pub begins : first_is begins_expr ts ≡ true
  pub place : place_of_expr e ≡ place_of ts

begun_place : {ts : List Token} {e : t.Expr} → IsBegunType ts e → place_of_expr e ≡ place_of ts
begun_place (slice_type h h' d) = refl
begun_place (array_type h n h' d) = refl
begun_place (counted_array_type h h' h'' d) = refl
begun_place (map_type h h' k h'' d) = refl
begun_place (chan_type h n d) = refl
begun_place (send_type h h' d) = refl
begun_place (struct_type h h' d h'') = refl
begun_place (interface_type h h' d h'') = refl

operand_begun : {ts : List Token} {e : t.Expr} → IsOperand ts e → Begun ts e
operand_begun (int h) = record { begins = ap begins_expr h; place = refl }
operand_begun (rune h) = record { begins = ap begins_expr h; place = refl }
operand_begun (string h) = record { begins = ap begins_expr h.string; place = refl }
operand_begun (name h) = record { begins = ap begins_expr h.name; place = refl }
operand_begun (parens h d h') = record { begins = ap begins_expr h.op; place = refl }
operand_begun (function h d b) = record { begins = ap begins_expr h.word; place = refl }
operand_begun (function_type_operand h d) = record { begins = ap begins_expr h.word; place = refl }
operand_begun (type_operand {ts} d) = record { begins = first_wider begins_unnamed begins_expr unnamed_expr_at ts (begun_unnamed ts (begun_first d)); place = begun_place d }

-- an operand with more after it
more_begun : (ts us : List Token) (e e' : t.Expr) → Begun ts e → place_of_expr e' ≡ place_of ts → Begun (ts ++ us) e'
more_begun ts us e e' x p = record {
  begins = first_of_more begins_expr ts us x.begins;
  place = p ∙ place_of_more begins_expr ts us x.begins;
}

-- a tree with the place of its first tokens
same_begun : (ts us : List Token) (e e' : t.Expr) → Begun ts e → place_of_expr e' ≡ place_of_expr e → Begun (ts ++ us) e'
same_begun ts us e e' x p = more_begun ts us e e' x (p ∙ x.place)

prefix_begins : (k : TokenKind) (p : Prefix) → prefix_op k ≡ Some p → begins_expr k ≡ true
prefix_begins (kind.Op o.Add) p h = refl
prefix_begins (kind.Op o.Sub) p h = refl
prefix_begins (kind.Op o.Not) p h = refl
prefix_begins (kind.Op o.Xor) p h = refl
prefix_begins (kind.Op o.Mul) p h = refl
prefix_begins (kind.Op o.And) p h = refl
prefix_begins (kind.Op o.Arrow) p h = refl
prefix_begins _ p h = cc

pub primary_begun : {h : Bool} {ts : List Token} {e : t.Expr} → IsPrimary h ts e → Begun ts e
primary_begun (operand d) = operand_begun d
primary_begun (select {ts} {e} d w a b) = more_begun ts _ e _ (primary_begun d) refl
primary_begun (assert {ts} {us} {e} {u} {v} {w} d x a b ty c) = same_begun (ts ++ u ∷ v ∷ us) (w ∷ []) (t.ParenExpr (place_of ts) e) _ (more_begun ts (u ∷ v ∷ us) e _ (primary_begun d) refl) refl
primary_begun (index {ts} {us} {e} {u} {v} d m a i c) = same_begun (ts ++ u ∷ us) (v ∷ []) (t.ParenExpr (place_of ts) e) _ (more_begun ts (u ∷ us) e _ (primary_begun d) refl) refl
primary_begun (slice {ts} {low} {high} {e} {u} {v} {w} d m a i b j c) =
    same_begun (ts ++ u ∷ low ++ v ∷ high) (w ∷ []) (t.ParenExpr (place_of ts) e) _
    (same_begun (ts ++ u ∷ low) (v ∷ high) (t.ParenExpr (place_of ts) e) _ (more_begun ts (u ∷ low) e _ (primary_begun d) refl) refl) refl
primary_begun (full_slice {ts} {low} {high} {most} {e} {u} {v} {w} {x} d m a i b j c k y) =
    same_begun (ts ++ u ∷ low ++ v ∷ high ++ w ∷ most) (x ∷ []) (t.ParenExpr (place_of ts) e) _
    (same_begun (ts ++ u ∷ low ++ v ∷ high) (w ∷ most) (t.ParenExpr (place_of ts) e) _
    (same_begun (ts ++ u ∷ low) (v ∷ high) (t.ParenExpr (place_of ts) e) _ (more_begun ts (u ∷ low) e _ (primary_begun d) refl) refl) refl) refl
primary_begun (call_of_none {ts} {e} d m a b) = more_begun ts _ e _ (primary_begun d) refl
primary_begun (call {ts} {args} {ss} {cs} {e} {u} {v} d m a es x y z) =
    same_begun (ts ++ u ∷ args ++ ss ++ cs) (v ∷ []) (t.ParenExpr (place_of ts) e) _
    (same_begun (ts ++ u ∷ args ++ ss) cs (t.ParenExpr (place_of ts) e) (t.ParenExpr (place_of ts) e)
    (same_begun (ts ++ u ∷ args) ss (t.ParenExpr (place_of ts) e) (t.ParenExpr (place_of ts) e) (more_begun ts (u ∷ args) e (t.ParenExpr (place_of ts) e) (primary_begun d) refl) refl) refl) refl
primary_begun (literal {ts} {e} d m l) = more_begun ts _ e _ (primary_begun d) refl

pub unary_begun : {h : Bool} {ts : List Token} {e : t.Expr} → IsUnary h ts e → Begun ts e
unary_begun (operator_before {u} p x y d) = record { begins = prefix_begins u.kind p x; place = refl }
unary_begun (receive_channel x d) = record { begins = ap begins_expr x.op; place = refl }
unary_begun (primary d) = primary_begun d

pub expr_begun : {k : ℕ} {h : Bool} {ts : List Token} {e : t.Expr} → IsExpr k h ts e → Begun ts e
expr_begun (binary {ts} {a} op x m d d') = more_begun ts _ a _ (expr_begun d) refl
expr_begun (tighter lt d) = expr_begun d
expr_begun (unary d) = unary_begun d

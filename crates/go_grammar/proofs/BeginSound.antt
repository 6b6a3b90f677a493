-- The first token of a type or an expression keeps the invariant.
use Rattle.std.proofs.Common.{◌≡◌, false, ℕ, List, [], ◌∷◌, Option, Some, None, refl, sym, subst}
use Rattle.gj_base.specs.declared.place.Place.{Place}
use Rattle.go_syntax.specs.Tree as t
use Rattle.go_syntax.specs.Token.{Token}
use Rattle.go_syntax.specs.declared.kind.TokenKind.{TokenKind}
use Rattle.go_syntax.specs.declared.kind.TokenKind.TheVariants as kind
use Rattle.go_syntax.specs.declared.keyword.Keyword.{Keyword}
use Rattle.go_syntax.specs.declared.keyword.Keyword.TheVariants as word
use Rattle.go_syntax.specs.declared.operator.Operator.TheVariants as o
use Rattle.go_syntax.specs.declared.tree.Prefix.{Prefix}
use Rattle.go_grammar.specs.Classes.{IsWord, IsName, name_of, prefix_op}
use Rattle.go_grammar.specs.Context.{wants_result, wants_brace, wants_dot}
use Rattle.go_grammar.specs.Grammar as g
use Rattle.go_grammar.specs.Grammar.{IsOperand, IsType, IsBegunType}
use Rattle.go_grammar.specs.Frames as f
use Rattle.go_grammar.specs.Frames.{Ctx, inside, deeper, TypeFrame, Frame, OfExpr, OfType, OfSig, OfField, Done, Stack, Flow, Goes, AnExpr, ASig}
use Rattle.go_grammar.specs.Nodes.{place_of_expr, name_in}
use Rattle.go_syntax.specs.declared.tree.Name.{Name}
use Rattle.go_grammar.specs.ExprSteps.{if_room, if_op, then_expr, begin_type, begin_type_op, begin_type_word, begin_expr, operand, operand_op, operand_word}
use Rattle.go_grammar.proofs.Wanted.{First, Allows, NameFact, IsNameAt, name_at, Want, WUnary, WType, TakesExpr, to_expr, TakesBegun, to_type, to_begun}
use Rattle.go_grammar.proofs.HeldExprs as h
use Rattle.go_grammar.proofs.HeldExprs.{HoldsType, waits_type, first_of}
use Rattle.go_grammar.proofs.Stands.{Opens, o_stuck, open_one, open_new, open_on, open_operand, within, takes_first, open_op, room}

paren_opens : {r : First} (u : Token) (c : Ctx) (s : Stack) → Allows r u → Opens u (WType r) [] s (begin_type_op u c s)
paren_opens u c s a =
    open_op o.LeftParen (λ q. room c (open_new (OfType (f.TypeParens u.place)) (OfType (f.AType (inside c))) (h.type_parens q a) h.a_type)) (λ n.
    open_op o.Mul (λ q. room c (open_new (OfType (f.Star u.place)) (OfType (f.AType (inside c))) (h.star q a) h.a_type)) (λ n.
    open_op o.LeftBracket (λ q. room c (open_one (OfType (f.TypeBracket c u.place)) (h.type_bracket q (to_type a)))) (λ n.
    open_op o.Arrow (λ q. room c (open_one (OfType (f.Arrow (inside c) u.place)) (h.arrow q a))) (λ n. o_stuck))))

-- the types that begin with a keyword, but for functions
pub map_opens : {w : Want} {u : Token} (c : Ctx) (s : Stack) → IsWord word.Map u → TakesBegun w u → Opens u w [] s (begin_type_word u word.Map c s)
map_opens {u = u} c s k a = open_one (OfType (f.MapOpen c u.place)) (h.map_open k a)

pub chan_opens : {w : Want} {u : Token} (c : Ctx) (s : Stack) → IsWord word.Chan u → TakesBegun w u → Opens u w [] s (begin_type_word u word.Chan c s)
chan_opens {u = u} c s k a = room c (open_one (OfType (f.ChanOpen (inside c) u.place)) (h.chan_open k a))

pub struct_opens : {w : Want} {u : Token} (c : Ctx) (s : Stack) → IsWord word.Struct u → TakesBegun w u → Opens u w [] s (begin_type_word u word.Struct c s)
struct_opens {u = u} c s k a = open_one (OfType (f.StructOpen c u.place)) (h.struct_open k a)

pub interface_opens : {w : Want} {u : Token} (c : Ctx) (s : Stack) → IsWord word.Interface u → TakesBegun w u → Opens u w [] s (begin_type_word u word.Interface c s)
interface_opens {u = u} c s k a = open_one (OfType (f.InterfaceOpen c u.place)) (h.interface_open k a)

word_opens : {r : First} (u : Token) (x : Keyword) (c : Ctx) (s : Stack) → IsWord x u → Allows r u → Opens u (WType r) [] s (begin_type_word u x c s)
word_opens u word.Func c s k a = open_new (OfType (f.FuncOf u.place)) (OfSig (f.SigOpen c)) (h.func_of k a) h.sig_open
word_opens u word.Map c s k a = map_opens c s k (to_type a)
word_opens u word.Chan c s k a = chan_opens c s k (to_type a)
word_opens u word.Struct c s k a = struct_opens c s k (to_type a)
word_opens u word.Interface c s k a = interface_opens c s k (to_type a)
word_opens u _ c s k a = o_stuck

type_kind_opens : {r : First} (k : TokenKind) (at : Place) (x : List ℕ) (c : Ctx) (s : Stack) → Allows r (record { kind = k; place = at; text = x }) → Opens (record { kind = k; place = at; text = x }) (WType r) [] s (begin_type (record { kind = k; place = at; text = x }) c s)
type_kind_opens (kind.Op y) at x c s a = paren_opens (record { kind = kind.Op y; place = at; text = x }) c s a
type_kind_opens (kind.Word y) at x c s a = word_opens (record { kind = kind.Word y; place = at; text = x }) y c s (record { word = refl }) a
type_kind_opens kind.Name at x c s a = open_one (OfType (f.TypeName (t.NameExpr at x))) (h.type_name (record { name = refl }) a)
type_kind_opens _ at x c s a = o_stuck

pub type_opens : {r : First} (u : Token) (c : Ctx) (s : Stack) → Allows r u → Opens u (WType r) [] s (begin_type u c s)
type_opens u c s a = type_kind_opens u.kind u.place u.text c s a

prefix_opens : {k : ℕ} {r : First} (u : Token) (c : Ctx) (s : Stack) (p : Option Prefix) → prefix_op u.kind ≡ p → Allows r u → Opens u (WUnary k c.header c.guard r) [] s (operand_op u c s p)
prefix_opens u c s None q a = o_stuck
prefix_opens u c s (Some p) q a = room c (open_new (OfExpr (f.Before u.place p)) (OfExpr (f.Operand (deeper c))) (h.before q a) h.operand)

operand_op_opens : {k : ℕ} {r : First} (u : Token) (c : Ctx) (s : Stack) → Allows r u → Opens u (WUnary k c.header c.guard r) [] s (if_op o.LeftParen u (if_room c (then_expr (inside c) (OfExpr (f.InParens c u.place) ∷ s))) (if_op o.LeftBracket u (if_room c (Goes (OfType (f.TypeBracket c u.place) ∷ OfExpr (f.TypeOperand c) ∷ s))) (operand_op u c s (prefix_op u.kind))))
operand_op_opens u c s a =
    open_op o.LeftParen (λ q. room c (open_operand (OfExpr (f.InParens c u.place)) (inside c) (u ∷ []) refl (h.in_parens q a) to_expr)) (λ n.
    open_op o.LeftBracket (λ q. room c (open_on (OfExpr (f.TypeOperand c)) (OfType (f.TypeBracket c u.place)) h.type_operand (h.type_bracket q (to_begun a)))) (λ n.
    prefix_opens u c s (prefix_op u.kind) refl a))

operand_word_opens : {k : ℕ} {r : First} (u : Token) (x : Keyword) (c : Ctx) (s : Stack) → IsWord x u → Allows r u → Opens u (WUnary k c.header c.guard r) [] s (operand_word u x c s)
operand_word_opens u word.Func c s k a = open_new (OfExpr (f.AtFunc c u.place)) (OfSig (f.SigOpen c)) (h.at_func k a) h.sig_open
operand_word_opens u word.Map c s k a = within (OfExpr (f.TypeOperand c)) [] h.type_operand (map_opens c (OfExpr (f.TypeOperand c) ∷ s) k (to_begun a))
operand_word_opens u word.Chan c s k a = within (OfExpr (f.TypeOperand c)) [] h.type_operand (chan_opens c (OfExpr (f.TypeOperand c) ∷ s) k (to_begun a))
operand_word_opens u word.Struct c s k a = within (OfExpr (f.TypeOperand c)) [] h.type_operand (struct_opens c (OfExpr (f.TypeOperand c) ∷ s) k (to_begun a))
operand_word_opens u word.Interface c s k a = within (OfExpr (f.TypeOperand c)) [] h.type_operand (interface_opens c (OfExpr (f.TypeOperand c) ∷ s) k (to_begun a))
operand_word_opens u _ c s k a = o_stuck

some_name : (x y : Name) → Some x ≡ Some y → x ≡ y
some_name x y q = cc

pub named_here : (u : Token) → IsName u → NameFact (u ∷ []) (t.NameExpr u.place u.text)
named_here u n y q = subst (λ z. IsNameAt (u ∷ []) z) (some_name (name_of u) y q) (name_at n)

pub unnamed : {ts : List Token} (e : t.Expr) → name_in e ≡ None → NameFact ts e
unnamed e n y q = absurd (cc)

leaf_opens : {k : ℕ} {r : First} (u : Token) (c : Ctx) (s : Stack) (e : t.Expr) → IsOperand (u ∷ []) e → place_of_expr e ≡ u.place → NameFact (u ∷ []) e → wants_result e ≡ false → wants_brace e ≡ false → wants_dot e ≡ false → Allows r u → Opens u (WUnary k c.header c.guard r) [] s (Goes (OfExpr (f.Tail c 0 e) ∷ s))
leaf_opens u c s e d p n m b wd a = open_one (OfExpr (f.Tail c 0 e)) (h.tail (g.operand d) p a n m b wd)

operand_kind_opens : {k : ℕ} {r : First} (j : TokenKind) (at : Place) (x : List ℕ) (c : Ctx) (s : Stack) → Allows r (record { kind = j; place = at; text = x }) → Opens (record { kind = j; place = at; text = x }) (WUnary k c.header c.guard r) [] s (operand (record { kind = j; place = at; text = x }) c s)
operand_kind_opens (kind.Op y) at x c s a = operand_op_opens (record { kind = kind.Op y; place = at; text = x }) c s a
operand_kind_opens (kind.Word y) at x c s a = operand_word_opens (record { kind = kind.Word y; place = at; text = x }) y c s (record { word = refl }) a
operand_kind_opens kind.Name at x c s a = let u : Token = record { kind = kind.Name; place = at; text = x } in leaf_opens u c s (t.NameExpr at x) (g.name (record { name = refl })) refl (named_here u (record { name = refl })) refl refl refl a
operand_kind_opens kind.Int at x c s a = leaf_opens (record { kind = kind.Int; place = at; text = x }) c s (t.IntExpr at x) (g.int refl) refl (unnamed (t.IntExpr at x) refl) refl refl refl a
operand_kind_opens kind.Rune at x c s a = leaf_opens (record { kind = kind.Rune; place = at; text = x }) c s (t.RuneExpr at x) (g.rune refl) refl (unnamed (t.RuneExpr at x) refl) refl refl refl a
operand_kind_opens kind.Str at x c s a = leaf_opens (record { kind = kind.Str; place = at; text = x }) c s (t.StrExpr at x) (g.string (record { string = refl })) refl (unnamed (t.StrExpr at x) refl) refl refl refl a
operand_kind_opens _ at x c s a = o_stuck

pub operand_opens : {k : ℕ} {r : First} (u : Token) (c : Ctx) (s : Stack) → Allows r u → Opens u (WUnary k c.header c.guard r) [] s (operand u c s)
operand_opens u c s a = operand_kind_opens u.kind u.place u.text c s a

chain_opens : {w : Want} {r : First} (u : Token) (c : Ctx) (s : Stack) → first_of w ≡ r → TakesExpr w c.header c.guard r → Allows r u → Opens u w [] s (begin_expr u c s)
chain_opens {w} {r} u c s q k a = within (OfExpr (f.Chain c)) [] (h.chain k) (operand_opens u c (OfExpr (f.Chain c) ∷ s) (subst (λ z. Allows z u) (sym q) a))

-- an expression
pub expr_opens : {w : Want} {r : First} (u : Token) (c : Ctx) (s : Stack) → TakesExpr w c.header c.guard r → Allows r u → Opens u w [] s (begin_expr u c s)
expr_opens u c s k a = chain_opens u c s (takes_first k) k a

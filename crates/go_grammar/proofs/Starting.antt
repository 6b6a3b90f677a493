-- Frames that begin an expression or a type at a token do what the frames that wait for one do there.
use Rattle.std.proofs.Common.{◌≡◌, Bool, true, false, cond, List, [], ◌∷◌, ◌++◌, refl, sym, ◌∙◌, ap}
use Rattle.go_syntax.specs.Token.{Token}
use Rattle.go_syntax.specs.declared.kind.TokenKind.{TokenKind}
use Rattle.go_syntax.specs.declared.kind.TokenKind.TheVariants as kind
use Rattle.go_syntax.specs.declared.keyword.Keyword.TheVariants as word
use Rattle.go_syntax.specs.declared.operator.Operator.TheVariants as o
use Rattle.go_grammar.specs.Classes.{begins_type}
use Rattle.go_grammar.specs.Limits.{has_room}
use Rattle.go_grammar.specs.Frames.{Ctx, Role, Value, Frame, OfExpr, OfType, Stack, Flow, Goes, Over, Stuck, Deep, Long, Operand, Chain, AType}
use Rattle.go_grammar.specs.Nodes.{is_op, is_word, is_semicolon, begins_expr}
use Rattle.go_grammar.specs.ExprSteps.{operand, begin_expr, begin_type, open_params}
use Rattle.go_grammar.specs.Parsed.{row, hands, goes_on, after_step, run}
use Rattle.go_grammar.proofs.Stepping.{of_kind}

-- no frame is over by this
abbrev pub firm : Flow → Bool
firm (Over v s) = false
firm _ = true

pub firm_stays : (x : Flow) (again : Value → Flow) → firm x ≡ true → goes_on again x ≡ x
firm_stays (Over v s) again h = cc
firm_stays (Goes s) again h = refl
firm_stays Stuck again h = refl
firm_stays Deep again h = refl
firm_stays (Long at) again h = refl

room_firm : (b : Bool) (s : Stack) → firm (cond b (Goes s) Deep) ≡ true
room_firm true s = refl
room_firm false s = refl

-- a token of this kind, with all else of another
abbrev pub with_kind : TokenKind → Token → Token
with_kind k u = record u { kind = k }

operand_firm_at : (k : TokenKind) (u : Token) (c : Ctx) (s : Stack) → firm (operand (with_kind k u) c s) ≡ true
operand_firm_at (kind.Op o.LeftParen) u c s = room_firm (has_room c.depth) _
operand_firm_at (kind.Op o.LeftBracket) u c s = room_firm (has_room c.depth) _
operand_firm_at (kind.Op o.Add) u c s = room_firm (has_room c.depth) _
operand_firm_at (kind.Op o.Sub) u c s = room_firm (has_room c.depth) _
operand_firm_at (kind.Op o.Not) u c s = room_firm (has_room c.depth) _
operand_firm_at (kind.Op o.Xor) u c s = room_firm (has_room c.depth) _
operand_firm_at (kind.Op o.Mul) u c s = room_firm (has_room c.depth) _
operand_firm_at (kind.Op o.And) u c s = room_firm (has_room c.depth) _
operand_firm_at (kind.Op o.Arrow) u c s = room_firm (has_room c.depth) _
operand_firm_at (kind.Word word.Chan) u c s = room_firm (has_room c.depth) _
operand_firm_at _ u c s = refl

pub operand_firm : (u : Token) (c : Ctx) (s : Stack) → firm (operand u c s) ≡ true
operand_firm u c s = operand_firm_at u.kind u c s

type_firm_at : (k : TokenKind) (u : Token) (c : Ctx) (s : Stack) → firm (begin_type (with_kind k u) c s) ≡ true
type_firm_at (kind.Op o.LeftParen) u c s = room_firm (has_room c.depth) _
type_firm_at (kind.Op o.LeftBracket) u c s = room_firm (has_room c.depth) _
type_firm_at (kind.Op o.Mul) u c s = room_firm (has_room c.depth) _
type_firm_at (kind.Op o.Arrow) u c s = room_firm (has_room c.depth) _
type_firm_at (kind.Word word.Chan) u c s = room_firm (has_room c.depth) _
type_firm_at _ u c s = refl

pub type_firm : (u : Token) (c : Ctx) (s : Stack) → firm (begin_type u c s) ≡ true
type_firm u c s = type_firm_at u.kind u c s

open_firm_at : (a b : Bool) (s : Stack) → firm (cond a (cond b (Goes s) Deep) Stuck) ≡ true
open_firm_at true b s = room_firm b s
open_firm_at false b s = refl

pub open_firm : (u : Token) (c : Ctx) (role : Role) (s : Stack) → firm (open_params u c role s) ≡ true
open_firm u c role s = open_firm_at (is_op o.LeftParen u) (has_room c.depth) _

-- two frames that do the same firm thing
pub same_start : (u : Token) (us : List Token) (f g : Frame) (s s' : Stack) → row u f s ≡ row u g s' → firm (row u g s') ≡ true → run (u ∷ us) (f ∷ s) ≡ run (u ∷ us) (g ∷ s')
same_start u us f g s s' e h =
    ap (λ x. after_step u (run us) (goes_on (hands u s) x)) e
    ∙ (ap (λ x. after_step u (run us) x) (firm_stays (row u g s') (hands u s) h)
    ∙ sym (ap (λ x. after_step u (run us) x) (firm_stays (row u g s') (hands u s') h)))

-- a frame that begins an expression at the token
pub starts_expr : (u : Token) (us : List Token) (f : Frame) (s s' : Stack) (c : Ctx) → row u f s ≡ begin_expr u c s' → run (u ∷ us) (f ∷ s) ≡ run (u ∷ us) (OfExpr (Operand c) ∷ OfExpr (Chain c) ∷ s')
starts_expr u us f s s' c e = same_start u us f (OfExpr (Operand c)) s (OfExpr (Chain c) ∷ s') e (operand_firm u c (OfExpr (Chain c) ∷ s'))

pub starts_type : (u : Token) (us : List Token) (f : Frame) (s s' : Stack) (c : Ctx) → row u f s ≡ begin_type u c s' → run (u ∷ us) (f ∷ s) ≡ run (u ∷ us) (OfType (AType c) ∷ s')
starts_type u us f s s' c e = same_start u us f (OfType (AType c)) s s' e (type_firm u c s')

-- the first of some tokens is of this class
abbrev pub first_is : (TokenKind → Bool) → List Token → Bool
first_is p [] = false
first_is p (u ∷ us) = p u.kind

pub first_of_more : (p : TokenKind → Bool) (ts us : List Token) → first_is p ts ≡ true → first_is p (ts ++ us) ≡ true
first_of_more p [] us h = cc
first_of_more p (u ∷ ts) us h = h

-- a list of parameters begins with the token
abbrev pub is_paren : TokenKind → Bool
is_paren k = is_op o.LeftParen (of_kind k)

-- what holds for runs from a first token of a class on
pub from_first : (p : TokenKind → Bool) (ts : List Token) (s s' : Stack) → first_is p ts ≡ true → ((u : Token) (us : List Token) → p u.kind ≡ true → run (u ∷ us) s ≡ run (u ∷ us) s') → (rest : List Token) → run (ts ++ rest) s ≡ run (ts ++ rest) s'
from_first p [] s s' h go rest = cc
from_first p (u ∷ ts) s s' h go rest = go u (ts ++ rest) h

-- an expression begins with none of these
pub expr_no_bracket : (k : TokenKind) → begins_expr k ≡ true → is_op o.RightBracket (of_kind k) ≡ false
expr_no_bracket (kind.Op o.RightBracket) h = sym h
expr_no_bracket _ h = refl

pub expr_no_dots : (k : TokenKind) → begins_expr k ≡ true → is_op o.Ellipsis (of_kind k) ≡ false
expr_no_dots (kind.Op o.Ellipsis) h = sym h
expr_no_dots _ h = refl

pub expr_no_colon : (k : TokenKind) → begins_expr k ≡ true → is_op o.Colon (of_kind k) ≡ false
expr_no_colon (kind.Op o.Colon) h = sym h
expr_no_colon _ h = refl

pub expr_no_paren : (k : TokenKind) → begins_expr k ≡ true → is_op o.RightParen (of_kind k) ≡ false
expr_no_paren (kind.Op o.RightParen) h = sym h
expr_no_paren _ h = refl

pub expr_no_brace : (k : TokenKind) → begins_expr k ≡ true → is_op o.RightBrace (of_kind k) ≡ false
expr_no_brace (kind.Op o.RightBrace) h = sym h
expr_no_brace _ h = refl

pub expr_no_open_brace : (k : TokenKind) → begins_expr k ≡ true → is_op o.LeftBrace (of_kind k) ≡ false
expr_no_open_brace (kind.Op o.LeftBrace) h = sym h
expr_no_open_brace _ h = refl

pub expr_no_semicolon : (k : TokenKind) → begins_expr k ≡ true → is_semicolon k ≡ false
expr_no_semicolon kind.Semi h = sym h
expr_no_semicolon kind.Auto h = sym h
expr_no_semicolon _ h = refl

pub expr_no_range : (k : TokenKind) → begins_expr k ≡ true → is_word word.Range (of_kind k) ≡ false
expr_no_range (kind.Word word.Range) h = sym h
expr_no_range _ h = refl

pub type_no_type_word : (k : TokenKind) → begins_type k ≡ true → is_word word.Type (of_kind k) ≡ false
type_no_type_word (kind.Word word.Type) h = sym h
type_no_type_word _ h = refl

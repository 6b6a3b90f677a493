-- How the machine goes over tokens: contexts, what may come next, and facts on tokens.
--
-- `Done v` on top of a stack is the tree v that is handed down at the next token.
use Rattle.std.proofs.Common.{◌≡◌, ℕ, Bool, true, false, not, ◌&&◌, List, [], ◌++◌, Option, Some, None, refl, sym, ◌∙◌, ap, append_assoc}
use Rattle.std.proofs.lemmas.Bool.{and_parts, and_right}
use Rattle.gj_base.specs.declared.kind.Op.{Op}
use Rattle.go_syntax.specs.Tree as t
use Rattle.go_syntax.specs.Token.{Token}
use Rattle.go_syntax.specs.declared.kind.TokenKind.{TokenKind}
use Rattle.go_syntax.specs.declared.kind.TokenKind.TheVariants as kind
use Rattle.go_syntax.specs.declared.operator.Operator.{Operator}
use Rattle.go_syntax.specs.declared.operator.Operator.TheVariants as o
use Rattle.go_grammar.specs.Classes.{IsOp, IsSemicolon, written, inserted, begins_type, binary_op}
use Rattle.go_grammar.specs.Context.{MayFollow, type_wants_dot, sig_wants_result, sig_wants_dot}
use Rattle.go_grammar.specs.Frames.{Ctx, Stack}
use Rattle.go_grammar.specs.Nodes.{is_op}
use Rattle.go_grammar.specs.Parsed.{run}

abbrev pub ctx : ℕ → ℕ → Bool → Bool → Ctx
ctx d b h g = record { depth = d; blocks = b; header = h; guard = g }

pub run_assoc : (ts us rest : List Token) (s : Stack) → run ((ts ++ us) ++ rest) s ≡ run (ts ++ (us ++ rest)) s
run_assoc ts us rest s = ap (λ x. run x s) (append_assoc ts us rest)

pub first_part : (a b : Bool) → (a && b) ≡ true → a ≡ true
first_part a b h = (and_parts a b h).0

pub second_part : (a b : Bool) → (a && b) ≡ true → b ≡ true
second_part a b h = (and_parts a b h).1

pub not_true : (a : Bool) → not a ≡ true → a ≡ false
not_true true h = sym h
not_true false h = refl

abbrev pub is_none : Option Op → Bool
is_none None = true
is_none (Some x) = false

pub none_is : (x : Option Op) → is_none x ≡ true → x ≡ None
none_is None h = refl
none_is (Some x) h = cc

-- a token of this kind
abbrev pub of_kind : TokenKind → Token
of_kind k = record { kind = k; place = record { file = 0; offset = 0 }; text = [] }

-- a token that goes on with no expression and no type
pub record Halts (u : Token) : Type 0 where
  pub no_type : begins_type u.kind ≡ false
  pub no_dot : is_op o.Dot u ≡ false
  pub no_bracket : is_op o.LeftBracket u ≡ false
  pub no_paren : is_op o.LeftParen u ≡ false
  pub no_brace : is_op o.LeftBrace u ≡ false
  pub no_binary : binary_op u.kind ≡ None

abbrev pub halting : TokenKind → Bool
halting k = not (begins_type k) && not (is_op o.Dot (of_kind k)) && not (is_op o.LeftBracket (of_kind k)) && not (is_op o.LeftParen (of_kind k)) && not (is_op o.LeftBrace (of_kind k)) && is_none (binary_op k)

pub halts : (u : Token) → halting u.kind ≡ true → Halts u
halts u h = record {
  no_type = not_true _ (first_part _ _ (first_part _ _ (first_part _ _ (first_part _ _ (first_part _ _ h)))));
  no_dot = not_true _ (second_part _ _ (first_part _ _ (first_part _ _ (first_part _ _ (first_part _ _ h)))));
  no_bracket = not_true _ (second_part _ _ (first_part _ _ (first_part _ _ (first_part _ _ h))));
  no_paren = not_true _ (second_part _ _ (first_part _ _ (first_part _ _ h)));
  no_brace = not_true _ (second_part _ _ (first_part _ _ h));
  no_binary = none_is (binary_op u.kind) (second_part _ _ h);
}

pub halts_op : {x : Operator} {u : Token} → IsOp x u → halting (kind.Op x) ≡ true → Halts u
halts_op {x} {u} h e = halts u (ap halting h.op ∙ e)

pub halts_semicolon : {u : Token} → IsSemicolon u → Halts u
halts_semicolon {u} (written h) = halts u (ap halting h)
halts_semicolon {u} (inserted h) = halts u (ap halting h)

-- the type may be over before the token
abbrev pub AfterType : t.Expr → Token → Type 0
AfterType e u = MayFollow e u × ((type_wants_dot e && is_op o.Dot u) ≡ false)

abbrev pub AfterSig : t.Sig → Token → Type 0
AfterSig sig u = ((sig_wants_result sig && begins_type u.kind) ≡ false) × ((sig_wants_dot sig && is_op o.Dot u) ≡ false)

pub halted_type : (e : t.Expr) {u : Token} → Halts u → AfterType e u
halted_type e {u} h = (and_right _ _ h.no_type, and_right _ _ h.no_dot)

pub halted_sig : (x : t.Sig) {u : Token} → Halts u → AfterSig x u
halted_sig e {u} h = (and_right _ _ h.no_type, and_right _ _ h.no_dot)

-- what follows is no list of results
pub no_list : (k : TokenKind) → begins_type k ≡ false → is_op o.LeftParen (of_kind k) ≡ false
no_list (kind.Op o.LeftParen) h = h
no_list _ h = refl

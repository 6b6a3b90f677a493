-- What it is that tokens are read as a type, an expression and so on: from the frame that waits for it
-- the machine comes to its tree, handed down at the next token.
use Rattle.std.proofs.Common.{◌≡◌, ◌+◌, ℕ, Bool, true, false, not, ◌&&◌, ◌||◌, List, [], ◌∷◌, ◌++◌, ◌⊎◌, Option, None, refl, ap}
use Rattle.std.proofs.lemmas.Bool.{and_left, and_right}
use Rattle.gj_base.specs.declared.place.Place.{Place}
use Rattle.go_syntax.specs.Tree as t
use Rattle.go_syntax.specs.Token.{Token}
use Rattle.go_syntax.specs.View.{joined}
use Rattle.go_syntax.specs.declared.operator.Operator.TheVariants as o
use Rattle.go_syntax.specs.declared.tree.Name.{Name}
use Rattle.go_grammar.specs.Classes.{IsOp, binary_op}
use Rattle.go_grammar.specs.Context.{MayFollow, wants_brace}
use Rattle.go_grammar.specs.Limits.{has_room, expr_fits, sig_fits, params_fit, fields_fit, members_fit}
use Rattle.go_grammar.specs.Frames.{Ctx, AnExpr, ASig, OfExpr, OfType, OfSig, OfField, Done, Stack, Operand, Chain, AType, SigOpen, InParams, Param, ParamsPart, Params, Role, InStruct, StructPart, InInterface, InterfacePart}
use Rattle.go_grammar.specs.Nodes.{is_op}
use Rattle.go_grammar.specs.Parsed.{run}
use Rattle.go_grammar.proofs.Stepping.{ctx, Halts, AfterType, AfterSig}

abbrev pub TypeReads : ℕ → List Token → t.Expr → Type 0
TypeReads b ts e = (d : ℕ) (h g : Bool) → expr_fits b d e ≡ true → (u : Token) (us : List Token) (s : Stack) → AfterType e u → run (ts ++ u ∷ us) (OfType (AType (ctx d b h g)) ∷ s) ≡ run (u ∷ us) (Done (AnExpr e) ∷ s)

-- a unary expression may be over before the token
abbrev pub AfterUnary : Bool → t.Expr → Token → Type 0
AfterUnary h e u = MayFollow e u × (is_op o.Dot u ≡ false) × (is_op o.LeftBracket u ≡ false) × (is_op o.LeftParen u ≡ false) × ((is_op o.LeftBrace u && (not h || wants_brace e)) ≡ false)

abbrev pub AfterExpr : Bool → t.Expr → Token → Type 0
AfterExpr h e u = AfterUnary h e u × (binary_op u.kind ≡ None)

pub halted_unary : (h : Bool) (e : t.Expr) {u : Token} → Halts u → AfterUnary h e u
halted_unary h e {u} x = (and_right _ _ x.no_type, x.no_dot, x.no_bracket, x.no_paren, and_left _ _ x.no_brace)

pub halted_expr : (h : Bool) (e : t.Expr) {u : Token} → Halts u → AfterExpr h e u
halted_expr h e {u} x = (halted_unary h e x, x.no_binary)

abbrev pub ExprReads : ℕ → Bool → List Token → t.Expr → Type 0
ExprReads b h ts e = (d : ℕ) (g : Bool) → expr_fits b d e ≡ true → (u : Token) (us : List Token) (s : Stack) → AfterExpr h e u → run (ts ++ u ∷ us) (OfExpr (Operand (ctx d b h g)) ∷ OfExpr (Chain (ctx d b h g)) ∷ s) ≡ run (u ∷ us) (Done (AnExpr e) ∷ s)

abbrev pub SigReads : ℕ → List Token → t.Sig → Type 0
SigReads b ts sig = (d : ℕ) (h g : Bool) → sig_fits b d sig ≡ true → (u : Token) (us : List Token) (s : Stack) → AfterSig sig u → run (ts ++ u ∷ us) (OfSig (SigOpen (ctx d b h g)) ∷ s) ≡ run (u ∷ us) (Done (ASig sig) ∷ s)

-- parameters as what each puts before the rest
abbrev pub params_list : t.Params → Params
params_list t.NoParams = []
params_list (t.MoreParams at x variadic e rest) = (λ more. t.MoreParams at x variadic e more) ∷ params_list rest

pub joined_params : (xs : t.Params) → joined (params_list xs) t.NoParams ≡ xs
joined_params t.NoParams = refl
joined_params (t.MoreParams at x variadic e rest) = ap (λ more. t.MoreParams at x variadic e more) (joined_params rest)

abbrev pub params_part : Ctx → Place → Params → Role → ParamsPart
params_part c at items role = record { ctx = c; place = at; items = items; role = role }

-- parameters, up to the `)` after them
abbrev pub ParamsRead : ℕ → List Token → t.Params → Type 0
ParamsRead b ts xs = (d : ℕ) (h g : Bool) → has_room d ≡ true → params_fit b (d + 1) xs ≡ true → (at : Place) (items : Params) (role : Role) (u : Token) (us : List Token) (s : Stack) → IsOp o.RightParen u → run (ts ++ u ∷ us) (OfSig (InParams (params_part (ctx d b h g) at items role)) ∷ s) ≡ run (u ∷ us) (OfSig (InParams (params_part (ctx d b h g) at (items ++ params_list xs) role)) ∷ s)

-- a parameter, up to the `,` or `)` after it
abbrev pub ParamReads : ℕ → List Token → Place → Option Name → Bool → t.Expr → Type 0
ParamReads b ts at x variadic e = (d : ℕ) (h g : Bool) → has_room d ≡ true → expr_fits b (d + 1) e ≡ true → (at' : Place) (items : Params) (role : Role) (u : Token) (us : List Token) (s : Stack) → (IsOp o.Comma u ⊎ IsOp o.RightParen u) → run (ts ++ u ∷ us) (OfSig (InParams (params_part (ctx d b h g) at' items role)) ∷ s) ≡ run (u ∷ us) (Done (AnExpr e) ∷ OfSig (Param (params_part (ctx d b h g) at' items role) at x variadic) ∷ s)

abbrev pub struct_part : Ctx → Place → List (t.Fields → t.Fields) → StructPart
struct_part c at items = record { ctx = c; place = at; fields = items }

abbrev pub interface_part : Ctx → Place → List (t.Members → t.Members) → InterfacePart
interface_part c at items = record { ctx = c; place = at; members = items }

-- fields, with the `}` after them
abbrev pub FieldsRead : ℕ → List Token → t.Fields → Type 0
FieldsRead b ts xs = (d : ℕ) (h g : Bool) → fields_fit b d xs ≡ true → (at : Place) (items : List (t.Fields → t.Fields)) (u : Token) (us : List Token) (s : Stack) → IsOp o.RightBrace u → run (ts ++ u ∷ us) (OfField (InStruct (struct_part (ctx d b h g) at items)) ∷ s) ≡ run us (Done (AnExpr (t.StructType at (joined items xs))) ∷ s)

-- members, with the `}` after them
abbrev pub MembersRead : ℕ → List Token → t.Members → Type 0
MembersRead b ts xs = (d : ℕ) (h g : Bool) → members_fit b d xs ≡ true → (at : Place) (items : List (t.Members → t.Members)) (u : Token) (us : List Token) (s : Stack) → IsOp o.RightBrace u → run (ts ++ u ∷ us) (OfField (InInterface (interface_part (ctx d b h g) at items)) ∷ s) ≡ run us (Done (AnExpr (t.InterfaceType at (joined items xs))) ∷ s)

-- one part more at the end
pub joined_and : {A : Type 0} (items : List (A → A)) (f : A → A) (rest : A) → joined (items ++ f ∷ []) rest ≡ joined items (f rest)
joined_and [] f rest = refl
joined_and (x ∷ items) f rest = ap x (joined_and items f rest)

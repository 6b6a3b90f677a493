-- What a frame of an expression, a part, a type, a field or a signature has taken.
use Rattle.std.proofs.Common.{◌≡◌, ◌≤◌, ◌+◌, Bool, true, false, ℕ, List, [], ◌∷◌, ◌++◌, Option, Some, None}
use Rattle.gj_base.specs.declared.place.Place.{Place}
use Rattle.gj_base.specs.declared.kind.Op.{Op}
use Rattle.go_syntax.specs.Tree as t
use Rattle.go_syntax.specs.Token.{Token}
use Rattle.go_syntax.specs.View.{joined, exprs_of}
use Rattle.go_syntax.specs.declared.keyword.Keyword.TheVariants as word
use Rattle.go_syntax.specs.declared.operator.Operator.TheVariants as o
use Rattle.go_syntax.specs.declared.tree.Name.{Name}
use Rattle.go_syntax.specs.declared.tree.Prefix.{Prefix}
use Rattle.go_grammar.specs.Classes.{IsOp, IsWord, IsName, IsSemicolon, name_of, place_of, IsBinary, prefix_op, level}
use Rattle.go_grammar.specs.Context.{MayFollow, wants_brace, wants_result, wants_dot, takes_literal}
use Rattle.go_grammar.specs.Grammar.{PerhapsOp, AreNames, IsTypeName, IsExpr, IsPrimary, PerhapsExpr, AreExprs, AreElems, IsValue, IsType, AreFields, AreMembers, IsSig, AreParams, AreParamsInside}
use Rattle.go_grammar.specs.Frames as f
use Rattle.go_grammar.specs.Frames.{Ctx, ExprFrame, PartFrame, TypeFrame, FieldFrame, SigFrame, Base, Braces, Elems, Params, Role, ParamsPart, StructPart, InterfacePart, Embedded}
use Rattle.go_grammar.specs.Nodes.{maybe, place_of_expr}
use Rattle.go_grammar.proofs.Wanted.{First, AnyFirst, NoParen, NoArrow, FirstAt, Allows, AllowsFirst, NameFact, Starts, Want, WNone, WUnary, WExpr, WValue, WType, WBegun, WSig, WBlock, WTop, TakesExpr, TakesBegun}

pub data HoldsExpr : ExprFrame → List Token → Want → Type 0 where
  operand : {c : Ctx} {k : ℕ} → HoldsExpr (f.Operand c) [] (WUnary k c.header c.guard AnyFirst)
  tail : {c : Ctx} {n k : ℕ} {r : First} {e : t.Expr} {ts : List Token} → IsPrimary c.header ts e → Starts ts (place_of_expr e) → AllowsFirst r ts → NameFact ts e → wants_result e ≡ false → wants_brace e ≡ false → wants_dot e ≡ false → HoldsExpr (f.Tail c n e) ts (WUnary k c.header c.guard r)
  before : {p : Prefix} {k : ℕ} {h g : Bool} {r : First} {u : Token} → prefix_op u.kind ≡ Some p → Allows r u → HoldsExpr (f.Before u.place p) (u ∷ []) (WUnary k h g r)
  chain : {c : Ctx} {w : Want} {r : First} → TakesExpr w c.header c.guard r → HoldsExpr (f.Chain c) [] w
  left : {c : Ctx} {n k : ℕ} {r : First} {a : t.Expr} {op : Op} {ts : List Token} {u : Token} → k ≤ level op → IsExpr (level op) c.header ts a → Starts ts (place_of_expr a) → AllowsFirst r ts → IsBinary op u → MayFollow a u → HoldsExpr (f.Left c n a op) (ts ++ u ∷ []) (WUnary k c.header c.guard r)
  in_parens : {c : Ctx} {k : ℕ} {r : First} {u : Token} → IsOp o.LeftParen u → Allows r u → HoldsExpr (f.InParens c u.place) (u ∷ []) (WUnary k c.header c.guard r)
  type_operand : {c : Ctx} {k : ℕ} {r : First} → HoldsExpr (f.TypeOperand c) [] (WUnary k c.header c.guard r)
  at_func : {c : Ctx} {k : ℕ} {r : First} {u : Token} → IsWord word.Func u → Allows r u → HoldsExpr (f.AtFunc c u.place) (u ∷ []) (WUnary k c.header c.guard r)
  at_body : {c : Ctx} {k : ℕ} {r : First} {sig : t.Sig} {ts : List Token} {u : Token} → IsWord word.Func u → IsSig ts sig → Allows r u → HoldsExpr (f.AtBody c u.place sig) (u ∷ ts) (WUnary k c.header c.guard r)

-- what the first token of a tree of the class may be
abbrev pub first_of : Want → First
first_of (WUnary k h g r) = r
first_of (WExpr h g r) = r
first_of (WType r) = r
first_of (WBegun r) = r
first_of _ = AnyFirst

abbrev pub waits_expr : ExprFrame → Want → Want
waits_expr (f.Before at p) (WUnary k h g r) = WUnary 7 h g AnyFirst
waits_expr (f.Chain c) w = WUnary 1 c.header c.guard (first_of w)
waits_expr (f.Left c n a op) w = WUnary (level op + 1) c.header c.guard AnyFirst
waits_expr (f.InParens c at) w = WExpr false false AnyFirst
waits_expr (f.TypeOperand c) w = WBegun (first_of w)
waits_expr (f.AtFunc c at) w = WSig
waits_expr (f.AtBody c at sig) w = WBlock
waits_expr _ w = WNone

-- the expressions before some others
abbrev pub onto : List t.Expr → t.Exprs → t.Exprs
onto [] r = r
onto (e ∷ es) r = t.MoreExprs e (onto es r)

-- expressions with a comma after each
pub record ExprsHeld (h : Bool) (ts : List Token) (es : List t.Expr) : Type 0 where
  pub held : (us : List Token) (r : t.Exprs) → AreExprs h us r → AreExprs h (ts ++ us) (onto es r)

pub data ArgsHeld : List Token → List t.Expr → Type 0 where
  no_args : ArgsHeld [] []
  some_args : {ts : List Token} {es : List t.Expr} {v : Token} → AreExprs false ts (exprs_of es) → IsOp o.Comma v → ExprsHeld false (ts ++ v ∷ []) es → ArgsHeld (ts ++ v ∷ []) es

-- `...` and perhaps a comma
pub data SpreadHeld : List Token → Bool → Type 0 where
  spread : {u : Token} → IsOp o.Ellipsis u → SpreadHeld (u ∷ []) false
  spread_comma : {u v : Token} → IsOp o.Ellipsis u → IsOp o.Comma v → SpreadHeld (u ∷ v ∷ []) true

-- an operand before the token that begins a part
pub data BaseHeld : Base → List Token → Want → Type 0 where
  base : {c : Ctx} {n k : ℕ} {r : First} {e : t.Expr} {ts : List Token} → IsPrimary c.header ts e → Starts ts (place_of_expr e) → AllowsFirst r ts → BaseHeld (record { ctx = c; count = n; expr = e }) ts (WUnary k c.header c.guard r)

pub record ElemsHeld (ts : List Token) (xs : Elems) : Type 0 where
  pub held : (us : List Token) (r : t.Elems) → AreElems us r → AreElems (ts ++ us) (joined xs r)

-- a literal's type, its `{` and elements
pub data LiteralHeld : Braces → Elems → List Token → Want → Type 0 where
  typed_literal : {c : Ctx} {n k : ℕ} {r : First} {e : t.Expr} {xs : Elems} {ss ts : List Token} {u : Token} → IsPrimary c.header ss e → Starts ss (place_of_expr e) → AllowsFirst r ss → takes_literal c.header e ≡ true → IsOp o.LeftBrace u → ElemsHeld ts xs → LiteralHeld (record { ctx = c; count = n; place = place_of_expr e; ty = Some e }) xs (ss ++ u ∷ ts) (WUnary k c.header c.guard r)
  bare_literal : {c : Ctx} {n : ℕ} {xs : Elems} {ts : List Token} {u : Token} → IsOp o.LeftBrace u → ElemsHeld ts xs → LiteralHeld (record { ctx = c; count = n; place = u.place; ty = None }) xs (u ∷ ts) WValue

pub data KeyHeld : List Token → Option t.Expr → Type 0 where
  no_key : KeyHeld [] None
  a_key : {ts : List Token} {e : t.Expr} {u : Token} → IsValue ts e → IsOp o.Colon u → KeyHeld (ts ++ u ∷ []) (Some e)

pub data HoldsPart : PartFrame → List Token → Want → Type 0 where
  dot : {x : Base} {w : Want} {ts : List Token} {u : Token} → BaseHeld x ts w → wants_dot x.expr ≡ false → IsOp o.Dot u → HoldsPart (f.Dot x) (ts ++ u ∷ []) w
  assert_open : {x : Base} {w : Want} {ts : List Token} {u v : Token} → BaseHeld x ts w → wants_dot x.expr ≡ false → IsOp o.Dot u → IsOp o.LeftParen v → HoldsPart (f.AssertOpen x) (ts ++ u ∷ v ∷ []) w
  asserted : {x : Base} {w : Want} {ts : List Token} {u v : Token} → BaseHeld x ts w → wants_dot x.expr ≡ false → IsOp o.Dot u → IsOp o.LeftParen v → HoldsPart (f.Asserted x) (ts ++ u ∷ v ∷ []) w
  bracket : {x : Base} {w : Want} {ts : List Token} {u : Token} → BaseHeld x ts w → MayFollow x.expr u → IsOp o.LeftBracket u → HoldsPart (f.Bracket x) (ts ++ u ∷ []) w
  index : {x : Base} {w : Want} {ts : List Token} {u : Token} → BaseHeld x ts w → MayFollow x.expr u → IsOp o.LeftBracket u → HoldsPart (f.Index x) (ts ++ u ∷ []) w
  high : {x : Base} {w : Want} {ts us : List Token} {i : Option t.Expr} {u v : Token} → BaseHeld x ts w → MayFollow x.expr u → IsOp o.LeftBracket u → PerhapsExpr us (maybe i) → IsOp o.Colon v → HoldsPart (f.High x i) (ts ++ u ∷ us ++ v ∷ []) w
  high_expr : {x : Base} {w : Want} {ts us : List Token} {i : Option t.Expr} {u v : Token} → BaseHeld x ts w → MayFollow x.expr u → IsOp o.LeftBracket u → PerhapsExpr us (maybe i) → IsOp o.Colon v → HoldsPart (f.HighExpr x i) (ts ++ u ∷ us ++ v ∷ []) w
  most : {x : Base} {w : Want} {ts us vs : List Token} {i : Option t.Expr} {j : t.Expr} {u v y : Token} → BaseHeld x ts w → MayFollow x.expr u → IsOp o.LeftBracket u → PerhapsExpr us (maybe i) → IsOp o.Colon v → IsExpr 1 false vs j → IsOp o.Colon y → HoldsPart (f.Most x i j) (ts ++ u ∷ us ++ v ∷ vs ++ y ∷ []) w
  args : {x : Base} {w : Want} {ts us : List Token} {es : List t.Expr} {u : Token} → BaseHeld x ts w → MayFollow x.expr u → IsOp o.LeftParen u → ArgsHeld us es → HoldsPart (f.Args x es) (ts ++ u ∷ us) w
  arg : {x : Base} {w : Want} {ts us : List Token} {es : List t.Expr} {u : Token} → BaseHeld x ts w → MayFollow x.expr u → IsOp o.LeftParen u → ExprsHeld false us es → HoldsPart (f.Arg x es) (ts ++ u ∷ us) w
  spread : {x : Base} {w : Want} {ts us ss : List Token} {es : List t.Expr} {comma : Bool} {u : Token} → BaseHeld x ts w → MayFollow x.expr u → IsOp o.LeftParen u → AreExprs false us (exprs_of es) → SpreadHeld ss comma → HoldsPart (f.Spread x es comma) (ts ++ u ∷ us ++ ss) w
  in_braces : {x : Braces} {xs : Elems} {w : Want} {ts : List Token} → LiteralHeld x xs ts w → HoldsPart (f.InBraces x xs) ts w
  element : {x : Braces} {xs : Elems} {w : Want} {ts us : List Token} {key : Option t.Expr} → LiteralHeld x xs ts w → KeyHeld us key → HoldsPart (f.Element x xs key) (ts ++ us) w
  keyed : {x : Braces} {xs : Elems} {w : Want} {ts us : List Token} {key : t.Expr} → LiteralHeld x xs ts w → KeyHeld us (Some key) → HoldsPart (f.Keyed x xs key) (ts ++ us) w

abbrev pub waits_part : PartFrame → Want
waits_part (f.Asserted x) = WType AnyFirst
waits_part (f.Index x) = WExpr false false AnyFirst
waits_part (f.HighExpr x i) = WExpr false false AnyFirst
waits_part (f.Most x i j) = WExpr false false AnyFirst
waits_part (f.Arg x es) = WExpr false false AnyFirst
waits_part (f.Element x xs key) = WValue
waits_part _ = WNone

pub data HoldsType : TypeFrame → List Token → Want → Type 0 where
  a_type : {c : Ctx} → HoldsType (f.AType c) [] (WType AnyFirst)
  type_name : {r : First} {u : Token} → IsName u → Allows r u → HoldsType (f.TypeName (t.NameExpr u.place u.text)) (u ∷ []) (WType r)
  type_dot : {r : First} {u v : Token} → IsName u → Allows r u → IsOp o.Dot v → HoldsType (f.TypeDot (t.NameExpr u.place u.text)) (u ∷ v ∷ []) (WType r)
  type_parens : {r : First} {u : Token} → IsOp o.LeftParen u → Allows r u → HoldsType (f.TypeParens u.place) (u ∷ []) (WType r)
  star : {r : First} {u : Token} → IsOp o.Mul u → Allows r u → HoldsType (f.Star u.place) (u ∷ []) (WType r)
  type_bracket : {c : Ctx} {w : Want} {u : Token} → IsOp o.LeftBracket u → TakesBegun w u → HoldsType (f.TypeBracket c u.place) (u ∷ []) w
  dots : {c : Ctx} {w : Want} {u v : Token} → IsOp o.LeftBracket u → IsOp o.Ellipsis v → TakesBegun w u → HoldsType (f.Dots c u.place) (u ∷ v ∷ []) w
  len : {c : Ctx} {w : Want} {u : Token} → IsOp o.LeftBracket u → TakesBegun w u → HoldsType (f.Len c u.place) (u ∷ []) w
  slice_of : {w : Want} {u v : Token} → IsOp o.LeftBracket u → IsOp o.RightBracket v → TakesBegun w u → HoldsType (f.SliceOf u.place) (u ∷ v ∷ []) w
  array_of : {w : Want} {ts : List Token} {n : t.Expr} {u v : Token} → IsOp o.LeftBracket u → IsExpr 1 false ts n → IsOp o.RightBracket v → TakesBegun w u → HoldsType (f.ArrayOf u.place (Some n)) (u ∷ ts ++ v ∷ []) w
  counted_array_of : {w : Want} {u v x : Token} → IsOp o.LeftBracket u → IsOp o.Ellipsis v → IsOp o.RightBracket x → TakesBegun w u → HoldsType (f.ArrayOf u.place None) (u ∷ v ∷ x ∷ []) w
  map_open : {c : Ctx} {w : Want} {u : Token} → IsWord word.Map u → TakesBegun w u → HoldsType (f.MapOpen c u.place) (u ∷ []) w
  key : {c : Ctx} {w : Want} {u v : Token} → IsWord word.Map u → IsOp o.LeftBracket v → TakesBegun w u → HoldsType (f.Key c u.place) (u ∷ v ∷ []) w
  map_of : {w : Want} {ts : List Token} {k : t.Expr} {u v x : Token} → IsWord word.Map u → IsOp o.LeftBracket v → IsType ts k → IsOp o.RightBracket x → TakesBegun w u → HoldsType (f.MapOf u.place k) (u ∷ v ∷ ts ++ x ∷ []) w
  chan_open : {c : Ctx} {w : Want} {u : Token} → IsWord word.Chan u → TakesBegun w u → HoldsType (f.ChanOpen c u.place) (u ∷ []) w
  both_of : {w : Want} {u : Token} → IsWord word.Chan u → TakesBegun w u → HoldsType (f.BothOf u.place) (u ∷ []) w
  send_of : {w : Want} {u v : Token} → IsWord word.Chan u → IsOp o.Arrow v → TakesBegun w u → HoldsType (f.SendOf u.place) (u ∷ v ∷ []) w
  arrow : {c : Ctx} {r : First} {u : Token} → IsOp o.Arrow u → Allows r u → HoldsType (f.Arrow c u.place) (u ∷ []) (WType r)
  receive_of : {r : First} {u v : Token} → IsOp o.Arrow u → IsWord word.Chan v → Allows r u → HoldsType (f.ReceiveOf u.place) (u ∷ v ∷ []) (WType r)
  func_of : {r : First} {u : Token} → IsWord word.Func u → Allows r u → HoldsType (f.FuncOf u.place) (u ∷ []) (WType r)
  struct_open : {c : Ctx} {w : Want} {u : Token} → IsWord word.Struct u → TakesBegun w u → HoldsType (f.StructOpen c u.place) (u ∷ []) w
  interface_open : {c : Ctx} {w : Want} {u : Token} → IsWord word.Interface u → TakesBegun w u → HoldsType (f.InterfaceOpen c u.place) (u ∷ []) w

abbrev pub waits_type : TypeFrame → Want
waits_type (f.TypeParens at) = WType AnyFirst
waits_type (f.Star at) = WType AnyFirst
waits_type (f.Len c at) = WExpr false false AnyFirst
waits_type (f.SliceOf at) = WType AnyFirst
waits_type (f.ArrayOf at n) = WType AnyFirst
waits_type (f.Key c at) = WType AnyFirst
waits_type (f.MapOf at k) = WType AnyFirst
waits_type (f.BothOf at) = WType NoArrow
waits_type (f.SendOf at) = WType AnyFirst
waits_type (f.ReceiveOf at) = WType AnyFirst
waits_type (f.FuncOf at) = WSig
waits_type _ = WNone

pub record FieldsHeld (ts : List Token) (xs : List (t.Fields → t.Fields)) : Type 0 where
  pub held : (us : List Token) (r : t.Fields) → AreFields us r → AreFields (ts ++ us) (joined xs r)

-- `struct {` and fields, each with its `;`
pub data StructHeld : StructPart → List Token → Want → Type 0 where
  struct_held : {c : Ctx} {w : Want} {xs : List (t.Fields → t.Fields)} {ts : List Token} {u v : Token} → IsWord word.Struct u → IsOp o.LeftBrace v → TakesBegun w u → FieldsHeld ts xs → StructHeld (record { ctx = c; place = u.place; fields = xs }) (u ∷ v ∷ ts) w

-- the same, but for the `;` of the last field
pub data StructEnded : StructPart → List Token → Want → Type 0 where
  struct_ended : {c : Ctx} {w : Want} {xs : List (t.Fields → t.Fields)} {ts : List Token} {u v : Token} → IsWord word.Struct u → IsOp o.LeftBrace v → TakesBegun w u → AreFields ts (joined xs t.NoFields) → ((x : Token) → IsSemicolon x → FieldsHeld (ts ++ x ∷ []) xs) → StructEnded (record { ctx = c; place = u.place; fields = xs }) (u ∷ v ∷ ts) w

pub record MembersHeld (ts : List Token) (xs : List (t.Members → t.Members)) : Type 0 where
  pub held : (us : List Token) (r : t.Members) → AreMembers us r → AreMembers (ts ++ us) (joined xs r)

pub data InterfaceHeld : InterfacePart → List Token → Want → Type 0 where
  interface_held : {c : Ctx} {w : Want} {xs : List (t.Members → t.Members)} {ts : List Token} {u v : Token} → IsWord word.Interface u → IsOp o.LeftBrace v → TakesBegun w u → MembersHeld ts xs → InterfaceHeld (record { ctx = c; place = u.place; members = xs }) (u ∷ v ∷ ts) w

pub data InterfaceEnded : InterfacePart → List Token → Want → Type 0 where
  interface_ended : {c : Ctx} {w : Want} {xs : List (t.Members → t.Members)} {ts : List Token} {u v : Token} → IsWord word.Interface u → IsOp o.LeftBrace v → TakesBegun w u → AreMembers ts (joined xs t.NoMembers) → ((x : Token) → IsSemicolon x → MembersHeld (ts ++ x ∷ []) xs) → InterfaceEnded (record { ctx = c; place = u.place; members = xs }) (u ∷ v ∷ ts) w

pub data EmbeddedHeld : Embedded → List Token → Type 0 where
  embedded_held : {star : Bool} {ss ts : List Token} {e : t.Expr} → PerhapsOp o.Mul ss star → IsTypeName ts e → EmbeddedHeld (record { place = place_of (ss ++ ts); star = star; ty = e }) (ss ++ ts)

-- an embedded field with one name so far
pub data EmbeddedOpen : Embedded → List Token → Type 0 where
  embedded_open : {star : Bool} {ss : List Token} {u : Token} → PerhapsOp o.Mul ss star → IsName u → EmbeddedOpen (record { place = place_of (ss ++ u ∷ []); star = star; ty = t.NameExpr u.place u.text }) (ss ++ u ∷ [])

pub data HoldsField : FieldFrame → List Token → Want → Type 0 where
  in_struct : {x : StructPart} {w : Want} {ts : List Token} → StructHeld x ts w → HoldsField (f.InStruct x) ts w
  field_name : {x : StructPart} {w : Want} {ts : List Token} {u : Token} → StructHeld x ts w → IsName u → HoldsField (f.FieldName x (name_of u)) (ts ++ u ∷ []) w
  next_field : {x : StructPart} {w : Want} {ts us : List Token} {ys : List Name} {u : Token} → StructHeld x ts w → AreNames us ys → IsOp o.Comma u → HoldsField (f.NextField x ys) (ts ++ us ++ u ∷ []) w
  field_names : {x : StructPart} {w : Want} {ts us : List Token} {ys : List Name} → StructHeld x ts w → AreNames us ys → HoldsField (f.FieldNames x ys) (ts ++ us) w
  named : {x : StructPart} {w : Want} {ts us : List Token} {ys : List Name} → StructHeld x ts w → AreNames us ys → HoldsField (f.Named x ys) (ts ++ us) w
  field_star : {x : StructPart} {w : Want} {ts : List Token} {u : Token} → StructHeld x ts w → IsOp o.Mul u → HoldsField (f.FieldStar x u.place) (ts ++ u ∷ []) w
  embedded_name : {x : StructPart} {y : Embedded} {w : Want} {ts us : List Token} → StructHeld x ts w → EmbeddedOpen y us → HoldsField (f.EmbeddedName x y) (ts ++ us) w
  field_dot : {x : StructPart} {y : Embedded} {w : Want} {ts us : List Token} {u : Token} → StructHeld x ts w → EmbeddedOpen y us → IsOp o.Dot u → HoldsField (f.FieldDot x y) (ts ++ us ++ u ∷ []) w
  embedded_end : {x : StructPart} {y : Embedded} {w : Want} {ts us : List Token} → StructHeld x ts w → EmbeddedHeld y us → HoldsField (f.EmbeddedEnd x y) (ts ++ us) w
  field_end : {x : StructPart} {w : Want} {ts : List Token} → StructEnded x ts w → HoldsField (f.FieldEnd x) ts w
  in_interface : {x : InterfacePart} {w : Want} {ts : List Token} → InterfaceHeld x ts w → HoldsField (f.InInterface x) ts w
  member_name : {x : InterfacePart} {w : Want} {ts : List Token} {u : Token} → InterfaceHeld x ts w → IsName u → HoldsField (f.MemberName x (name_of u)) (ts ++ u ∷ []) w
  member_dot : {x : InterfacePart} {w : Want} {ts : List Token} {u v : Token} → InterfaceHeld x ts w → IsName u → IsOp o.Dot v → HoldsField (f.MemberDot x (t.NameExpr u.place u.text)) (ts ++ u ∷ v ∷ []) w
  member_end : {x : InterfacePart} {w : Want} {ts : List Token} → InterfaceEnded x ts w → HoldsField (f.MemberEnd x) ts w
  method : {x : InterfacePart} {w : Want} {ts : List Token} {u : Token} → InterfaceHeld x ts w → IsName u → HoldsField (f.Method x (name_of u)) (ts ++ u ∷ []) w

abbrev pub waits_field : FieldFrame → Want
waits_field (f.Named x ys) = WType AnyFirst
waits_field (f.Method x y) = WSig
waits_field _ = WNone

pub record ParamsHeld (ts : List Token) (xs : Params) : Type 0 where
  pub held : (us : List Token) (r : t.Params) → AreParamsInside us r → AreParamsInside (ts ++ us) (joined xs r)

-- what is before a parameter list
pub data RoleHeld : Role → List Token → Want → Type 0 where
  params_role : RoleHeld f.OfParams [] WSig
  results_role : {at : Place} {xs : Params} {ts : List Token} → AreParams ts at (joined xs t.NoParams) → RoleHeld (f.OfResults at xs) ts WSig
  receiver_role : {u : Token} → IsWord word.Func u → RoleHeld (f.OfReceiver u.place) (u ∷ []) WTop

-- `(` and parameters, each with its comma
pub data ParamsOpen : ParamsPart → List Token → Want → Type 0 where
  params_open : {c : Ctx} {x : Role} {xs : Params} {w : Want} {ss ts : List Token} {u : Token} → RoleHeld x ss w → IsOp o.LeftParen u → ParamsHeld ts xs → ParamsOpen (record { ctx = c; place = u.place; items = xs; role = x }) (ss ++ u ∷ ts) w

pub data HoldsSig : SigFrame → List Token → Want → Type 0 where
  sig_open : {c : Ctx} → HoldsSig (f.SigOpen c) [] WSig
  in_params : {x : ParamsPart} {w : Want} {ts : List Token} → ParamsOpen x ts w → HoldsSig (f.InParams x) ts w
  param_name : {x : ParamsPart} {w : Want} {ts : List Token} {u : Token} → ParamsOpen x ts w → IsName u → HoldsSig (f.ParamName x (name_of u)) (ts ++ u ∷ []) w
  plain_param : {x : ParamsPart} {at : Place} {w : Want} {ts : List Token} → ParamsOpen x ts w → HoldsSig (f.Param x at None false) ts w
  variadic_param : {x : ParamsPart} {w : Want} {ts : List Token} {u : Token} → ParamsOpen x ts w → IsOp o.Ellipsis u → HoldsSig (f.Param x u.place None true) (ts ++ u ∷ []) w
  named_param : {x : ParamsPart} {w : Want} {ts : List Token} {u : Token} → ParamsOpen x ts w → IsName u → HoldsSig (f.Param x u.place (Some (name_of u)) false) (ts ++ u ∷ []) w
  named_variadic_param : {x : ParamsPart} {w : Want} {ts : List Token} {u v : Token} → ParamsOpen x ts w → IsName u → IsOp o.Ellipsis v → HoldsSig (f.Param x u.place (Some (name_of u)) true) (ts ++ u ∷ v ∷ []) w
  after_params : {c : Ctx} {at : Place} {xs : Params} {ts : List Token} → AreParams ts at (joined xs t.NoParams) → HoldsSig (f.AfterParams c at xs) ts WSig
  result : {at : Place} {xs : Params} {ts : List Token} → AreParams ts at (joined xs t.NoParams) → HoldsSig (f.Result at xs) ts WSig

abbrev pub waits_sig : SigFrame → Want
waits_sig (f.Param x at None false) = WType (FirstAt at)
waits_sig (f.Param x at y variadic) = WType AnyFirst
waits_sig (f.Result at xs) = WType NoParen
waits_sig _ = WNone

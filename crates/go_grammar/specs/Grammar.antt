-- The grammar as derivations: which tokens are which tree. One rule a production.
--
-- `IsExpr k h ts e`: the tokens ts are the expression e, whose operators bind at least as tightly as
-- level k; h says whether they stand in the header of an `if`, a `for` or a `switch`, outside all
-- brackets. The place of a node is that of its first token.
use Rattle.std.specs.Prelude.{◌≡◌, ◌<◌, ◌+◌, ◌&&◌, ℕ, Bool, true, false, List, [], ◌∷◌, ◌++◌, Option, Some, None}
use Rattle.gj_base.specs.declared.place.Place.{Place}
use Rattle.gj_base.specs.declared.kind.Op.{Op}
use Rattle.go_syntax.specs.Tree as t
use Rattle.go_syntax.specs.Token.{Token}
use Rattle.go_syntax.specs.declared.kind.TokenKind.TheVariants as kind
use Rattle.go_syntax.specs.declared.keyword.Keyword.TheVariants as word
use Rattle.go_syntax.specs.declared.operator.Operator.{Operator}
use Rattle.go_syntax.specs.declared.operator.Operator.TheVariants as o
use Rattle.go_syntax.specs.declared.tree.Name.{Name}
use Rattle.go_syntax.specs.declared.tree.Prefix.{Prefix}
use Rattle.go_syntax.specs.declared.tree.Prefix.TheVariants as «prefix»
use Rattle.go_syntax.specs.declared.tree.ChanDir.TheVariants as dir
use Rattle.go_grammar.specs.Classes.{IsOp, IsWord, IsName, IsString, IsSemicolon, name_of, place_of, place_before, IsBinary, IsAssign, prefix_op, level}
use Rattle.go_grammar.specs.Context.{takes_literal, is_channel, is_receive, wants_brace, stmt_wants_brace, wants_dot, MayFollow, MayFollowLast, NotArrow}

-- ["x"], an operator that may be missing
pub data PerhapsOp : Operator → List Token → Bool → Type 0 where
  without_op : {x : Operator} → PerhapsOp x [] false
  with_op : {x : Operator} {u : Token} → IsOp x u → PerhapsOp x (u ∷ []) true

-- [";"]
pub data PerhapsSemicolon : List Token → Type 0 where
  without_semicolon : PerhapsSemicolon []
  with_semicolon : {u : Token} → IsSemicolon u → PerhapsSemicolon (u ∷ [])

-- [string], a tag
pub data PerhapsTag : List Token → Option (List ℕ) → Type 0 where
  without_tag : PerhapsTag [] None
  with_tag : {u : Token} → IsString u → PerhapsTag (u ∷ []) (Some u.text)

-- [name], a label
pub data PerhapsName : List Token → Option Name → Type 0 where
  without_name : PerhapsName [] None
  with_name : {u : Token} → IsName u → PerhapsName (u ∷ []) (Some (name_of u))

-- Names = name {"," name}
pub data AreNames : List Token → List Name → Type 0 where
  one_name : {u : Token} → IsName u → AreNames (u ∷ []) (name_of u ∷ [])
  more_names : {u v : Token} {ts : List Token} {xs : List Name} → IsName u → IsOp o.Comma v → AreNames ts xs → AreNames (u ∷ v ∷ ts) (name_of u ∷ xs)

-- name ["." name]
pub data IsTypeName : List Token → t.Expr → Type 0 where
  plain_name : {u : Token} → IsName u → IsTypeName (u ∷ []) (t.NameExpr u.place u.text)
  package_name : {u v w : Token} → IsName u → IsOp o.Dot v → IsName w → IsTypeName (u ∷ v ∷ w ∷ []) (t.SelectExpr u.place (t.NameExpr u.place u.text) (name_of w))

-- A "(" after the parameters of a signature begins Params.
pub data StartsNoList : List Token → Type 0 where
  starts_no_list : {u : Token} {us : List Token} → (IsOp o.LeftParen u → ⊥) → StartsNoList (u ∷ us)

mutual
  -- Expr = Unary {binop Unary}, five precedences, all to the left; at level 6 there is no operator
  pub data IsExpr : ℕ → Bool → List Token → t.Expr → Type 0 where
    binary : {h : Bool} {ts us : List Token} {a b : t.Expr} {u : Token} (op : Op) → IsBinary op u → MayFollow a u → IsExpr (level op) h ts a → IsExpr (level op + 1) h us b → IsExpr (level op) h (ts ++ u ∷ us) (t.BinaryExpr (place_of ts) a op b)
    tighter : {k : ℕ} {h : Bool} {ts : List Token} {e : t.Expr} → k < 6 → IsExpr (k + 1) h ts e → IsExpr k h ts e
    unary : {h : Bool} {ts : List Token} {e : t.Expr} → IsUnary h ts e → IsExpr 6 h ts e

  -- Unary = {"+" | "-" | "!" | "^" | "*" | "&" | "<-"} Primary
  pub data IsUnary : Bool → List Token → t.Expr → Type 0 where
    operator_before : {h : Bool} {u : Token} {ts : List Token} {e : t.Expr} (p : Prefix) → prefix_op u.kind ≡ Some p → (is_receive p && is_channel e) ≡ false → IsUnary h ts e → IsUnary h (u ∷ ts) (t.UnaryExpr u.place p e)
    receive_channel : {h : Bool} {u : Token} {ts : List Token} {at : Place} {e : t.Expr} → IsOp o.Arrow u → IsUnary h ts (t.ChanType at dir.Both e) → IsUnary h (u ∷ ts) (t.ChanType u.place dir.Receive e)
    primary : {h : Bool} {ts : List Token} {e : t.Expr} → IsPrimary h ts e → IsUnary h ts e

  -- Primary = Operand {part}
  pub data IsPrimary : Bool → List Token → t.Expr → Type 0 where
    operand : {h : Bool} {ts : List Token} {e : t.Expr} → IsOperand ts e → IsPrimary h ts e
    -- "." name
    select : {h : Bool} {ts : List Token} {e : t.Expr} {u v : Token} → IsPrimary h ts e → wants_dot e ≡ false → IsOp o.Dot u → IsName v → IsPrimary h (ts ++ u ∷ v ∷ []) (t.SelectExpr (place_of ts) e (name_of v))
    -- "." "(" Type ")"
    assert : {h : Bool} {ts us : List Token} {e ty : t.Expr} {u v w : Token} → IsPrimary h ts e → wants_dot e ≡ false → IsOp o.Dot u → IsOp o.LeftParen v → IsType us ty → IsOp o.RightParen w → IsPrimary h (ts ++ u ∷ v ∷ us ++ w ∷ []) (t.AssertExpr (place_of ts) e ty)
    -- "[" Expr "]"
    index : {h : Bool} {ts us : List Token} {e i : t.Expr} {u v : Token} → IsPrimary h ts e → MayFollow e u → IsOp o.LeftBracket u → IsExpr 1 false us i → IsOp o.RightBracket v → IsPrimary h (ts ++ u ∷ us ++ v ∷ []) (t.IndexExpr (place_of ts) e i)
    -- "[" [Expr] ":" [Expr] "]"
    slice : {h : Bool} {ts low high : List Token} {e : t.Expr} {i j : t.MaybeExpr} {u v w : Token} → IsPrimary h ts e → MayFollow e u → IsOp o.LeftBracket u → PerhapsExpr low i → IsOp o.Colon v → PerhapsExpr high j → IsOp o.RightBracket w → IsPrimary h (ts ++ u ∷ low ++ v ∷ high ++ w ∷ []) (t.SliceExpr (place_of ts) e i j t.NoExpr)
    -- "[" [Expr] ":" Expr ":" Expr "]"
    full_slice : {h : Bool} {ts low high most : List Token} {e j k : t.Expr} {i : t.MaybeExpr} {u v w x : Token} → IsPrimary h ts e → MayFollow e u → IsOp o.LeftBracket u → PerhapsExpr low i → IsOp o.Colon v → IsExpr 1 false high j → IsOp o.Colon w → IsExpr 1 false most k → IsOp o.RightBracket x → IsPrimary h (ts ++ u ∷ low ++ v ∷ high ++ w ∷ most ++ x ∷ []) (t.SliceExpr (place_of ts) e i (t.AnExpr j) (t.AnExpr k))
    -- "(" ")"
    call_of_none : {h : Bool} {ts : List Token} {e : t.Expr} {u v : Token} → IsPrimary h ts e → MayFollow e u → IsOp o.LeftParen u → IsOp o.RightParen v → IsPrimary h (ts ++ u ∷ v ∷ []) (t.CallExpr (place_of ts) e t.NoExprs false)
    -- "(" Exprs ["..."] [","] ")"
    call : {h spread comma : Bool} {ts args ss cs : List Token} {e : t.Expr} {es : t.Exprs} {u v : Token} → IsPrimary h ts e → MayFollow e u → IsOp o.LeftParen u → AreExprs false args es → PerhapsOp o.Ellipsis ss spread → PerhapsOp o.Comma cs comma → IsOp o.RightParen v → IsPrimary h (ts ++ u ∷ args ++ ss ++ cs ++ v ∷ []) (t.CallExpr (place_of ts) e es spread)
    -- Literal
    literal : {h : Bool} {ts us : List Token} {e : t.Expr} {xs : t.Elems} → IsPrimary h ts e → takes_literal h e ≡ true → IsLiteral us xs → IsPrimary h (ts ++ us) (t.LiteralExpr (place_of ts) (t.AnExpr e) xs)

  -- Operand = int | rune | string | name | "(" Expr ")" | "func" Sig [Block] | Type
  pub data IsOperand : List Token → t.Expr → Type 0 where
    int : {u : Token} → u.kind ≡ kind.Int → IsOperand (u ∷ []) (t.IntExpr u.place u.text)
    rune : {u : Token} → u.kind ≡ kind.Rune → IsOperand (u ∷ []) (t.RuneExpr u.place u.text)
    string : {u : Token} → IsString u → IsOperand (u ∷ []) (t.StrExpr u.place u.text)
    name : {u : Token} → IsName u → IsOperand (u ∷ []) (t.NameExpr u.place u.text)
    parens : {ts : List Token} {e : t.Expr} {u v : Token} → IsOp o.LeftParen u → IsExpr 1 false ts e → IsOp o.RightParen v → IsOperand (u ∷ ts ++ v ∷ []) (t.ParenExpr u.place e)
    function : {ts us : List Token} {sig : t.Sig} {b : t.Block} {u : Token} → IsWord word.Func u → IsSig ts sig → IsBlock us b → IsOperand (u ∷ ts ++ us) (t.FuncExpr u.place sig b)
    function_type_operand : {ts : List Token} {sig : t.Sig} {u : Token} → IsWord word.Func u → IsSig ts sig → IsOperand (u ∷ ts) (t.FuncType u.place sig)
    type_operand : {ts : List Token} {e : t.Expr} → IsBegunType ts e → IsOperand ts e

  -- [Expr], in brackets
  pub data PerhapsExpr : List Token → t.MaybeExpr → Type 0 where
    without_expr : PerhapsExpr [] t.NoExpr
    with_expr : {ts : List Token} {e : t.Expr} → IsExpr 1 false ts e → PerhapsExpr ts (t.AnExpr e)

  -- Exprs = Expr {"," Expr}
  pub data AreExprs : Bool → List Token → t.Exprs → Type 0 where
    one_expr : {h : Bool} {ts : List Token} {e : t.Expr} → IsExpr 1 h ts e → AreExprs h ts (t.MoreExprs e t.NoExprs)
    more_exprs : {h : Bool} {ts us : List Token} {e : t.Expr} {es : t.Exprs} {u : Token} → IsExpr 1 h ts e → IsOp o.Comma u → AreExprs h us es → AreExprs h (ts ++ u ∷ us) (t.MoreExprs e es)

  -- Literal = "{" [Elem {"," Elem} [","]] "}"
  pub data IsLiteral : List Token → t.Elems → Type 0 where
    literal_braces : {ts : List Token} {xs : t.Elems} {u v : Token} → IsOp o.LeftBrace u → AreElems ts xs → IsOp o.RightBrace v → IsLiteral (u ∷ ts ++ v ∷ []) xs

  -- [Elem {"," Elem} [","]], where Elem = [Value ":"] Value
  pub data AreElems : List Token → t.Elems → Type 0 where
    no_elems : AreElems [] t.NoElems
    last_elem : {ts : List Token} {key : t.MaybeExpr} {e : t.Expr} → IsElem ts key e → AreElems ts (t.MoreElems key e t.NoElems)
    more_elems : {ts us : List Token} {key : t.MaybeExpr} {e : t.Expr} {xs : t.Elems} {u : Token} → IsElem ts key e → IsOp o.Comma u → AreElems us xs → AreElems (ts ++ u ∷ us) (t.MoreElems key e xs)

  pub data IsElem : List Token → t.MaybeExpr → t.Expr → Type 0 where
    plain_elem : {ts : List Token} {e : t.Expr} → IsValue ts e → IsElem ts t.NoExpr e
    keyed_elem : {ts us : List Token} {key e : t.Expr} {u : Token} → IsValue ts key → IsOp o.Colon u → IsValue us e → IsElem (ts ++ u ∷ us) (t.AnExpr key) e

  -- Value = Expr | Literal
  pub data IsValue : List Token → t.Expr → Type 0 where
    expr_value : {ts : List Token} {e : t.Expr} → IsExpr 1 false ts e → IsValue ts e
    literal_value : {ts : List Token} {xs : t.Elems} → IsLiteral ts xs → IsValue ts (t.LiteralExpr (place_of ts) t.NoExpr xs)

  -- Type
  pub data IsType : List Token → t.Expr → Type 0 where
    type_name : {ts : List Token} {e : t.Expr} → IsTypeName ts e → IsType ts e
    type_parens : {ts : List Token} {e : t.Expr} {u v : Token} → IsOp o.LeftParen u → IsType ts e → IsOp o.RightParen v → IsType (u ∷ ts ++ v ∷ []) (t.ParenExpr u.place e)
    pointer_type : {ts : List Token} {e : t.Expr} {u : Token} → IsOp o.Mul u → IsType ts e → IsType (u ∷ ts) (t.UnaryExpr u.place «prefix».Star e)
    receive_type : {ts : List Token} {e : t.Expr} {u v : Token} → IsOp o.Arrow u → IsWord word.Chan v → IsType ts e → IsType (u ∷ v ∷ ts) (t.ChanType u.place dir.Receive e)
    function_type : {ts : List Token} {sig : t.Sig} {u : Token} → IsWord word.Func u → IsSig ts sig → IsType (u ∷ ts) (t.FuncType u.place sig)
    begun_type : {ts : List Token} {e : t.Expr} → IsBegunType ts e → IsType ts e

  -- a Type that begins with "[", "map", "chan", "struct" or "interface"
  pub data IsBegunType : List Token → t.Expr → Type 0 where
    slice_type : {ts : List Token} {e : t.Expr} {u v : Token} → IsOp o.LeftBracket u → IsOp o.RightBracket v → IsType ts e → IsBegunType (u ∷ v ∷ ts) (t.SliceType u.place e)
    array_type : {ts us : List Token} {n e : t.Expr} {u v : Token} → IsOp o.LeftBracket u → IsExpr 1 false ts n → IsOp o.RightBracket v → IsType us e → IsBegunType (u ∷ ts ++ v ∷ us) (t.ArrayType u.place (t.AnExpr n) e)
    counted_array_type : {ts : List Token} {e : t.Expr} {u v w : Token} → IsOp o.LeftBracket u → IsOp o.Ellipsis v → IsOp o.RightBracket w → IsType ts e → IsBegunType (u ∷ v ∷ w ∷ ts) (t.ArrayType u.place t.NoExpr e)
    map_type : {ts us : List Token} {k e : t.Expr} {u v w : Token} → IsWord word.Map u → IsOp o.LeftBracket v → IsType ts k → IsOp o.RightBracket w → IsType us e → IsBegunType (u ∷ v ∷ ts ++ w ∷ us) (t.MapType u.place k e)
    chan_type : {ts : List Token} {e : t.Expr} {u : Token} → IsWord word.Chan u → NotArrow ts → IsType ts e → IsBegunType (u ∷ ts) (t.ChanType u.place dir.Both e)
    send_type : {ts : List Token} {e : t.Expr} {u v : Token} → IsWord word.Chan u → IsOp o.Arrow v → IsType ts e → IsBegunType (u ∷ v ∷ ts) (t.ChanType u.place dir.Send e)
    struct_type : {ts : List Token} {fields : t.Fields} {u v w : Token} → IsWord word.Struct u → IsOp o.LeftBrace v → AreFields ts fields → IsOp o.RightBrace w → IsBegunType (u ∷ v ∷ ts ++ w ∷ []) (t.StructType u.place fields)
    interface_type : {ts : List Token} {members : t.Members} {u v w : Token} → IsWord word.Interface u → IsOp o.LeftBrace v → AreMembers ts members → IsOp o.RightBrace w → IsBegunType (u ∷ v ∷ ts ++ w ∷ []) (t.InterfaceType u.place members)

  -- {Field ";"}, the last ";" at will, where Field = (Names Type | ["*"] name ["." name]) [string]
  pub data AreFields : List Token → t.Fields → Type 0 where
    no_fields : AreFields [] t.NoFields
    last_named : {ts us vs : List Token} {names : List Name} {e : t.Expr} {tag : Option (List ℕ)} → AreNames ts names → IsType us e → PerhapsTag vs tag → AreFields (ts ++ us ++ vs) (t.NamedFields names e tag t.NoFields)
    more_named : {ts us vs ws : List Token} {names : List Name} {e : t.Expr} {tag : Option (List ℕ)} {u : Token} {rest : t.Fields} → AreNames ts names → IsType us e → PerhapsTag vs tag → IsSemicolon u → AreFields ws rest → AreFields (ts ++ us ++ vs ++ u ∷ ws) (t.NamedFields names e tag rest)
    last_embedded : {ss ts vs : List Token} {star : Bool} {e : t.Expr} {tag : Option (List ℕ)} → PerhapsOp o.Mul ss star → IsTypeName ts e → PerhapsTag vs tag → AreFields (ss ++ ts ++ vs) (t.EmbeddedField (place_of (ss ++ ts)) star e tag t.NoFields)
    more_embedded : {ss ts vs ws : List Token} {star : Bool} {e : t.Expr} {tag : Option (List ℕ)} {u : Token} {rest : t.Fields} → PerhapsOp o.Mul ss star → IsTypeName ts e → PerhapsTag vs tag → IsSemicolon u → AreFields ws rest → AreFields (ss ++ ts ++ vs ++ u ∷ ws) (t.EmbeddedField (place_of (ss ++ ts)) star e tag rest)

  -- {(name Sig | name ["." name]) ";"}, the last ";" at will
  pub data AreMembers : List Token → t.Members → Type 0 where
    no_members : AreMembers [] t.NoMembers
    last_method : {ts : List Token} {sig : t.Sig} {u : Token} → IsName u → IsSig ts sig → AreMembers (u ∷ ts) (t.MethodMember (name_of u) sig t.NoMembers)
    more_methods : {ts us : List Token} {sig : t.Sig} {u v : Token} {rest : t.Members} → IsName u → IsSig ts sig → IsSemicolon v → AreMembers us rest → AreMembers (u ∷ ts ++ v ∷ us) (t.MethodMember (name_of u) sig rest)
    last_interface : {ts : List Token} {e : t.Expr} → IsTypeName ts e → AreMembers ts (t.EmbeddedMember e t.NoMembers)
    more_interfaces : {ts us : List Token} {e : t.Expr} {v : Token} {rest : t.Members} → IsTypeName ts e → IsSemicolon v → AreMembers us rest → AreMembers (ts ++ v ∷ us) (t.EmbeddedMember e rest)

  -- Sig = Params [Params | Type]
  pub data IsSig : List Token → t.Sig → Type 0 where
    without_results : {ts : List Token} {at : Place} {params : t.Params} → AreParams ts at params → IsSig ts (t.SigOf at params t.NoResults)
    with_result : {ts us : List Token} {at : Place} {params : t.Params} {e : t.Expr} → AreParams ts at params → StartsNoList us → IsType us e → IsSig (ts ++ us) (t.SigOf at params (t.OneResult e))
    with_results : {ts us : List Token} {at at' : Place} {params results : t.Params} → AreParams ts at params → AreParams us at' results → IsSig (ts ++ us) (t.SigOf at params (t.ManyResults at' results))

  -- Params = "(" [Param {"," Param} [","]] ")"
  pub data AreParams : List Token → Place → t.Params → Type 0 where
    params_in_parens : {ts : List Token} {params : t.Params} {u v : Token} → IsOp o.LeftParen u → AreParamsInside ts params → IsOp o.RightParen v → AreParams (u ∷ ts ++ v ∷ []) u.place params

  pub data AreParamsInside : List Token → t.Params → Type 0 where
    no_params : AreParamsInside [] t.NoParams
    last_param : {ts : List Token} {x : Option Name} {variadic : Bool} {e : t.Expr} → IsParam ts x variadic e → AreParamsInside ts (t.MoreParams (place_of ts) x variadic e t.NoParams)
    more_params : {ts us : List Token} {x : Option Name} {variadic : Bool} {e : t.Expr} {u : Token} {rest : t.Params} → IsParam ts x variadic e → IsOp o.Comma u → AreParamsInside us rest → AreParamsInside (ts ++ u ∷ us) (t.MoreParams (place_of ts) x variadic e rest)

  -- Param = ["..."] Type | name ["..."] Type
  pub data IsParam : List Token → Option Name → Bool → t.Expr → Type 0 where
    param_type : {ss ts : List Token} {variadic : Bool} {e : t.Expr} → PerhapsOp o.Ellipsis ss variadic → IsType ts e → IsParam (ss ++ ts) None variadic e
    named_param : {ss ts : List Token} {variadic : Bool} {e : t.Expr} {u : Token} → IsName u → PerhapsOp o.Ellipsis ss variadic → IsType ts e → IsParam (u ∷ ss ++ ts) (Some (name_of u)) variadic e

  -- Block = "{" List "}"
  pub data IsBlock : List Token → t.Block → Type 0 where
    block_braces : {ts : List Token} {ss : t.Stmts} {u v : Token} → IsOp o.LeftBrace u → AreStmts v.place ts ss → IsOp o.RightBrace v → IsBlock (u ∷ ts ++ v ∷ []) (t.BlockOf u.place ss v.place)

  -- List = [Stmt] {";" [Stmt]}; at is the place of the token after the list
  pub data AreStmts : Place → List Token → t.Stmts → Type 0 where
    no_stmts : {at : Place} → AreStmts at [] t.NoStmts
    last_stmt : {at : Place} {ts : List Token} {s : t.Stmt} → IsStmt at ts s → AreStmts at ts (t.MoreStmts s t.NoStmts)
    missing_stmt : {at : Place} {ts : List Token} {ss : t.Stmts} {u : Token} → IsSemicolon u → AreStmts at ts ss → AreStmts at (u ∷ ts) ss
    more_stmts : {at : Place} {ts us : List Token} {s : t.Stmt} {ss : t.Stmts} {u : Token} → IsStmt u.place ts s → IsSemicolon u → AreStmts at us ss → AreStmts at (ts ++ u ∷ us) (t.MoreStmts s ss)

  -- Stmt; at is the place of the token after the statement
  pub data IsStmt : Place → List Token → t.Stmt → Type 0 where
    declaration : {at : Place} {ts : List Token} {d : t.Decl} → IsDecl ts d → IsStmt at ts (t.DeclStmt (place_of ts) d)
    simple : {at : Place} {ts : List Token} {s : t.Stmt} → IsSimple false ts s → IsStmt at ts s
    -- name ":" [Stmt]
    label : {at : Place} {ts : List Token} {s : t.Stmt} {u v : Token} → IsName u → IsOp o.Colon v → IsStmt at ts s → IsStmt at (u ∷ v ∷ ts) (t.LabeledStmt u.place (name_of u) s)
    label_of_none : {at : Place} {u v : Token} → IsName u → IsOp o.Colon v → IsStmt at (u ∷ v ∷ []) (t.LabeledStmt u.place (name_of u) (t.EmptyStmt at))
    block : {at : Place} {ts : List Token} {b : t.Block} → IsBlock ts b → IsStmt at ts (t.BlockStmt (place_of ts) b)
    go_expr : {at : Place} {ts : List Token} {e : t.Expr} {u : Token} → IsWord word.Go u → IsExpr 1 false ts e → IsStmt at (u ∷ ts) (t.GoStmt u.place e)
    defer_expr : {at : Place} {ts : List Token} {e : t.Expr} {u : Token} → IsWord word.Defer u → IsExpr 1 false ts e → IsStmt at (u ∷ ts) (t.DeferStmt u.place e)
    return_none : {at : Place} {u : Token} → IsWord word.Return u → IsStmt at (u ∷ []) (t.ReturnStmt u.place t.NoExprs)
    return_exprs : {at : Place} {ts : List Token} {es : t.Exprs} {u : Token} → IsWord word.Return u → AreExprs false ts es → IsStmt at (u ∷ ts) (t.ReturnStmt u.place es)
    break_stmt : {at : Place} {ts : List Token} {x : Option Name} {u : Token} → IsWord word.Break u → PerhapsName ts x → IsStmt at (u ∷ ts) (t.BreakStmt u.place x)
    continue_stmt : {at : Place} {ts : List Token} {x : Option Name} {u : Token} → IsWord word.Continue u → PerhapsName ts x → IsStmt at (u ∷ ts) (t.ContinueStmt u.place x)
    fallthrough_stmt : {at : Place} {u : Token} → IsWord word.Fallthrough u → IsStmt at (u ∷ []) (t.FallthroughStmt u.place)
    if_stmt : {at : Place} {ts : List Token} {s : t.Stmt} → IsIf ts s → IsStmt at ts s
    for_stmt : {at : Place} {ts : List Token} {s : t.Stmt} → IsFor ts s → IsStmt at ts s
    switch_stmt : {at : Place} {ts : List Token} {s : t.Stmt} → IsSwitch ts s → IsStmt at ts s
    -- "select" "{" {("case" Simple | "default") ":" List} "}"
    select_stmt : {at : Place} {ts : List Token} {cs : t.Comms} {u v w : Token} → IsWord word.Select u → IsOp o.LeftBrace v → AreComms w.place ts cs → IsOp o.RightBrace w → IsStmt at (u ∷ v ∷ ts ++ w ∷ []) (t.SelectStmt u.place cs)

  -- Simple = Exprs [("=" | op "=") Exprs | ":=" Exprs | "<-" Expr | "++" | "--"]
  pub data IsSimple : Bool → List Token → t.Stmt → Type 0 where
    exprs_stmt : {h : Bool} {ts : List Token} {es : t.Exprs} → AreExprs h ts es → IsSimple h ts (t.ExprStmt (place_of ts) es)
    assign : {h : Bool} {ts us : List Token} {xs ys : t.Exprs} {u : Token} → AreExprs h ts xs → IsOp o.Assign u → AreExprs h us ys → IsSimple h (ts ++ u ∷ us) (t.AssignStmt (place_of ts) xs None ys)
    op_assign : {h : Bool} {ts us : List Token} {xs ys : t.Exprs} {u : Token} (op : Op) → AreExprs h ts xs → IsAssign op u → AreExprs h us ys → IsSimple h (ts ++ u ∷ us) (t.AssignStmt (place_of ts) xs (Some op) ys)
    define : {h : Bool} {ts us : List Token} {xs ys : t.Exprs} {u : Token} → AreExprs h ts xs → IsOp o.Define u → AreExprs h us ys → IsSimple h (ts ++ u ∷ us) (t.DefineStmt (place_of ts) xs ys)
    send : {h : Bool} {ts us : List Token} {cs : t.Exprs} {e : t.Expr} {u : Token} → AreExprs h ts cs → MayFollowLast cs u → IsOp o.Arrow u → IsExpr 1 h us e → IsSimple h (ts ++ u ∷ us) (t.SendStmt (place_of ts) cs e)
    increment : {h : Bool} {ts : List Token} {es : t.Exprs} {u : Token} → AreExprs h ts es → IsOp o.Increment u → IsSimple h (ts ++ u ∷ []) (t.IncDecStmt (place_of ts) es true)
    decrement : {h : Bool} {ts : List Token} {es : t.Exprs} {u : Token} → AreExprs h ts es → IsOp o.Decrement u → IsSimple h (ts ++ u ∷ []) (t.IncDecStmt (place_of ts) es false)

  -- [Simple], in a header
  pub data PerhapsSimple : List Token → t.MaybeStmt → Type 0 where
    without_simple : PerhapsSimple [] t.NoStmt
    with_simple : {ts : List Token} {s : t.Stmt} → IsSimple true ts s → PerhapsSimple ts (t.AStmt s)

  -- [[Simple] ";"]
  pub data IsBefore : List Token → t.MaybeStmt → Type 0 where
    nothing_before : IsBefore [] t.NoStmt
    before : {ts : List Token} {s : t.MaybeStmt} {u : Token} → PerhapsSimple ts s → IsSemicolon u → IsBefore (ts ++ u ∷ []) s

  -- an Expr or a Simple in a header, with a "{" after it
  pub data IsCondition : List Token → t.Expr → Type 0 where
    condition : {ts : List Token} {e : t.Expr} → IsExpr 1 true ts e → wants_brace e ≡ false → IsCondition ts e

  pub data PerhapsCondition : List Token → t.MaybeExpr → Type 0 where
    without_condition : PerhapsCondition [] t.NoExpr
    with_condition : {ts : List Token} {e : t.Expr} → IsCondition ts e → PerhapsCondition ts (t.AnExpr e)

  pub data PerhapsPost : List Token → t.MaybeStmt → Type 0 where
    without_post : PerhapsPost [] t.NoStmt
    with_post : {ts : List Token} {s : t.Stmt} → IsSimple true ts s → stmt_wants_brace s ≡ false → PerhapsPost ts (t.AStmt s)

  -- If = "if" [[Simple] ";"] Expr Block ["else" (If | Block)]
  pub data IsIf : List Token → t.Stmt → Type 0 where
    without_else : {ts us vs : List Token} {init : t.MaybeStmt} {e : t.Expr} {b : t.Block} {u : Token} → IsWord word.If u → IsBefore ts init → IsCondition us e → IsBlock vs b → IsIf (u ∷ ts ++ us ++ vs) (t.IfStmt u.place init e b t.NoStmt)
    with_else : {ts us vs ws : List Token} {init : t.MaybeStmt} {e : t.Expr} {b : t.Block} {s : t.Stmt} {u v : Token} → IsWord word.If u → IsBefore ts init → IsCondition us e → IsBlock vs b → IsWord word.Else v → IsElse ws s → IsIf (u ∷ ts ++ us ++ vs ++ v ∷ ws) (t.IfStmt u.place init e b (t.AStmt s))

  pub data IsElse : List Token → t.Stmt → Type 0 where
    else_if : {ts : List Token} {s : t.Stmt} → IsIf ts s → IsElse ts s
    else_block : {ts : List Token} {b : t.Block} → IsBlock ts b → IsElse ts (t.BlockStmt (place_of ts) b)

  -- For = "for" [Expr | [Simple] ";" [Expr] ";" [Simple] | [Exprs ("=" | ":=")] "range" Expr] Block
  pub data IsFor : List Token → t.Stmt → Type 0 where
    for_condition : {ts us : List Token} {e : t.MaybeExpr} {b : t.Block} {u : Token} → IsWord word.For u → PerhapsCondition ts e → IsBlock us b → IsFor (u ∷ ts ++ us) (t.ForStmt u.place t.NoStmt e t.NoStmt b)
    for_clauses : {ts us vs ws : List Token} {init post : t.MaybeStmt} {e : t.MaybeExpr} {b : t.Block} {u v w : Token} → IsWord word.For u → PerhapsSimple ts init → IsSemicolon v → PerhapsHeaderExpr us e → IsSemicolon w → PerhapsPost vs post → IsBlock ws b → IsFor (u ∷ ts ++ v ∷ us ++ w ∷ vs ++ ws) (t.ForStmt u.place init e post b)
    for_range : {ts us : List Token} {e : t.Expr} {b : t.Block} {u v : Token} → IsWord word.For u → IsWord word.Range v → IsCondition ts e → IsBlock us b → IsFor (u ∷ v ∷ ts ++ us) (t.RangeStmt u.place t.NoExprs false e b)
    for_range_assign : {ts us vs : List Token} {xs : t.Exprs} {e : t.Expr} {b : t.Block} {u v w : Token} → IsWord word.For u → AreExprs true ts xs → IsOp o.Assign v → IsWord word.Range w → IsCondition us e → IsBlock vs b → IsFor (u ∷ ts ++ v ∷ w ∷ us ++ vs) (t.RangeStmt u.place xs false e b)
    for_range_define : {ts us vs : List Token} {xs : t.Exprs} {e : t.Expr} {b : t.Block} {u v w : Token} → IsWord word.For u → AreExprs true ts xs → IsOp o.Define v → IsWord word.Range w → IsCondition us e → IsBlock vs b → IsFor (u ∷ ts ++ v ∷ w ∷ us ++ vs) (t.RangeStmt u.place xs true e b)

  -- [Expr], in a header, with a ";" after it
  pub data PerhapsHeaderExpr : List Token → t.MaybeExpr → Type 0 where
    without_header_expr : PerhapsHeaderExpr [] t.NoExpr
    with_header_expr : {ts : List Token} {e : t.Expr} → IsExpr 1 true ts e → PerhapsHeaderExpr ts (t.AnExpr e)

  -- Switch = "switch" [[Simple] ";"] [Expr | [name ":="] Expr "." "(" "type" ")"]
  --          "{" {("case" Exprs | "default") ":" List} "}"
  pub data IsSwitch : List Token → t.Stmt → Type 0 where
    expr_switch : {ts us vs : List Token} {init : t.MaybeStmt} {e : t.MaybeExpr} {cs : t.Clauses} {u v w : Token} → IsWord word.Switch u → IsBefore ts init → PerhapsCondition us e → IsOp o.LeftBrace v → AreClauses w.place vs cs → IsOp o.RightBrace w → IsSwitch (u ∷ ts ++ us ++ v ∷ vs ++ w ∷ []) (t.SwitchStmt u.place init e cs)
    type_switch : {ts us vs : List Token} {init : t.MaybeStmt} {x : Option Name} {e : t.Expr} {cs : t.Clauses} {u v w : Token} → IsWord word.Switch u → IsBefore ts init → IsGuard us x e → IsOp o.LeftBrace v → AreClauses w.place vs cs → IsOp o.RightBrace w → IsSwitch (u ∷ ts ++ us ++ v ∷ vs ++ w ∷ []) (t.TypeSwitchStmt u.place init x e cs)

  -- [name ":="] Expr "." "(" "type" ")"
  pub data IsGuard : List Token → Option Name → t.Expr → Type 0 where
    guard : {ts : List Token} {e : t.Expr} {u v w x : Token} → IsExpr 1 true ts e → wants_dot e ≡ false → IsOp o.Dot u → IsOp o.LeftParen v → IsWord word.Type w → IsOp o.RightParen x → IsGuard (ts ++ u ∷ v ∷ w ∷ x ∷ []) None e
    named_guard : {ts : List Token} {e : t.Expr} {y z u v w x : Token} → IsName y → IsOp o.Define z → IsExpr 1 true ts e → wants_dot e ≡ false → IsOp o.Dot u → IsOp o.LeftParen v → IsWord word.Type w → IsOp o.RightParen x → IsGuard (y ∷ z ∷ ts ++ u ∷ v ∷ w ∷ x ∷ []) (Some (name_of y)) e

  -- {("case" Exprs | "default") ":" List}; at is the place of the token after the clauses
  pub data AreClauses : Place → List Token → t.Clauses → Type 0 where
    no_clauses : {at : Place} → AreClauses at [] t.NoClauses
    case_clause : {at : Place} {ts us vs : List Token} {es : t.Exprs} {ss : t.Stmts} {cs : t.Clauses} {u v : Token} → IsWord word.Case u → AreExprs false ts es → IsOp o.Colon v → AreStmts (place_before vs at) us ss → AreClauses at vs cs → AreClauses at (u ∷ ts ++ v ∷ us ++ vs) (t.MoreClauses u.place es ss cs)
    default_clause : {at : Place} {us vs : List Token} {ss : t.Stmts} {cs : t.Clauses} {u v : Token} → IsWord word.Default u → IsOp o.Colon v → AreStmts (place_before vs at) us ss → AreClauses at vs cs → AreClauses at (u ∷ v ∷ us ++ vs) (t.MoreClauses u.place t.NoExprs ss cs)

  pub data AreComms : Place → List Token → t.Comms → Type 0 where
    no_comms : {at : Place} → AreComms at [] t.NoComms
    case_comm : {at : Place} {ts us vs : List Token} {s : t.Stmt} {ss : t.Stmts} {cs : t.Comms} {u v : Token} → IsWord word.Case u → IsSimple false ts s → IsOp o.Colon v → AreStmts (place_before vs at) us ss → AreComms at vs cs → AreComms at (u ∷ ts ++ v ∷ us ++ vs) (t.MoreComms u.place (t.AStmt s) ss cs)
    default_comm : {at : Place} {us vs : List Token} {ss : t.Stmts} {cs : t.Comms} {u v : Token} → IsWord word.Default u → IsOp o.Colon v → AreStmts (place_before vs at) us ss → AreComms at vs cs → AreComms at (u ∷ v ∷ us ++ vs) (t.MoreComms u.place t.NoStmt ss cs)

  -- Decl = "const" Group(..) | "type" Group(..) | "var" Group(..)
  pub data IsDecl : List Token → t.Decl → Type 0 where
    const_decl : {ts : List Token} {xs : t.ValueSpecs} {u : Token} → IsWord word.Const u → IsConst ts xs → IsDecl (u ∷ ts) (t.ConstDecl u.place xs)
    const_group : {ts : List Token} {xs : t.ValueSpecs} {u v w : Token} → IsWord word.Const u → IsOp o.LeftParen v → AreConsts ts xs → IsOp o.RightParen w → IsDecl (u ∷ v ∷ ts ++ w ∷ []) (t.ConstDecl u.place xs)
    type_decl : {ts : List Token} {xs : t.TypeSpecs} {u : Token} → IsWord word.Type u → IsTypeSpec ts xs → IsDecl (u ∷ ts) (t.TypeDecl u.place xs)
    type_group : {ts : List Token} {xs : t.TypeSpecs} {u v w : Token} → IsWord word.Type u → IsOp o.LeftParen v → AreTypeSpecs ts xs → IsOp o.RightParen w → IsDecl (u ∷ v ∷ ts ++ w ∷ []) (t.TypeDecl u.place xs)
    var_decl : {ts : List Token} {xs : t.ValueSpecs} {u : Token} → IsWord word.Var u → IsVar ts xs → IsDecl (u ∷ ts) (t.VarDecl u.place xs)
    var_group : {ts : List Token} {xs : t.ValueSpecs} {u v w : Token} → IsWord word.Var u → IsOp o.LeftParen v → AreVars ts xs → IsOp o.RightParen w → IsDecl (u ∷ v ∷ ts ++ w ∷ []) (t.VarDecl u.place xs)

  -- Names [[Type] "=" Exprs], a list of one
  pub data IsConst : List Token → t.ValueSpecs → Type 0 where
    repeated_const : {ts : List Token} {names : List Name} → AreNames ts names → IsConst ts (t.MoreValues names t.NoExpr t.NoExprs t.NoValues)
    untyped_const : {ts us : List Token} {names : List Name} {es : t.Exprs} {u : Token} → AreNames ts names → IsOp o.Assign u → AreExprs false us es → IsConst (ts ++ u ∷ us) (t.MoreValues names t.NoExpr es t.NoValues)
    typed_const : {ts us vs : List Token} {names : List Name} {e : t.Expr} {es : t.Exprs} {u : Token} → AreNames ts names → IsType us e → IsOp o.Assign u → AreExprs false vs es → IsConst (ts ++ us ++ u ∷ vs) (t.MoreValues names (t.AnExpr e) es t.NoValues)

  -- Names (Type ["=" Exprs] | "=" Exprs), a list of one
  pub data IsVar : List Token → t.ValueSpecs → Type 0 where
    unset_var : {ts us : List Token} {names : List Name} {e : t.Expr} → AreNames ts names → IsType us e → IsVar (ts ++ us) (t.MoreValues names (t.AnExpr e) t.NoExprs t.NoValues)
    untyped_var : {ts us : List Token} {names : List Name} {es : t.Exprs} {u : Token} → AreNames ts names → IsOp o.Assign u → AreExprs false us es → IsVar (ts ++ u ∷ us) (t.MoreValues names t.NoExpr es t.NoValues)
    typed_var : {ts us vs : List Token} {names : List Name} {e : t.Expr} {es : t.Exprs} {u : Token} → AreNames ts names → IsType us e → IsOp o.Assign u → AreExprs false vs es → IsVar (ts ++ us ++ u ∷ vs) (t.MoreValues names (t.AnExpr e) es t.NoValues)

  -- name ["="] Type, a list of one
  pub data IsTypeSpec : List Token → t.TypeSpecs → Type 0 where
    type_spec : {ss ts : List Token} {alias : Bool} {e : t.Expr} {u : Token} → IsName u → PerhapsOp o.Assign ss alias → IsType ts e → IsTypeSpec (u ∷ ss ++ ts) (t.MoreTypes (name_of u) alias e t.NoTypes)

  -- {X ";"}, the last ";" at will
  pub data AreConsts : List Token → t.ValueSpecs → Type 0 where
    no_consts : AreConsts [] t.NoValues
    last_const : {ts : List Token} {xs : t.ValueSpecs} → IsConst ts xs → AreConsts ts xs
    more_consts : {ts us : List Token} {xs : List Name} {ty : t.MaybeExpr} {es : t.Exprs} {rest : t.ValueSpecs} {u : Token} → IsConst ts (t.MoreValues xs ty es t.NoValues) → IsSemicolon u → AreConsts us rest → AreConsts (ts ++ u ∷ us) (t.MoreValues xs ty es rest)

  pub data AreVars : List Token → t.ValueSpecs → Type 0 where
    no_vars : AreVars [] t.NoValues
    last_var : {ts : List Token} {xs : t.ValueSpecs} → IsVar ts xs → AreVars ts xs
    more_vars : {ts us : List Token} {xs : List Name} {ty : t.MaybeExpr} {es : t.Exprs} {rest : t.ValueSpecs} {u : Token} → IsVar ts (t.MoreValues xs ty es t.NoValues) → IsSemicolon u → AreVars us rest → AreVars (ts ++ u ∷ us) (t.MoreValues xs ty es rest)

  pub data AreTypeSpecs : List Token → t.TypeSpecs → Type 0 where
    no_type_specs : AreTypeSpecs [] t.NoTypes
    last_type_spec : {ts : List Token} {xs : t.TypeSpecs} → IsTypeSpec ts xs → AreTypeSpecs ts xs
    more_type_specs : {ts us : List Token} {x : Name} {alias : Bool} {e : t.Expr} {rest : t.TypeSpecs} {u : Token} → IsTypeSpec ts (t.MoreTypes x alias e t.NoTypes) → IsSemicolon u → AreTypeSpecs us rest → AreTypeSpecs (ts ++ u ∷ us) (t.MoreTypes x alias e rest)

-- Lists of expressions, calls and literals.
use Rattle.std.proofs.Common.{◌≡◌, ◌+◌, ℕ, Bool, true, false, nat_lt, List, [], ◌∷◌, ◌++◌, Option, Some, None, refl, sym, ◌∙◌, ap, subst, append_assoc, append-nil}
use Rattle.gj_base.specs.declared.place.Place.{Place}
use Rattle.go_syntax.specs.Tree as t
use Rattle.go_syntax.specs.Token.{Token}
use Rattle.go_syntax.specs.View.{exprs_of, joined}
use Rattle.go_syntax.specs.declared.operator.Operator.TheVariants as o
use Rattle.go_grammar.specs.Classes.{IsOp, place_of}
use Rattle.go_grammar.specs.Context.{MayFollow, takes_literal}
use Rattle.go_grammar.specs.Limits.{has_room, expr_fits, maybe_fits, exprs_fit, elems_fit, parts}
use Rattle.go_grammar.specs.Frames.{Ctx, AnExpr, Frame, OfExpr, OfPart, Done, Stack, Operand, Chain, Tail, Args, Arg, Braces, Elems, InBraces, Element, Keyed}
use Rattle.go_grammar.specs.Grammar.{PerhapsOp, without_op, with_op, AreExprs, one_expr, more_exprs}
use Rattle.go_grammar.specs.Nodes.{is_op, place_of_expr, begins_expr, maybe}
use Rattle.go_grammar.specs.Parsed.{run}
use Rattle.go_grammar.proofs.Stepping.{ctx, run_assoc, first_part, second_part, Halts, halts_op}
use Rattle.go_grammar.proofs.Starting.{starts_expr, first_is, first_of_more, from_first, expr_no_paren, expr_no_brace, expr_no_open_brace}
use Rattle.go_grammar.proofs.Readings.{ExprReads, AfterExpr, halted_expr}
use Rattle.go_grammar.proofs.PartRules.{PrimaryReads, paren_after, brace_after, shorter, base, option_of, maybe_option}

-- expressions but for the last one, and that one
abbrev pub front_of : t.Exprs → List t.Expr
front_of t.NoExprs = []
front_of (t.MoreExprs e t.NoExprs) = []
front_of (t.MoreExprs e (t.MoreExprs f es)) = e ∷ front_of (t.MoreExprs f es)

abbrev pub last_of : t.Exprs → t.Expr
last_of t.NoExprs = t.NameExpr (record { file = 0; offset = 0 }) []
last_of (t.MoreExprs e t.NoExprs) = e
last_of (t.MoreExprs e (t.MoreExprs f es)) = last_of (t.MoreExprs f es)

whole_more : (e : t.Expr) (es : t.Exprs) → exprs_of (front_of (t.MoreExprs e es) ++ last_of (t.MoreExprs e es) ∷ []) ≡ t.MoreExprs e es
whole_more e t.NoExprs = refl
whole_more e (t.MoreExprs f es) = ap (λ x. t.MoreExprs e x) (whole_more f es)

pub exprs_whole : {h : Bool} {ts : List Token} {es : t.Exprs} → AreExprs h ts es → exprs_of (front_of es ++ last_of es ∷ []) ≡ es
exprs_whole (one_expr {e} d) = refl
exprs_whole (more_exprs {e} {es} d x ds) = whole_more e es

front_more : {h : Bool} {ts : List Token} {es : t.Exprs} (e : t.Expr) → AreExprs h ts es → front_of (t.MoreExprs e es) ≡ e ∷ front_of es
front_more e (one_expr d) = refl
front_more e (more_exprs d x ds) = refl

last_more : {h : Bool} {ts : List Token} {es : t.Exprs} (e : t.Expr) → AreExprs h ts es → last_of (t.MoreExprs e es) ≡ last_of es
last_more e (one_expr d) = refl
last_more e (more_exprs d x ds) = refl

-- between two expressions, the frame takes the one and the next begins
abbrev pub GoesOn : ℕ → ℕ → Bool → (List t.Expr → Frame) → Stack → Type 0
GoesOn b d h frame s = (fs : List t.Expr) (e : t.Expr) (v : Token) (vs : List Token) → IsOp o.Comma v → first_is begins_expr vs ≡ true → run (v ∷ vs) (Done (AnExpr e) ∷ frame fs ∷ s) ≡ run vs (OfExpr (Operand (ctx d b h false)) ∷ OfExpr (Chain (ctx d b h false)) ∷ frame (fs ++ e ∷ []) ∷ s)

-- expressions, up to the token after them
abbrev pub ExprsRead : ℕ → Bool → List Token → t.Exprs → Type 0
ExprsRead b h ts es = (d : ℕ) (g : Bool) → exprs_fit b d es ≡ true → (frame : List t.Expr → Frame) (fs : List t.Expr) (s : Stack) → GoesOn b d h frame s → (u : Token) (us : List Token) → AfterExpr h (last_of es) u → run (ts ++ u ∷ us) (OfExpr (Operand (ctx d b h g)) ∷ OfExpr (Chain (ctx d b h g)) ∷ frame fs ∷ s) ≡ run (u ∷ us) (Done (AnExpr (last_of es)) ∷ frame (fs ++ front_of es) ∷ s)

pub one_expr_reads : (b : ℕ) (h : Bool) (ts : List Token) (e : t.Expr) → ExprReads b h ts e → ExprsRead b h ts (t.MoreExprs e t.NoExprs)
one_expr_reads b h ts e ih d g fits frame fs s goes u us after =
    ih d g (first_part _ _ fits) u us (frame fs ∷ s) after ∙ ap (λ xs. run (u ∷ us) (Done (AnExpr e) ∷ frame xs ∷ s)) (sym (append-nil fs))

pub more_exprs_read : (b : ℕ) (h : Bool) (ts us' : List Token) (e : t.Expr) (es : t.Exprs) (v : Token) → ExprReads b h ts e → IsOp o.Comma v → AreExprs h us' es → first_is begins_expr us' ≡ true → ExprsRead b h us' es → ExprsRead b h (ts ++ v ∷ us') (t.MoreExprs e es)
more_exprs_read b h ts us' e es v ih hv ds first ihs d g fits frame fs s goes u us after =
    let after' : AfterExpr h (last_of es) u = subst (λ x. AfterExpr h x u) (last_more e ds) after in
    run_assoc ts (v ∷ us') (u ∷ us) (OfExpr (Operand (ctx d b h g)) ∷ OfExpr (Chain (ctx d b h g)) ∷ frame fs ∷ s)
    ∙ (ih d g (first_part _ _ fits) v (us' ++ u ∷ us) (frame fs ∷ s) (halted_expr h e (halts_op hv refl))
    ∙ (goes fs e v (us' ++ u ∷ us) hv (first_of_more begins_expr us' (u ∷ us) first)
    ∙ (ihs d false (second_part _ _ fits) frame (fs ++ e ∷ []) s goes u us after'
    ∙ (ap (λ xs. run (u ∷ us) (Done (AnExpr (last_of es)) ∷ frame xs ∷ s)) (append_assoc fs (e ∷ []) (front_of es) ∙ ap (λ xs. fs ++ xs) (sym (front_more e ds)))
    ∙ ap (λ x. run (u ∷ us) (Done (AnExpr x) ∷ frame (fs ++ front_of (t.MoreExprs e es)) ∷ s)) (sym (last_more e ds))))))

-- calls

-- in the parentheses of a call, an argument begins
args_begin : (d b : ℕ) (h g : Bool) (n : ℕ) (e : t.Expr) (fs : List t.Expr) (s : Stack) → has_room d ≡ true → (u : Token) (us : List Token) → begins_expr u.kind ≡ true → run (u ∷ us) (OfPart (Args (base (ctx d b h g) n e) fs) ∷ s) ≡ run (u ∷ us) (OfExpr (Operand (ctx (d + 1) b false false)) ∷ OfExpr (Chain (ctx (d + 1) b false false)) ∷ OfPart (Arg (base (ctx d b h g) n e) fs) ∷ s)
args_begin d b h g n e fs s room u us first =
    let no_close : is_op o.RightParen u ≡ false = expr_no_paren u.kind first in
    starts_expr u us (OfPart (Args (base (ctx d b h g) n e) fs)) s (OfPart (Arg (base (ctx d b h g) n e) fs) ∷ s) (ctx (d + 1) b false false) (simp (no_close, room))

args_start : (d b : ℕ) (h g : Bool) (n : ℕ) (e : t.Expr) (fs : List t.Expr) (s : Stack) → has_room d ≡ true → (vs : List Token) → first_is begins_expr vs ≡ true → run vs (OfPart (Args (base (ctx d b h g) n e) fs) ∷ s) ≡ run vs (OfExpr (Operand (ctx (d + 1) b false false)) ∷ OfExpr (Chain (ctx (d + 1) b false false)) ∷ OfPart (Arg (base (ctx d b h g) n e) fs) ∷ s)
args_start d b h g n e fs s room [] first = cc
args_start d b h g n e fs s room (u ∷ us) first = args_begin d b h g n e fs s room u us first

args_go_on : (d b : ℕ) (h g : Bool) (n : ℕ) (e : t.Expr) (s : Stack) → has_room d ≡ true → GoesOn b (d + 1) false (λ fs. OfPart (Arg (base (ctx d b h g) n e) fs)) s
args_go_on d b h g n e s room fs x v vs hv first =
    let comma : run (v ∷ vs) (Done (AnExpr x) ∷ OfPart (Arg (base (ctx d b h g) n e) fs) ∷ s) ≡ run vs (OfPart (Args (base (ctx d b h g) n e) (fs ++ x ∷ [])) ∷ s) = simp hv.op in
    comma ∙ args_start d b h g n e (fs ++ x ∷ []) s room vs first

-- "(" ")"
pub call_of_none_reads : (b : ℕ) (h : Bool) (ts : List Token) (e : t.Expr) (v w : Token) → place_of_expr e ≡ place_of ts → PrimaryReads b h ts e → MayFollow e v → IsOp o.LeftParen v → IsOp o.RightParen w → PrimaryReads b h (ts ++ v ∷ w ∷ []) (t.CallExpr (place_of ts) e t.NoExprs false)
call_of_none_reads b h ts e v w place ih may hv hw d g fits u us s after =
    let short : nat_lt (parts e) 500 ≡ true = shorter (parts e) (first_part _ _ (first_part _ _ (first_part _ _ fits))) in
    let room : has_room d ≡ true = second_part _ _ (first_part _ _ fits) in
    let taken : run (v ∷ w ∷ u ∷ us) (OfExpr (Tail (ctx d b h g) (parts e) e) ∷ s) ≡ run (u ∷ us) (OfExpr (Tail (ctx d b h g) (parts e + 1) (t.CallExpr (place_of_expr e) e t.NoExprs false)) ∷ s) = simp (hv.op, hw.op, room, short) in
    run_assoc ts (v ∷ w ∷ []) (u ∷ us) (OfExpr (Operand (ctx d b h g)) ∷ s)
    ∙ (ih d g (second_part _ _ (first_part _ _ (first_part _ _ fits))) v (w ∷ u ∷ us) s (paren_after e v may hv)
    ∙ (taken ∙ ap (λ at. run (u ∷ us) (OfExpr (Tail (ctx d b h g) (parts e + 1) (t.CallExpr at e t.NoExprs false)) ∷ s)) place))

-- `...`, `,` and `)` after the arguments: they begin with a token that ends an expression, and end the call
record CallEnds (b d : ℕ) (h g : Bool) (n : ℕ) (e : t.Expr) (ends : List Token) (spread : Bool) (rest : List Token) : Type 0 where
  pub head : Token
  pub tail : List Token
  pub are : ends ≡ head ∷ tail
  pub halts : Halts head
  pub closes : (fs : List t.Expr) (x : t.Expr) (s : Stack) → run (head ∷ tail) (Done (AnExpr x) ∷ OfPart (Arg (base (ctx d b h g) n e) fs) ∷ s) ≡ run rest (OfExpr (Tail (ctx d b h g) (n + 1) (t.CallExpr (place_of_expr e) e (exprs_of (fs ++ x ∷ [])) spread)) ∷ s)

call_ends : (b d : ℕ) (h g : Bool) (n : ℕ) (e : t.Expr) (ss cs : List Token) (spread comma : Bool) (v : Token) (rest : List Token) → nat_lt n 500 ≡ true → PerhapsOp o.Ellipsis ss spread → PerhapsOp o.Comma cs comma → IsOp o.RightParen v → CallEnds b d h g n e (ss ++ (cs ++ v ∷ rest)) spread rest
call_ends b d h g n e _ _ _ _ v rest short without_op without_op hv = record {
  head = v;
  tail = rest;
  are = refl;
  halts = halts_op hv refl;
  closes = λ fs x s. simp (hv.op, short);
}
call_ends b d h g n e _ _ _ _ v rest short without_op (with_op {u} hu) hv = record {
  head = u;
  tail = v ∷ rest;
  are = refl;
  halts = halts_op hu refl;
  closes = λ fs x s. simp (hu.op, hv.op, short);
}
call_ends b d h g n e _ _ _ _ v rest short (with_op {u} hu) without_op hv = record {
  head = u;
  tail = v ∷ rest;
  are = refl;
  halts = halts_op hu refl;
  closes = λ fs x s. simp (hu.op, hv.op, short);
}
call_ends b d h g n e _ _ _ _ v rest short (with_op {u} hu) (with_op {u = w} hw) hv = record {
  head = u;
  tail = w ∷ v ∷ rest;
  are = refl;
  halts = halts_op hu refl;
  closes = λ fs x s. simp (hu.op, hw.op, hv.op, short);
}

-- "(" Exprs ["..."] [","] ")"
pub call_reads : (b : ℕ) (h : Bool) (ts args ss cs : List Token) (e : t.Expr) (es : t.Exprs) (spread comma : Bool) (v w : Token) → place_of_expr e ≡ place_of ts → PrimaryReads b h ts e → MayFollow e v → IsOp o.LeftParen v → first_is begins_expr args ≡ true → exprs_of (front_of es ++ last_of es ∷ []) ≡ es → ExprsRead b false args es → PerhapsOp o.Ellipsis ss spread → PerhapsOp o.Comma cs comma → IsOp o.RightParen w → PrimaryReads b h (ts ++ v ∷ args ++ ss ++ cs ++ w ∷ []) (t.CallExpr (place_of ts) e es spread)
call_reads b h ts args ss cs e es spread comma v w place ih may hv first whole ihs hs hc hw d g fits u us s after =
    let short : nat_lt (parts e) 500 ≡ true = shorter (parts e) (first_part _ _ (first_part _ _ (first_part _ _ fits))) in
    let room : has_room d ≡ true = second_part _ _ (first_part _ _ fits) in
    let fits_e : expr_fits b d e ≡ true = second_part _ _ (first_part _ _ (first_part _ _ fits)) in
    let fits_es : exprs_fit b (d + 1) es ≡ true = second_part _ _ fits in
    let c : Ctx = ctx d b h g in
    let n : ℕ = parts e in
    let more : List Token = ss ++ (cs ++ w ∷ u ∷ us) in
    let z = call_ends b d h g n e ss cs spread comma w (u ∷ us) short hs hc hw in
    let opened : run (v ∷ args ++ more) (OfExpr (Tail c n e) ∷ s) ≡ run (args ++ more) (OfPart (Args (base c n e) []) ∷ s) = simp (hv.op, room, short) in
    run_assoc (ts ++ v ∷ args ++ ss ++ cs) (w ∷ []) (u ∷ us) (OfExpr (Operand c) ∷ s)
    ∙ (run_assoc (ts ++ v ∷ args ++ ss) cs (w ∷ u ∷ us) (OfExpr (Operand c) ∷ s)
    ∙ (run_assoc (ts ++ v ∷ args) ss (cs ++ w ∷ u ∷ us) (OfExpr (Operand c) ∷ s)
    ∙ (run_assoc ts (v ∷ args) more (OfExpr (Operand c) ∷ s)
    ∙ (ih d g fits_e v (args ++ more) s (paren_after e v may hv)
    ∙ (opened
    ∙ (args_start d b h g n e [] s room (args ++ more) (first_of_more begins_expr args more first)
    ∙ (ap (λ xs. run (args ++ xs) (OfExpr (Operand (ctx (d + 1) b false false)) ∷ OfExpr (Chain (ctx (d + 1) b false false)) ∷ OfPart (Arg (base c n e) []) ∷ s)) z.are
    ∙ (ihs (d + 1) false fits_es (λ fs. OfPart (Arg (base c n e) fs)) [] s (args_go_on d b h g n e s room) z.head z.tail (halted_expr false (last_of es) z.halts)
    ∙ (z.closes (front_of es) (last_of es) s
    ∙ (ap (λ at. run (u ∷ us) (OfExpr (Tail c (n + 1) (t.CallExpr at e (exprs_of (front_of es ++ last_of es ∷ [])) spread)) ∷ s)) place
    ∙ ap (λ xs. run (u ∷ us) (OfExpr (Tail c (n + 1) (t.CallExpr (place_of ts) e xs spread)) ∷ s)) whole))))))))))

-- literals

abbrev pub elems_list : t.Elems → Elems
elems_list t.NoElems = []
elems_list (t.MoreElems key e rest) = (λ more. t.MoreElems key e more) ∷ elems_list rest

pub joined_elems : (xs : t.Elems) → joined (elems_list xs) t.NoElems ≡ xs
joined_elems t.NoElems = refl
joined_elems (t.MoreElems key e rest) = ap (λ more. t.MoreElems key e more) (joined_elems rest)

abbrev pub braces : Ctx → ℕ → Place → Option t.Expr → Braces
braces c n at ty = record { ctx = c; count = n; place = at; ty = ty }

-- the stack begins a value at the token, which the other one waits for
pub record StartsValue (c : Ctx) (s s' : Stack) : Type 0 where
  pub on_brace : (u : Token) (us : List Token) → IsOp o.LeftBrace u → has_room c.depth ≡ true → run (u ∷ us) s ≡ run us (OfPart (InBraces (braces c 0 u.place None) []) ∷ s')
  pub on_expr : (u : Token) (us : List Token) → begins_expr u.kind ≡ true → run (u ∷ us) s ≡ run (u ∷ us) (OfExpr (Operand c) ∷ OfExpr (Chain c) ∷ s')

abbrev pub ValueReads : ℕ → List Token → t.Expr → Type 0
ValueReads b ts e = (d : ℕ) → expr_fits b d e ≡ true → (s s' : Stack) → StartsValue (ctx d b false false) s s' → (u : Token) (us : List Token) → Halts u → run (ts ++ u ∷ us) s ≡ run (u ∷ us) (Done (AnExpr e) ∷ s')

-- elements, up to the `}` after them
abbrev pub ElemsRead : ℕ → List Token → t.Elems → Type 0
ElemsRead b ts xs = (d : ℕ) (h g : Bool) → has_room d ≡ true → elems_fit b (d + 1) xs ≡ true → (n : ℕ) (at : Place) (ty : Option t.Expr) (items : Elems) (u : Token) (us : List Token) (s : Stack) → IsOp o.RightBrace u → run (ts ++ u ∷ us) (OfPart (InBraces (braces (ctx d b h g) n at ty) items) ∷ s) ≡ run (u ∷ us) (OfPart (InBraces (braces (ctx d b h g) n at ty) (items ++ elems_list xs)) ∷ s)

-- an element, up to the `,` or `}` after it
abbrev pub ElemReads : ℕ → List Token → t.MaybeExpr → t.Expr → Type 0
ElemReads b ts key e = (d : ℕ) (h g : Bool) → has_room d ≡ true → maybe_fits b (d + 1) key ≡ true → expr_fits b (d + 1) e ≡ true → (n : ℕ) (at : Place) (ty : Option t.Expr) (items : Elems) (u : Token) (us : List Token) (s : Stack) → Halts u → run (ts ++ u ∷ us) (OfPart (InBraces (braces (ctx d b h g) n at ty) items) ∷ s) ≡ run (u ∷ us) (Done (AnExpr e) ∷ OfPart (Element (braces (ctx d b h g) n at ty) items (option_of key)) ∷ s)

element_on_brace : (d b : ℕ) (h g : Bool) (n : ℕ) (at : Place) (ty : Option t.Expr) (items : Elems) (s : Stack) → has_room d ≡ true → (u : Token) (us : List Token) → IsOp o.LeftBrace u → has_room (d + 1) ≡ true → run (u ∷ us) (OfPart (InBraces (braces (ctx d b h g) n at ty) items) ∷ s) ≡ run us (OfPart (InBraces (braces (ctx (d + 1) b false false) 0 u.place None) []) ∷ OfPart (Element (braces (ctx d b h g) n at ty) items None) ∷ s)
element_on_brace d b h g n at ty items s room u us hu room' = simp (hu.op, room, room')

element_on_expr : (d b : ℕ) (h g : Bool) (n : ℕ) (at : Place) (ty : Option t.Expr) (items : Elems) (s : Stack) → has_room d ≡ true → (u : Token) (us : List Token) → begins_expr u.kind ≡ true → run (u ∷ us) (OfPart (InBraces (braces (ctx d b h g) n at ty) items) ∷ s) ≡ run (u ∷ us) (OfExpr (Operand (ctx (d + 1) b false false)) ∷ OfExpr (Chain (ctx (d + 1) b false false)) ∷ OfPart (Element (braces (ctx d b h g) n at ty) items None) ∷ s)
element_on_expr d b h g n at ty items s room u us first =
    let no_close : is_op o.RightBrace u ≡ false = expr_no_brace u.kind first in
    let no_open : is_op o.LeftBrace u ≡ false = expr_no_open_brace u.kind first in
    starts_expr u us (OfPart (InBraces (braces (ctx d b h g) n at ty) items)) s (OfPart (Element (braces (ctx d b h g) n at ty) items None) ∷ s) (ctx (d + 1) b false false) (simp (no_close, no_open, room))

element_starts : (d b : ℕ) (h g : Bool) (n : ℕ) (at : Place) (ty : Option t.Expr) (items : Elems) (s : Stack) → has_room d ≡ true → StartsValue (ctx (d + 1) b false false) (OfPart (InBraces (braces (ctx d b h g) n at ty) items) ∷ s) (OfPart (Element (braces (ctx d b h g) n at ty) items None) ∷ s)
element_starts d b h g n at ty items s room = record {
  on_brace = element_on_brace d b h g n at ty items s room;
  on_expr = element_on_expr d b h g n at ty items s room;
}

keyed_on_brace : (d b : ℕ) (h g : Bool) (n : ℕ) (at : Place) (ty : Option t.Expr) (items : Elems) (key : t.Expr) (s : Stack) → has_room d ≡ true → (u : Token) (us : List Token) → IsOp o.LeftBrace u → has_room (d + 1) ≡ true → run (u ∷ us) (OfPart (Keyed (braces (ctx d b h g) n at ty) items key) ∷ s) ≡ run us (OfPart (InBraces (braces (ctx (d + 1) b false false) 0 u.place None) []) ∷ OfPart (Element (braces (ctx d b h g) n at ty) items (Some key)) ∷ s)
keyed_on_brace d b h g n at ty items key s room u us hu room' = simp (hu.op, room, room')

keyed_on_expr : (d b : ℕ) (h g : Bool) (n : ℕ) (at : Place) (ty : Option t.Expr) (items : Elems) (key : t.Expr) (s : Stack) → has_room d ≡ true → (u : Token) (us : List Token) → begins_expr u.kind ≡ true → run (u ∷ us) (OfPart (Keyed (braces (ctx d b h g) n at ty) items key) ∷ s) ≡ run (u ∷ us) (OfExpr (Operand (ctx (d + 1) b false false)) ∷ OfExpr (Chain (ctx (d + 1) b false false)) ∷ OfPart (Element (braces (ctx d b h g) n at ty) items (Some key)) ∷ s)
keyed_on_expr d b h g n at ty items key s room u us first =
    let no_open : is_op o.LeftBrace u ≡ false = expr_no_open_brace u.kind first in
    starts_expr u us (OfPart (Keyed (braces (ctx d b h g) n at ty) items key)) s (OfPart (Element (braces (ctx d b h g) n at ty) items (Some key)) ∷ s) (ctx (d + 1) b false false) (simp (no_open, room))

keyed_starts : (d b : ℕ) (h g : Bool) (n : ℕ) (at : Place) (ty : Option t.Expr) (items : Elems) (key : t.Expr) (s : Stack) → has_room d ≡ true → StartsValue (ctx (d + 1) b false false) (OfPart (Keyed (braces (ctx d b h g) n at ty) items key) ∷ s) (OfPart (Element (braces (ctx d b h g) n at ty) items (Some key)) ∷ s)
keyed_starts d b h g n at ty items key s room = record {
  on_brace = keyed_on_brace d b h g n at ty items key s room;
  on_expr = keyed_on_expr d b h g n at ty items key s room;
}

pub plain_elem_reads : (b : ℕ) (ts : List Token) (e : t.Expr) → ValueReads b ts e → ElemReads b ts t.NoExpr e
plain_elem_reads b ts e ih d h g room none fits n at ty items u us s hu = ih (d + 1) fits _ _ (element_starts d b h g n at ty items s room) u us hu

pub keyed_elem_reads : (b : ℕ) (ts us' : List Token) (key e : t.Expr) (v : Token) → ValueReads b ts key → IsOp o.Colon v → ValueReads b us' e → ElemReads b (ts ++ v ∷ us') (t.AnExpr key) e
keyed_elem_reads b ts us' key e v ihk hv ihe d h g room fits_key fits n at ty items u us s hu =
    let x : Braces = braces (ctx d b h g) n at ty in
    let colon : run (v ∷ us' ++ u ∷ us) (Done (AnExpr key) ∷ OfPart (Element x items None) ∷ s) ≡ run (us' ++ u ∷ us) (OfPart (Keyed x items key) ∷ s) = simp hv.op in
    run_assoc ts (v ∷ us') (u ∷ us) (OfPart (InBraces x items) ∷ s)
    ∙ (ihk (d + 1) fits_key _ _ (element_starts d b h g n at ty items s room) v (us' ++ u ∷ us) (halts_op hv refl)
    ∙ (colon ∙ ihe (d + 1) fits _ _ (keyed_starts d b h g n at ty items key s room) u us hu))

pub no_elems_read : (b : ℕ) → ElemsRead b [] t.NoElems
no_elems_read b d h g room fits n at ty items u us s hu = ap (λ xs. run (u ∷ us) (OfPart (InBraces (braces (ctx d b h g) n at ty) xs) ∷ s)) (sym (append-nil items))

pub last_elem_reads : (b : ℕ) (ts : List Token) (key : t.MaybeExpr) (e : t.Expr) → ElemReads b ts key e → ElemsRead b ts (t.MoreElems key e t.NoElems)
last_elem_reads b ts key e ih d h g room fits n at ty items u us s hu =
    let x : Braces = braces (ctx d b h g) n at ty in
    let closed : run (u ∷ us) (Done (AnExpr e) ∷ OfPart (Element x items (option_of key)) ∷ s) ≡ run (u ∷ us) (OfPart (InBraces x (items ++ (λ more. t.MoreElems (maybe (option_of key)) e more) ∷ [])) ∷ s) = simp hu.op in
    ih d h g room (first_part _ _ (first_part _ _ fits)) (second_part _ _ (first_part _ _ fits)) n at ty items u us s (halts_op hu refl)
    ∙ (closed ∙ ap (λ k. run (u ∷ us) (OfPart (InBraces x (items ++ (λ more. t.MoreElems k e more) ∷ [])) ∷ s)) (maybe_option key))

pub more_elems_read : (b : ℕ) (ts us' : List Token) (key : t.MaybeExpr) (e : t.Expr) (v : Token) (rest : t.Elems) → ElemReads b ts key e → IsOp o.Comma v → ElemsRead b us' rest → ElemsRead b (ts ++ v ∷ us') (t.MoreElems key e rest)
more_elems_read b ts us' key e v rest ih hv ihs d h g room fits n at ty items u us s hu =
    let x : Braces = braces (ctx d b h g) n at ty in
    let f = λ (more : t.Elems). t.MoreElems key e more in
    let comma : run (v ∷ us' ++ u ∷ us) (Done (AnExpr e) ∷ OfPart (Element x items (option_of key)) ∷ s) ≡ run (us' ++ u ∷ us) (OfPart (InBraces x (items ++ (λ more. t.MoreElems (maybe (option_of key)) e more) ∷ [])) ∷ s) = simp hv.op in
    run_assoc ts (v ∷ us') (u ∷ us) (OfPart (InBraces x items) ∷ s)
    ∙ (ih d h g room (first_part _ _ (first_part _ _ fits)) (second_part _ _ (first_part _ _ fits)) n at ty items v (us' ++ u ∷ us) s (halts_op hv refl)
    ∙ (comma
    ∙ (ap (λ k. run (us' ++ u ∷ us) (OfPart (InBraces x (items ++ (λ more. t.MoreElems k e more) ∷ [])) ∷ s)) (maybe_option key)
    ∙ (ihs d h g room (second_part _ _ fits) n at ty (items ++ f ∷ []) u us s hu
    ∙ ap (λ xs. run (u ∷ us) (OfPart (InBraces x xs) ∷ s)) (append_assoc items (f ∷ []) (elems_list rest))))))

pub expr_value_reads : (b : ℕ) (ts : List Token) (e : t.Expr) → first_is begins_expr ts ≡ true → ExprReads b false ts e → ValueReads b ts e
expr_value_reads b ts e first ih d fits s s' starts u us hu =
    from_first begins_expr ts s (OfExpr (Operand (ctx d b false false)) ∷ OfExpr (Chain (ctx d b false false)) ∷ s') first starts.on_expr (u ∷ us)
    ∙ ih d false fits u us s' (halted_expr false e hu)

pub literal_value_reads : (b : ℕ) (ts : List Token) (xs : t.Elems) (v w : Token) → IsOp o.LeftBrace v → ElemsRead b ts xs → IsOp o.RightBrace w → ValueReads b (v ∷ ts ++ w ∷ []) (t.LiteralExpr v.place t.NoExpr xs)
literal_value_reads b ts xs v w hv ih hw d fits s s' starts u us hu =
    let room : has_room d ≡ true = first_part _ _ fits in
    let x : Braces = braces (ctx d b false false) 0 v.place None in
    let closed : run (w ∷ u ∷ us) (OfPart (InBraces x (elems_list xs)) ∷ s') ≡ run (u ∷ us) (Done (AnExpr (t.LiteralExpr v.place t.NoExpr (joined (elems_list xs) t.NoElems))) ∷ s') = simp hw.op in
    ap (λ ys. run (v ∷ ys) s) (append_assoc ts (w ∷ []) (u ∷ us))
    ∙ (starts.on_brace v (ts ++ (w ∷ u ∷ us)) hv room
    ∙ (ih d false false room (second_part _ _ fits) 0 v.place None [] w (u ∷ us) s' hw
    ∙ (closed ∙ ap (λ ys. run (u ∷ us) (Done (AnExpr (t.LiteralExpr v.place t.NoExpr ys)) ∷ s')) (joined_elems xs))))

-- Literal after its type
pub literal_reads : (b : ℕ) (h : Bool) (ts us' : List Token) (e : t.Expr) (xs : t.Elems) (v w : Token) → place_of_expr e ≡ place_of ts → PrimaryReads b h ts e → takes_literal h e ≡ true → IsOp o.LeftBrace v → ElemsRead b us' xs → IsOp o.RightBrace w → PrimaryReads b h (ts ++ (v ∷ us' ++ w ∷ [])) (t.LiteralExpr (place_of ts) (t.AnExpr e) xs)
literal_reads b h ts us' e xs v w place ih takes hv ihs hw d g fits u us s after =
    let short : nat_lt (parts e) 500 ≡ true = shorter (parts e) (first_part _ _ (first_part _ _ (first_part _ _ fits))) in
    let room : has_room d ≡ true = second_part _ _ (first_part _ _ fits) in
    let fits_e : expr_fits b d e ≡ true = second_part _ _ (first_part _ _ (first_part _ _ fits)) in
    let c : Ctx = ctx d b h g in
    let n : ℕ = parts e in
    let at : Place = place_of_expr e in
    let opened : run (v ∷ (us' ++ (w ∷ u ∷ us))) (OfExpr (Tail c n e) ∷ s) ≡ run (us' ++ (w ∷ u ∷ us)) (OfPart (InBraces (braces c n at (Some e)) []) ∷ s) = simp (hv.op, takes, room, short) in
    let closed : run (w ∷ u ∷ us) (OfPart (InBraces (braces c n at (Some e)) (elems_list xs)) ∷ s) ≡ run (u ∷ us) (OfExpr (Tail c (n + 1) (t.LiteralExpr at (t.AnExpr e) (joined (elems_list xs) t.NoElems))) ∷ s) = simp (hw.op, short) in
    run_assoc ts (v ∷ us' ++ w ∷ []) (u ∷ us) (OfExpr (Operand c) ∷ s)
    ∙ (ap (λ ys. run (ts ++ v ∷ ys) (OfExpr (Operand c) ∷ s)) (append_assoc us' (w ∷ []) (u ∷ us))
    ∙ (ih d g fits_e v (us' ++ (w ∷ u ∷ us)) s (brace_after h e v takes hv)
    ∙ (opened
    ∙ (ihs d h g room (second_part _ _ fits) n at (Some e) [] w (u ∷ us) s hw
    ∙ (closed
    ∙ (ap (λ p. run (u ∷ us) (OfExpr (Tail c (n + 1) (t.LiteralExpr p (t.AnExpr e) (joined (elems_list xs) t.NoElems))) ∷ s)) place
    ∙ ap (λ ys. run (u ∷ us) (OfExpr (Tail c (n + 1) (t.LiteralExpr (place_of ts) (t.AnExpr e) ys)) ∷ s)) (joined_elems xs)))))))

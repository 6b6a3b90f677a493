-- Limits: the steps of types, signatures and fields keep the invariant.
use Rattle.std.proofs.Common.{◌≡◌, ◌≤◌, ◌+◌, ◌&&◌, ◌||◌, Bool, true, false, ℕ, List, [], ◌∷◌, ◌++◌, Option, Some, None, refl, ap, sym, ◌∙◌, subst, arith}
use Rattle.gj_base.specs.declared.place.Place.{Place}
use Rattle.go_syntax.specs.Tree as t
use Rattle.go_syntax.specs.Token.{Token}
use Rattle.go_syntax.specs.View.{joined}
use Rattle.go_syntax.specs.declared.kind.TokenKind.{TokenKind}
use Rattle.go_syntax.specs.declared.kind.TokenKind.TheVariants as kind
use Rattle.go_syntax.specs.declared.keyword.Keyword.{Keyword}
use Rattle.go_syntax.specs.declared.keyword.Keyword.TheVariants as word
use Rattle.go_syntax.specs.declared.operator.Operator.TheVariants as o
use Rattle.go_syntax.specs.declared.tree.Name.{Name}
use Rattle.go_syntax.specs.declared.tree.Prefix.{Prefix}
use Rattle.go_grammar.specs.Limits.{has_room, one_deeper, operators, parts, last_parts, prefixes, expr_fits, maybe_fits, params_fit, fields_fit, members_fit}
use Rattle.go_grammar.specs.Frames as f
use Rattle.go_grammar.specs.Frames.{Ctx, new_ctx, header_ctx, inside, deeper, Base, Braces, Elems, StructPart, InterfacePart, Embedded, Params, Role, ParamsPart, Mode, Listed, Headed, InFor, InSwitch, InTag, Spot, IfPart, ForPart, Subject, SwitchPart, SelectPart, ValuesPart, TypesPart, FilePart, ExprFrame, PartFrame, TypeFrame, FieldFrame, SigFrame, StmtFrame, ControlFrame, SwitchFrame, DeclFrame, FileFrame, Frame, OfExpr, OfPart, OfType, OfField, OfSig, OfStmt, OfControl, OfSwitch, OfDecl, OfFile, Done, Stack, Flow, Goes, Over, Stuck, Deep, Long, Value, AnExpr, AChain, AGuard, ARanging, ASig, ABlock, AStmt, ADecl}
use Rattle.go_grammar.specs.Nodes.{is_op, is_word, is_name_token, is_string, is_semicolon, maybe, select}
use Rattle.go_grammar.proofs.FitHeld as k
use Rattle.go_grammar.proofs.FitHeld.{TailFits, GuardFits, Bound, LNone, LFile, LUnary, LExpr, LType, LSig, LBlock, LStmt, LElse, LDecl, Fit, KExpr, l_expr, BaseFits, ElemsFit, BracesFit, KPart, l_part, KType, l_type, FieldsFit, MembersFit, StructFits, InterfaceFits, KField, l_field, ParamsFit, RoleFits, KSig, l_sig, SpotFits, KStmt, l_stmt, IfBound, KControl, l_control, SubjectFits, ClausesFit, CommsFit, SwitchFits, SelectFits, KSwitch, l_switch, ValuesFit, TypesFit, KDecl, l_decl, ReceiverFits, KFile, l_file}
use Rattle.go_grammar.proofs.FitStack.{Goal, done, stuck, Begun, b_stuck, as_goal, one, two, above, an_expr, g_if, g_op, b_op, in_room, both, deep_is}
use Rattle.go_grammar.specs.Classes.{name_of, prefix_op, begins_type}
use Rattle.go_grammar.specs.ExprSteps.{if_room, if_op, then_expr, open_params, begin_type, begin_type_op, begin_type_word, begin_expr, operand, operand_op, operand_word, type_row, type_meets, type_sig_meets, Untagged, NamedOnes, EmbeddedOne, with_field, field_end, end_field, with_member, member_end, field_row, field_meets, method_meets, close_params, end_param, sig_row, sig_meets}
use Rattle.go_grammar.proofs.SigSound.{joined_more}

-- what an operand without parts is
pub bare : {e : t.Expr} → parts e ≡ 0 → last_parts e ≡ 0 → operators e ≡ 0 → prefixes e ≡ 0 → TailFits 0 e
bare p l o q = record { parts = omega (arith, p); last = omega (arith, l); ops = o; prefixes = q }

not_operand : {A : Type 0} → false ≡ true → A
not_operand q = absurd (cc)

-- the first token of a type
op_begun : (u : Token) (c : Ctx) (s : Stack) → Begun (LType false c.blocks c.depth) s (begin_type_op u c s)
op_begun u c s =
    b_op u o.LeftParen (in_room c (λ r. two (OfType (f.TypeParens u.place)) (OfType (f.AType (inside c))) (k.type_parens r) k.a_type))
    (b_op u o.Mul (in_room c (λ r. two (OfType (f.Star u.place)) (OfType (f.AType (inside c))) (k.star r) k.a_type))
    (b_op u o.LeftBracket (in_room c (λ r. one (OfType (f.TypeBracket c u.place)) (k.type_bracket r)))
    (b_op u o.Arrow (in_room c (λ r. one (OfType (f.Arrow (inside c) u.place)) (k.arrow r refl))) b_stuck)))

pub map_begun : {g : Bool} (u : Token) (c : Ctx) (s : Stack) → Begun (LType g c.blocks c.depth) s (begin_type_word u word.Map c s)
map_begun u c s = one (OfType (f.MapOpen c u.place)) k.map_open

pub chan_begun : {g : Bool} (u : Token) (c : Ctx) (s : Stack) → Begun (LType g c.blocks c.depth) s (begin_type_word u word.Chan c s)
chan_begun u c s = in_room c (λ r. one (OfType (f.ChanOpen (inside c) u.place)) (k.chan_open r refl))

pub struct_begun : {g : Bool} (u : Token) (c : Ctx) (s : Stack) → Begun (LType g c.blocks c.depth) s (begin_type_word u word.Struct c s)
struct_begun u c s = one (OfType (f.StructOpen c u.place)) k.struct_open

pub interface_begun : {g : Bool} (u : Token) (c : Ctx) (s : Stack) → Begun (LType g c.blocks c.depth) s (begin_type_word u word.Interface c s)
interface_begun u c s = one (OfType (f.InterfaceOpen c u.place)) k.interface_open

word_begun : (u : Token) (x : Keyword) (c : Ctx) (s : Stack) → Begun (LType false c.blocks c.depth) s (begin_type_word u x c s)
word_begun u word.Func c s = two (OfType (f.FuncOf u.place)) (OfSig (f.SigOpen c)) k.func_of k.sig_open
word_begun u word.Map c s = map_begun u c s
word_begun u word.Chan c s = chan_begun u c s
word_begun u word.Struct c s = struct_begun u c s
word_begun u word.Interface c s = interface_begun u c s
word_begun u _ c s = b_stuck

type_kind_begun : (j : TokenKind) (at : Place) (x : List ℕ) (c : Ctx) (s : Stack) → Begun (LType false c.blocks c.depth) s (begin_type (record { kind = j; place = at; text = x }) c s)
type_kind_begun (kind.Op y) at x c s = op_begun (record { kind = kind.Op y; place = at; text = x }) c s
type_kind_begun (kind.Word y) at x c s = word_begun (record { kind = kind.Word y; place = at; text = x }) y c s
type_kind_begun kind.Name at x c s = one (OfType (f.TypeName (t.NameExpr at x))) k.type_name
type_kind_begun _ at x c s = b_stuck

pub type_begun : (u : Token) (c : Ctx) (s : Stack) → Begun (LType false c.blocks c.depth) s (begin_type u c s)
type_begun u c s = type_kind_begun u.kind u.place u.text c s

-- at a depth that is equal
pub type_at : {d : ℕ} (u : Token) (c : Ctx) (s : Stack) → c.depth ≡ d → Begun (LType false c.blocks d) s (begin_type u c s)
type_at u c s q = subst (λ z. Begun (LType false c.blocks z) s (begin_type u c s)) q (type_begun u c s)

-- the first token of an expression
prefix_begun : {n : ℕ} (u : Token) (c : Ctx) (s : Stack) (p : Option Prefix) → n ≤ 500 → Begun (LUnary c.blocks c.depth n) s (operand_op u c s p)
prefix_begun u c s None l = b_stuck
prefix_begun u c s (Some p) l = in_room c (λ r. two (OfExpr (f.Before u.place p)) (OfExpr (f.Operand (deeper c))) (k.before l r) (k.operand (omega arith)))

operand_op_begun : {n : ℕ} (u : Token) (c : Ctx) (s : Stack) → n ≤ 500 → Begun (LUnary c.blocks c.depth n) s (if_op o.LeftParen u (if_room c (then_expr (inside c) (OfExpr (f.InParens c u.place) ∷ s))) (if_op o.LeftBracket u (if_room c (Goes (OfType (f.TypeBracket c u.place) ∷ OfExpr (f.TypeOperand c) ∷ s))) (operand_op u c s (prefix_op u.kind))))
operand_op_begun u c s l =
    b_op u o.LeftParen (in_room c (λ r. an_expr (OfExpr (f.InParens c u.place)) (inside c) (k.in_parens l r) refl))
    (b_op u o.LeftBracket (in_room c (λ r. two (OfExpr (f.TypeOperand c)) (OfType (f.TypeBracket c u.place)) (k.type_operand l) (k.type_bracket r))) (prefix_begun u c s (prefix_op u.kind) l))

operand_word_begun : {n : ℕ} (u : Token) (x : Keyword) (c : Ctx) (s : Stack) → n ≤ 500 → Begun (LUnary c.blocks c.depth n) s (operand_word u x c s)
operand_word_begun u word.Func c s l = two (OfExpr (f.AtFunc c u.place)) (OfSig (f.SigOpen c)) (k.at_func l) k.sig_open
operand_word_begun u word.Map c s l = above (OfExpr (f.TypeOperand c)) (k.type_operand l) (map_begun u c (OfExpr (f.TypeOperand c) ∷ s))
operand_word_begun u word.Chan c s l = above (OfExpr (f.TypeOperand c)) (k.type_operand l) (chan_begun u c (OfExpr (f.TypeOperand c) ∷ s))
operand_word_begun u word.Struct c s l = above (OfExpr (f.TypeOperand c)) (k.type_operand l) (struct_begun u c (OfExpr (f.TypeOperand c) ∷ s))
operand_word_begun u word.Interface c s l = above (OfExpr (f.TypeOperand c)) (k.type_operand l) (interface_begun u c (OfExpr (f.TypeOperand c) ∷ s))
operand_word_begun u _ c s l = b_stuck

operand_kind_begun : {n : ℕ} (j : TokenKind) (at : Place) (x : List ℕ) (c : Ctx) (s : Stack) → n ≤ 500 → Begun (LUnary c.blocks c.depth n) s (operand (record { kind = j; place = at; text = x }) c s)
operand_kind_begun (kind.Op y) at x c s l = operand_op_begun (record { kind = kind.Op y; place = at; text = x }) c s l
operand_kind_begun (kind.Word y) at x c s l = operand_word_begun (record { kind = kind.Word y; place = at; text = x }) y c s l
operand_kind_begun kind.Name at x c s l = one (OfExpr (f.Tail c 0 (t.NameExpr at x))) (k.tail l (omega arith) refl (bare refl refl refl refl))
operand_kind_begun kind.Int at x c s l = one (OfExpr (f.Tail c 0 (t.IntExpr at x))) (k.tail l (omega arith) refl (bare refl refl refl refl))
operand_kind_begun kind.Rune at x c s l = one (OfExpr (f.Tail c 0 (t.RuneExpr at x))) (k.tail l (omega arith) refl (bare refl refl refl refl))
operand_kind_begun kind.Str at x c s l = one (OfExpr (f.Tail c 0 (t.StrExpr at x))) (k.tail l (omega arith) refl (bare refl refl refl refl))
operand_kind_begun _ at x c s l = b_stuck

pub operand_begun : {n : ℕ} (u : Token) (c : Ctx) (s : Stack) → n ≤ 500 → Begun (LUnary c.blocks c.depth n) s (operand u c s)
operand_begun u c s l = operand_kind_begun u.kind u.place u.text c s l

pub expr_begun : (u : Token) (c : Ctx) (s : Stack) → Begun (LExpr c.blocks c.depth) s (begin_expr u c s)
expr_begun u c s = above (OfExpr (f.Chain c)) k.chain (operand_begun u c (OfExpr (f.Chain c) ∷ s) (omega arith))

pub expr_at : {d : ℕ} (u : Token) (c : Ctx) (s : Stack) → c.depth ≡ d → Begun (LExpr c.blocks d) s (begin_expr u c s)
expr_at u c s q = subst (λ z. Begun (LExpr c.blocks z) s (begin_expr u c s)) q (expr_begun u c s)

-- types
pub type_row_fits : {x : TypeFrame} {w : Bound} (u : Token) (s : Stack) → KType x w → Goal w s (type_row u x s)
type_row_fits u s (k.a_type {c}) = as_goal (type_begun u c s)
type_row_fits u s (k.type_name {at} {x}) = g_op u o.Dot (as_goal (one (OfType (f.TypeDot (t.NameExpr at x))) k.type_dot)) (done (refl, not_operand))
type_row_fits u s (k.type_dot {at} {x}) = g_if (is_name_token u.kind) (λ q. as_goal (one (Done (AnExpr (t.SelectExpr at (t.NameExpr at x) (name_of u)))) (refl, not_operand))) (λ q. stuck)
type_row_fits u s (k.type_bracket {c} {at} r) =
    g_op u o.RightBracket (as_goal (two (OfType (f.SliceOf at)) (OfType (f.AType (inside c))) (k.slice_of r) k.a_type))
    (g_op u o.Ellipsis (as_goal (one (OfType (f.Dots c at)) (k.dots r))) (as_goal (above (OfType (f.Len c at)) (k.len r) (expr_begun u (inside c) (OfType (f.Len c at) ∷ s)))))
type_row_fits u s (k.dots {c} {at} r) = g_op u o.RightBracket (as_goal (two (OfType (f.ArrayOf at None)) (OfType (f.AType (inside c))) (k.array_of r refl) k.a_type)) stuck
type_row_fits u s (k.map_open {c} {at}) = g_op u o.LeftBracket (as_goal (in_room c (λ r. two (OfType (f.Key c at)) (OfType (f.AType (inside c))) (k.key r) k.a_type))) stuck
type_row_fits u s (k.chan_open {c} {at} {d = d} r q) =
    g_op u o.Arrow (as_goal (two (OfType (f.SendOf at)) (OfType (f.AType c)) (k.send_of r) (subst (λ z. KType (f.AType c) (LType false c.blocks z)) q k.a_type)))
    (as_goal (above (OfType (f.BothOf at)) (k.both_of r) (type_at u c (OfType (f.BothOf at) ∷ s) q)))
type_row_fits u s (k.arrow {c} {at} {d} r q) =
    g_if (is_word word.Chan u) (λ z. as_goal (in_room c (λ r'. two (OfType (f.ReceiveOf at)) (OfType (f.AType (inside c))) (k.receive_of r (subst (λ z. has_room z ≡ true) q r')) (subst (λ z. KType (f.AType (inside c)) (LType false c.blocks (one_deeper z))) q k.a_type)))) (λ z. stuck)
type_row_fits u s (k.struct_open {c} {at}) = g_op u o.LeftBrace (as_goal (in_room c (λ r. one (OfField (f.InStruct (record { ctx = inside c; place = at; fields = [] }))) (k.in_struct (record { room = r; depth = refl; fields = record { fit = λ z q. q } }))))) stuck
type_row_fits u s (k.interface_open {c} {at}) = g_op u o.LeftBrace (as_goal (in_room c (λ r. one (OfField (f.InInterface (record { ctx = inside c; place = at; members = [] }))) (k.in_interface (record { room = r; depth = refl; members = record { fit = λ z q. q } }))))) stuck
type_row_fits u s _ = stuck

-- at one more
pub expr_in_room : (b d : ℕ) (e : t.Expr) → has_room d ≡ true → expr_fits b (one_deeper d) e ≡ true → (has_room d && expr_fits b (d + 1) e) ≡ true
expr_in_room b d e r p = both r (subst (λ z. expr_fits b z e ≡ true) (deep_is d r) p)

pub one_more : (b d : ℕ) (e : t.Expr) → has_room d ≡ true → expr_fits b (one_deeper d) e ≡ true → expr_fits b (d + 1) e ≡ true
one_more b d e r p = subst (λ z. expr_fits b z e ≡ true) (deep_is d r) p

pub maybe_more : (b d : ℕ) (e : t.MaybeExpr) → has_room d ≡ true → maybe_fits b (one_deeper d) e ≡ true → maybe_fits b (d + 1) e ≡ true
maybe_more b d e r p = subst (λ z. maybe_fits b z e ≡ true) (deep_is d r) p

two_more : (b d : ℕ) (e : t.Expr) → has_room d ≡ true → has_room (one_deeper d) ≡ true → expr_fits b (one_deeper (one_deeper d)) e ≡ true → (has_room (d + 1) && expr_fits b (d + 2) e) ≡ true
two_more b d e r r' p =
    let q : one_deeper (one_deeper d) ≡ d + 2 = deep_is (one_deeper d) r' ∙ (ap (λ z. z + 1) (deep_is d r) ∙ (let a : d + 1 + 1 ≡ d + 2 = omega arith in a)) in
    both (subst (λ z. has_room z ≡ true) (deep_is d r) r') (subst (λ z. expr_fits b z e ≡ true) q p)

pub type_meets_fits : {x : TypeFrame} {w : Bound} (u : Token) (e : t.Expr) (s : Stack) → KType x w → Fit (l_type x w) (AnExpr e) → Goal w s (type_meets u x e s)
type_meets_fits u e s (k.type_parens {at} {b} {d} r) i = g_op u o.RightParen (as_goal (one (Done (AnExpr (t.ParenExpr at e))) (expr_in_room b d e r (i.0), not_operand))) stuck
type_meets_fits u e s (k.star {b = b} {d} r) i = done (expr_in_room b d e r (i.0), not_operand)
type_meets_fits u e s (k.len {c} {at} r) i = g_op u o.RightBracket (as_goal (two (OfType (f.ArrayOf at (Some e))) (OfType (f.AType (inside c))) (k.array_of r i) k.a_type)) stuck
type_meets_fits u e s (k.slice_of {b = b} {d} r) i = done (expr_in_room b d e r (i.0), λ q. bare refl refl refl refl)
type_meets_fits u e s (k.array_of {b = b} {d} {n} r m) i = done (both (both r (maybe_more b d (maybe n) r m)) (one_more b d e r (i.0)), λ q. bare refl refl refl refl)
type_meets_fits u e s (k.key {c} {at} r) i = g_op u o.RightBracket (as_goal (two (OfType (f.MapOf at e)) (OfType (f.AType (inside c))) (k.map_of r (i.0)) k.a_type)) stuck
type_meets_fits u e s (k.map_of {b = b} {d} {k = y} r m) i = done (both (both r (one_more b d y r m)) (one_more b d e r (i.0)), λ q. bare refl refl refl refl)
type_meets_fits u e s (k.both_of {b = b} {d} r) i = done (expr_in_room b d e r (i.0), λ q. bare refl refl refl refl)
type_meets_fits u e s (k.send_of {b = b} {d} r) i = done (expr_in_room b d e r (i.0), λ q. bare refl refl refl refl)
type_meets_fits u e s (k.receive_of {b = b} {d} r r') i = done (two_more b d e r r' (i.0), not_operand)
type_meets_fits u e s _ i = stuck

pub type_sig_fits : {x : TypeFrame} {w : Bound} (sig : t.Sig) (s : Stack) → KType x w → Fit (l_type x w) (ASig sig) → Goal w s (type_sig_meets x sig s)
type_sig_fits sig s k.func_of i = done (i, not_operand)
type_sig_fits sig s _ i = stuck

-- signatures
pub list_begun : {w : Bound} {x : Role} (u : Token) (c : Ctx) (s : Stack) → RoleFits x c.blocks c.depth w → Begun w s (open_params u c x s)
list_begun {x = x} u c s i = b_op u o.LeftParen (in_room c (λ r. one (OfSig (f.InParams (record { ctx = c; place = u.place; items = []; role = x }))) (k.in_params i r (record { fit = λ z q. q })))) b_stuck

pub params_all : {b : ℕ} {xs : Params} (d : ℕ) → has_room d ≡ true → ParamsFit b (one_deeper d) xs → params_fit b (d + 1) (joined xs t.NoParams) ≡ true
params_all {b} {xs} d r p = subst (λ z. params_fit b z (joined xs t.NoParams) ≡ true) (deep_is d r) (p.fit t.NoParams refl)

close_fits : {w : Bound} {x : Role} {b d : ℕ} (c : Ctx) (at : Place) (xs : Params) (s : Stack) → RoleFits x b d w → b ≡ c.blocks → d ≡ c.depth → has_room c.depth ≡ true → ParamsFit c.blocks (one_deeper c.depth) xs → Goal w s (close_params (record { ctx = c; place = at; items = xs; role = x }) x s)
close_fits {d = d} c at xs s k.params_role p q r m =
    as_goal (one (OfSig (f.AfterParams c at xs)) (subst (λ z. KSig (f.AfterParams c at xs) (LSig z d)) (sym p) (subst (λ z. KSig (f.AfterParams c at xs) (LSig c.blocks z)) (sym q) (k.after_params r m))))
close_fits {b = b} {d} c at xs s (k.results_role {at = at'} {xs = ys} r l) p q r' m =
    as_goal (one (Done (ASig (t.SigOf at' (joined ys t.NoParams) (t.ManyResults at (joined xs t.NoParams)))))
    (both (both r (params_all d r l)) (params_all d r (subst (λ z. ParamsFit z (one_deeper d) xs) (sym p) (subst (λ z. ParamsFit c.blocks (one_deeper z) xs) (sym q) m)))))
close_fits c at xs s (k.receiver_role {at = at'}) p q r m =
    as_goal (one (OfFile (f.FuncName at' at xs)) (k.func_name (subst (λ z. ParamsFit z 1 xs) (sym p) (subst (λ z. ParamsFit c.blocks (one_deeper z) xs) (sym q) m))))

param_more : {b d : ℕ} {xs : Params} (e : t.Expr) (at : Place) (y : Option Name) (variadic : Bool) → ParamsFit b d xs → expr_fits b d e ≡ true → ParamsFit b d (xs ++ (λ rest. t.MoreParams at y variadic e rest) ∷ [])
param_more {b} {d} {xs} e at y variadic p i = record { fit = λ r q. subst (λ z. params_fit b d z ≡ true) (sym (joined_more xs (λ rest. t.MoreParams at y variadic e rest) r)) (p.fit (t.MoreParams at y variadic e r) (both i q)) }

param_fits : {w : Bound} (e : t.Expr) (x : ParamsPart) (u : Token) (at : Place) (y : Option Name) (variadic : Bool) (s : Stack) → RoleFits x.role x.ctx.blocks x.ctx.depth w → has_room x.ctx.depth ≡ true → ParamsFit x.ctx.blocks (one_deeper x.ctx.depth) x.items → expr_fits x.ctx.blocks (one_deeper x.ctx.depth) e ≡ true → Goal w s (end_param u x at y variadic e s)
param_fits e x u at y variadic s l r m i =
    let ys : Params = x.items ++ (λ rest. t.MoreParams at y variadic e rest) ∷ [] in
    let p = param_more {xs = x.items} e at y variadic m i in
    g_op u o.Comma (as_goal (one (OfSig (f.InParams (record x { items = ys }))) (k.in_params l r p))) (g_op u o.RightParen (close_fits x.ctx x.place ys s l refl refl r p) stuck)

pub sig_row_fits : {x : SigFrame} {w : Bound} (u : Token) (s : Stack) → KSig x w → Goal w s (sig_row u x s)
sig_row_fits u s (k.sig_open {c}) = as_goal (list_begun u c s k.params_role)
sig_row_fits u s (k.in_params {x} l r m) =
    g_op u o.RightParen (close_fits x.ctx x.place x.items s l refl refl r m)
    (g_if (is_name_token u.kind) (λ q. as_goal (one (OfSig (f.ParamName x (name_of u))) (k.param_name l r m))) (λ q.
    g_op u o.Ellipsis (as_goal (two (OfSig (f.Param x u.place None true)) (OfType (f.AType (inside x.ctx))) (k.param l r m) k.a_type))
    (as_goal (above (OfSig (f.Param x u.place None false)) (k.param l r m) (type_begun u (inside x.ctx) (OfSig (f.Param x u.place None false) ∷ s))))))
sig_row_fits u s (k.param_name {x} {y} l r m) =
    g_if (is_op o.Comma u || is_op o.RightParen u) (λ q. param_fits (t.NameExpr y.place y.text) x u y.place None false s l r m refl) (λ q.
    g_op u o.Dot (as_goal (two (OfSig (f.Param x y.place None false)) (OfType (f.TypeDot (t.NameExpr y.place y.text))) (k.param l r m) k.type_dot))
    (g_op u o.Ellipsis (as_goal (two (OfSig (f.Param x y.place (Some y) true)) (OfType (f.AType (inside x.ctx))) (k.param l r m) k.a_type))
    (as_goal (above (OfSig (f.Param x y.place (Some y) false)) (k.param l r m) (type_begun u (inside x.ctx) (OfSig (f.Param x y.place (Some y) false) ∷ s))))))
sig_row_fits u s (k.after_params {c} {at} {xs} r m) =
    g_op u o.LeftParen (as_goal (list_begun u c s (k.results_role r m)))
    (g_if (begins_type u.kind) (λ q. as_goal (above (OfSig (f.Result at xs)) (k.result r m) (type_begun u (inside c) (OfSig (f.Result at xs) ∷ s)))) (λ q. done (both (both r (params_all c.depth r m)) refl)))
sig_row_fits u s _ = stuck

pub sig_meets_fits : {x : SigFrame} {w : Bound} (u : Token) (e : t.Expr) (s : Stack) → KSig x w → Fit (l_sig x w) (AnExpr e) → Goal w s (sig_meets u x e s)
sig_meets_fits u e s (k.param {x} {at} {y} {variadic} l r m) i = param_fits e x u at y variadic s l r m (i.0)
sig_meets_fits u e s (k.result {b = b} {d} r m) i = done (both (both r (params_all d r m)) (one_more b d e r (i.0)))
sig_meets_fits u e s _ i = stuck

-- struct types
field_fits : {b d : ℕ} {xs : List (t.Fields → t.Fields)} (node : t.Fields → t.Fields) → FieldsFit b d xs → ((r : t.Fields) → fields_fit b d r ≡ true → fields_fit b d (node r) ≡ true) → FieldsFit b d (xs ++ node ∷ [])
field_fits {b} {d} {xs} node p i = record { fit = λ r q. subst (λ z. fields_fit b d z ≡ true) (sym (joined_more xs node r)) (p.fit (node r) (i r q)) }

-- a field without its tag
data UntaggedFits : StructPart → Untagged → Type 0 where
  named_ones : {x : StructPart} {ys : List Name} {e : t.Expr} → expr_fits x.ctx.blocks x.ctx.depth e ≡ true → UntaggedFits x (NamedOnes ys e)
  embedded_one : {x : StructPart} {y : Embedded} → UntaggedFits x (EmbeddedOne y)

-- a frame's class, with a field more
data StructIs : StructPart → Bound → Type 0 where
  struct_is : {x : StructPart} {g : Bool} {d : ℕ} → StructFits x g d → StructIs x (LType g x.ctx.blocks d)

with_fits : {w : Bound} (x : StructPart) (y : Untagged) (tag : Option (List ℕ)) → StructIs x w → UntaggedFits x y → StructIs (with_field x y tag) w
with_fits x (NamedOnes ys e) tag (struct_is l) (named_ones i) = struct_is (record { room = l.room; depth = l.depth; fields = field_fits (λ rest. t.NamedFields ys e tag rest) l.fields (λ r q. both i q) })
with_fits x (EmbeddedOne y) tag (struct_is l) embedded_one = struct_is (record { room = l.room; depth = l.depth; fields = field_fits (λ rest. t.EmbeddedField y.place y.star y.ty tag rest) l.fields (λ r q. q) })

struct_done : {x : StructPart} {w : Bound} → StructIs x w → Fit w (AnExpr (t.StructType x.place (joined x.fields t.NoFields)))
struct_done {x} (struct_is {d = d} l) = (both l.room (subst (λ z. fields_fit x.ctx.blocks z (joined x.fields t.NoFields) ≡ true) (l.depth ∙ deep_is d l.room) (let p = l.fields in p.fit t.NoFields refl)), λ q. bare refl refl refl refl)

kept_struct : {x : StructPart} {w : Bound} → StructIs x w → KField (f.InStruct x) w
kept_struct (struct_is l) = k.in_struct l

kept_end : {x : StructPart} {w : Bound} → StructIs x w → KField (f.FieldEnd x) w
kept_end (struct_is l) = k.field_end l

field_end_fits : {w : Bound} (x : StructPart) (u : Token) (s : Stack) → StructIs x w → Goal w s (field_end u x s)
field_end_fits x u s l = g_if (is_semicolon u.kind) (λ q. as_goal (one (OfField (f.InStruct x)) (kept_struct l))) (λ q. g_op u o.RightBrace (as_goal (one (Done (AnExpr (t.StructType x.place (joined x.fields t.NoFields)))) (struct_done l))) stuck)

end_field_fits : {w : Bound} (x : StructPart) (y : Untagged) (u : Token) (s : Stack) → StructIs x w → UntaggedFits x y → Goal w s (end_field u x y s)
end_field_fits x y u s l i = g_if (is_string u.kind) (λ q. as_goal (one (OfField (f.FieldEnd (with_field x y (Some u.text)))) (kept_end (with_fits x y (Some u.text) l i)))) (λ q. field_end_fits (with_field x y None) u s (with_fits x y None l i))

-- interface types
data InterfaceIs : InterfacePart → Bound → Type 0 where
  interface_is : {x : InterfacePart} {g : Bool} {d : ℕ} → InterfaceFits x g d → InterfaceIs x (LType g x.ctx.blocks d)

member_fits : {w : Bound} (x : InterfacePart) (node : t.Members → t.Members) → InterfaceIs x w → ((r : t.Members) → members_fit x.ctx.blocks x.ctx.depth r ≡ true → members_fit x.ctx.blocks x.ctx.depth (node r) ≡ true) → InterfaceIs (with_member x node) w
member_fits x node (interface_is l) i = interface_is (record { room = l.room; depth = l.depth; members = record { fit = λ r q. subst (λ z. members_fit x.ctx.blocks x.ctx.depth z ≡ true) (sym (joined_more x.members node r)) (let p = l.members in p.fit (node r) (i r q)) } })

kept_interface : {x : InterfacePart} {w : Bound} → InterfaceIs x w → KField (f.InInterface x) w
kept_interface (interface_is l) = k.in_interface l

kept_member : {x : InterfacePart} {w : Bound} → InterfaceIs x w → KField (f.MemberEnd x) w
kept_member (interface_is l) = k.member_end l

interface_done : {x : InterfacePart} {w : Bound} → InterfaceIs x w → Fit w (AnExpr (t.InterfaceType x.place (joined x.members t.NoMembers)))
interface_done {x} (interface_is {d = d} l) = (both l.room (subst (λ z. members_fit x.ctx.blocks z (joined x.members t.NoMembers) ≡ true) (l.depth ∙ deep_is d l.room) (let p = l.members in p.fit t.NoMembers refl)), λ q. bare refl refl refl refl)

member_end_fits : {w : Bound} (x : InterfacePart) (u : Token) (s : Stack) → InterfaceIs x w → Goal w s (member_end u x s)
member_end_fits x u s l = g_if (is_semicolon u.kind) (λ q. as_goal (one (OfField (f.InInterface x)) (kept_interface l))) (λ q. g_op u o.RightBrace (as_goal (one (Done (AnExpr (t.InterfaceType x.place (joined x.members t.NoMembers)))) (interface_done l))) stuck)

pub field_row_fits : {x : FieldFrame} {w : Bound} (u : Token) (s : Stack) → KField x w → Goal w s (field_row u x s)
field_row_fits u s (k.in_struct {x} l) =
    g_op u o.RightBrace (field_end_fits x u s (struct_is l))
    (g_if (is_name_token u.kind) (λ q. as_goal (one (OfField (f.FieldName x (name_of u))) (k.field_name l))) (λ q.
    g_op u o.Mul (as_goal (one (OfField (f.FieldStar x u.place)) (k.field_star l))) stuck))
field_row_fits u s (k.field_name {x} {y} l) =
    g_op u o.Comma (as_goal (one (OfField (f.NextField x (y ∷ []))) (k.next_field l)))
    (g_op u o.Dot (as_goal (one (OfField (f.FieldDot x (record { place = y.place; star = false; ty = t.NameExpr y.place y.text }))) (k.field_dot l)))
    (g_if (is_string u.kind || is_semicolon u.kind || is_op o.RightBrace u) (λ q. end_field_fits x (EmbeddedOne (record { place = y.place; star = false; ty = t.NameExpr y.place y.text })) u s (struct_is l) embedded_one) (λ q.
    as_goal (above (OfField (f.Named x (y ∷ []))) (k.named l) (type_begun u x.ctx (OfField (f.Named x (y ∷ [])) ∷ s))))))
field_row_fits u s (k.next_field {x} {ys} l) = g_if (is_name_token u.kind) (λ q. as_goal (one (OfField (f.FieldNames x (ys ++ name_of u ∷ []))) (k.field_names l))) (λ q. stuck)
field_row_fits u s (k.field_names {x} {ys} l) = g_op u o.Comma (as_goal (one (OfField (f.NextField x ys)) (k.next_field l))) (as_goal (above (OfField (f.Named x ys)) (k.named l) (type_begun u x.ctx (OfField (f.Named x ys) ∷ s))))
field_row_fits u s (k.field_star {x} {at} l) = g_if (is_name_token u.kind) (λ q. as_goal (one (OfField (f.EmbeddedName x (record { place = at; star = true; ty = t.NameExpr u.place u.text }))) (k.embedded_name l))) (λ q. stuck)
field_row_fits u s (k.embedded_name {x} {y} l) = g_op u o.Dot (as_goal (one (OfField (f.FieldDot x y)) (k.field_dot l))) (end_field_fits x (EmbeddedOne y) u s (struct_is l) embedded_one)
field_row_fits u s (k.field_dot {x} {y} l) = g_if (is_name_token u.kind) (λ q. as_goal (one (OfField (f.EmbeddedEnd x (record y { ty = select y.ty (name_of u) }))) (k.embedded_end l))) (λ q. stuck)
field_row_fits u s (k.embedded_end {x} {y} l) = end_field_fits x (EmbeddedOne y) u s (struct_is l) embedded_one
field_row_fits u s (k.field_end {x} l) = field_end_fits x u s (struct_is l)
field_row_fits u s (k.in_interface {x} l) = g_op u o.RightBrace (member_end_fits x u s (interface_is l)) (g_if (is_name_token u.kind) (λ q. as_goal (one (OfField (f.MemberName x (name_of u))) (k.member_name l))) (λ q. stuck))
field_row_fits u s (k.member_name {x} {y} l) =
    g_op u o.LeftParen (as_goal (above (OfField (f.Method x y)) (k.method l) (list_begun u x.ctx (OfField (f.Method x y) ∷ s) k.params_role)))
    (g_op u o.Dot (as_goal (one (OfField (f.MemberDot x (t.NameExpr y.place y.text))) (k.member_dot l)))
    (member_end_fits (with_member x (λ rest. t.EmbeddedMember (t.NameExpr y.place y.text) rest)) u s (member_fits x (λ rest. t.EmbeddedMember (t.NameExpr y.place y.text) rest) (interface_is l) (λ r q. q))))
field_row_fits u s (k.member_dot {x} {e} l) = g_if (is_name_token u.kind) (λ q. as_goal (one (OfField (f.MemberEnd (with_member x (λ rest. t.EmbeddedMember (select e (name_of u)) rest)))) (kept_member (member_fits x (λ rest. t.EmbeddedMember (select e (name_of u)) rest) (interface_is l) (λ r q. q))))) (λ q. stuck)
field_row_fits u s (k.member_end {x} l) = member_end_fits x u s (interface_is l)
field_row_fits u s _ = stuck

pub field_meets_fits : {x : FieldFrame} {w : Bound} (u : Token) (e : t.Expr) (s : Stack) → KField x w → Fit (l_field x) (AnExpr e) → Goal w s (field_meets u x e s)
field_meets_fits u e s (k.named {x} {ys} l) i = end_field_fits x (NamedOnes ys e) u s (struct_is l) (named_ones (i.0))
field_meets_fits u e s _ i = stuck

pub method_fits : {x : FieldFrame} {w : Bound} (u : Token) (sig : t.Sig) (s : Stack) → KField x w → Fit (l_field x) (ASig sig) → Goal w s (method_meets u x sig s)
method_fits u sig s (k.method {x} {y} l) i = member_end_fits (with_member x (λ rest. t.MethodMember y sig rest)) u s (member_fits x (λ rest. t.MethodMember y sig rest) (interface_is l) (λ r q. both i q))
method_fits u sig s _ i = stuck

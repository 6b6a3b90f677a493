-- Limits: the invariant of the machine's run.
use Rattle.std.proofs.Common.{◌≡◌, ◌≤◌, ◌<◌, ◌+◌, ◌&&◌, Bool, true, false, ℕ, [], ◌∷◌, refl, sym, subst, arith, nat_lt, if◌then◌else◌}
use Rattle.std.proofs.lemmas.Bool.{ltb-true}
use Rattle.std.proofs.lemmas.Bool.Decides.{nat_tests}
use Rattle.gj_base.specs.declared.place.Place.{Place}
use Rattle.go_syntax.specs.Token.{Token}
use Rattle.go_syntax.specs.declared.operator.Operator.{Operator}
use Rattle.go_grammar.specs.Limits.{has_room, one_deeper, one_longer, is_short}
use Rattle.go_grammar.specs.Frames as f
use Rattle.go_grammar.specs.Frames.{Ctx, new_ctx, header_ctx, inside, deeper, Base, Braces, Elems, StructPart, InterfacePart, Embedded, Params, Role, ParamsPart, Mode, Listed, Headed, InFor, InSwitch, InTag, Spot, IfPart, ForPart, Subject, SwitchPart, SelectPart, ValuesPart, TypesPart, FilePart, ExprFrame, PartFrame, TypeFrame, FieldFrame, SigFrame, StmtFrame, ControlFrame, SwitchFrame, DeclFrame, FileFrame, Frame, OfExpr, OfPart, OfType, OfField, OfSig, OfStmt, OfControl, OfSwitch, OfDecl, OfFile, Done, Stack, Flow, Goes, Over, Stuck, Deep, Long, Value, AnExpr, AChain, AGuard, ARanging, ASig, ABlock, AStmt, ADecl}
use Rattle.go_grammar.specs.Nodes.{is_op}
use Rattle.go_grammar.specs.ExprSteps.{if_room, if_short, if_op, then_expr}
use Rattle.go_grammar.proofs.TokenLemmas.{by_test}
use Rattle.go_grammar.proofs.FitHeld as k
use Rattle.go_grammar.proofs.FitHeld.{Bound, LNone, LFile, LUnary, LExpr, Fit, KExpr, l_expr, KPart, l_part, KType, l_type, KField, l_field, KSig, l_sig, KStmt, l_stmt, KControl, l_control, KSwitch, l_switch, KDecl, l_decl, KFile, l_file}

abbrev pub Kept : Frame → Bound → Type 0
Kept (OfExpr x) w = KExpr x w
Kept (OfPart x) w = KPart x w
Kept (OfType x) w = KType x w
Kept (OfField x) w = KField x w
Kept (OfSig x) w = KSig x w
Kept (OfStmt x) w = KStmt x w
Kept (OfControl x) w = KControl x w
Kept (OfSwitch x) w = KSwitch x w
Kept (OfDecl x) w = KDecl x w
Kept (OfFile x) w = KFile x w
Kept (Done v) w = Fit w v

abbrev pub bound : Frame → Bound → Bound
bound (OfExpr x) w = l_expr x w
bound (OfPart x) w = l_part x
bound (OfType x) w = l_type x w
bound (OfField x) w = l_field x
bound (OfSig x) w = l_sig x w
bound (OfStmt x) w = l_stmt x w
bound (OfControl x) w = l_control x
bound (OfSwitch x) w = l_switch x
bound (OfDecl x) w = l_decl x
bound (OfFile x) w = l_file x
bound (Done v) w = LNone

pub data Keeps : Stack → Bound → Type 0 where
  nothing : Keeps [] LFile
  put : {s : Stack} {w : Bound} (x : Frame) → Keeps s w → Kept x w → Keeps (x ∷ s) (bound x w)

pub data Fits : Stack → Type 0 where
  all : {s : Stack} {w : Bound} → Keeps s w → Fits s

-- a step above the stack s, which waits for w
pub data Goal : Bound → Stack → Flow → Type 0 where
  goal : {w : Bound} {s s' : Stack} → (Keeps s w → Fits s') → Goal w s (Goes s')
  done : {w : Bound} {s s' : Stack} {v : Value} → Fit w v → Goal w s (Over v s')
  stuck : {w : Bound} {s : Stack} → Goal w s Stuck
  deep : {w : Bound} {s : Stack} → Goal w s Deep
  long : {w : Bound} {s : Stack} {at : Place} → Goal w s (Long at)

-- the same, without an end
pub data Begun : Bound → Stack → Flow → Type 0 where
  begun : {w : Bound} {s s' : Stack} → (Keeps s w → Fits s') → Begun w s (Goes s')
  b_stuck : {w : Bound} {s : Stack} → Begun w s Stuck
  b_deep : {w : Bound} {s : Stack} → Begun w s Deep
  b_long : {w : Bound} {s : Stack} {at : Place} → Begun w s (Long at)

pub as_goal : {w : Bound} {s : Stack} {x : Flow} → Begun w s x → Goal w s x
as_goal (begun k) = goal k
as_goal b_stuck = stuck
as_goal b_deep = deep
as_goal b_long = long

pub one : {w : Bound} {s : Stack} (x : Frame) → Kept x w → Begun w s (Goes (x ∷ s))
one x k = begun (λ b. all (put x b k))

pub two : {w : Bound} {s : Stack} (x y : Frame) → Kept x w → Kept y (bound x w) → Begun w s (Goes (y ∷ x ∷ s))
two x y k l = begun (λ b. all (put y (put x b k) l))

pub above : {w : Bound} {s : Stack} {z : Flow} (x : Frame) → Kept x w → Begun (bound x w) (x ∷ s) z → Begun w s z
above x k (begun l) = begun (λ b. l (put x b k))
above x k b_stuck = b_stuck
above x k b_deep = b_deep
above x k b_long = b_long

-- an expression comes above a frame
pub an_expr : {w : Bound} {s : Stack} (x : Frame) (c : Ctx) → Kept x w → bound x w ≡ LExpr c.blocks c.depth → Begun w s (then_expr c (x ∷ s))
an_expr {w} x c kx q = begun (λ b. all (put (OfExpr (f.Operand c)) (put (OfExpr (f.Chain c)) (put x b kx) (subst (λ z. KExpr (f.Chain c) z) (sym q) k.chain)) (k.operand (omega arith))))

pub g_if : {w : Bound} {s : Stack} {x y : Flow} (b : Bool) → (b ≡ true → Goal w s x) → (b ≡ false → Goal w s y) → Goal w s (if b then x else y)
g_if {w} {s} b m n = by_test (Goal w s) b m n

pub b_if : {w : Bound} {s : Stack} {x y : Flow} (b : Bool) → (b ≡ true → Begun w s x) → (b ≡ false → Begun w s y) → Begun w s (if b then x else y)
b_if {w} {s} b m n = by_test (Begun w s) b m n

pub g_op : {w : Bound} {s : Stack} {x y : Flow} (u : Token) (o : Operator) → Goal w s x → Goal w s y → Goal w s (if_op o u x y)
g_op u o m n = g_if (is_op o u) (λ q. m) (λ q. n)

pub b_op : {w : Bound} {s : Stack} {x y : Flow} (u : Token) (o : Operator) → Begun w s x → Begun w s y → Begun w s (if_op o u x y)
b_op u o m n = b_if (is_op o u) (λ q. m) (λ q. n)

pub in_room : {w : Bound} {s : Stack} {x : Flow} (c : Ctx) → (has_room c.depth ≡ true → Begun w s x) → Begun w s (if_room c x)
in_room c h = b_if (has_room c.depth) h (λ q. b_deep)

pub in_short : {w : Bound} {s : Stack} {x : Flow} (n : ℕ) (at : Place) → (n < 500 → Begun w s x) → Begun w s (if_short n at x)
in_short n at h = b_if (nat_lt n 500) (λ q. h (ltb-true n 500 q)) (λ q. b_long)

-- facts
pub both : {a b : Bool} → a ≡ true → b ≡ true → (a && b) ≡ true
both {a} {b} p q = subst (λ z. (z && b) ≡ true) (sym p) q

deeper_is : (b : Bool) (d : ℕ) → b ≡ true → (if b then d + 1 else d) ≡ d + 1
deeper_is true d q = refl
deeper_is false d q = absurd (cc)

pub deep_is : (d : ℕ) → has_room d ≡ true → one_deeper d ≡ d + 1
deep_is d q = deeper_is (has_room d) d q

longer_is : (n : ℕ) → n < 500 → nat_lt n 500 ≡ true
longer_is n l = grind (arith, nat_tests)

pub long_is : (n : ℕ) → n < 500 → one_longer n ≡ n + 1
long_is n l = deeper_is (nat_lt n 500) n (longer_is n l)

pub short_is : (n : ℕ) → n ≤ 500 → is_short n ≡ true
short_is n l = grind (arith, nat_tests)

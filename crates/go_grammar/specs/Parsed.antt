-- A file read from left to right: the tree of its tokens, or the fault at the first token that the
-- frames don't take.
use Rattle.std.specs.Prelude.{ℕ, Bool, List, [], ◌∷◌, Option, codes}
use Rattle.gj_base.specs.declared.place.Place.{Place}
use Rattle.go_syntax.specs.Tree as t
use Rattle.go_syntax.specs.Token.{Token}
use Rattle.go_syntax.specs.declared.kind.TokenKind.{TokenKind}
use Rattle.go_syntax.specs.declared.kind.TokenKind.TheVariants as kind
use Rattle.go_syntax.specs.declared.tree.Name.{Name}
use Rattle.go_grammar.specs.Frames.{Value, AnExpr, AChain, AGuard, ARanging, ASig, ABlock, AStmt, ADecl, Frame, OfExpr, OfPart, OfType, OfField, OfSig, OfStmt, OfControl, OfSwitch, OfDecl, OfFile, Done, Stack, Flow, Goes, Over, Stuck, Deep, Long, Start, Whole}
use Rattle.go_grammar.specs.ExprSteps.{expr_row, expr_meets, chain_meets, guard_meets, func_meets, body_meets, part_row, part_meets, type_row, type_meets, type_sig_meets, field_row, field_meets, method_meets, sig_row, sig_meets}
use Rattle.go_grammar.specs.StmtSteps.{stmt_row, stmt_meets_expr, guard_meets_simple, stmt_meets_stmt, stmt_meets_block, stmt_meets_decl, control_row, control_meets_expr, control_meets_stmt, control_meets_ranging, control_meets_block, switch_row, switch_meets_expr, switch_meets_stmt, guard_meets_switch, decl_row, decl_meets_expr, file_row, file_meets_sig, file_meets_block, file_meets_decl}

-- what the top frame does at the token
abbrev pub row : Token → Frame → Stack → Flow
row u (OfExpr f) s = expr_row u f s
row u (OfPart f) s = part_row u f s
row u (OfType f) s = type_row u f s
row u (OfField f) s = field_row u f s
row u (OfSig f) s = sig_row u f s
row u (OfStmt f) s = stmt_row u f s
row u (OfControl f) s = control_row u f s
row u (OfSwitch f) s = switch_row u f s
row u (OfDecl f) s = decl_row u f s
row u (OfFile f) s = file_row u f s
row u (Done v) s = Over v s

abbrev pub meets_expr : Token → Frame → t.Expr → Stack → Flow
meets_expr u (OfExpr f) e s = expr_meets u f e s
meets_expr u (OfPart f) e s = part_meets u f e s
meets_expr u (OfType f) e s = type_meets u f e s
meets_expr u (OfField f) e s = field_meets u f e s
meets_expr u (OfSig f) e s = sig_meets u f e s
meets_expr u (OfStmt f) e s = stmt_meets_expr u f e s
meets_expr u (OfControl f) e s = control_meets_expr u f e s
meets_expr u (OfSwitch f) e s = switch_meets_expr u f e s
meets_expr u (OfDecl f) e s = decl_meets_expr u f e s
meets_expr u _ e s = Stuck

abbrev pub meets_chain : Token → Frame → ℕ → t.Expr → Stack → Flow
meets_chain u (OfExpr f) n e s = chain_meets u f n e s
meets_chain u _ n e s = Stuck

abbrev pub meets_guard : Token → Frame → Option Name → t.Expr → Stack → Flow
meets_guard u (OfExpr f) x e s = guard_meets f x e s
meets_guard u (OfStmt f) x e s = guard_meets_simple f e s
meets_guard u (OfSwitch f) x e s = guard_meets_switch u f x e s
meets_guard u _ x e s = Stuck

abbrev pub meets_ranging : Token → Frame → List t.Expr → Bool → Stack → Flow
meets_ranging u (OfControl f) es fresh s = control_meets_ranging u f es fresh s
meets_ranging u _ es fresh s = Stuck

abbrev pub meets_sig : Token → Frame → t.Sig → Stack → Flow
meets_sig u (OfExpr f) sig s = func_meets u f sig s
meets_sig u (OfType f) sig s = type_sig_meets f sig s
meets_sig u (OfField f) sig s = method_meets u f sig s
meets_sig u (OfFile f) sig s = file_meets_sig u f sig s
meets_sig u _ sig s = Stuck

abbrev pub meets_block : Token → Frame → t.Block → Stack → Flow
meets_block u (OfExpr f) b s = body_meets u f b s
meets_block u (OfStmt f) b s = stmt_meets_block f b s
meets_block u (OfControl f) b s = control_meets_block u f b s
meets_block u (OfFile f) b s = file_meets_block f b s
meets_block u _ b s = Stuck

abbrev pub meets_stmt : Token → Frame → t.Stmt → Stack → Flow
meets_stmt u (OfStmt f) x s = stmt_meets_stmt u f x s
meets_stmt u (OfControl f) x s = control_meets_stmt u f x s
meets_stmt u (OfSwitch f) x s = switch_meets_stmt u f x s
meets_stmt u _ x s = Stuck

abbrev pub meets_decl : Token → Frame → t.Decl → Stack → Flow
meets_decl u (OfStmt f) d s = stmt_meets_decl f d s
meets_decl u (OfFile f) d s = file_meets_decl u f d s
meets_decl u _ d s = Stuck

-- what a frame does at the token with the tree that it waited for
abbrev pub meets : Token → Frame → Value → Stack → Flow
meets u f (AnExpr e) s = meets_expr u f e s
meets u f (AChain n e) s = meets_chain u f n e s
meets u f (AGuard x e) s = meets_guard u f x e s
meets u f (ARanging es fresh) s = meets_ranging u f es fresh s
meets u f (ASig sig) s = meets_sig u f sig s
meets u f (ABlock b) s = meets_block u f b s
meets u f (AStmt x) s = meets_stmt u f x s
meets u f (ADecl d) s = meets_decl u f d s

-- where a frame is over, its tree goes on
abbrev pub goes_on : (Value → Flow) → Flow → Flow
goes_on again (Over v s) = again v
goes_on again flow = flow

-- a tree that is done goes to the frames below, until one of them takes the token
abbrev pub hands : Token → Stack → Value → Flow
hands u [] v = Stuck
hands u (f ∷ s) v = goes_on (hands u s) (meets u f v s)

-- one token to the frames
abbrev pub feed : Token → Stack → Flow
feed u [] = Stuck
feed u (f ∷ s) = goes_on (hands u s) (row u f s)

-- what comes of all tokens
pub data Outcome : Type 0 where
  Tree : t.File → Outcome
  -- the code, where, and what is told of the token
  Fault : ℕ → Place → List ℕ → Outcome

-- what a message calls an unexpected token
abbrev pub told : TokenKind → List ℕ → List ℕ
told kind.Rune text = codes "literal"
told kind.Str text = codes "literal"
told kind.Auto text = codes "newline"
told kind.End text = codes "EOF"
told _ text = text

abbrev pub whole : Stack → Outcome
whole (OfFile (Whole file) ∷ s) = Tree file
whole _ = Fault 10 (record { file = 0; offset = 0 }) []

-- where the token is taken, the others follow
abbrev pub after_step : Token → (Stack → Outcome) → Flow → Outcome
after_step u others (Goes s) = others s
after_step u others (Over v s) = Fault 10 u.place (told u.kind u.text)
after_step u others Stuck = Fault 10 u.place (told u.kind u.text)
after_step u others Deep = Fault 11 u.place []
after_step u others (Long at) = Fault 12 at []

abbrev pub run : List Token → Stack → Outcome
run [] s = whole s
run (u ∷ us) s = after_step u (run us) (feed u s)

-- the tree or the fault of the tokens of a file
abbrev pub parsed : List Token → Outcome
parsed us = run us (OfFile Start ∷ [])

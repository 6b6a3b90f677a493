-- Limits: the machine reads only files that keep them.
use Rattle.std.proofs.Common.{◌≡◌, Bool, true, ℕ, List, [], ◌∷◌, Option, subst}
use Rattle.go_syntax.specs.Tree as t
use Rattle.go_syntax.specs.Token.{Token}
use Rattle.go_syntax.specs.declared.tree.Name.{Name}
use Rattle.go_grammar.specs.Frames as f
use Rattle.go_grammar.specs.Frames.{Ctx, new_ctx, header_ctx, inside, deeper, Base, Braces, Elems, StructPart, InterfacePart, Embedded, Params, Role, ParamsPart, Mode, Listed, Headed, InFor, InSwitch, InTag, Spot, IfPart, ForPart, Subject, SwitchPart, SelectPart, ValuesPart, TypesPart, FilePart, ExprFrame, PartFrame, TypeFrame, FieldFrame, SigFrame, StmtFrame, ControlFrame, SwitchFrame, DeclFrame, FileFrame, Frame, OfExpr, OfPart, OfType, OfField, OfSig, OfStmt, OfControl, OfSwitch, OfDecl, OfFile, Done, Stack, Flow, Goes, Over, Stuck, Deep, Long, Value, AnExpr, AChain, AGuard, ARanging, ASig, ABlock, AStmt, ADecl}
use Rattle.go_grammar.specs.Limits.{file_fits}
use Rattle.go_grammar.specs.Parsed.{row, meets, meets_expr, meets_chain, meets_guard, meets_ranging, meets_sig, meets_block, meets_stmt, meets_decl, goes_on, hands, feed, Tree, whole, after_step, run, parsed}
use Rattle.go_grammar.proofs.FitHeld as k
use Rattle.go_grammar.proofs.FitHeld.{Bound, LFile, Fit}
use Rattle.go_grammar.proofs.FitStack.{Kept, bound, Keeps, nothing, put, Fits, all, Goal, goal, done, stuck, deep, long}
use Rattle.go_grammar.proofs.FitTypes.{type_row_fits, type_meets_fits, type_sig_fits, sig_row_fits, sig_meets_fits, field_row_fits, field_meets_fits, method_fits}
use Rattle.go_grammar.proofs.FitExprs.{expr_row_fits, expr_meets_fits, chain_meets_fits, guard_meets_fits, func_fits, body_fits, part_row_fits, part_meets_fits}
use Rattle.go_grammar.proofs.FitStmts.{stmt_row_fits, stmt_expr_fits, stmt_guard_fits, stmt_stmt_fits, stmt_block_fits, stmt_decl_fits}
use Rattle.go_grammar.proofs.FitControl.{control_row_fits, control_expr_fits, control_stmt_fits, control_ranging_fits, control_block_fits, switch_row_fits, switch_expr_fits, switch_stmt_fits, switch_guard_fits}
use Rattle.go_grammar.proofs.FitFile.{decl_row_fits, decl_expr_fits, file_row_fits, file_sig_fits, file_block_fits, file_decl_fits}

row_fits : {w : Bound} (u : Token) (x : Frame) (s : Stack) → Kept x w → Goal w s (row u x s)
row_fits u (OfExpr x) s i = expr_row_fits u s i
row_fits u (OfPart x) s i = part_row_fits u s i
row_fits u (OfType x) s i = type_row_fits u s i
row_fits u (OfField x) s i = field_row_fits u s i
row_fits u (OfSig x) s i = sig_row_fits u s i
row_fits u (OfStmt x) s i = stmt_row_fits u s i
row_fits u (OfControl x) s i = control_row_fits u s i
row_fits u (OfSwitch x) s i = switch_row_fits u s i
row_fits u (OfDecl x) s i = decl_row_fits u s i
row_fits u (OfFile x) s i = file_row_fits u s i
row_fits u (Done v) s i = done i

expr_comes : (w : Bound) (u : Token) (x : Frame) (e : t.Expr) (s : Stack) → Kept x w → Fit (bound x w) (AnExpr e) → Goal w s (meets_expr u x e s)
expr_comes w u (OfExpr x) e s i j = expr_meets_fits u e s i j
expr_comes w u (OfPart x) e s i j = part_meets_fits u e s i j
expr_comes w u (OfType x) e s i j = type_meets_fits u e s i j
expr_comes w u (OfField x) e s i j = field_meets_fits u e s i j
expr_comes w u (OfSig x) e s i j = sig_meets_fits u e s i j
expr_comes w u (OfStmt x) e s i j = stmt_expr_fits u e s i j
expr_comes w u (OfControl x) e s i j = control_expr_fits u e s i j
expr_comes w u (OfSwitch x) e s i j = switch_expr_fits u e s i j
expr_comes w u (OfDecl x) e s i j = decl_expr_fits u e s i j
expr_comes w u _ e s i j = stuck

chain_comes : (w : Bound) (u : Token) (x : Frame) (n : ℕ) (e : t.Expr) (s : Stack) → Kept x w → Fit (bound x w) (AChain n e) → Goal w s (meets_chain u x n e s)
chain_comes w u (OfExpr x) n e s i j = chain_meets_fits u n e s i j
chain_comes w u _ n e s i j = stuck

guard_comes : (w : Bound) (u : Token) (x : Frame) (y : Option Name) (e : t.Expr) (s : Stack) → Kept x w → Fit (bound x w) (AGuard y e) → Goal w s (meets_guard u x y e s)
guard_comes w u (OfExpr x) y e s i j = guard_meets_fits y e s i j
guard_comes w u (OfStmt x) y e s i j = stmt_guard_fits y e s i j
guard_comes w u (OfSwitch x) y e s i j = switch_guard_fits u y e s i j
guard_comes w u _ y e s i j = stuck

ranging_comes : (w : Bound) (u : Token) (x : Frame) (es : List t.Expr) (fresh : Bool) (s : Stack) → Kept x w → Fit (bound x w) (ARanging es fresh) → Goal w s (meets_ranging u x es fresh s)
ranging_comes w u (OfControl x) es fresh s i j = control_ranging_fits u es fresh s i j
ranging_comes w u _ es fresh s i j = stuck

sig_comes : (w : Bound) (u : Token) (x : Frame) (sig : t.Sig) (s : Stack) → Kept x w → Fit (bound x w) (ASig sig) → Goal w s (meets_sig u x sig s)
sig_comes w u (OfExpr x) sig s i j = func_fits u sig s i j
sig_comes w u (OfType x) sig s i j = type_sig_fits sig s i j
sig_comes w u (OfField x) sig s i j = method_fits u sig s i j
sig_comes w u (OfFile x) sig s i j = file_sig_fits u sig s i j
sig_comes w u _ sig s i j = stuck

block_comes : (w : Bound) (u : Token) (x : Frame) (b : t.Block) (s : Stack) → Kept x w → Fit (bound x w) (ABlock b) → Goal w s (meets_block u x b s)
block_comes w u (OfExpr x) b s i j = body_fits u b s i j
block_comes w u (OfStmt x) b s i j = stmt_block_fits b s i j
block_comes w u (OfControl x) b s i j = control_block_fits u b s i j
block_comes w u (OfFile x) b s i j = file_block_fits b s i j
block_comes w u _ b s i j = stuck

stmt_comes : (w : Bound) (u : Token) (x : Frame) (y : t.Stmt) (s : Stack) → Kept x w → Fit (bound x w) (AStmt y) → Goal w s (meets_stmt u x y s)
stmt_comes w u (OfStmt x) y s i j = stmt_stmt_fits u y s i j
stmt_comes w u (OfControl x) y s i j = control_stmt_fits u y s i j
stmt_comes w u (OfSwitch x) y s i j = switch_stmt_fits u y s i j
stmt_comes w u _ y s i j = stuck

decl_comes : (w : Bound) (u : Token) (x : Frame) (d : t.Decl) (s : Stack) → Kept x w → Fit (bound x w) (ADecl d) → Goal w s (meets_decl u x d s)
decl_comes w u (OfStmt x) d s i j = stmt_decl_fits d s i j
decl_comes w u (OfFile x) d s i j = file_decl_fits u d s i j
decl_comes w u _ d s i j = stuck

meets_fits : (w : Bound) (u : Token) (x : Frame) (v : Value) (s : Stack) → Kept x w → Fit (bound x w) v → Goal w s (meets u x v s)
meets_fits w u x (AnExpr e) s i j = expr_comes w u x e s i j
meets_fits w u x (AChain n e) s i j = chain_comes w u x n e s i j
meets_fits w u x (AGuard y e) s i j = guard_comes w u x y e s i j
meets_fits w u x (ARanging es fresh) s i j = ranging_comes w u x es fresh s i j
meets_fits w u x (ASig sig) s i j = sig_comes w u x sig s i j
meets_fits w u x (ABlock b) s i j = block_comes w u x b s i j
meets_fits w u x (AStmt y) s i j = stmt_comes w u x y s i j
meets_fits w u x (ADecl d) s i j = decl_comes w u x d s i j

abbrev Fed : Flow → Type 0
Fed (Goes s) = Fits s
Fed _ = Unit {0}

step : {w : Bound} {s : Stack} {x : Flow} (again : Value → Flow) → Goal w s x → Keeps s w → ((v : Value) → Fit w v → Fed (again v)) → Fed (goes_on again x)
step again (goal i) b m = i b
step again (done {v} i) b m = m v i
step again stuck b m = tt
step again deep b m = tt
step again long b m = tt

hands_fits : (s : Stack) {w : Bound} (u : Token) (v : Value) → Keeps s w → Fit w v → Fed (hands u s v)
hands_fits [] u v b i = tt
hands_fits (x ∷ s) u v (put {w} _ b j) i = step (hands u s) (meets_fits w u x v s j i) b (λ v' i'. hands_fits s u v' b i')

feed_fits : (s : Stack) {w : Bound} (u : Token) → Keeps s w → Fed (feed u s)
feed_fits [] u b = tt
feed_fits (x ∷ s) u (put {w} _ b j) = step (hands u s) (row_fits u x s j) b (λ v i. hands_fits s u v b i)

fed : (s : Stack) (u : Token) → Fits s → Fed (feed u s)
fed s u (all b) = feed_fits s u b

file_same : (x y : t.File) → Tree x ≡ Tree y → x ≡ y
file_same x y q = cc

whole_kept : {x : t.File} {w : Bound} → k.KFile (f.Whole x) w → file_fits x ≡ true
whole_kept (k.whole p) = p

whole_below : {x : t.File} {s : Stack} {w : Bound} → Keeps (OfFile (f.Whole x) ∷ s) w → file_fits x ≡ true
whole_below (put _ b i) = whole_kept i

whole_fits : {x : t.File} {s : Stack} → Fits (OfFile (f.Whole x) ∷ s) → file_fits x ≡ true
whole_fits (all b) = whole_below b

whole_is : (s : Stack) (x : t.File) → Fits s → whole s ≡ Tree x → file_fits x ≡ true
whole_is (OfFile (f.Whole y) ∷ s) x b q = subst (λ z. file_fits z ≡ true) (file_same y x q) (whole_fits b)
whole_is _ x b q = absurd (cc)

stepped : (u : Token) (us : List Token) (x : t.File) (y : Flow) → Fed y → after_step u (run us) y ≡ Tree x → ((s : Stack) → Fits s → run us s ≡ Tree x → file_fits x ≡ true) → file_fits x ≡ true
stepped u us x (Goes s) i q again = again s i q
stepped u us x (Over v s) i q again = absurd (cc)
stepped u us x Stuck i q again = absurd (cc)
stepped u us x Deep i q again = absurd (cc)
stepped u us x (Long at) i q again = absurd (cc)

run_fits : (us : List Token) (s : Stack) (x : t.File) → Fits s → run us s ≡ Tree x → file_fits x ≡ true
run_fits [] s x b q = whole_is s x b q
run_fits (u ∷ us) s x b q = stepped u us x (feed u s) (fed s u b) q (λ s' b' q'. run_fits us s' x b' q')

pub parsed_fits : (us : List Token) (x : t.File) → parsed us ≡ Tree x → file_fits x ≡ true
parsed_fits us x q = run_fits us (OfFile f.Start ∷ []) x (all (put (OfFile f.Start) nothing k.start)) q

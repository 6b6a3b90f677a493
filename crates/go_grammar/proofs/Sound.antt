-- The machine reads only files: its run keeps the invariant.
use Rattle.std.proofs.Common.{◌≡◌, Bool, true, false, ℕ, List, [], ◌∷◌, ◌++◌, Option, Some, None, refl, sym, subst, append_assoc, append-nil}
use Rattle.go_syntax.specs.Tree as t
use Rattle.go_syntax.specs.Token.{Token}
use Rattle.go_syntax.specs.declared.tree.Name.{Name}
use Rattle.go_grammar.specs.Files.{IsFile}
use Rattle.go_grammar.specs.Frames as f
use Rattle.go_grammar.specs.Frames.{Frame, OfExpr, OfPart, OfType, OfField, OfSig, OfStmt, OfControl, OfSwitch, OfDecl, OfFile, Done, ExprFrame, StmtFrame, PartFrame, TypeFrame, FieldFrame, SigFrame, ControlFrame, SwitchFrame, DeclFrame, FileFrame, Stack, Flow, Goes, Over, Stuck, Deep, Long, Value, AnExpr, AChain, AGuard, ARanging, ASig, ABlock, AStmt, ADecl}
use Rattle.go_grammar.specs.Parsed.{row, meets, meets_expr, meets_chain, meets_guard, meets_ranging, meets_sig, meets_block, meets_stmt, meets_decl, goes_on, hands, feed, Tree, whole, after_step, run, parsed}
use Rattle.go_grammar.proofs.Wanted.{Want, WFile, WUnary, Is}
use Rattle.go_grammar.proofs.HeldExprs.{waits_expr, waits_part, waits_type, waits_field, waits_sig}
use Rattle.go_grammar.proofs.HeldStmts as h
use Rattle.go_grammar.proofs.HeldStmts.{waits_stmt, waits_control, waits_switch, waits_decl, waits_file}
use Rattle.go_grammar.proofs.Stands.{Holds, waits, Below, ground, on, Stands, stands, Opens, opens, o_stuck, o_deep, o_long, Good, good, over, stuck}
use Rattle.go_grammar.proofs.TypeSound.{type_row_good, type_meets_good, type_sig_good}
use Rattle.go_grammar.proofs.SigSound.{sig_row_good, sig_meets_good}
use Rattle.go_grammar.proofs.ExprSound.{expr_row_good, expr_meets_good, chain_meets_good, guard_meets_good, func_meets_good, body_meets_good}
use Rattle.go_grammar.proofs.PartSound.{part_row_good, part_meets_good}
use Rattle.go_grammar.proofs.FieldSound.{field_row_good, field_meets_good, method_meets_good}
use Rattle.go_grammar.proofs.StmtSound.{stmt_row_good, stmt_expr_good, stmt_guard_good, stmt_stmt_good, stmt_block_good, stmt_decl_good}
use Rattle.go_grammar.proofs.ControlSound.{control_row_good, control_expr_good, control_stmt_good, control_ranging_good, control_block_good}
use Rattle.go_grammar.proofs.SwitchSound.{switch_row_good, switch_expr_good, switch_stmt_good, switch_guard_good}
use Rattle.go_grammar.proofs.DeclSound.{decl_row_good, decl_expr_good}
use Rattle.go_grammar.proofs.FileSound.{file_row_good, file_sig_good, file_block_good, file_decl_good}

row_good : {ts : List Token} {w : Want} (u : Token) (x : Frame) (s : Stack) → Holds x ts w → Good u w ts s (row u x s)
row_good u (OfExpr x) s k = expr_row_good u s k
row_good u (OfPart x) s k = part_row_good u s k
row_good u (OfType x) s k = type_row_good u s k
row_good u (OfField x) s k = field_row_good u s k
row_good u (OfSig x) s k = sig_row_good u s k
row_good u (OfStmt x) s k = stmt_row_good u s k
row_good u (OfControl x) s k = control_row_good u s k
row_good u (OfSwitch x) s k = switch_row_good u s k
row_good u (OfDecl x) s k = decl_row_good u s k
row_good u (OfFile x) s k = file_row_good u s k
row_good u (Done v) s k = over (k.is u)

expr_good : (ts : List Token) (w : Want) (vs : List Token) (u : Token) (x : Frame) (e : t.Expr) (s : Stack) → Holds x ts w → Is u (waits x w) (AnExpr e) vs → Good u w (ts ++ vs) s (meets_expr u x e s)
expr_good ts w vs u (OfExpr x) e s k i = expr_meets_good vs u e s k i
expr_good ts w vs u (OfPart x) e s k i = part_meets_good vs u e s k i
expr_good ts w vs u (OfType x) e s k i = type_meets_good vs u e s k i
expr_good ts w vs u (OfField x) e s k i = field_meets_good vs u e s k i
expr_good ts w vs u (OfSig x) e s k i = sig_meets_good vs u e s k i
expr_good ts w vs u (OfStmt x) e s k i = stmt_expr_good vs u e s k i
expr_good ts w vs u (OfControl x) e s k i = control_expr_good vs u e s k i
expr_good ts w vs u (OfSwitch x) e s k i = switch_expr_good vs u e s k i
expr_good ts w vs u (OfDecl x) e s k i = decl_expr_good vs u e s k i
expr_good ts w vs u _ e s k i = stuck

chain_good : (ts : List Token) (w : Want) (vs : List Token) (u : Token) (x : Frame) (n : ℕ) (e : t.Expr) (s : Stack) → Holds x ts w → Is u (waits x w) (AChain n e) vs → Good u w (ts ++ vs) s (meets_chain u x n e s)
chain_good ts w vs u (OfExpr x) n e s k i = chain_meets_good vs u n e s k i
chain_good ts w vs u _ n e s k i = stuck

guard_good : (ts : List Token) (w : Want) (vs : List Token) (u : Token) (x : Frame) (y : Option Name) (e : t.Expr) (s : Stack) → Holds x ts w → Is u (waits x w) (AGuard y e) vs → Good u w (ts ++ vs) s (meets_guard u x y e s)
guard_good ts w vs u (OfExpr x) y e s k i = guard_meets_good vs u y e s k i
guard_good ts w vs u (OfStmt x) y e s k i = stmt_guard_good vs u y e s k i
guard_good ts w vs u (OfSwitch x) y e s k i = switch_guard_good vs u y e s k i
guard_good ts w vs u _ y e s k i = stuck

ranging_good : (ts : List Token) (w : Want) (vs : List Token) (u : Token) (x : Frame) (es : List t.Expr) (fresh : Bool) (s : Stack) → Holds x ts w → Is u (waits x w) (ARanging es fresh) vs → Good u w (ts ++ vs) s (meets_ranging u x es fresh s)
ranging_good ts w vs u (OfControl x) es fresh s k i = control_ranging_good vs u es fresh s k i
ranging_good ts w vs u _ es fresh s k i = stuck

sig_good : (ts : List Token) (w : Want) (vs : List Token) (u : Token) (x : Frame) (sig : t.Sig) (s : Stack) → Holds x ts w → Is u (waits x w) (ASig sig) vs → Good u w (ts ++ vs) s (meets_sig u x sig s)
sig_good ts w vs u (OfExpr x) sig s k i = func_meets_good vs u sig s k i
sig_good ts w vs u (OfType x) sig s k i = type_sig_good vs u sig s k i
sig_good ts w vs u (OfField x) sig s k i = method_meets_good vs u sig s k i
sig_good ts w vs u (OfFile x) sig s k i = file_sig_good vs u sig s k i
sig_good ts w vs u _ sig s k i = stuck

block_good : (ts : List Token) (w : Want) (vs : List Token) (u : Token) (x : Frame) (b : t.Block) (s : Stack) → Holds x ts w → Is u (waits x w) (ABlock b) vs → Good u w (ts ++ vs) s (meets_block u x b s)
block_good ts w vs u (OfExpr x) b s k i = body_meets_good vs u b s k i
block_good ts w vs u (OfStmt x) b s k i = stmt_block_good vs u b s k i
block_good ts w vs u (OfControl x) b s k i = control_block_good vs u b s k i
block_good ts w vs u (OfFile x) b s k i = file_block_good vs u b s k i
block_good ts w vs u _ b s k i = stuck

stmt_good : (ts : List Token) (w : Want) (vs : List Token) (u : Token) (x : Frame) (y : t.Stmt) (s : Stack) → Holds x ts w → Is u (waits x w) (AStmt y) vs → Good u w (ts ++ vs) s (meets_stmt u x y s)
stmt_good ts w vs u (OfStmt x) y s k i = stmt_stmt_good vs u y s k i
stmt_good ts w vs u (OfControl x) y s k i = control_stmt_good vs u y s k i
stmt_good ts w vs u (OfSwitch x) y s k i = switch_stmt_good vs u y s k i
stmt_good ts w vs u _ y s k i = stuck

decl_good : (ts : List Token) (w : Want) (vs : List Token) (u : Token) (x : Frame) (d : t.Decl) (s : Stack) → Holds x ts w → Is u (waits x w) (ADecl d) vs → Good u w (ts ++ vs) s (meets_decl u x d s)
decl_good ts w vs u (OfStmt x) d s k i = stmt_decl_good vs u d s k i
decl_good ts w vs u (OfFile x) d s k i = file_decl_good vs u d s k i
decl_good ts w vs u _ d s k i = stuck

meets_good : (ts : List Token) (w : Want) (vs : List Token) (u : Token) (x : Frame) (v : Value) (s : Stack) → Holds x ts w → Is u (waits x w) v vs → Good u w (ts ++ vs) s (meets u x v s)
meets_good ts w vs u x (AnExpr e) s k i = expr_good ts w vs u x e s k i
meets_good ts w vs u x (AChain n e) s k i = chain_good ts w vs u x n e s k i
meets_good ts w vs u x (AGuard y e) s k i = guard_good ts w vs u x y e s k i
meets_good ts w vs u x (ARanging es fresh) s k i = ranging_good ts w vs u x es fresh s k i
meets_good ts w vs u x (ASig sig) s k i = sig_good ts w vs u x sig s k i
meets_good ts w vs u x (ABlock b) s k i = block_good ts w vs u x b s k i
meets_good ts w vs u x (AStmt y) s k i = stmt_good ts w vs u x y s k i
meets_good ts w vs u x (ADecl d) s k i = decl_good ts w vs u x d s k i

-- the frames after a token
abbrev Fed : Token → List Token → Flow → Type 0
Fed u ps (Goes s) = Stands (ps ++ u ∷ []) s
Fed u ps _ = Unit {0}

opened : {u : Token} {w : Want} {ts : List Token} {s : Stack} {x : Flow} (qs : List Token) (again : Value → Flow) → Opens u w ts s x → Below qs s w → Fed u (qs ++ ts) (goes_on again x)
opened {u} {ts = ts} qs again (opens {s' = s'} k) b = subst (λ z. Stands z s') (sym (append_assoc qs ts (u ∷ []))) (k qs b)
opened qs again o_stuck b = tt
opened qs again o_deep b = tt
opened qs again o_long b = tt

step : {u : Token} {w : Want} {ts : List Token} {s : Stack} {x : Flow} (qs : List Token) → Good u w ts s x → Below qs s w → ((v : Value) → Is u w v ts → Fed u (qs ++ ts) (hands u s v)) → Fed u (qs ++ ts) (goes_on (hands u s) x)
step {u} {s = s} qs (good o) b again = opened qs (hands u s) o b
step qs (over {v} i) b again = again v i

hands_good : (s : Stack) {ps : List Token} {w : Want} (u : Token) (v : Value) (vs : List Token) → Below ps s w → Is u w v vs → Fed u (ps ++ vs) (hands u s v)
hands_good [] u v vs b i = tt
hands_good (x ∷ s) u v vs (on {ps} {w} _ ts b k) i =
    subst (λ z. Fed u z (goes_on (hands u s) (meets u x v s))) (sym (append_assoc ps ts vs)) (step ps (meets_good ts w vs u x v s k i) b (λ v' i'. hands_good s u v' (ts ++ vs) b i'))

feed_good : (s : Stack) {ps : List Token} {w : Want} (u : Token) → Below ps s w → Fed u ps (feed u s)
feed_good [] u b = tt
feed_good (x ∷ s) u (on {ps} {w} _ ts b k) = step ps (row_good u x s k) b (λ v i. hands_good s u v ts b i)

fed_is : {ps : List Token} (u : Token) (s : Stack) → Stands ps s → Fed u ps (feed u s)
fed_is u s (stands b) = feed_good s u b

-- a file stands on nothing
expr_waits : (x : ExprFrame) (w : Want) → waits_expr x w ≡ WFile → ⊥
expr_waits (f.Before at p) (WUnary k h g r) q = cc
expr_waits _ w q = cc

stmt_waits : (x : StmtFrame) (w : Want) → waits_stmt x w ≡ WFile → ⊥
stmt_waits (f.Simple x []) w q = cc
stmt_waits (f.Simple x (e ∷ es)) w q = cc
stmt_waits (f.Defined x es []) w q = cc
stmt_waits (f.Defined x es (e ∷ es')) w q = cc
stmt_waits _ w q = cc

part_waits : (x : PartFrame) → waits_part x ≡ WFile → ⊥
part_waits (f.Asserted x) q = cc
part_waits _ q = cc

type_waits : (x : TypeFrame) → waits_type x ≡ WFile → ⊥
type_waits (f.TypeParens x) q = cc
type_waits _ q = cc

field_waits : (x : FieldFrame) → waits_field x ≡ WFile → ⊥
field_waits (f.Named x ys) q = cc
field_waits _ q = cc

sig_waits : (x : SigFrame) → waits_sig x ≡ WFile → ⊥
sig_waits (f.Param x at None false) q = cc
sig_waits (f.Param x at None true) q = cc
sig_waits (f.Param x at (Some y) v) q = cc
sig_waits _ q = cc

control_waits : (x : ControlFrame) → waits_control x ≡ WFile → ⊥
control_waits (f.AtIf x) q = cc
control_waits _ q = cc

switch_waits : (x : SwitchFrame) → waits_switch x ≡ WFile → ⊥
switch_waits (f.SwitchHead b at) q = cc
switch_waits _ q = cc

decl_waits : (x : DeclFrame) → waits_decl x ≡ WFile → ⊥
decl_waits (f.ValueType x ys) q = cc
decl_waits _ q = cc

file_waits : (x : FileFrame) → waits_file x ≡ WFile → ⊥
file_waits (f.Top x) q = cc
file_waits _ q = cc

none_waits : (x : Frame) (w : Want) → waits x w ≡ WFile → ⊥
none_waits (OfExpr x) w q = expr_waits x w q
none_waits (OfPart x) w q = part_waits x q
none_waits (OfType x) w q = type_waits x q
none_waits (OfField x) w q = field_waits x q
none_waits (OfSig x) w q = sig_waits x q
none_waits (OfStmt x) w q = stmt_waits x w q
none_waits (OfControl x) w q = control_waits x q
none_waits (OfSwitch x) w q = switch_waits x q
none_waits (OfDecl x) w q = decl_waits x q
none_waits (OfFile x) w q = file_waits x q
none_waits (Done v) w q = cc

alone : {ps : List Token} {s : Stack} {w : Want} → Below ps s w → w ≡ WFile → ps ≡ []
alone ground q = refl
alone (on {w} x ts b k) q = absurd (none_waits x w q)

file_same : (x y : t.File) → Tree x ≡ Tree y → x ≡ y
file_same x y q = cc

held_whole : {qs ts : List Token} {s : Stack} {w : Want} {x : t.File} → Below qs s w → h.HoldsFile (f.Whole x) ts w → IsFile (qs ++ ts) x
held_whole {ts = ts} {x = x} b (h.whole d) = subst (λ z. IsFile (z ++ ts) x) (sym (alone b refl)) d

whole_below : {ps : List Token} {w : Want} {x : t.File} {s : Stack} → Below ps (OfFile (f.Whole x) ∷ s) w → IsFile ps x
whole_below (on _ ts b k) = held_whole b k

stands_whole : {ps : List Token} {x : t.File} {s : Stack} → Stands ps (OfFile (f.Whole x) ∷ s) → IsFile ps x
stands_whole (stands b) = whole_below b

whole_is : (s : Stack) (ps : List Token) (x : t.File) → Stands ps s → whole s ≡ Tree x → IsFile ps x
whole_is (OfFile (f.Whole y) ∷ s) ps x b q = subst (λ z. IsFile ps z) (file_same y x q) (stands_whole b)
whole_is _ ps x b q = absurd (cc)

stepped : (u : Token) (ps us : List Token) (x : t.File) (y : Flow) → Fed u ps y → after_step u (run us) y ≡ Tree x → ((s : Stack) → Stands (ps ++ u ∷ []) s → run us s ≡ Tree x → IsFile (ps ++ u ∷ [] ++ us) x) → IsFile (ps ++ u ∷ [] ++ us) x
stepped u ps us x (Goes s) k q again = again s k q
stepped u ps us x (Over v s) k q again = absurd (cc)
stepped u ps us x Stuck k q again = absurd (cc)
stepped u ps us x Deep k q again = absurd (cc)
stepped u ps us x (Long at) k q again = absurd (cc)

run_sound : (us ps : List Token) (s : Stack) (x : t.File) → Stands ps s → run us s ≡ Tree x → IsFile (ps ++ us) x
run_sound [] ps s x b q = subst (λ z. IsFile z x) (sym (append-nil ps)) (whole_is s ps x b q)
run_sound (u ∷ us) ps s x b q = subst (λ z. IsFile z x) (append_assoc ps (u ∷ []) us) (stepped u ps us x (feed u s) (fed_is u s b) q (λ s' b' q'. run_sound us (ps ++ u ∷ []) s' x b' q'))

pub parsed_sound : (us : List Token) (x : t.File) → parsed us ≡ Tree x → IsFile us x
parsed_sound us x q = run_sound us [] (OfFile f.Start ∷ []) x (stands (on (OfFile f.Start) [] ground h.start)) q

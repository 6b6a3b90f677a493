-- Loops over the parts of a script, and the turns of a loop.
use Rattle.std.proofs.Common.{◌≡◌, ◌<◌, ◌≤◌, ◌+◌, refl, ap, sym, subst, ◌∙◌, arith, append_assoc, ℕ, zero, suc, List, [], ◌∷◌, ◌++◌, Bool, true, false, Option, length, get_or, drop, map, rules}
use Rattle.std.proofs.Math.ListN.{drop_of_length-le}
use Rattle.std.proofs.lemmas.List.{append-nil}
use Rattle.std.specs.Prelude.{option_map, Result, pos, if◌then◌else◌}
use Rattle.js_tree.specs.Script.{Name, Stmts, Cases, case, no_cases, default}
use Rattle.js_tree.specs.Operation.{same_value}
use Rattle.js_tree.specs.Value.{Value, World, Frame, Locals, Outcome, Going, whole, gives, throws, over, and_then, in_frame, choose, tick}
use Rattle.js_tree.specs.Evaluate.{Setting, Scope, frame, exec, exec_all, exec_cases, exec_through, go_on, Flow, onward, eval, eval_all, turns, after_turn}
use Rattle.js_tree.specs.View.{expr_view, exprs_view, exprs_of, stmt_view, stmts_view, stmts_of, case_view, cases_view, cases_of, last_case}
use Rattle.js_tree.specs.declared.tree.JsExpr.{JsExpr}
use Rattle.js_tree.specs.declared.tree.JsExprs.{JsExprs, out-JsExprs, fold_out-JsExprs}
use Rattle.js_tree.specs.declared.tree.JsStmt.{JsStmt}
use Rattle.js_tree.specs.declared.tree.JsStmts.{JsStmts, out-JsStmts, fold_out-JsStmts}
use Rattle.js_tree.specs.declared.tree.JsCase.{JsCase, out-JsCase, fold_out-JsCase}
use Rattle.js_tree.specs.declared.tree.JsCases.{JsCases, out-JsCases, fold_out-JsCases}
use Rattle.js_eval.specs.Limited.{Deeper}
use Rattle.js_eval.specs.declared.state.Stop.{Stop}
use Rattle.js_eval.specs.Does.{cases_do}
use Rattle.js_eval.specs.Flows.{leaves}
use Rattle.js_eval.specs.Weight.{stmts_weight, cases_weight}
use Rattle.js_eval.specs.Seen.{Stops, Gives}
use Rattle.js_eval.proofs.Steps.{drop_step, stmts_step, exprs_step, goes_on, left}

-- what an outcome is known to be goes on so
pub goes : {S A B : Type 0} (o : Outcome S A) (a : A) (t : S) (next : A → S → Outcome S B) → o ≡ gives a t → and_then o next ≡ next a t
goes o a t next h = ap (λ o. and_then o next) h

-- what stops one stops what is equal to it
pub stops_as : {S A : Type 0} (deeper : Deeper) (x : Stop) (s : S) (w : World) (o o' : Outcome S A) → o ≡ o' → Stops deeper x s w o' → Stops deeper x s w o
stops_as {S = S} {A = A} deeper x s w o o' h g = subst (λ (o : Outcome S A). Stops deeper x s w o) (sym h) g

pub gives_as : {S A C : Type 0} (deeper : Deeper) (view : C → A) (r : Result C Stop) (s : S) (w : World) (o o' : Outcome S A)
    → o ≡ o' → Gives deeper view r s w o' → Gives deeper view r s w o
gives_as {S = S} {A = A} deeper view r s w o o' h g = subst (λ (o : Outcome S A). Gives deeper view r s w o) (sym h) g

-- the statements of a block
pub stmts_at : (ss : JsStmts) (xs : List JsStmt) → xs ≡ (out-JsStmts ss).items.items → stmts_view ss ≡ stmts_of (map stmt_view xs)
stmts_at ss xs h = search (rules, fold_out-JsStmts, h)

pub exprs_at : (es : JsExprs) (xs : List JsExpr) → xs ≡ (out-JsExprs es).items.items → exprs_view es ≡ exprs_of (map expr_view xs)
exprs_at es xs h = search (rules, fold_out-JsExprs, h)

-- what stands after the last case
abbrev pub last_of : JsCases → Cases
last_of cs = last_case (option_map stmts_view (out-JsCases cs).default)

pub cases_at : (cs : JsCases) (xs : List JsCase) → xs ≡ (out-JsCases cs).items.items → cases_view cs ≡ cases_of (map case_view xs) (last_of cs)
cases_at cs xs h = search (rules, fold_out-JsCases, h)

pub case_at : (c : JsCase) (rest : Cases) → case_view c rest ≡ case (out-JsCase c).number (stmts_view (out-JsCase c).body) rest
case_at c rest = search (rules, fold_out-JsCase)

-- statements: the next one, and then those that are left
pub stmts_next : (st : Setting) (sc : Scope) (ss : JsStmts) (xs : List JsStmt) (i : ℕ) (s : JsStmt) (f g : Frame) → xs ≡ (out-JsStmts ss).items.items
    → exec_all st sc (stmts_of (map stmt_view xs)) f ≡ exec_all st sc (stmts_of (map stmt_view (drop i xs))) g → i < length xs → s ≡ get_or xs i s
    → exec_all st sc (stmts_view ss) f ≡ and_then (exec st sc (stmt_view s) g) (go_on (exec_all st sc (stmts_of (map stmt_view (drop (i + 1) xs)))))
stmts_next st sc ss xs i s f g q v l h = rw (stmts_at ss xs q) (v ∙ stmts_step st sc xs i s g l h)

pub stmts_left : (st : Setting) (sc : Scope) (ss : JsStmts) (xs : List JsStmt) (i : ℕ) (s : JsStmt) (f g k : Frame) (flow : Flow) → xs ≡ (out-JsStmts ss).items.items
    → exec_all st sc (stmts_of (map stmt_view xs)) f ≡ exec_all st sc (stmts_of (map stmt_view (drop i xs))) g → i < length xs → s ≡ get_or xs i s
    → exec st sc (stmt_view s) g ≡ gives flow k → leaves flow ≡ true → exec_all st sc (stmts_view ss) f ≡ gives flow k
stmts_left st sc ss xs i s f g k flow q v l h e n =
    let next : Frame → Outcome Frame Flow = exec_all st sc (stmts_of (map stmt_view (drop (i + 1) xs))) in
    stmts_next st sc ss xs i s f g q v l h ∙ (goes (exec st sc (stmt_view s) g) flow k (go_on next) e ∙ left next flow k n)

pub stmts_go_on : (st : Setting) (sc : Scope) (xs : List JsStmt) (i : ℕ) (s : JsStmt) (f g k : Frame) (flow : Flow)
    → exec_all st sc (stmts_of (map stmt_view xs)) f ≡ exec_all st sc (stmts_of (map stmt_view (drop i xs))) g → i < length xs → s ≡ get_or xs i s
    → exec st sc (stmt_view s) g ≡ gives flow k → leaves flow ≡ false
    → exec_all st sc (stmts_of (map stmt_view xs)) f ≡ exec_all st sc (stmts_of (map stmt_view (drop (i + 1) xs))) k
stmts_go_on st sc xs i s f g k flow v l h e n =
    let next : Frame → Outcome Frame Flow = exec_all st sc (stmts_of (map stmt_view (drop (i + 1) xs))) in
    v ∙ (stmts_step st sc xs i s g l h ∙ (goes (exec st sc (stmt_view s) g) flow k (go_on next) e ∙ goes_on next flow k n))

pub stmts_done : (st : Setting) (sc : Scope) (ss : JsStmts) (xs : List JsStmt) (i : ℕ) (f g : Frame) → xs ≡ (out-JsStmts ss).items.items
    → exec_all st sc (stmts_of (map stmt_view xs)) f ≡ exec_all st sc (stmts_of (map stmt_view (drop i xs))) g → length xs ≤ i → exec_all st sc (stmts_view ss) f ≡ gives onward g
stmts_done st sc ss xs i f g q v l =
    rw (stmts_at ss xs q) (v ∙ ap (λ (xs : List JsStmt). exec_all st sc (stmts_of (map stmt_view xs)) g) (drop_of_length-le xs l))

-- the values so far before those that follow
abbrev pub after : List Value → Outcome World (List Value) → Outcome World (List Value)
after before o = and_then o (λ vs w. gives (before ++ vs) w)

after_value : (before : List Value) (v : Value) (o : Outcome World (List Value)) → after before (and_then o (λ vs w. gives (v ∷ vs) w)) ≡ after (before ++ v ∷ []) o
after_value before v (gives vs w) = ap (λ (vs : List Value). gives vs w) (sym (append_assoc before (v ∷ []) vs))
after_value before v (throws at u w) = refl
after_value before v (over e w) = refl

abbrev pub rest_of : Setting → Scope → Locals → List JsExpr → ℕ → Value → World → Outcome World (List Value)
rest_of st sc ls xs i v w = and_then (eval_all st sc ls (exprs_of (map expr_view (drop (i + 1) xs))) w) (λ vs w. gives (v ∷ vs) w)

pub exprs_next : (st : Setting) (sc : Scope) (ls : Locals) (es : JsExprs) (xs : List JsExpr) (i : ℕ) (e : JsExpr) (before : List Value) (w u : World) → xs ≡ (out-JsExprs es).items.items
    → eval_all st sc ls (exprs_of (map expr_view xs)) w ≡ after before (eval_all st sc ls (exprs_of (map expr_view (drop i xs))) u) → i < length xs → e ≡ get_or xs i e
    → eval_all st sc ls (exprs_view es) w ≡ after before (and_then (eval st sc ls (expr_view e) u) (rest_of st sc ls xs i))
exprs_next st sc ls es xs i e before w u q v l h = rw (exprs_at es xs q) (v ∙ ap (after before) (exprs_step st sc ls xs i e u l h))

pub exprs_pushed : (st : Setting) (sc : Scope) (ls : Locals) (xs : List JsExpr) (i : ℕ) (e : JsExpr) (before now : List Value) (w u k : World) (v : Value)
    → eval_all st sc ls (exprs_of (map expr_view xs)) w ≡ after before (eval_all st sc ls (exprs_of (map expr_view (drop i xs))) u) → i < length xs → e ≡ get_or xs i e
    → eval st sc ls (expr_view e) u ≡ gives v k → now ≡ before ++ v ∷ []
    → eval_all st sc ls (exprs_of (map expr_view xs)) w ≡ after now (eval_all st sc ls (exprs_of (map expr_view (drop (i + 1) xs))) k)
exprs_pushed st sc ls xs i e before now w u k v n l h y q =
    n ∙ (ap (after before) (exprs_step st sc ls xs i e u l h ∙ goes (eval st sc ls (expr_view e) u) v k (rest_of st sc ls xs i) y)
    ∙ (after_value before v (eval_all st sc ls (exprs_of (map expr_view (drop (i + 1) xs))) k)
    ∙ ap (λ (vs : List Value). after vs (eval_all st sc ls (exprs_of (map expr_view (drop (i + 1) xs))) k)) (sym q)))

pub exprs_done : (st : Setting) (sc : Scope) (ls : Locals) (es : JsExprs) (xs : List JsExpr) (i : ℕ) (before : List Value) (w u : World) → xs ≡ (out-JsExprs es).items.items
    → eval_all st sc ls (exprs_of (map expr_view xs)) w ≡ after before (eval_all st sc ls (exprs_of (map expr_view (drop i xs))) u) → length xs ≤ i
    → eval_all st sc ls (exprs_view es) w ≡ gives before u
exprs_done st sc ls es xs i before w u q v l =
    rw (exprs_at es xs q) (v ∙ (ap (λ (xs : List JsExpr). after before (eval_all st sc ls (exprs_of (map expr_view xs)) u)) (drop_of_length-le xs l)
    ∙ ap (λ (vs : List Value). gives vs u) (append-nil before)))

-- cases: the next one
pub cases_step : (st : Setting) (sc : Scope) (xs : List JsCase) (i : ℕ) (c : JsCase) (last : Cases) (runs : Bool) (v : Value) (f : Frame) → i < length xs → c ≡ get_or xs i c
    → cases_do runs st sc (cases_of (map case_view (drop i xs)) last) v f
    ≡ cases_do runs st sc (case (out-JsCase c).number (stmts_view (out-JsCase c).body) (cases_of (map case_view (drop (i + 1) xs)) last)) v f
cases_step st sc xs i c last runs v f l h =
    ap (λ (xs : List JsCase). cases_do runs st sc (cases_of (map case_view xs) last) v f) (drop_step xs i c l h)
    ∙ ap (λ (cs : Cases). cases_do runs st sc cs v f) (case_at c (cases_of (map case_view (drop (i + 1) xs)) last))

-- the statements of a case, where they run, and then those that follow
case_goes : (st : Setting) (sc : Scope) (n : ℕ) (ss : Stmts) (rest : Cases) (v : Value) (f : Frame) (b : Bool)
    → choose b (λ f. and_then (exec_all st sc ss f) (go_on (exec_through st sc rest))) (exec_cases st sc rest v) f
    ≡ and_then (choose b (exec_all st sc ss) (gives onward) f) (go_on (cases_do b st sc rest v))
case_goes st sc n ss rest v f true = refl
case_goes st sc n ss rest v f false = refl

case_does : (st : Setting) (sc : Scope) (n : ℕ) (ss : Stmts) (rest : Cases) (runs now : Bool) (v : Value) (f : Frame) → now ≡ (if runs then true else same_value v (whole (pos n)))
    → cases_do runs st sc (case n ss rest) v f ≡ and_then (choose now (exec_all st sc ss) (gives onward) f) (go_on (cases_do now st sc rest v))
case_does st sc n ss rest true now v f q =
    ap (λ (b : Bool). and_then (choose b (exec_all st sc ss) (gives onward) f) (go_on (cases_do b st sc rest v))) (sym q)
case_does st sc n ss rest false now v f q =
    case_goes st sc n ss rest v f (same_value v (whole (pos n)))
    ∙ ap (λ (b : Bool). and_then (choose b (exec_all st sc ss) (gives onward) f) (go_on (cases_do b st sc rest v))) (sym q)

-- how far the cases have come
abbrev pub Came : Setting → Scope → Cases → List JsCase → ℕ → Bool → Value → Frame → Frame → Type 0
Came st sc last xs i runs v f g = exec_cases st sc (cases_of (map case_view xs) last) v f ≡ cases_do runs st sc (cases_of (map case_view (drop i xs)) last) v g

pub cases_next : (st : Setting) (sc : Scope) (last : Cases) (xs : List JsCase) (i : ℕ) (c : JsCase) (runs now : Bool) (v : Value) (f g : Frame) → Came st sc last xs i runs v f g → i < length xs → c ≡ get_or xs i c
    → now ≡ (if runs then true else same_value v (whole (pos (out-JsCase c).number)))
    → exec_cases st sc (cases_of (map case_view xs) last) v f
    ≡ and_then (choose now (exec_all st sc (stmts_view (out-JsCase c).body)) (gives onward) g) (go_on (cases_do now st sc (cases_of (map case_view (drop (i + 1) xs)) last) v))
cases_next st sc last xs i c runs now v f g p l h q =
    p ∙ (cases_step st sc xs i c last runs v g l h ∙ case_does st sc (out-JsCase c).number (stmts_view (out-JsCase c).body) (cases_of (map case_view (drop (i + 1) xs)) last) runs now v g q)

-- the same, from the cases' view
pub cases_next_at : (st : Setting) (sc : Scope) (cs : JsCases) (xs : List JsCase) (i : ℕ) (c : JsCase) (runs now : Bool) (v : Value) (f g : Frame) → xs ≡ (out-JsCases cs).items.items → Came st sc (last_of cs) xs i runs v f g → i < length xs → c ≡ get_or xs i c
    → now ≡ (if runs then true else same_value v (whole (pos (out-JsCase c).number)))
    → exec_cases st sc (cases_view cs) v f
    ≡ and_then (choose now (exec_all st sc (stmts_view (out-JsCase c).body)) (gives onward) g) (go_on (cases_do now st sc (cases_of (map case_view (drop (i + 1) xs)) (last_of cs)) v))
cases_next_at st sc cs xs i c runs now v f g e p l h q = rw (cases_at cs xs e) (cases_next st sc (last_of cs) xs i c runs now v f g p l h q)

pub cases_left : (st : Setting) (sc : Scope) (cs : JsCases) (xs : List JsCase) (i : ℕ) (c : JsCase) (runs now : Bool) (v : Value) (f g k : Frame) (flow : Flow) → xs ≡ (out-JsCases cs).items.items → Came st sc (last_of cs) xs i runs v f g → i < length xs → c ≡ get_or xs i c
    → now ≡ (if runs then true else same_value v (whole (pos (out-JsCase c).number)))
    → choose now (exec_all st sc (stmts_view (out-JsCase c).body)) (gives onward) g ≡ gives flow k → leaves flow ≡ true → exec_cases st sc (cases_view cs) v f ≡ gives flow k
cases_left st sc cs xs i c runs now v f g k flow e p l h q y n =
    let next : Frame → Outcome Frame Flow = cases_do now st sc (cases_of (map case_view (drop (i + 1) xs)) (last_of cs)) v in
    cases_next_at st sc cs xs i c runs now v f g e p l h q ∙ (goes (choose now (exec_all st sc (stmts_view (out-JsCase c).body)) (gives onward) g) flow k (go_on next) y ∙ left next flow k n)

pub cases_go_on : (st : Setting) (sc : Scope) (last : Cases) (xs : List JsCase) (i : ℕ) (c : JsCase) (runs now : Bool) (v : Value) (f g k : Frame) (flow : Flow) → Came st sc last xs i runs v f g → i < length xs → c ≡ get_or xs i c
    → now ≡ (if runs then true else same_value v (whole (pos (out-JsCase c).number)))
    → choose now (exec_all st sc (stmts_view (out-JsCase c).body)) (gives onward) g ≡ gives flow k → leaves flow ≡ false → Came st sc last xs (i + 1) now v f k
cases_go_on st sc last xs i c runs now v f g k flow p l h q y n =
    let next : Frame → Outcome Frame Flow = cases_do now st sc (cases_of (map case_view (drop (i + 1) xs)) last) v in
    cases_next st sc last xs i c runs now v f g p l h q ∙ (goes (choose now (exec_all st sc (stmts_view (out-JsCase c).body)) (gives onward) g) flow k (go_on next) y ∙ goes_on next flow k n)

pub cases_done : (st : Setting) (sc : Scope) (cs : JsCases) (xs : List JsCase) (i : ℕ) (runs : Bool) (v : Value) (f g : Frame) → xs ≡ (out-JsCases cs).items.items → Came st sc (last_of cs) xs i runs v f g → length xs ≤ i
    → exec_cases st sc (cases_view cs) v f ≡ cases_do runs st sc (last_of cs) v g
cases_done st sc cs xs i runs v f g q p l =
    rw (cases_at cs xs q) (p ∙ ap (λ (xs : List JsCase). cases_do runs st sc (cases_of (map case_view xs) (last_of cs)) v g) (drop_of_length-le xs l))

pub last_does : (st : Setting) (sc : Scope) (ss : Stmts) (runs : Bool) (v : Value) (g : Frame) → cases_do runs st sc (default ss) v g ≡ exec_all st sc ss g
last_does st sc ss true v g = refl
last_does st sc ss false v g = refl

pub none_does : (st : Setting) (sc : Scope) (runs : Bool) (v : Value) (g : Frame) → cases_do runs st sc no_cases v g ≡ gives onward g
none_does st sc true v g = refl
none_does st sc false v g = refl

-- what a turn does once the condition has given true
abbrev pub turn_of : Option Name → (Frame → Outcome Frame Bool) → (Frame → Outcome Frame Flow) → ℕ → Frame → Outcome Frame Flow
turn_of label test body m f = and_then (in_frame f.locals (tick f.world)) (λ _ f. and_then (body f) (after_turn label (turns m label test body)))

pub turns_more : (n m : ℕ) (label : Option Name) (test : Frame → Outcome Frame Bool) (body : Frame → Outcome Frame Flow) (o : Outcome Frame Flow) (f : Frame) → o ≡ turns n label test body f → n ≡ suc m
    → o ≡ and_then (test f) (λ t. choose t (turn_of label test body m) (gives onward))
turns_more n m label test body o f h q = h ∙ ap (λ (n : ℕ). turns n label test body f) q

pub turns_no_more : (n : ℕ) (label : Option Name) (test : Frame → Outcome Frame Bool) (body : Frame → Outcome Frame Flow) (o : Outcome Frame Flow) (f : Frame) → o ≡ turns n label test body f → n ≡ 0
    → o ≡ and_then (test f) (λ t. choose t (λ f. over Going f.world) (gives onward))
turns_no_more n label test body o f h q = h ∙ ap (λ (n : ℕ). turns n label test body f) q

-- a turn: the condition stops, gives false, or gives true and the turn is made
abbrev pub turned_so : Option Name → (Frame → Outcome Frame Bool) → (Frame → Outcome Frame Flow) → ℕ → Frame → Outcome Frame Flow
turned_so label test body m f = and_then (test f) (λ t. choose t (turn_of label test body m) (gives onward))

pub turn_begins : (m : ℕ) (label : Option Name) (test : Frame → Outcome Frame Bool) (body : Frame → Outcome Frame Flow) (f : Frame) (b : Bool) (ls : Locals) (w : World)
    → test f ≡ gives b (frame ls w) → b ≡ true → turned_so label test body m f ≡ and_then (in_frame ls (tick w)) (λ _ f. and_then (body f) (after_turn label (turns m label test body)))
turn_begins m label test body f b ls w h q =
    ap (λ o. and_then o (λ t. choose t (turn_of label test body m) (gives onward))) h
    ∙ ap (λ (b : Bool). choose b (turn_of label test body m) (gives onward) (frame ls w)) q

pub turn_runs : (m : ℕ) (label : Option Name) (test : Frame → Outcome Frame Bool) (body : Frame → Outcome Frame Flow) (f : Frame) (b : Bool) (ls : Locals) (w u : World)
    → test f ≡ gives b (frame ls w) → b ≡ true → tick w ≡ gives tt u → turned_so label test body m f ≡ and_then (body (frame ls u)) (after_turn label (turns m label test body))
turn_runs m label test body f b ls w u h q k =
    turn_begins m label test body f b ls w h q
    ∙ ap (λ (o : Outcome World (Unit {0})). and_then (in_frame ls o) (λ _ f. and_then (body f) (after_turn label (turns m label test body)))) k

pub turn_ends : (m : ℕ) (label : Option Name) (test : Frame → Outcome Frame Bool) (body : Frame → Outcome Frame Flow) (f g : Frame) (b : Bool)
    → test f ≡ gives b g → b ≡ false → turned_so label test body m f ≡ gives onward g
turn_ends m label test body f g b h q =
    ap (λ o. and_then o (λ t. choose t (turn_of label test body m) (gives onward))) h
    ∙ ap (λ (b : Bool). choose b (turn_of label test body m) (gives onward) g) q

-- no turn is left
abbrev pub turned_last : (Frame → Outcome Frame Bool) → Frame → Outcome Frame Flow
turned_last test f = and_then (test f) (λ t. choose t (λ f. over Going f.world) (gives onward))

pub last_goes : (test : Frame → Outcome Frame Bool) (f g : Frame) (b : Bool) → test f ≡ gives b g → b ≡ true → turned_last test f ≡ over Going g.world
last_goes test f g b h q =
    ap (λ o. and_then o (λ t. choose t (λ f. over Going f.world) (gives onward))) h ∙ ap (λ (b : Bool). choose b (λ f. over Going f.world) (gives onward) g) q

pub last_ends : (test : Frame → Outcome Frame Bool) (f g : Frame) (b : Bool) → test f ≡ gives b g → b ≡ false → turned_last test f ≡ gives onward g
last_ends test f g b h q =
    ap (λ o. and_then o (λ t. choose t (λ f. over Going f.world) (gives onward))) h ∙ ap (λ (b : Bool). choose b (λ f. over Going f.world) (gives onward) g) q

pub turn_leaves : (m : ℕ) (label : Option Name) (test : Frame → Outcome Frame Bool) (body : Frame → Outcome Frame Flow) (f k : Frame) (b : Bool) (ls : Locals) (w u : World) (flow : Flow)
    → test f ≡ gives b (frame ls w) → b ≡ true → tick w ≡ gives tt u → body (frame ls u) ≡ gives flow k
    → turned_so label test body m f ≡ after_turn label (turns m label test body) flow k
turn_leaves m label test body f k b ls w u flow h q t y =
    turn_runs m label test body f b ls w u h q t ∙ ap (λ o. and_then o (after_turn label (turns m label test body))) y

-- a part of a case weighs less than the cases
pub case_in : (xs : List JsCase) (last : Cases) (c : JsCase) (i : ℕ) → i < length xs → c ≡ get_or xs i c
    → stmts_weight (stmts_view (out-JsCase c).body) < cases_weight (cases_of (map case_view xs) last)
case_in [] last c i l h = absurd (omega arith)
case_in (x ∷ xs) last c zero l h =
    let k : stmts_weight (stmts_view (out-JsCase c).body) ≡ stmts_weight (stmts_view (out-JsCase x).body) = ap (λ (c : JsCase). stmts_weight (stmts_view (out-JsCase c).body)) h in
    let w : cases_weight (case_view x (cases_of (map case_view xs) last)) ≡ stmts_weight (stmts_view (out-JsCase x).body) + cases_weight (cases_of (map case_view xs) last) + 2 = ap cases_weight (case_at x (cases_of (map case_view xs) last)) in
    omega arith
case_in (x ∷ xs) last c (suc i) l h =
    let k = case_in xs last c i (omega arith) h in
    let w : cases_weight (case_view x (cases_of (map case_view xs) last)) ≡ stmts_weight (stmts_view (out-JsCase x).body) + cases_weight (cases_of (map case_view xs) last) + 2 = ap cases_weight (case_at x (cases_of (map case_view xs) last)) in
    omega arith

pub last_in : (xs : List JsCase) (last : Cases) → cases_weight last ≤ cases_weight (cases_of (map case_view xs) last)
last_in [] last = omega arith
last_in (x ∷ xs) last =
    let k = last_in xs last in
    let w : cases_weight (case_view x (cases_of (map case_view xs) last)) ≡ stmts_weight (stmts_view (out-JsCase x).body) + cases_weight (cases_of (map case_view xs) last) + 2 = ap cases_weight (case_at x (cases_of (map case_view xs) last)) in
    omega arith

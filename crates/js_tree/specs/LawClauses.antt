-- What the laws of src/laws.rt say. Their proofs, and the same laws for parts of any kind, stand in Laws, ComesLaws and Steady.
use Rattle.std.specs.Prelude.{◌≡◌, ◌≤◌, ◌<◌, ◌+◌, ◌==◌, ℕ, suc, List, length, Option, Some, None, true}
use Rattle.js_tree.specs.Script.{Name, Expr, Stmt, while, forever, Stmts, stmt, Function, ScriptTree}
use Rattle.js_tree.specs.Value.{Value, function, World, Frame, Outcome, gives, and_then, in_frame, choose, tick}
use Rattle.js_tree.specs.Evaluate.{setting, Scope, Called, Flow, onward, host_named, find_function, body_does, call_value, exec, exec_all, condition, after_turn}
use Rattle.js_tree.specs.Static.{static_fault}
use Rattle.js_tree.specs.ScriptRun.{script_run, run_all, first_world, result_of}
use Rattle.js_tree.specs.Ticks.{Precedes, worlds, frames, world_in, outcome_with, Comes, GoesOn}
use Rattle.js_tree.specs.Steady.{Stopped, StoppedRun, steady_exec_all, steady_call}

-- 13.2.1: where ticks are left for it, a function's call does what its body does
abbrev pub CallDoes : Type 0
CallDoes =
    (script : ScriptTree) (choices : List ℕ) (fuel : ℕ) (f : Function) (vs : List Value) (w : World) → w.left < fuel
    → (setting script choices fuel).enter f vs w ≡ body_does (setting script choices fuel) f vs w

-- 12.6.2: a loop tests its condition, takes a tick for a turn, and goes on from there
abbrev pub WhileDoes : Type 0
WhileDoes =
    (script : ScriptTree) (choices : List ℕ) (fuel : ℕ) (sc : Scope) (at : ℕ) (label : Option Name) (test : Expr) (ss : Stmts) (f : Frame) → f.world.left ≤ fuel
    → (let st = setting script choices fuel in
    exec st sc (while at label test ss) f ≡
    and_then (condition st sc at test f) (λ t. choose t (λ f. and_then (in_frame f.locals (tick f.world)) (λ _ f. and_then (exec_all st sc ss f) (after_turn label (exec st sc (while at label test ss))))) (gives onward)))

-- 12.6.3: the same without a condition
abbrev pub ForeverDoes : Type 0
ForeverDoes =
    (script : ScriptTree) (choices : List ℕ) (fuel : ℕ) (sc : Scope) (at : ℕ) (label : Option Name) (ss : Stmts) (f : Frame) → f.world.left ≤ fuel
    → (let st = setting script choices fuel in
    exec st sc (forever at label ss) f ≡ and_then (in_frame f.locals (tick f.world)) (λ _ f. and_then (exec_all st sc ss f) (after_turn label (exec st sc (forever at label ss)))))

-- a run with more ticks is the same, or goes on from where no tick was left
abbrev pub MoreTicks : Type 0
MoreTicks = (script : ScriptTree) (choices : List ℕ) (n k : ℕ) → GoesOn (script_run script choices n) (script_run script choices (n + k))

-- statements take nothing back
abbrev pub NothingTakenBack : Type 0
NothingTakenBack =
    (script : ScriptTree) (choices : List ℕ) (fuel : ℕ) (sc : Scope) (ss : Stmts) (f : Frame) → Precedes f.world (world_in frames (exec_all (setting script choices fuel) sc ss f))

-- a statement, and those after it
abbrev pub StatementsFollow : Type 0
StatementsFollow =
    (script : ScriptTree) (choices : List ℕ) (sc : Scope) (s : Stmt) (ss : Stmts) (f g : Frame) (d e : ℕ) (o : Outcome Frame Flow)
    → Comes frames script choices (λ st. exec st sc s) f d (gives onward g) → Comes frames script choices (λ st. exec_all st sc ss) g e o
    → Comes frames script choices (λ st. exec_all st sc (stmt s ss)) f (d + e) o

-- 13.2.1: a function's call takes a tick, and does what its body does
abbrev pub CallComes : Type 0
CallComes =
    (script : ScriptTree) (choices : List ℕ) (at : ℕ) (x : Name) (f : Function) (vs : List Value) (w : World) (d : ℕ) (o : Called)
    → host_named x ≡ None → find_function x script.items ≡ Some f → (length vs == length f.params) ≡ true
    → Comes worlds script choices (λ st. body_does st f vs) w d o → Comes worlds script choices (λ st. call_value st at (function x) vs) w (suc d) o

-- 12.6.2: a turn of a loop, and what follows it
abbrev pub TurnComes : Type 0
TurnComes =
    (script : ScriptTree) (choices : List ℕ) (sc : Scope) (at : ℕ) (label : Option Name) (test : Expr) (ss : Stmts) (f g h : Frame) (flow : Flow) (d e c : ℕ) (o : Outcome Frame Flow)
    → Comes frames script choices (λ st. condition st sc at test) f d (gives true g) → Comes frames script choices (λ st. exec_all st sc ss) g e (gives flow h)
    → Comes frames script choices (λ st. after_turn label (exec st sc (while at label test ss)) flow) h c o
    → Comes frames script choices (λ st. exec st sc (while at label test ss)) f (d + suc (e + c)) o

-- with fewer ticks than they take, statements stop on their way
abbrev pub StatementsStop : Type 0
StatementsStop =
    (script : ScriptTree) (choices : List ℕ) (sc : Scope) (ss : Stmts) (f : Frame) (d : ℕ) (o : Outcome Frame Flow)
    → Comes frames script choices (λ st. exec_all st sc ss) f d o → (fuel before : ℕ) → before < d → before ≤ fuel
    → Stopped (steady_exec_all script choices sc ss) f (exec_all (setting script choices fuel) sc ss (frames.with_left before f)) o

-- the same for a call
abbrev pub CallStops : Type 0
CallStops =
    (script : ScriptTree) (choices : List ℕ) (at : ℕ) (v : Value) (vs : List Value) (w : World) (d : ℕ) (o : Called)
    → Comes worlds script choices (λ st. call_value st at v vs) w d o → (fuel before : ℕ) → before < d → before ≤ fuel
    → Stopped (steady_call script choices at v vs) w (call_value (setting script choices fuel) at v vs (worlds.with_left before w)) o

-- a run with enough ticks ends as its parts come to, and with too few it is Going
pub record RunIs (script : ScriptTree) (choices : List ℕ) (d : ℕ) (o : Called) : Type 0 where
  pub enough : (n : ℕ) → d ≤ n → script_run script choices n ≡ result_of d (outcome_with worlds 0 o)
  pub too_few : (n : ℕ) → n < d → StoppedRun (script_run script choices n) (world_in worlds o) n

abbrev pub RunComes : Type 0
RunComes =
    (script : ScriptTree) (choices : List ℕ) (d : ℕ) (o : Called) → static_fault script ≡ None
    → Comes worlds script choices run_all (first_world 0) d o → RunIs script choices d o

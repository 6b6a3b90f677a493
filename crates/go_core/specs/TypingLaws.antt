-- What typing says of the nodes of a Sound program.
use Rattle.std.specs.Prelude.{ℕ, List, [], ◌∷◌}
use Rattle.go_type.specs.Tree.{Ty}
use Rattle.go_core.specs.CoreTree.{Expr, Stmts, InitStep, initialise, call_init, CoreProgram}
use Rattle.go_core.specs.TypeOf.{listed_types, types_of}
use Rattle.go_core.specs.SoundNode.{Around}
use Rattle.go_core.specs.Sound.{SoundExpr, SoundStmts}
use Rattle.go_core.specs.SoundProgram.{Sound, IsPlainFunc}
use Rattle.go_core.specs.Memory.{Value, Memory}
use Rattle.go_core.specs.Did.{Did, gives, panics, no_step}
use Rattle.go_core.specs.Operator.{Operator, operated}
use Rattle.go_core.specs.Opened.{evaluated, all_opened}
use Rattle.go_core.specs.Goroutine.{Task}
use Rattle.go_core.specs.Run.{start}
use Rattle.go_core.specs.Typed.{World, MemoryTyped, Extends}
use Rattle.go_core.specs.Applies.{Slot, values_of_types, pushed_slots, AreIn, Applies}
use Rattle.go_core.specs.TasksTyped.{ScopeTyped, LabelsTyped, TasksTyped}
use Rattle.go_core.specs.WellFormed.{GlobalsLie, WellFormed}

-- the tasks of a sound expression give values of its types to what remains
abbrev pub ExprsOpenTyped : Type 0
ExprsOpenTyped =
    (p : CoreProgram) (w : World) (results : List Ty) (has : List ℕ) (a : Around) (e : Expr) (st : List Slot) (rest : List Task)
    → ScopeTyped p has a → SoundExpr p a e → TasksTyped p w results has (pushed_slots (values_of_types (types_of p.names e)) st) rest
    → TasksTyped p w results has st (evaluated e rest)

-- the tasks of sound statements are typed where what remains is, and what the labels around lead to
abbrev pub StmtsOpenTyped : Type 0
StmtsOpenTyped =
    (p : CoreProgram) (w : World) (has : List ℕ) (a : Around) (ss : Stmts) (rest : List Task)
    → ScopeTyped p has a → SoundStmts p a ss → LabelsTyped p w (listed_types a.results) has a rest → TasksTyped p w (listed_types a.results) has [] rest
    → TasksTyped p w (listed_types a.results) has [] (all_opened ss rest)

-- an operator's step, in a world that is as it was or has more in it, gives values of the operator's types
abbrev pub DidTyped : CoreProgram → World → List Slot → Did → Type 0
DidTyped p w outs (gives vs m units) = (new : World) × Extends w new × MemoryTyped p new m × AreIn p new outs vs
DidTyped p w outs (panics q units) = Unit {0}
DidTyped p w outs no_step = ⊥

-- operands of its types always have a step
abbrev pub OperatorsTyped : Type 0
OperatorsTyped =
    (p : CoreProgram) (wanted : ℕ) (w : World) (m : Memory) (o : Operator) (ins outs : List Slot) (vs : List Value)
    → Sound p → GlobalsLie p w → MemoryTyped p w m → Applies p o ins outs → AreIn p w ins vs → DidTyped p w outs (operated p wanted o vs m)

-- the initial functions that an order calls have no parameters and no results
abbrev pub OrderFits : CoreProgram → List InitStep → Type 0
OrderFits p [] = Unit {0}
OrderFits p (initialise n ∷ order) = OrderFits p order
OrderFits p (call_init func ∷ order) = IsPlainFunc p func × OrderFits p order

-- the beginning is well formed
abbrev pub StartsWellFormed : Type 0
StartsWellFormed = (p : CoreProgram) (order : List InitStep) → Sound p → OrderFits p order → WellFormed p (start p order)

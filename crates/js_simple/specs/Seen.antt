-- What the values of expressions say of the definitions.
use Rattle.std.specs.Prelude.{◌≡◌, List, map, Option, option_map, Result, Ok, Err}
use Rattle.js_tree.specs.Value as run
use Rattle.js_tree.specs.Value.{World, Locals, Outcome, gives, over}
use Rattle.js_tree.specs.Evaluate.{Setting, Scope, with_objects}
use Rattle.js_code.specs.Names.{distinct, global_names}
use Rattle.js_code.specs.Places.{table_of}
use Rattle.js_code.specs.Slots.{slots_of, OnlyGlobals}
use Rattle.js_code.specs.PartClauses.{IsCode}
use Rattle.js_value.specs.HeapSeen.{value_of, objects_of}
use Rattle.js_value.specs.declared.heap.value.Value.{Value}
use Rattle.js_value.specs.declared.heap.heap.Object.{Object}
use Rattle.js_simple.specs.declared.state.Halt.{Halt}
use Rattle.js_simple.specs.declared.state.Halt.TheVariants as halt
use Rattle.js_simple.specs.declared.state.Context.{Context}

-- what slots hold
abbrev pub slots_in : List (Option Value) → List (Option run.Value)
slots_in slots = map (option_map value_of) slots

-- an operation at an offset has no meaning; want of memory says nothing
abbrev pub Stops : {B : Type 0} → Halt → World → Outcome World B → Type 0
Stops (halt.Stuck at) w o = o ≡ over (run.Stuck at) w
Stops halt.NoMemory w o = Unit {0}

-- what a result says of an outcome: the answer and the world, or why there is none
abbrev pub Gives : {A B : Type 0} → (A → B) → Result A Halt → World → Outcome World B → Type 0
Gives view (Ok a) w o = o ≡ gives (view a) w
Gives view (Err x) w o = Stops x w o

-- a result that leaves the world as it is, in every world
abbrev pub Anywhere : {A B : Type 0} → (A → B) → Result A Halt → (World → Outcome World B) → Type 0
Anywhere view r part = (w : World) → Gives view r w (part w)

-- a world with these arrays and dictionaries
abbrev pub world_with : List Object → World → World
world_with objects w = with_objects (objects_of objects) w

-- a result that changes arrays and dictionaries alone, in every world
abbrev pub Changes : {A B : Type 0} → (A → B) → Result A Halt → (old new : List Object) → (World → Outcome World B) → Type 0
Changes view r old new part = (w : World) → Gives view r (world_with new w) (part (world_with old w))

-- what the definitions evaluate with, but for arrays and dictionaries
pub record Point : Type 0 where
  pub setting : Setting
  pub scope : Scope
  pub locals : Locals
  pub world : World

-- a context holds what the definitions evaluate with
pub record Stands (c : Context) (p : Point) : Type 0 where
  pub code : IsCode (table_of p.setting.script p.scope.names) c.code.now
  pub caught : p.scope.caught ≡ option_map value_of c.caught
  pub locals : slots_of (distinct p.scope.names) p.locals ≡ slots_in c.locals.now
  pub globals : slots_of (distinct (global_names p.setting.script.items)) p.world.globals ≡ slots_in c.globals.now
  pub only : OnlyGlobals p.setting.script p.world.globals

-- a result of a part of the script, wherever a context stands for it
abbrev pub Does : {A B : Type 0} → Context → (A → B) → Result A Halt → (old new : List Object) → (Point → World → Outcome World B) → Type 0
Does c view r old new part = (p : Point) → Stands c p → Gives view r (world_with new p.world) (part p (world_with old p.world))

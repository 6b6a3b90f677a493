-- Own: variables in slots, one for each name, and that they are the variables of the definitions.
use Rattle.std.specs.Prelude.{◌≡◌, ℕ, List, ◌++◌, Option, Some, None, false, map, length, codes, slice_get, slice_set, drop, option_and_then, option_map}
use Rattle.js_tree.specs.Script.{Name, Function, ScriptTree}
use Rattle.js_tree.specs.Value.{Value, function, World, Locals, Frame, Outcome, gives, over, Stuck, lookup, with_entry}
use Rattle.js_tree.specs.Evaluate.{Setting, Scope, Flow, onward, frame, name_value, set_name, set_local, bound, scope_of}
use Rattle.js_tree.specs.Static.{has_twice}
use Rattle.js_code.specs.declared.slots.place.Place.{Place}
use Rattle.js_code.specs.declared.slots.place.Place.TheVariants.{Caught, Local, Host, Function as in_function, Global, Nowhere}
use Rattle.js_code.specs.declared.slots.place.Host.TheVariants.{Write, Pick, Finish}
use Rattle.js_code.specs.declared.slots.place.Host as host
use Rattle.js_code.specs.Names.{is_among, index_in, global_names, distinct}
use Rattle.js_code.specs.Places.{Table, table_of, place_of, target_of}

-- what has been set, name by name
abbrev pub slots_of : List Name → List (Name × Value) → List (Option Value)
slots_of names entries = map (λ x. lookup x entries) names

abbrev pub slot_value : List (Option Value) → ℕ → Option Value
slot_value slots i = option_and_then (λ v. v) (slice_get slots i)

abbrev pub host_value : host.Host → Value
host_value Write = function (codes "$write")
host_value Pick = function (codes "$pick")
host_value Finish = function (codes "$end")

-- the value in a place, with what was caught, the slots of the locals and those of the top-level variables
abbrev pub value_at : Table → Option Value → (locals globals : List (Option Value)) → Place → Option Value
value_at t caught locals globals Caught = caught
value_at t caught locals globals (Local i) = slot_value locals i
value_at t caught locals globals (Host h) = Some (host_value h)
value_at t caught locals globals (in_function i) = option_map function (slice_get t.functions i)
value_at t caught locals globals (Global i) = slot_value globals i
value_at t caught locals globals Nowhere = None

-- with a value in a slot
abbrev pub with_slot : Option ℕ → Value → List (Option Value) → List (Option Value)
with_slot None v slots = slots
with_slot (Some i) v slots = slice_set slots i (Some v)

-- no name but those of top-level variables is set at the top
abbrev pub OnlyGlobals : ScriptTree → List (Name × Value) → Type 0
OnlyGlobals script globals = (x : Name) → is_among (global_names script.items) x ≡ false → lookup x globals ≡ None

-- the value of a name is what its place holds
abbrev pub ReadsSlots : Type 0
ReadsSlots =
    (st : Setting) (sc : Scope) (locals : Locals) (x : Name) (w : World) → OnlyGlobals st.script w.globals
    → (let t = table_of st.script sc.names in
    name_value st sc locals x w ≡ value_at t sc.caught (slots_of t.locals locals) (slots_of t.globals w.globals) (place_of t x))

-- what an assignment does, by the place that it sets
abbrev pub set_at : ℕ → Place → Name → Value → Frame → Outcome Frame Flow
set_at at (Local i) x v f = set_local x v f
set_at at (Global i) x v f = gives onward (frame f.locals (record f.world { globals = with_entry x v f.world.globals }))
set_at at _ x v f = over (Stuck at) f.world

abbrev pub SetsPlace : Type 0
SetsPlace =
    (st : Setting) (sc : Scope) (at : ℕ) (x : Name) (v : Value) (f : Frame)
    → set_name st sc at x v f ≡ set_at at (target_of (table_of st.script sc.names) x) x v f

-- a variable that is set is a slot that is set, and no other
abbrev pub SetsSlot : Type 0
SetsSlot =
    (names : List Name) (x : Name) (v : Value) (entries : List (Name × Value)) → has_twice names ≡ false
    → slots_of names (with_entry x v entries) ≡ with_slot (index_in names x) v (slots_of names entries)

-- at a call the arguments are in the first slots, and the others are empty
abbrev pub BindsSlots : Type 0
BindsSlots =
    (script : ScriptTree) (f : Function) (vs : List Value) → has_twice f.params ≡ false → length vs ≡ length f.params
    → (let t = table_of script (scope_of f).names in
    slots_of t.locals (bound f.params vs) ≡ map Some vs ++ map (λ _. None) (drop (length vs) t.locals))

-- names that were made distinct stand once each
abbrev pub StandOnce : Type 0
StandOnce = (names : List Name) → has_twice (distinct names) ≡ false

-- The values of the definitions that the run's values stand for.
use Rattle.std.specs.Prelude.{ℕ, ◌-◌, List, Option, None, map, length, take, slice_get, option_map}
use Rattle.std.specs.Borrow.{Bor}
use Rattle.js_tree.specs.Value.{Value, whole, bytes, truth, nothing, object, function, Object, items, entries}
use Rattle.js_tree.specs.Script.{Name}
use Rattle.js_value.specs.declared.heap.value.Value as held
use Rattle.js_value.specs.declared.heap.value.Value.TheVariants as held_value
use Rattle.js_value.specs.declared.heap.heap.Object as heap
use Rattle.js_value.specs.declared.heap.heap.Object.TheVariants as heap_object

abbrev pub value_of : held.Value → Value
value_of (held_value.Whole x) = whole x.n
value_of (held_value.Literal s) = bytes s.now
value_of (held_value.Made s) = bytes s.bytes.now.now
value_of (held_value.Truth b) = truth b
value_of held_value.Nothing = nothing
value_of (held_value.Object id) = object id
value_of (held_value.Function n x) = function x.now

abbrev pub entry_of : Bor (List ℕ) × held.Value → Name × Value
entry_of e = (e.0.now, value_of e.1)

abbrev pub entries_of : List (Bor (List ℕ) × held.Value) → List (Name × Value)
entries_of es = map entry_of es

abbrev pub values_of : List held.Value → List Value
values_of vs = map value_of vs

abbrev pub object_of : heap.Object → Object
object_of (heap_object.Items vs) = items (values_of vs.items)
object_of (heap_object.Entries es) = entries (entries_of es.value.entries)

abbrev pub objects_of : List heap.Object → List Object
objects_of os = map object_of os

-- the array or dictionary that a value is
abbrev pub object_at : List Object → Value → Option Object
object_at os (object id) = slice_get os id
object_at os _ = None

-- the last element of an array that has one, and the array without it
abbrev pub popped_parts : Object → Option (Value × Object)
popped_parts (items vs) = option_map (λ v. (v, items (take (length vs - 1) vs))) (slice_get vs (length vs - 1))
popped_parts (entries es) = None

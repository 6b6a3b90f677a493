-- The values of the definitions that the run's values stand for.
use Rattle.std.specs.Prelude.{ℕ, ◌-◌, List, Option, None, map, length, take, slice_get, option_map, bytes_eq}
use Rattle.std.specs.List.{position_or_len}
use Rattle.js_tree.specs.Value.{Value, whole, bytes, truth, nothing, object, function, Object, items, entries}
use Rattle.js_tree.specs.Script.{Name}
use Rattle.js_value.specs.declared.value.entries.Entry.{Entry}
use Rattle.js_value.specs.declared.value.heap.Object as heap
use Rattle.js_value.specs.declared.value.heap.Object.TheVariants as heap_object
use Rattle.js_value.specs.declared.value.number.Number.{Number}
use Rattle.js_value.specs.declared.value.value.Str.{Str}
use Rattle.js_value.specs.declared.value.value.Str.TheVariants.{Literal, Made}
use Rattle.js_value.specs.declared.value.value.Value as held
use Rattle.js_value.specs.declared.value.value.Value.TheVariants as held_value

abbrev pub whole_of : Number → Value
whole_of x = whole x.n

-- the bytes of a string
abbrev pub str_bytes : Str → List ℕ
str_bytes (Literal text) = text.now
str_bytes (Made text) = text.value

abbrev pub value_of : held.Value → Value
value_of (held_value.Whole x) = whole x.n
value_of (held_value.Bytes s) = bytes (str_bytes s)
value_of (held_value.Truth b) = truth b
value_of held_value.Nothing = nothing
value_of (held_value.Object id) = object id
value_of (held_value.Function x) = function x.now

abbrev pub entry_of : Entry → Name × Value
entry_of e = (str_bytes e.name, value_of e.value)

abbrev pub entries_of : List Entry → List (Name × Value)
entries_of es = map entry_of es

-- the place of the first entry under a name, or the length
abbrev pub place_in : Name → List Entry → ℕ
place_in x es = position_or_len (λ e. bytes_eq x (str_bytes e.name)) es

abbrev pub values_of : List held.Value → List Value
values_of vs = map value_of vs

abbrev pub object_of : heap.Object → Object
object_of (heap_object.Items vs) = items (values_of vs.items)
object_of (heap_object.Entries es) = entries (entries_of es.items)

abbrev pub objects_of : List heap.Object → List Object
objects_of os = map object_of os

-- the array or dictionary that a value is
abbrev pub object_at : List Object → Value → Option Object
object_at os (object id) = slice_get os id
object_at os _ = None

-- the last element of an array that has one, and the array without it
abbrev pub popped_parts : Object → Option (Value × Object)
popped_parts (items vs) = option_map (λ v. (v, items (take (length vs - 1) vs))) (slice_get vs (length vs - 1))
popped_parts (entries es) = None

-- The values and the memory of the definitions that those of the program stand for.
use Rattle.std.specs.Prelude.{List, map}
use Rattle.std.specs.Borrow.{Bor}
use Rattle.go_type.specs.Tree.{Ty}
use Rattle.go_type.specs.Levels.{tree_of}
use Rattle.go_core.specs.Memory as core
use Rattle.go_core.specs.Memory.{Value, packed}
use Rattle.go_core.specs.RunPanic as panics
use Rattle.go_core.specs.Text as text
use Rattle.go_values.specs.declared.values.memory.Channel.{Channel}
use Rattle.go_values.specs.declared.values.memory.Entry.{Entry}
use Rattle.go_values.specs.declared.values.memory.MapState.{MapState}
use Rattle.go_values.specs.declared.values.memory.Memory.{Memory}
use Rattle.go_values.specs.declared.values.run_panic.RunPanic.{RunPanic}
use Rattle.go_values.specs.declared.values.run_panic.RunPanic.TheVariants as held
use Rattle.go_values.specs.declared.values.scalar.Scalar.{Scalar, Scalar-F, fold-Scalar}
use Rattle.go_values.specs.declared.values.text.Rune.{Rune}

abbrev pub panic_of : RunPanic → panics.RunPanic
panic_of held.ZeroDivisor = panics.zero_divisor
panic_of held.NilUsed = panics.nil_used
panic_of (held.BadIndex index length) = panics.bad_index index length
panic_of held.BadBounds = panics.bad_bounds
panic_of held.NegativeShift = panics.negative_shift
panic_of held.BadSize = panics.bad_size
panic_of held.WrongType = panics.wrong_type
panic_of held.NotComparable = panics.not_comparable
panic_of held.SendOnClosed = panics.send_on_closed
panic_of held.ClosedTwice = panics.closed_twice
panic_of held.ClosedNil = panics.closed_nil
panic_of held.NilMapEntry = panics.nil_map_entry

abbrev pub rune_of : Rune → text.Rune
rune_of r = record { code = r.code; width = r.width }

-- with the trees of the table's types
module _ (ts : List Ty) where
  abbrev pub scalar_step : Scalar-F core.Scalar → core.Scalar
  scalar_step (Scalar-F.Truth b) = core.truth b
  scalar_step (Scalar-F.Whole n) = core.whole n
  scalar_step (Scalar-F.Text bytes) = core.text bytes.now
  scalar_step Scalar-F.Nil = core.nil
  scalar_step (Scalar-F.Pointer base) = core.pointer base
  scalar_step (Scalar-F.Slice base length capacity) = core.slice base length capacity
  scalar_step (Scalar-F.Function func bases) = core.function func bases.now
  scalar_step (Scalar-F.BoundMethod row receiver) = core.bound_method row (packed receiver.now)
  scalar_step (Scalar-F.Interface t content) = core.interface (tree_of ts t) (packed content.now)
  scalar_step (Scalar-F.Map name) = core.map name
  scalar_step (Scalar-F.Channel name) = core.channel name

  abbrev pub scalar_of : Scalar → core.Scalar
  scalar_of = fold-Scalar core.Scalar scalar_step

  abbrev pub value_of : List Scalar → Value
  value_of xs = map scalar_of xs

  abbrev pub values_of : List (Bor (List Scalar)) → List Value
  values_of vs = map (λ v. value_of v.now) vs

  abbrev pub entry_of : Entry → core.Entry
  entry_of e = record { key = value_of e.key.now; value = value_of e.value.now; birth = e.birth }

  abbrev pub map_of : MapState → core.MapState
  map_of s = record { entries = map entry_of s.entries.items; next_birth = s.next_birth }

  abbrev pub channel_of : Channel → core.Channel
  channel_of c = record { capacity = c.capacity; values = values_of c.values.items; closed = c.closed }

  abbrev pub memory_of : Memory → core.Memory
  memory_of m = record { cells = value_of m.cells.items; maps = map map_of m.maps.items; channels = map channel_of m.channels.items }

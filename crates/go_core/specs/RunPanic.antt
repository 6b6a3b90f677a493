-- Go specification (as of Go 1.17), "Run-time panics", "Errors": the panics that a step can cause. The texts
-- are own, as is what is told of an index.
use Rattle.std.specs.Prelude.{ℕ, ℤ, pos, negsuc, List, ◌++◌, codes, suc, decimal}
use Rattle.go_type.specs.Tree.{Ty}
use Rattle.go_core.specs.Memory.{Scalar, text, interface, scalar, no_scalars}

pub data RunPanic : Type 0 where
  -- P1
  zero_divisor : RunPanic
  -- P2: a nil pointer, a nil function, a method of a nil interface value
  nil_used : RunPanic
  -- P3
  bad_index : (index : ℤ) (length : ℕ) → RunPanic
  -- P4
  bad_bounds : RunPanic
  -- P5
  negative_shift : RunPanic
  -- P6: a negative size, a length above the capacity, or past a limit
  bad_size : RunPanic
  -- P7
  wrong_type : RunPanic
  -- P8
  not_comparable : RunPanic
  -- P9
  send_on_closed : RunPanic
  -- P10
  closed_twice : RunPanic
  -- P11
  closed_nil : RunPanic
  -- P12
  nil_map_entry : RunPanic

abbrev pub index_text : ℤ → ℕ → List ℕ
index_text (pos i) length = decimal i ++ codes "] with length " ++ decimal length
index_text (negsuc i) length = codes "-" ++ decimal (suc i) ++ codes "]"

-- what the method `Error` of the panic's value answers
abbrev pub text_of : RunPanic → List ℕ
text_of zero_divisor = codes "runtime error: integer divide by zero"
text_of nil_used = codes "runtime error: invalid memory address or nil pointer dereference"
text_of (bad_index i n) = codes "runtime error: index out of range [" ++ index_text i n
text_of bad_bounds = codes "runtime error: slice bounds out of range"
text_of negative_shift = codes "runtime error: negative shift amount"
text_of bad_size = codes "runtime error: size out of range"
text_of wrong_type = codes "interface conversion: wrong dynamic type"
text_of not_comparable = codes "runtime error: comparing uncomparable type"
text_of send_on_closed = codes "send on closed channel"
text_of closed_twice = codes "close of closed channel"
text_of closed_nil = codes "close of nil channel"
text_of nil_map_entry = codes "assignment to entry in nil map"

-- a value of the hidden type, which holds the text
abbrev pub panic_value : Ty → RunPanic → Scalar
panic_value hidden p = interface hidden (scalar (text (text_of p)) no_scalars)

-- What a constant is as a value of a type.
use Rattle.std.specs.Prelude.{Bool, true, false}
use Rattle.go_typing.specs.Operand.{held, past, unlike}
use Rattle.go_typing.specs.Operand as operands
use Rattle.go_operands.specs.declared.rules.constant.Held.{Held}
use Rattle.go_operands.specs.declared.rules.constant.Held.TheVariants as holds

abbrev pub held_view : Held → operands.Held
held_view (holds.Value k) = held k
held_view holds.Past = past
held_view holds.Unlike = unlike

-- whether a constant is one of the type
abbrev pub is_held : operands.Held → Bool
is_held (held k) = true
is_held past = false
is_held unlike = false

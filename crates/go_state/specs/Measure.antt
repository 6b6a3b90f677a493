-- How much is still to be opened. For measures alone.
use Rattle.std.specs.Prelude.{ℕ, ◌+◌, ◌*◌, List, [], ◌∷◌, Bool, false}
use Rattle.go_state.specs.TasksSeen.{is_opened}
use Rattle.go_state.specs.Weight.{weight}
use Rattle.go_state.specs.declared.state.frame.Todo.{Todo}
use Rattle.go_state.specs.declared.state.frame.Todo.TheVariants as held

-- one more than four times its weight, since it is opened into three that weigh less
abbrev pub todo_measure : Todo → ℕ
todo_measure (held.Text t) = 4 * weight [] t + 1
todo_measure _ = 1

abbrev pub measure : List Todo → ℕ
measure [] = 0
measure (t ∷ todos) = todo_measure t + measure todos

abbrev pub opens : Todo → Bool
opens (held.Text t) = is_opened t
opens _ = false

-- Own: which tasks are what came of all that was left to be done.
use Rattle.std.specs.Prelude.{◌≡◌, Bool, true, false}
use Rattle.js_steps.specs.declared.frames.frame.Task.{Task}
use Rattle.js_steps.specs.declared.frames.frame.Task.TheVariants.{Give, Follow, Throw}

-- a value, how a statement was completed, or a throw
abbrev pub is_answer : Task → Bool
is_answer (Give v) = true
is_answer (Follow f) = true
is_answer (Throw at v) = true
is_answer _ = false

abbrev pub IsAnswer : Task → Type 0
IsAnswer t = is_answer t ≡ true

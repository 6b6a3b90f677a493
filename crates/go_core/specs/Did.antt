-- What a step does that looks at its operands and the memory alone, and what it adds to its one unit.
use Rattle.std.specs.Prelude.{ℕ, ℤ, List, [], ◌∷◌, Bool}
use Rattle.go_core.specs.Memory.{Scalar, truth, whole, text, pointer, Value, Memory}
use Rattle.go_core.specs.RunPanic.{RunPanic}

pub data Did : Type 0 where
  -- these values, the last one on top
  gives : (values : List Value) (memory : Memory) (units : ℕ) → Did
  panics : (panic : RunPanic) (units : ℕ) → Did
  -- no run of a Sound program comes here
  no_step : Did

-- one value, with the memory as it was
abbrev pub value_of : Memory → Scalar → ℕ → Did
value_of m x units = gives ((x ∷ []) ∷ []) m units

abbrev pub on_none : List Value → Did → Did
on_none [] d = d
on_none _ d = no_step

abbrev pub on_one : List Value → (Value → Did) → Did
on_one (x ∷ []) f = f x
on_one _ f = no_step

abbrev pub on_two : List Value → (Value → Value → Did) → Did
on_two (x ∷ y ∷ []) f = f x y
on_two _ f = no_step

abbrev pub on_truth : Value → (Bool → Did) → Did
on_truth (truth b ∷ []) f = f b
on_truth _ f = no_step

abbrev pub on_whole : Value → (ℤ → Did) → Did
on_whole (whole n ∷ []) f = f n
on_whole _ f = no_step

abbrev pub on_text : Value → (List ℕ → Did) → Did
on_text (text bytes ∷ []) f = f bytes
on_text _ f = no_step

-- a place, which is given as the pointer to it
abbrev pub on_place : Value → (ℕ → Did) → Did
on_place (pointer base ∷ []) f = f base
on_place _ f = no_step

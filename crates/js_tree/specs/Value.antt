-- ECMA-262 5.1, 8: the values of a script, cut to the subset, and what a run keeps. The two kinds of end other than `Ended`, and ticks, are own.
use Rattle.std.specs.Prelude.{ℕ, ℤ, List, [], ◌∷◌, Option, Some, None, Bool, true, false, zero, suc, if◌then◌else◌, bytes_eq}
use Rattle.js_tree.specs.Script.{Name}

-- a whole number from -2^53 to 2^53, a string of bytes, a boolean, null, an array or a dictionary by its identity, a function by its name
pub data Value : Type 0 where
  whole : (n : ℤ) → Value
  bytes : (s : List ℕ) → Value
  truth : (b : Bool) → Value
  nothing : Value
  object : (id : ℕ) → Value
  function : (x : Name) → Value

-- an array's elements, or a dictionary's entries
pub data Object : Type 0 where
  items : List Value → Object
  entries : List (Name × Value) → Object

-- no tick was left; the run ended with a status and a text; the operation at an offset has no meaning
pub data End : Type 0 where
  Going : End
  Ended : (code : ℕ) (text : List ℕ) → End
  Stuck : (at : ℕ) → End

-- ticks that are left, printed bytes, how many numbers were taken, arrays and dictionaries by identity, and the top-level variables that have been set
pub record World : Type 0 where
  pub left : ℕ
  pub printed : List ℕ
  pub taken : ℕ
  pub objects : List Object
  pub globals : List (Name × Value)

-- the variables of a function's call that have been set
abbrev pub Locals : Type 0
Locals = List (Name × Value)

-- what a statement works on
pub record Frame : Type 0 where
  pub locals : Locals
  pub world : World

-- what an evaluation in a state of type S comes to: an answer, a throw by the statement at an offset, or the run's end
pub data Outcome (S A : Type 0) : Type 0 where
  gives : (a : A) (s : S) → Outcome S A
  throws : (at : ℕ) (v : Value) (s : S) → Outcome S A
  over : (e : End) (w : World) → Outcome S A

-- goes on with an answer
abbrev pub and_then : {S A B : Type 0} → Outcome S A → (A → S → Outcome S B) → Outcome S B
and_then (gives a s) next = next a s
and_then (throws at v s) next = throws at v s
and_then (over e w) next = over e w

-- the same, in a function's call
abbrev pub in_frame : {A : Type 0} → Locals → Outcome World A → Outcome Frame A
in_frame locals (gives a w) = gives a (record { locals = locals; world = w })
in_frame locals (throws at v w) = throws at v (record { locals = locals; world = w })
in_frame locals (over e w) = over e w

-- one of two ways to go on
abbrev pub choose : {S X : Type 0} → Bool → (S → X) → (S → X) → S → X
choose true left right s = left s
choose false left right s = right s

-- an answer that may be missing: without it the operation at the offset has no meaning
abbrev pub given : {A : Type 0} → ℕ → Option A → World → Outcome World A
given at None w = over (Stuck at) w
given at (Some a) w = gives a w

abbrev pub tick_from : ℕ → World → Outcome World (Unit {0})
tick_from zero w = over Going w
tick_from (suc n) w = gives tt (record w { left = n })

-- own: takes a tick, where one is left
abbrev pub tick : World → Outcome World (Unit {0})
tick w = tick_from w.left w

-- the value under a name
abbrev pub lookup : Name → List (Name × Value) → Option Value
lookup x [] = None
lookup x (e ∷ es) = if bytes_eq x e.0 then Some e.1 else lookup x es

-- with this value under the name
abbrev pub with_entry : Name → Value → List (Name × Value) → List (Name × Value)
with_entry x v [] = (x, v) ∷ []
with_entry x v (e ∷ es) = if bytes_eq x e.0 then (x, v) ∷ es else e ∷ with_entry x v es

-- with nothing under the name
abbrev pub without_entry : Name → List (Name × Value) → List (Name × Value)
without_entry x [] = []
without_entry x (e ∷ es) = if bytes_eq x e.0 then without_entry x es else e ∷ without_entry x es

-- whether a name is one of several
abbrev pub holds : Name → List Name → Bool
holds x [] = false
holds x (y ∷ ys) = if bytes_eq x y then true else holds x ys

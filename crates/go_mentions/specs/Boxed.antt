-- own: the variables of a function that something else may hold: a literal captures them, or their address is taken.
use Rattle.std.specs.Prelude.{◌≡◌, ℕ, List, [], ◌∷◌, ◌⊎◌, Some, Contains, map, slice_get}
use Rattle.go_core.specs.CoreTree.{Var, CoreFunc, CoreProgram}
use Rattle.go_mentions.specs.Mentions.{Mention, calls_function, starts_function, takes_function, takes_address, in_stmts}

-- it names the function: to call it, to start it, or as a value
abbrev pub NamesFunction : Mention → ℕ → Type 0
NamesFunction m j = (m ≡ calls_function j) ⊎ (m ≡ starts_function j) ⊎ (m ≡ takes_function j)

abbrev pub id_of : Var → ℕ
id_of v = v.id

-- a literal that the body names captures the variable
pub record CapturesIt (p : CoreProgram) (f : CoreFunc) (v : ℕ) : Type 0 where
  pub mention : Mention
  pub is_mentioned : Contains (in_stmts p.names f.body) mention
  pub number : ℕ
  pub names_it : NamesFunction mention number
  pub literal : CoreFunc
  pub is_literal : slice_get p.funcs number ≡ Some literal
  pub captures : Contains literal.captured v

-- for a variable of the function, and for one that it has captured itself
pub data IsBoxed (p : CoreProgram) (f : CoreFunc) (v : ℕ) : Type 0 where
  was_captured : Contains f.captured v → IsBoxed p f v
  is_captured : Contains (map id_of f.vars) v → CapturesIt p f v → IsBoxed p f v
  is_addressed : Contains (map id_of f.vars) v → Contains (in_stmts p.names f.body) (takes_address v) → IsBoxed p f v

-- exactly the boxed variables of the function with this number
pub record AreBoxed (p : CoreProgram) (k : ℕ) (vars : List ℕ) : Type 0 where
  pub each_boxed : (f : CoreFunc) → slice_get p.funcs k ≡ Some f → (v : ℕ) → Contains vars v → IsBoxed p f v
  pub all_boxed : (f : CoreFunc) → slice_get p.funcs k ≡ Some f → (v : ℕ) → IsBoxed p f v → Contains vars v

-- Fresh variables that wait for a statement that needs them.
use Rattle.std.specs.Prelude.{◌≡◌, ℕ, zero, suc, List, [], ◌∷◌, ◌++◌, length, Bool, false, not, ◌&&◌, if◌then◌else◌, Option, Some, None}
use Rattle.std.specs.List.{slice_get}
use Rattle.go_core.specs.declared.node.VarId.{VarId}
use Rattle.js_pool.specs.Stands.{Grows}
use Rattle.js_facts.specs.declared.facts.Facts.{Facts}
use Rattle.js_facts.specs.Held.{is_block, how_held}
use Rattle.js_facts.specs.Vars.{var_fact}
use Rattle.js_body.specs.declared.body.Home.{Home}
use Rattle.js_body.specs.declared.body.Body.{Body}
use Rattle.js_body.specs.State.{State, held_type, home_of, var_declared}
use Rattle.js_body.specs.Tells.{Tells, Lasts}

-- what is neither boxed nor a struct or an array waits
abbrev pub waits_at : Home → State → Bool
waits_at h s = not h.boxed && not (is_block (held_type h.ty s))

abbrev pub waits : VarId → State → Bool
waits v s = waits_at (home_of v s) s

-- those that wait after one more variable, and the state
abbrev pub waiting : VarId → List VarId → State → List VarId
waiting v vs s = if waits v s then vs ++ v ∷ [] else vs

abbrev pub declared_later : VarId → State → State
declared_later v s = if waits v s then s else var_declared v s

abbrev pub declared_by : Option VarId → State → State
declared_by None s = s
declared_by (Some v) s = var_declared v s

-- the first so many are declared
abbrev pub declared_upto : ℕ → List VarId → State → State
declared_upto zero vs s = s
declared_upto (suc n) vs s = declared_by (slice_get vs n) (declared_upto n vs s)

abbrev pub all_declared : List VarId → State → State
all_declared vs s = declared_upto (length vs) vs s

-- whether a variable that is there is a struct or an array
abbrev pub block_var : Option VarId → Facts → Bool
block_var None f = false
block_var (Some v) f = is_block (how_held f.«program».now.types (var_fact f v).ty)

abbrev pub ScalarVars : List VarId → State → Type 0
ScalarVars vs s = (i : ℕ) → block_var (slice_get vs i) s.around.facts ≡ false

-- what is done with variables of which none is a struct or an array
abbrev pub RunsVars : Body → Body → List VarId → (State → State) → Type 0
RunsVars p q vs f = Grows p.pool q.pool × (Lasts q → (s : State) → Tells p s → ScalarVars vs s → Tells q (f s))

abbrev pub RunsVarAt : Body → Body → Option VarId → (State → State) → Type 0
RunsVarAt p q o f = Grows p.pool q.pool × (Lasts q → (s : State) → Tells p s → block_var o s.around.facts ≡ false → Tells q (f s))

-- one more waits, or is declared
abbrev pub DeclaresLater : Body → Body → List VarId → List VarId → VarId → Type 0
DeclaresLater p q vs ws v =
    Grows p.pool q.pool ×
    (Lasts q → (s : State) → Tells p s → block_var (Some v) s.around.facts ≡ false → (ws ≡ waiting v vs s) × Tells q (declared_later v s))

-- one more waits
abbrev pub KeepsFresh : Body → Body → List VarId → List VarId → VarId → Type 0
KeepsFresh p q vs ws v = Grows p.pool q.pool × (Lasts q → (s : State) → Tells p s → (ws ≡ vs ++ v ∷ []) × Tells q s)

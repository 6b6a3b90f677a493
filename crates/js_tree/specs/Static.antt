-- ECMA-262 5.1, 12.7, 12.8, 12.12 and 16, and own: what a script must keep to before it runs.
use Rattle.std.specs.Prelude.{ℕ, List, [], ◌∷◌, ◌++◌, Option, Some, None, Bool, true, false, not, if◌then◌else◌, ◌&&◌, min, codes}
use Rattle.js_tree.specs.Script.{Name, Stmt, branch, while, forever, switch, break, continue, attempt, Stmts, no_stmts, stmt, Else, no_else, else_block, else_if, Cases, no_cases, default, case, Function, Item, function_item, global_item, ScriptTree}
use Rattle.js_tree.specs.Value.{holds}
use Rattle.js_tree.specs.Evaluate.{is_target}

-- a loop or a `switch` around a statement
pub record Around : Type 0 where
  pub is_loop : Bool
  pub label : Option Name

abbrev pub some : (Around → Bool) → List Around → Bool
some p [] = false
some p (x ∷ xs) = if p x then true else some p xs

-- 12.8: a `break` has its target
abbrev pub can_break : Option Name → List Around → Bool
can_break label around = some (λ a. is_target label a.label) around

-- 12.7: a `continue` has its target, which is a loop
abbrev pub can_continue : Option Name → List Around → Bool
can_continue label around = some (λ a. a.is_loop && is_target label a.label) around

-- 12.12: a label repeats one around it
abbrev pub repeats : Option Name → List Around → Bool
repeats None around = false
repeats (Some x) around = some (λ a. is_target (Some x) a.label) around

-- the offset, where a rule is broken
abbrev pub fault_if : ℕ → Bool → List ℕ
fault_if at broken = if broken then at ∷ [] else []

abbrev pub inside : Bool → Option Name → List Around → List Around
inside is_loop label around = record { is_loop = is_loop; label = label } ∷ around

abbrev mutual
  -- where a statement breaks a rule, with the loops and switches around it
  pub stmt_faults : List Around → Stmt → List ℕ
  stmt_faults around (branch at test ss other) = stmts_faults around ss ++ else_faults around other
  stmt_faults around (while at label test ss) =
      fault_if at (repeats label around) ++ stmts_faults (inside true label around) ss
  stmt_faults around (forever at label ss) =
      fault_if at (repeats label around) ++ stmts_faults (inside true label around) ss
  stmt_faults around (switch at label e cases) =
      fault_if at (repeats label around) ++ cases_faults (inside false label around) cases
  stmt_faults around (break at label) = fault_if at (not (can_break label around))
  stmt_faults around (continue at label) = fault_if at (not (can_continue label around))
  stmt_faults around (attempt at ss handler) = stmts_faults around ss ++ stmts_faults around handler
  stmt_faults around _ = []

  pub stmts_faults : List Around → Stmts → List ℕ
  stmts_faults around no_stmts = []
  stmts_faults around (stmt s ss) = stmt_faults around s ++ stmts_faults around ss

  pub else_faults : List Around → Else → List ℕ
  else_faults around no_else = []
  else_faults around (else_block ss) = stmts_faults around ss
  else_faults around (else_if at test ss other) = stmts_faults around ss ++ else_faults around other

  pub cases_faults : List Around → Cases → List ℕ
  cases_faults around no_cases = []
  cases_faults around (default ss) = stmts_faults around ss
  cases_faults around (case n ss rest) = stmts_faults around ss ++ cases_faults around rest

-- a name stands twice
abbrev pub has_twice : List Name → Bool
has_twice [] = false
has_twice (x ∷ xs) = if holds x xs then true else has_twice xs

-- where a function breaks a rule: its parameters are distinct
abbrev pub function_faults : Function → List ℕ
function_faults f = fault_if f.at (has_twice f.params) ++ stmts_faults [] f.body

-- own: the names of the preamble
abbrev pub preamble_names : List Name
preamble_names = codes "$fs" ∷ codes "$write" ∷ codes "$pick" ∷ codes "$end" ∷ []

-- where items break a rule: a top-level name is no name of the preamble, and none that came before
abbrev pub items_faults : List Name → List Item → List ℕ
items_faults before [] = []
items_faults before (function_item f ∷ rest) =
    fault_if f.at (holds f.name before) ++ function_faults f ++ items_faults (f.name ∷ before) rest
items_faults before (global_item at x e ∷ rest) =
    fault_if at (holds x before) ++ items_faults (x ∷ before) rest

abbrev pub least_from : ℕ → List ℕ → ℕ
least_from n [] = n
least_from n (k ∷ ks) = least_from (min n k) ks

abbrev pub least : List ℕ → Option ℕ
least [] = None
least (n ∷ ns) = Some (least_from n ns)

-- the least offset at which a script breaks a rule
abbrev pub static_fault : ScriptTree → Option ℕ
static_fault script = least (items_faults preamble_names script.items)

-- What is known of a variable.
use Rattle.std.specs.Prelude.{ℕ, Option, Some, None, false}
use Rattle.std.specs.List.{slice_get}
use Rattle.std.specs.Ordering.{nat_cmp}
use Rattle.std.specs.BTreeMap.{get_by}
use Rattle.go_core.specs.declared.node.VarId.{VarId}
use Rattle.js_facts.specs.declared.facts.Facts.{Facts}
use Rattle.js_facts.specs.declared.facts.VarFact.{VarFact}

abbrev pub number_or : Option ℕ → ℕ
number_or (Some n) = n
number_or None = 4294967295

-- the number of a variable among all variables; the greatest where there is none
abbrev pub var_number : Facts → VarId → ℕ
var_number f v = number_or (get_by (nat_cmp v.0) f.numbers)

abbrev pub fact_or : VarFact → Option VarFact → VarFact
fact_or d (Some x) = x
fact_or d None = d

abbrev pub var_fact : Facts → VarId → VarFact
var_fact f v = fact_or (record { ty = f.«program».now.hidden; boxed = false; number = 4294967295 }) (slice_get f.vars.items (var_number f v))

-- The least of faults, one by one; only private clauses cite this file.
use Rattle.std.specs.Prelude.{ℕ, List, [], ◌∷◌, Option, Some, None, cond}
use Rattle.gj_base.specs.declared.fault.Fault.{Fault}
use Rattle.go_load.specs.Faults.{is_before}
use Rattle.go_load.specs.declared.faults.Flaw.{Flaw}

abbrev pub flaw_view : Flaw → Fault
flaw_view flaw = record { place = flaw.place; code = flaw.code; text = [] }

-- the first of a list
abbrev pub first_in : List Fault → Option Fault
first_in [] = None
first_in (fault ∷ faults) = Some fault

-- the fault so far, or this one where it comes before
abbrev pub lesser : Option Fault → Fault → Fault
lesser None fault = fault
lesser (Some other) fault = cond (is_before fault other) fault other

-- the least of the fault so far and those of a list
abbrev pub least_from : Option Fault → List Fault → Option Fault
least_from least [] = least
least_from least (fault ∷ faults) = least_from (Some (lesser least fault)) faults

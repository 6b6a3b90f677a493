use Rattle.std.specs.Prelude.{map}
use Rattle.go_load.specs.ReadingView.{reading_view}
use Rattle.go_load.specs.Least.{flaw_view}
use Rattle.go_load.proofs.JudgeLemmas.{found_lexical, found_syntax, found_load, found_none}
use Rattle.go_load.proofs.faults.find_fault.Goals as goal

pub returns-in-Some : goal.returns-in-Some
returns-in-Some c = found_lexical (map reading_view c.args.readings.now) c.in-Some.fault.now c.in_ok-copy_of.field-0 c.requires.numbered c.in_ok-copy_of.ensures c.in-Some.ensures

pub returns-in-Some-first_syntax : goal.returns-in-Some-first_syntax
returns-in-Some-first_syntax c =
    found_syntax (map reading_view c.args.readings.now) c.in-Some-first_syntax.fault.now c.in_ok-copy_of-2.field-0 c.requires.numbered c.in_ok-copy_of-2.ensures c.in_default.ensures c.in-Some-first_syntax.ensures

pub returns-in-Some-least_flaw : goal.returns-in-Some-least_flaw
returns-in-Some-least_flaw c =
    found_load (map reading_view c.args.readings.now) (flaw_view c.in-Some-least_flaw.flaw) c.fault_of.result c.fault_of.ensures c.in_default.ensures c.in_default-first_syntax.ensures c.in-Some-least_flaw.ensures

pub returns-in-None : goal.returns-in-None
returns-in-None c = found_none (map reading_view c.args.readings.now) c.in_default.ensures c.in_default-first_syntax.ensures c.in-None.ensures

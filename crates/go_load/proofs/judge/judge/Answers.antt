use Rattle.std.proofs.Common.{◌≡◌, ◌<◌, ◌≤◌, ◌∙◌, ℕ, List, length, sym, subst, arith}
use Rattle.std.specs.Prelude.{map, false}
use Rattle.go_load.specs.Root.{count_limit, is_too_large}
use Rattle.go_load.specs.Numbered.{AreNumbered}
use Rattle.go_load.specs.ReadingView.{reading_view}
use Rattle.go_load.specs.declared.reading.Reading.{Reading}
use Rattle.go_load.proofs.ReadingLemmas.{are_numbered}
use Rattle.go_load.proofs.JudgeLemmas.{all_short, not_too_many, few, told_least, told_none, judged_staged, judged_packages}
use Rattle.go_load.proofs.judge.judge.Goals as goal

pub read_all-requires-clause-short : goal.read_all-requires-clause-short
read_all-requires-clause-short c = all_short c.args.gathered.sources c.requires.own

pub read_all-requires-clause-count : goal.read_all-requires-clause-count
read_all-requires-clause-count c = not_too_many c.args.gathered.sources (sym c.requires.large ∙ c.if-gathered.false)

pub find_fault-requires-clause-count : goal.find_fault-requires-clause-count
find_fault-requires-clause-count c =
    subst (λ (rs : List Reading). length rs ≤ count_limit) (sym c.as_slice.ensures.value)
    (few c.args.gathered.sources c.in_ok-readings.readings.items c.in_ok-readings.ensures (sym c.requires.large ∙ c.if-gathered.false))

pub find_fault-requires-clause-numbered : goal.find_fault-requires-clause-numbered
find_fault-requires-clause-numbered c =
    subst (λ (rs : List Reading). AreNumbered 0 (map reading_view rs)) (sym c.as_slice.ensures.value)
    (are_numbered 0 c.args.gathered.sources (map reading_view c.in_ok-readings.readings.items) c.in_ok-readings.ensures)

pub returns-in-Some : goal.returns-in-Some
returns-in-Some c =
    let some : 0 < length c.args.gathered.sources = omega arith in
    judged_staged c.args.gathered.sources (map reading_view c.in_ok-readings.readings.items) c.in-Some.fault some (sym c.requires.large ∙ c.if-gathered.false) c.in_ok-readings.ensures
    (told_least c.as_slice.result.now c.in_ok-readings.readings.items c.in_ok-fault.field-0 c.in-Some.fault c.as_slice.ensures.value c.in-Some.is c.in_ok-fault.ensures)

pub returns-in_ok-packages_of-in-None : goal.returns-in_ok-packages_of-in-None
returns-in_ok-packages_of-in-None c =
    let some : 0 < length c.args.gathered.sources = omega arith in
    judged_packages c.args.gathered.sources (map reading_view c.in_ok-readings.readings.items) c.in_ok-packages_of-in-None.field-0 some (sym c.requires.large ∙ c.if-gathered.false) c.in_ok-readings.ensures
    (told_none c.as_slice.result.now c.in_ok-readings.readings.items c.in_ok-fault.field-0 c.as_slice.ensures.value c.in-None.is c.in_ok-fault.ensures)
    c.in_ok-packages_of-in-None.ensures.files c.in_ok-packages_of-in-None.ensures.root

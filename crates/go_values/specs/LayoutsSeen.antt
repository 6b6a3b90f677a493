-- The verdicts of the definitions that those of the program stand for.
use Rattle.go_core.specs.Equality as verdicts
use Rattle.go_values.specs.declared.layouts.equality.Verdict.{Verdict}
use Rattle.go_values.specs.declared.layouts.equality.Verdict.TheVariants as verdict

abbrev pub verdict_of : Verdict → verdicts.Verdict
verdict_of (verdict.Equal units) = verdicts.equal units
verdict_of (verdict.Different units) = verdicts.different units
verdict_of (verdict.Refused units) = verdicts.refused units

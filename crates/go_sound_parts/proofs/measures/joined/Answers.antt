use Rattle.std.proofs.Common.{◌≡◌, ◌+◌, max, rules}
use Rattle.go_sound_parts.specs.declared.measures.Measure.{Measure}
use Rattle.go_sound_parts.proofs.MeasureLemmas.{joined_measured}
use Rattle.go_sound_parts.proofs.measures.joined.Goals as goal

pub returns-in-Some : goal.returns-in-Some
returns-in-Some c = record {
  is = λ ns name home tag t embedded fs h k.
      let r : Measure = record { names = c.max.result; scalars = c.in-Some.scalars; compares = c.both.result; is_key = c.both-in-Some.result } in
      let n : c.max.result ≡ max c.args.first.names c.args.rest.names = search rules in
      let s : c.in-Some.scalars ≡ c.args.first.scalars + c.args.rest.scalars = search rules in
      joined_measured ns c.args.first c.args.rest r n s c.both.ensures.is c.both-in-Some.ensures.is name home tag t embedded fs h k;
}

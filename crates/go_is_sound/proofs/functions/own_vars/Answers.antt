use Rattle.std.proofs.Common.{[], map, rules}
use Rattle.go_core.specs.CoreView.{func_view, var_of}
use Rattle.go_core.specs.TypeOf.{listed_types}
use Rattle.go_is_sound.specs.Functions.{Begins, OwnFrom}
use Rattle.go_is_sound.proofs.BodyLemmas.{own_all}
use Rattle.go_is_sound.proofs.functions.own_vars.Goals as goal

pub returns-in-Some-after_types-2 : goal.returns-in-Some-after_types-2
returns-in-Some-after_types-2 c = record {
  is = λ ts.
      let g = func_view ts c.args.f.now in
      let rest = map (var_of ts) c.in-Some.rest.now in
      let others = map (var_of ts) c.in-Some-after_types.others.now in
      let own = map (var_of ts) c.in-Some-after_types-2.own.now in
      let a : OwnFrom c.args.is_method g.vars rest [] = search rules in
      let b : Begins rest others (listed_types g.params) = search rules in
      let d : Begins others own (listed_types g.results) = search rules in
      own_all c.args.is_method g.vars rest others own (listed_types g.params) (listed_types g.results) a b d;
}

use Rattle.std.proofs.Common.{◌≡◌, ◌∷◌, List, map, Bor, rules}
use Rattle.go_type.specs.Tree.{Ty}
use Rattle.go_type.specs.Levels.{trees_of}
use Rattle.go_core.specs.declared.node.Var.{Var}
use Rattle.go_core.specs.CoreView.{var_of}
use Rattle.go_core.specs.TypeOf.{listed_types}
use Rattle.go_is_sound.specs.Functions.{Begins}
use Rattle.go_is_sound.proofs.BodyLemmas.{begin_more}
use Rattle.go_is_sound.proofs.ListLemmas.{some_then}
use Rattle.go_is_sound.proofs.functions.+after_types.Goals as goal

pub returns-then-v-t : goal.returns-then-v-t
returns-then-v-t t c = record {
  is =
      let vs = c.args.vars.now in
      let v = c.in-Some-split_first.v.now in
      let rest = c.in-Some-split_first.rest.now in
      let us = c.args.types.now in
      let u = c.in-Some.t.now in
      let others = c.in-Some.others.now in
      let e : vs ≡ v ∷ rest = search rules in
      let f : us ≡ u ∷ others = search rules in
      some_then (λ (a : Bor (List Var)). (ts : List Ty) → Begins (map (var_of ts) rest) (map (var_of ts) a.now) (listed_types (trees_of ts others)))
      (λ (a : Bor (List Var)). (ts : List Ty) → Begins (map (var_of ts) vs) (map (var_of ts) a.now) (listed_types (trees_of ts us))) c.after_types.result
      (λ a h ts. begin_more ts vs v rest a.now us u others e f c.if-v-t.true (h ts)) c.after_types.ensures.is;
}

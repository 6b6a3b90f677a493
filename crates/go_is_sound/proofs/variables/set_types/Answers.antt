use Rattle.std.proofs.Common.{◌≡◌, ◌++◌, ◌∷◌, ◌+◌, ◌∙◌, List, drop, map, sym, ap}
use Rattle.go_type.specs.Levels.{trees_of}
use Rattle.go_core.specs.declared.program.PackageVar.{PackageVar}
use Rattle.go_core.specs.CoreView.{package_var_view}
use Rattle.go_core.specs.TypeOf.{listed_types}
use Rattle.go_is_sound.specs.Variables.{types_set}
use Rattle.go_is_sound.proofs.ListLemmas.{next_at}
use Rattle.go_is_sound.proofs.variables.set_types.Goals as goal

pub loop-v-preserved : goal.loop-v-preserved
loop-v-preserved c = λ ts.
    let vs = c.args.vars.now in
    let i = c.loop-v.v-index in
    let x = package_var_view ts c.args.x.now in
    let v = c.v-item.result in
    let e : drop i vs ≡ v ∷ drop (i + 1) vs = next_at vs i v c.loop-v-test.true c.v-item.is in
    c.in_ok-push_set.ensures.is ts (types_set x (map (package_var_view ts) (drop (i + 1) vs)))
    ∙ ap (λ (ws : List PackageVar). listed_types (trees_of ts c.loop-v.types.items) ++ types_set x (map (package_var_view ts) ws)) (sym e) ∙ c.loop-v.invariant ts

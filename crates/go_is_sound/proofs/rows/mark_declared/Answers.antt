use Rattle.std.proofs.Common.{◌≡◌, ◌∷◌, ◌+◌, List, drop, map, subst}
use Rattle.std.specs.List.{AllByRecursion}
use Rattle.go_type.specs.Levels.{tree_of}
use Rattle.go_type.specs.Table.{places, names}
use Rattle.go_type.specs.MethodList.{IsMethodOf, spec_of}
use Rattle.go_type.specs.declared.types.MethodSpec.{MethodSpec}
use Rattle.go_is_sound.proofs.ListLemmas.{next_at}
use Rattle.go_is_sound.proofs.rows.mark_declared.Goals as goal

pub loop-spec-preserved : goal.loop-spec-preserved
loop-spec-preserved c = λ m d.
    let ts = places c.args.p.now.types in
    let i = c.loop-spec.spec-index in
    let set = c.args.set.now in
    let spec = c.spec-item.result in
    let e : drop i set ≡ spec ∷ drop (i + 1) set = next_at set i spec c.loop-spec-test.true c.spec-item.is in
    let so_far = c.loop-spec.invariant m d in
    let here = subst (λ (ms : List MethodSpec). AllByRecursion (IsMethodOf (names c.args.p.now.types) (tree_of ts c.args.t)) (map (spec_of ts) ms)) e so_far.0 in
    (here.1, c.mark_method.ensures.is here.0 so_far.1)

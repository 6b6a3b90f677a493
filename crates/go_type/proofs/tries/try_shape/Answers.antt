use Rattle.std.proofs.Common.{◌≡◌, List, ap, sym, ◌∙◌}
use Rattle.go_type.specs.Tree.{Ty}
use Rattle.go_type.specs.Levels.{tree_of, level, specs_of}
use Rattle.go_type.specs.Table.{places, names, size}
use Rattle.go_type.specs.Members.{specs_found, shape_found}
use Rattle.go_type.specs.Tried.{has_method, Tries}
use Rattle.go_type.specs.declared.types.GoType.{GoType}
use Rattle.go_type.specs.declared.types.MethodSpec.{MethodSpec}
use Rattle.go_type.proofs.TryLemmas.{tries_like, tries_none, no_interface, on_ok}
use Rattle.go_type.proofs.tries.try_shape.Goals as goal

pub returns-in-Interface : goal.returns-in-Interface
returns-in-Interface c =
    let w = c.args.table.now in
    let ts = places w in
    let ns = names w in
    let t = tree_of ts c.args.t in
    let old = c.args.specs.now.items in
    let new = c.try_specs.new.specs.items in
    let tried = c.as_slice.result.now in
    on_ok (λ _. (of_ : Ty) → Tries (size w) ts ns t c.args.indirect (λ s. specs_found s of_ (specs_of ts tried)) old new)
    (λ _. (of_ : Ty) → Tries (size w) ts ns t c.args.indirect (λ s. shape_found s of_ (level ts c.args.under.now)) old new)
    (λ _ h of_. tries_like (size w) ts ns t c.args.indirect (λ s. specs_found s of_ (specs_of ts tried)) (λ s. shape_found s of_ (level ts c.args.under.now)) old new
    (λ s. let e : has_method (shape_found s of_ (level ts c.args.under.now)) ≡ has_method (specs_found s of_ (specs_of ts c.in-Interface.tried)) = ap (λ (g : GoType). has_method (shape_found s of_ (level ts g))) c.in-Interface.is in e ∙ ap (λ (ms : List MethodSpec). has_method (specs_found s of_ (specs_of ts ms))) (sym c.as_slice.ensures))
    (h of_))
    c.try_specs.result c.try_specs.ensures

pub returns-in_default : goal.returns-in_default
returns-in_default c of_ =
    let w = c.args.table.now in
    let ts = places w in
    tries_none (size w) ts (names w) (tree_of ts c.args.t) c.args.indirect (λ s. shape_found s of_ (level ts c.args.under.now)) c.args.specs.now.items
    (λ s. no_interface (size w) ts (names w) (tree_of ts c.args.t) c.args.indirect c.args.under.now c.in_default.not-Interface s of_) c.requires.are

use Rattle.std.proofs.Common.{◌≡◌, ◌∙◌, subst, sym, ap}
use Rattle.go_type.specs.Tree.{Ty}
use Rattle.go_type.specs.Tree as tree
use Rattle.go_type.specs.declared.table.TypeTable.{TypeTable}
use Rattle.go_type.specs.Levels.{level, tree_of}
use Rattle.go_type.specs.Table.{places, names}
use Rattle.go_type.specs.Underlying.{underlying}
use Rattle.go_core.specs.CoreView.{program_view}
use Rattle.go_core.specs.Memory as core
use Rattle.go_core.specs.Memory.{packed}
use Rattle.go_core.specs.StepInterfaces.{asserted}
use Rattle.go_values.specs.ValuesSeen.{value_of}
use Rattle.go_values.specs.OperatorsSeen.{Does}
use Rattle.go_values.proofs.Steps.{goes}
use Rattle.go_slices.specs.CompositesFound.{asserted_else}
use Rattle.go_slices.proofs.LevelLemmas.{asserted_bool}
use Rattle.go_slices.proofs.composites.interfaces.asserted.Goals as goal

pub returns-in-Some : goal.returns-in-Some
returns-in-Some c =
    let ts = places c.args.p.now.types in
    let x = core.interface (tree_of ts c.args.t) (packed (value_of ts c.args.content.now)) in
    let g = c.in-Some.g.now in
    let e = subst (λ (u : TypeTable). level (places u) g ≡ underlying (names u) (tree_of (places u) c.args.to)) c.requires (c.in-Some.ensures.tree ∙ c.underlying.ensures.tree) in
    record {
      value = λ m.
          goes ts m c.asserted_at.result _ _
          (ap (λ (u : Ty). asserted (program_view c.args.p.now) (tree_of ts c.args.to) u c.args.ok x m) (sym e))
          (c.asserted_at.ensures.value m);
    }

pub returns-in-None : goal.returns-in-None
returns-in-None c =
    let ts = places c.args.p.now.types in
    let x = core.interface (tree_of ts c.args.t) (packed (value_of ts c.args.content.now)) in
    let e = subst (λ (u : TypeTable). tree.bool ≡ underlying (names u) (tree_of (places u) c.args.to)) c.requires (sym c.in-None.ensures.none ∙ c.underlying.ensures.tree) in
    record {
      value = λ m.
          goes ts m c.asserted_type.result _ _
          (ap (λ (u : Ty). asserted (program_view c.args.p.now) (tree_of ts c.args.to) u c.args.ok x m) (sym e)
          ∙ asserted_bool (program_view c.args.p.now) (tree_of ts c.args.to) c.args.ok (tree_of ts c.args.t) (value_of ts c.args.content.now) m)
          (subst (λ (u : TypeTable). Does (places u) m c.asserted_type.result (asserted_else (names u) (tree_of (places u) c.args.to) c.args.ok (tree_of (places u) c.args.t) (value_of (places u) c.args.content.now) m)) c.requires (c.asserted_type.ensures.value m));
    }

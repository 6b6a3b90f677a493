use Rattle.std.proofs.Common.{◌≡◌, ◌∙◌, List, [], map, true, ap, subst, rules}
use Rattle.go_type.specs.Tree.{no_tys}
use Rattle.go_type.specs.Levels.{trees_of}
use Rattle.go_type.specs.Table.{places}
use Rattle.go_type.specs.declared.types.TypeId.{TypeId}
use Rattle.go_core.specs.declared.node.Var.{Var}
use Rattle.go_core.specs.declared.program.PackageVar.{PackageVar}
use Rattle.go_core.specs.CoreView.{expr_view, package_var_view, program_view, var_of}
use Rattle.go_core.specs.TypeOf.{listed_types}
use Rattle.go_core.specs.Sound.{SoundExpr}
use Rattle.go_is_sound.specs.Variables.{types_set}
use Rattle.go_is_sound.proofs.VariableLemmas.{initialiser_of}
use Rattle.go_is_sound.proofs.variables.initialises.Goals as goal

pub returns : goal.returns
returns c = record {
  is = λ h b.
      let p = c.args.p.now in
      let ts = places p.types in
      let x = package_var_view ts c.args.x.now in
      let s : c.expr_is_sound.result ≡ true = search rules in
      let n : x.first ≡ x.number = search rules in
      initialiser_of (program_view p) x (expr_view ts c.args.e.now) (listed_types (trees_of ts c.as_slice-2.result.now))
      (subst (λ (vs : List Var). SoundExpr (program_view p) (record { vars = []; declarable = map (var_of ts) vs; results = no_tys; breaks = []; continues = [] }) (expr_view ts c.args.e.now)) c.as_slice-else-x.ensures.value
      (c.expr_is_sound.ensures.is h s))
      n (c.gives_all.ensures.is b)
      (ap (λ (is : List TypeId). listed_types (trees_of ts is)) c.as_slice-2.ensures.value ∙ c.in_ok-types.ensures.is ts
      ∙ ap (λ (vs : List PackageVar). types_set x (map (package_var_view ts) vs)) c.as_slice.ensures.value);
}

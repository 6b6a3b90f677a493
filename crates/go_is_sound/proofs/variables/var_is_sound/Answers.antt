use Rattle.std.proofs.Common.{◌≡◌, List, map, true, subst, rules}
use Rattle.go_type.specs.Table.{places}
use Rattle.go_core.specs.declared.program.PackageRow.{PackageRow}
use Rattle.go_core.specs.declared.program.PackageVar.{PackageVar}
use Rattle.go_core.specs.CoreView.{package_row_view, package_var_view, program_view}
use Rattle.go_core.specs.SoundProgram.{SoundInitialiser, SoundVariable}
use Rattle.go_is_sound.specs.Variables.{HasHolder, HasPackage}
use Rattle.go_is_sound.proofs.ListLemmas.{yes_then}
use Rattle.go_is_sound.proofs.variables.var_is_sound.Goals as goal

pub returns : goal.returns
returns c = record {
  is = λ h.
      let p = c.args.p.now in
      let x = package_var_view (places p.types) c.args.x.now in
      let g : c.has_good_type.result ≡ true = search rules in
      let k : c.has_package.result ≡ true = search rules in
      let n : c.has_holder.result ≡ true = search rules in
      let r = subst (λ (rs : List PackageRow). HasPackage (map package_row_view rs) x.package_) c.as_slice.ensures.value (c.has_package.ensures.is k) in
      let y = subst (λ (ys : List PackageVar). HasHolder (map (package_var_view (places p.types)) ys) x) c.as_slice-else-not-has_package.ensures.value (c.has_holder.ensures.is n (places p.types)) in
      yes_then c.initialiser_is_sound.result (SoundInitialiser (program_view p) x x.initialiser) (SoundVariable (program_view p) x)
      (λ s. record {
        good_type = c.has_good_type.ensures.is h.types_fit g;
        row = r.row;
        has_row = r.has_row;
        of_row = r.of_row;
        holder = y.holder;
        is_holder = y.is_holder;
        same_package = y.holds.same_package;
        first_one = y.holds.first_one;
        holds_itself = y.holds.holds_itself;
        initialiser = s;
      })
      (c.initialiser_is_sound.ensures.is h);
}

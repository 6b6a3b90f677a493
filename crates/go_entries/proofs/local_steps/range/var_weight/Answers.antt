use Rattle.std.proofs.Common.{◌≡◌, ap, sym, ◌∙◌, ℕ, List}
use Rattle.std.proofs.lemmas.Result.{IfOk-weaker}
use Rattle.go_type.specs.Levels.{tree_of}
use Rattle.go_type.specs.Named.{NamedTy}
use Rattle.go_type.specs.Table.{places, names}
use Rattle.go_core.specs.Control.{var_weight}
use Rattle.go_core.specs.CoreTree.{CoreProgram}
use Rattle.go_core.specs.CoreView.{option_var}
use Rattle.go_core.specs.Layout.{shape_of, weight}
use Rattle.go_entries.proofs.local_steps.range.var_weight.Goals as goal

pub returns-in-None : goal.returns-in-None
returns-in-None c = record {
  value = λ p g q. sym (ap (λ o. var_weight p g (option_var (places c.args.c.now.table.now) o)) c.in-None.is);
}

pub returns-in-Some : goal.returns-in-Some
returns-in-Some c =
    let ts = places c.args.c.now.table.now in
    let ns = names c.args.c.now.table.now in
    let t = tree_of ts c.in-Some.var.ty in
    record {
      value =
          IfOk-weaker c.weight_of.result (λ n. n ≡ weight (shape_of ns t)) (λ n. (p : CoreProgram) (g : ℕ) → p.names ≡ ns → n ≡ var_weight p g (option_var ts c.args.var))
          (λ n h p g q.
          h
          ∙ ap (λ (ms : List NamedTy). weight (shape_of ms t)) (sym q)
          ∙ sym (ap (λ o. var_weight p g (option_var ts o)) c.in-Some.is))
          c.weight_of.ensures.value;
    }

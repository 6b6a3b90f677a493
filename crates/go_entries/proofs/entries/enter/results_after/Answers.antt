use Rattle.std.proofs.Common.{◌∙◌, sym, ap, take, drop, length, ℕ, List}
use Rattle.std.specs.List.{take-map, drop-map}
use Rattle.go_core.specs.CoreTree as tree
use Rattle.go_core.specs.CoreView.{var_of}
use Rattle.go_core.specs.declared.node.Var.{Var}
use Rattle.go_state.specs.StateSeen.{vars_of}
use Rattle.go_entries.proofs.EntriesEnterLemmas.{counted}
use Rattle.go_entries.proofs.entries.enter.results_after.Goals as goal

pub returns : goal.returns
returns c =
    let vs = c.args.func.now.vars.items.items in
    let ids = c.args.func.now.sig.results in
    let n = c.args.count in
    let many = length c.as_slice-wanted.result.now in
    record {
      value = λ ts.
          ap (vars_of ts) (c.some_of.ensures.value ∙ ap (λ (us : List Var). take many (drop n us)) c.as_slice.ensures.value)
          ∙ sym (take-map (var_of ts) many (drop n vs))
          ∙ ap (λ (us : List tree.Var). take many us) (sym (drop-map (var_of ts) n vs))
          ∙ ap (λ (k : ℕ). take k (drop n (vars_of ts vs))) (ap length c.as_slice-wanted.ensures ∙ sym (counted ts ids));
    }

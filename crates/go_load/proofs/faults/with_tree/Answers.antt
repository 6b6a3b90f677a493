use Rattle.std.proofs.Common.{◌≡◌, ◌∙◌, ℕ, List, Bool, ap, not}
use Rattle.std.specs.Prelude.{codes, bytes_eq, map}
use Rattle.go_syntax.specs.View.{import_view}
use Rattle.go_syntax.specs.declared.tree.Import.{Import}
use Rattle.go_load.specs.Faults.{fault_where, import_faults}
use Rattle.go_load.proofs.FaultLemmas.{tree_kinds}
use Rattle.go_load.proofs.faults.with_tree.Goals as goal

pub returns : goal.returns
returns c =
    let text = c.args.file.now.«package».text in
    let other : c.ne.result ≡ not (bytes_eq text c.args.first.now) = c.ne.ensures ∙ ap (λ (t : List ℕ). not (bytes_eq t c.args.first.now)) c.as_bytes-name.ensures in
    let not_main : c.ne-2.result ≡ not (bytes_eq text (codes "main")) =
    c.ne-2.ensures ∙ ap (λ (t : List ℕ). not (bytes_eq t c.as_slice-2.result.now)) c.as_bytes-name.ensures ∙ ap (λ (t : List ℕ). not (bytes_eq text t)) c.as_slice-2.ensures in
    tree_kinds _ _ _ _ _ _ _ _ _ _ _ _ c.with_imports-least.ensures (ap (λ (xs : List Import). import_faults c.args.number (map import_view xs)) c.as_slice.ensures.value)
    c.with_flaw_where-least.ensures (ap (λ (holds : Bool). fault_where holds c.args.number c.args.start 42) other)
    c.with_flaw_where-least-2.ensures (ap (λ (holds : Bool). fault_where holds c.args.number c.args.start 44) not_main)
    c.with_constraint.ensures

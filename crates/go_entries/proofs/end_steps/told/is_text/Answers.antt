use Rattle.std.proofs.Common.{◌∙◌, sym, ap}
use Rattle.go_type.specs.Table.{places}
use Rattle.go_type.specs.Tree.{Ty, str}
use Rattle.go_core.specs.SameType.{same_type}
use Rattle.go_entries.proofs.end_steps.told.is_text.Goals as goal

pub returns-in-Some : goal.returns-in-Some
returns-in-Some c = record { value = c.is_text_level.ensures.value (places c.args.table.now) ∙ ap (λ (t : Ty). same_type t str) c.in-Some.ensures.tree }

pub returns-in-None : goal.returns-in-None
returns-in-None c = record { value = sym (ap (λ (t : Ty). same_type t str) c.in-None.ensures.none) }

use Rattle.std.proofs.Common.{◌∙◌, ap, List, ◌++◌}
use Rattle.go_syntax.specs.View.{stmt_view}
use Rattle.go_syntax.specs.declared.tree.Name.{Name}
use Rattle.go_walk.specs.Seen.{names_of}
use Rattle.go_typing.specs.Labels.{labels_in}
use Rattle.go_typing.specs.Statements.{name_places}
use Rattle.go_typing.specs.Walk.{any_among}
use Rattle.go_walk.proofs.walk.parts.label_at.Goals as goal

pub returns : goal.returns
returns c = record {
  value =
      c.any_name_in.ensures.value c.args.places.now c.in_ok-wrong.ensures.value
      ∙ ap (λ (ns : List Name). any_among (name_places ns) c.args.places.now)
      (ap names_of c.as_slice.ensures.value ∙ c.in_ok-in_stmt.ensures.labels ∙ ap (λ (ns : List Name). ns ++ labels_in (stmt_view c.args.s.now)) c.new-found.ensures.labels);
}

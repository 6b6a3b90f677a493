use Rattle.std.proofs.Common.{◌∙◌, ◌++◌, refl, ap, map, List}
use Rattle.go_syntax.specs.View.{block_view}
use Rattle.go_operands.specs.AnswerView.{flaw_view}
use Rattle.go_operands.specs.declared.answers.answer.Flaw.{Flaw}
use Rattle.go_define.specs.declared.simple.around.Around.{Around}
use Rattle.go_typing.specs.Labels.{labels_told}
use Rattle.go_typing.specs.Statements.{flaw_places}
use Rattle.go_body.proofs.BodyLemmas.{body_does}
use Rattle.go_body.proofs.KeepLemmas.{ready_other}
use Rattle.go_body.proofs.body.body.function_body.Goals as goal

pub body_stmts-requires : goal.body_stmts-requires
body_stmts-requires c =
    let a = c.args.around.now in
    let inside : Around = record { results = a.results; named = a.named; wrong_labels = c.as_slice-wrong_labels.result; too_far = a.too_far } in
    record { ready = ready_other a inside c.args.walk.now refl c.requires.ready }

pub returns-in-Ok-clause-does : goal.returns-in-Ok-clause-does
returns-in-Ok-clause-does c =
    let a = c.args.around.now in
    let b = c.args.b.now in
    let inside : Around = record { results = a.results; named = a.named; wrong_labels = c.as_slice-wrong_labels.result; too_far = a.too_far } in
    body_does a inside b c.so_far-before.result c.labels_told.new.flaws.items c.args.walk.now c.body_stmts.new.walk c.args.flaws.now.items c.body_stmts.new.flaws.items c.told_whole.new.flaws.items c.in_ok-out.out.items c.as_slice-made.result.now c.ends_with-ends.result
    c.as_slice-made.ensures.value c.ends_with-ends.ensures.value c.so_far-before.ensures.flaws c.so_far-before.ensures.lost refl refl refl
    (c.as_slice-wrong_labels.ensures.value ∙ c.in_ok-wrong.ensures.value ∙ ap (λ (fs : List Flaw). flaw_places (map flaw_view fs)) c.as_slice.ensures.value)
    (c.in_ok-labels_told.ensures.value ∙ ap (λ (fs : List Flaw). map flaw_view fs ++ labels_told (block_view b)) c.new-labels.ensures.items)
    c.in_ok-out.ensures.does c.in-Ok.ensures.told

pub returns-in-Ok-clause-ready : goal.returns-in-Ok-clause-ready
returns-in-Ok-clause-ready c =
    let a = c.args.around.now in
    let inside : Around = record { results = a.results; named = a.named; wrong_labels = c.as_slice-wrong_labels.result; too_far = a.too_far } in
    ready_other inside a c.body_stmts.new.walk refl c.in_ok-out.ensures.ready

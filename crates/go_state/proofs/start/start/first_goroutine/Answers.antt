use Rattle.std.proofs.Common.{◌∙◌, ◌∷◌, [], ap, List}
use Rattle.std.specs.Borrow.{Bor}
use Rattle.std.proofs.lemmas.List.Sums.{fold-append}
use Rattle.go_core.specs.Goroutine as defined
use Rattle.go_values.specs.declared.values.scalar.Scalar.{Scalar}
use Rattle.go_state.specs.StateSeen.{frame_of, invocation_of, places_of, stack_of, stacked, tasks_of}
use Rattle.go_state.specs.declared.state.frame.Frame.{Frame}
use Rattle.go_state.specs.declared.state.frame.Invocation.{Invocation}
use Rattle.go_state.specs.declared.state.frame.Place.{Place}
use Rattle.go_state.proofs.StartLemmas.{framed}
use Rattle.go_state.proofs.start.start.first_goroutine.Goals as goal

pub returns : goal.returns
returns c = record {
  value = λ ts.
      let tasks = tasks_of ts c.args.tasks.items in
      ap (λ (fs : List defined.Frame). let x : defined.Goroutine = record { frames = fs; waiting = defined.able } in x)
      (ap (stacked (frame_of ts)) c.in_ok-push.ensures.items
      ∙ fold-append (λ (rest : List defined.Frame) (x : Frame). frame_of ts x ∷ rest) [] c.new-frames.result.items (_ ∷ [])
      ∙ ap (λ (xs : List Frame). framed tasks (stack_of ts c.new.result.items) (places_of c.new-2.result.items) (stacked (invocation_of ts) c.new-3.result.items) ∷ stacked (frame_of ts) xs) c.new-frames.ensures.items
      ∙ ap (λ (xs : List (Bor (List Scalar))). framed tasks (stack_of ts xs) (places_of c.new-2.result.items) (stacked (invocation_of ts) c.new-3.result.items) ∷ []) c.new.ensures.items
      ∙ ap (λ (xs : List Place). framed tasks [] (places_of xs) (stacked (invocation_of ts) c.new-3.result.items) ∷ []) c.new-2.ensures.items
      ∙ ap (λ (xs : List Invocation). framed tasks [] [] (stacked (invocation_of ts) xs) ∷ []) c.new-3.ensures.items);
}

use Rattle.std.proofs.Common.{◌∙◌, ◌++◌, ap, map, List}
use Rattle.std.proofs.lemmas.List.{append-nil}
use Rattle.go_core.specs.Calls.{captured_places}
use Rattle.go_core.specs.CoreView.{id_of}
use Rattle.go_core.specs.declared.node.VarId.{VarId}
use Rattle.go_state.specs.StateSeen.{places_of}
use Rattle.go_state.specs.declared.state.frame.Place.{Place}
use Rattle.go_entries.proofs.entries.enter.captured_at.Goals as goal

pub returns : goal.returns
returns c =
    let bases = c.args.bases.now in
    record {
      value = λ ts.
          c.in_ok-captured_places.ensures.value
          ∙ ap (λ (ps : List Place). captured_places (map id_of c.as_slice.result.now) bases ++ places_of ps) c.new-at.ensures.items
          ∙ append-nil (captured_places (map id_of c.as_slice.result.now) bases)
          ∙ ap (λ (vs : List VarId). captured_places (map id_of vs) bases) c.as_slice.ensures.value;
    }

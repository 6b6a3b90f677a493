use Rattle.std.proofs.Common.{◌∙◌, sym, ap, arith, length, map, Some}
use Rattle.std.proofs.lemmas.Bool.{le-leb, lt-leb}
use Rattle.std.proofs.lemmas.List.{length-map}
use Rattle.go_core.specs.Memory as core
use Rattle.go_core.specs.StepNumbers.{most_elements}
use Rattle.go_values.specs.ValuesSeen.{entry_of}
use Rattle.go_slices.proofs.Steps.{if_true, if_false}
use Rattle.go_slices.proofs.maps.maps.with_new_or_not.Goals as goal

pub returns-then-len-ge-MOST_ELEMENTS : goal.returns-then-len-ge-MOST_ELEMENTS
returns-then-len-ge-MOST_ELEMENTS c = record {
  value = λ ts ns t.
      let es = c.args.state.now.entries.items in
      let counted = c.args.state.now.entries.ok.0 in
      if_true _ _ _ (le-leb most_elements (length (map (entry_of ts) es)) (omega (arith, c.if-len-ge-MOST_ELEMENTS.true, c.len.ensures, counted, length-map es (entry_of ts))));
}

pub returns : goal.returns
returns c = record {
  value = λ ts ns t.
      let es = c.args.state.now.entries.items in
      let counted = c.args.state.now.entries.ok.0 in
      if_false _ _ _ (lt-leb most_elements (length (map (entry_of ts) es)) (omega (arith, c.if-len-ge-MOST_ELEMENTS.false, c.len.ensures, counted, length-map es (entry_of ts))))
      ∙ ap (λ (s : core.MapState). Some s) (sym (c.in_ok-with_new.ensures.value ts ns t));
}

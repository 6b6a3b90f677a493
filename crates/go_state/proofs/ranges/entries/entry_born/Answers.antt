use Rattle.std.proofs.Common.{◌≡◌, ◌∙◌, refl, sym, arith, rules, map, get_or, true, false}
use Rattle.std.proofs.lemmas.List.{length-map}
use Rattle.go_values.specs.ValuesSeen.{entry_of}
use Rattle.go_state.proofs.EntryLemmas.{born_step, born_found, born_end}
use Rattle.go_state.proofs.ListLemmas.{split_map, no_entry}
use Rattle.go_state.proofs.ranges.entries.entry_born.Goals as goal

pub entries-preserved : goal.entries-preserved
entries-preserved c = λ ts p g.
    let es = c.args.entries.now in
    let i = c.entries.i in
    let x = get_or es i no_entry in
    let b : c.is_left.result ≡ false = search rules in
    born_step p g c.args.birth c.args.produced.now (map (entry_of ts) es) i (entry_of ts x) _
    (split_map (entry_of ts) es i x no_entry (omega (arith, c.entries-test.true)) refl)
    (sym (c.is_left.ensures.value p g) ∙ b) (c.entries.invariant ts p g)

pub returns-then-is_left : goal.returns-then-is_left
returns-then-is_left c =
    let es = c.args.entries.now in
    let i = c.entries.i in
    let x = get_or es i no_entry in
    let b : c.is_left.result ≡ true = search rules in
    record {
      value = λ ts p g.
          born_found p g c.args.birth c.args.produced.now (map (entry_of ts) es) i (entry_of ts x) _
          (split_map (entry_of ts) es i x no_entry (omega (arith, c.entries-test.true)) refl)
          (sym (c.is_left.ensures.value p g) ∙ b) (c.entries.invariant ts p g);
    }

pub returns : goal.returns
returns c = record {
  value = λ ts p g. born_end p g c.args.birth c.args.produced.now (map (entry_of ts) c.args.entries.now) c.entries.i _ (omega (arith, c.entries-test.false, length-map c.args.entries.now (entry_of ts))) (c.entries.invariant ts p g);
}

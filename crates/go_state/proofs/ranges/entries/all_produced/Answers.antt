use Rattle.std.proofs.Common.{◌≡◌, ◌∙◌, refl, sym, arith, rules, map, get_or, true, false}
use Rattle.std.proofs.lemmas.List.{length-map}
use Rattle.go_values.specs.ValuesSeen.{entry_of}
use Rattle.go_state.proofs.EntryLemmas.{produced_step, produced_lacks, produced_end}
use Rattle.go_state.proofs.ListLemmas.{split_map, no_entry}
use Rattle.go_state.proofs.ranges.entries.all_produced.Goals as goal

pub entries-preserved : goal.entries-preserved
entries-preserved c = λ ts p g.
    let es = c.args.entries.now in
    let i = c.entries.i in
    let x = get_or es i no_entry in
    let b : c.is_passed.result ≡ true = search rules in
    produced_step p g c.args.produced.now c.args.since (map (entry_of ts) es) i (entry_of ts x) _
    (split_map (entry_of ts) es i x no_entry (omega (arith, c.entries-test.true)) refl)
    (sym (c.is_passed.ensures.value p g) ∙ b) (c.entries.invariant ts p g)

pub returns-then-not-is_passed : goal.returns-then-not-is_passed
returns-then-not-is_passed c =
    let es = c.args.entries.now in
    let i = c.entries.i in
    let x = get_or es i no_entry in
    let b : c.is_passed.result ≡ false = search rules in
    record {
      value = λ ts p g.
          produced_lacks p g c.args.produced.now c.args.since (map (entry_of ts) es) i (entry_of ts x) _
          (split_map (entry_of ts) es i x no_entry (omega (arith, c.entries-test.true)) refl)
          (sym (c.is_passed.ensures.value p g) ∙ b) (c.entries.invariant ts p g);
    }

pub returns : goal.returns
returns c = record {
  value = λ ts p g. produced_end p g c.args.produced.now c.args.since (map (entry_of ts) c.args.entries.now) c.entries.i _ (omega (arith, c.entries-test.false, length-map c.args.entries.now (entry_of ts))) (c.entries.invariant ts p g);
}

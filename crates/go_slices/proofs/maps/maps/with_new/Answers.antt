use Rattle.std.proofs.Common.{◌≡◌, ◌∙◌, ◌∷◌, ◌++◌, [], ap, arith, map, suc, ℕ, List}
use Rattle.std.proofs.lemmas.List.{map-append}
use Rattle.go_core.specs.Memory as core
use Rattle.go_values.specs.ValuesSeen.{entry_of}
use Rattle.go_values.specs.declared.values.memory.Entry.{Entry}
use Rattle.go_slices.proofs.maps.maps.with_new.Goals as goal

abbrev state_with : List core.Entry → ℕ → core.MapState
state_with es n = record { entries = es; next_birth = n }

pub returns : goal.returns
returns c = record {
  value = λ ts ns t.
      let s = c.args.state.now in
      let e : Entry = record { key = c.args.key; value = c.args.value; birth = s.next_birth } in
      let n : c.in_ok-next.next ≡ suc s.next_birth = omega (arith, c.in_ok-next.ensures.value) in
      ap (λ (es : List Entry). state_with (map (entry_of ts) es) c.in_ok-next.next) c.in_ok-push.ensures.items
      ∙ ap (λ (es : List core.Entry). state_with es c.in_ok-next.next) (map-append (entry_of ts) s.entries.items (e ∷ []))
      ∙ ap (λ (k : ℕ). state_with (map (entry_of ts) s.entries.items ++ entry_of ts e ∷ []) k) n;
}

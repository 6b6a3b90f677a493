use Rattle.std.proofs.Common.{◌≡◌, ◌∙◌, ◌≤◌, ◌∷◌, [], sym, ap, arith, length, map, ℕ, List, Bool}
use Rattle.std.specs.Prelude.{if◌then◌else◌}
use Rattle.std.proofs.lemmas.Bool.{le-ltb}
use Rattle.std.proofs.lemmas.List.{length-map}
use Rattle.go_core.specs.Did.{Did, gives, panics}
use Rattle.go_core.specs.Memory as core
use Rattle.go_core.specs.Memory.{Memory, Value, next_base, with_fresh}
use Rattle.go_core.specs.RunPanic.{bad_size}
use Rattle.go_core.specs.StepNumbers.{whole_of, made_slice, most_elements}
use Rattle.go_values.specs.ValuesSeen.{scalar_of, value_of, memory_of}
use Rattle.go_values.proofs.operators.convert.made_slice.Goals as goal

made_none : (s : Memory) (ns : List ℕ) (d : Did) → length ns ≡ 0 → gives ((core.slice (next_base s) 0 0 ∷ []) ∷ []) s 1 ≡ d → made_slice s ns ≡ d
made_none s [] d h e = e
made_none s (n ∷ ns) d h e = absurd (omega (arith, h))

made_some : (s : Memory) (ns : List ℕ) (d : Did) → ¬ (length ns ≡ 0) → length ns ≤ most_elements
    → gives ((core.slice (next_base s) (length ns) (length ns) ∷ []) ∷ []) (with_fresh s (map whole_of ns)) (length ns) ≡ d → made_slice s ns ≡ d
made_some s [] d h l e = absurd (h (omega arith))
made_some s (n ∷ ns) d h l e =
    let all = n ∷ ns in
    ap (λ (b : Bool). if b then panics bad_size 0 else gives ((core.slice (next_base s) (length all) (length all) ∷ []) ∷ []) (with_fresh s (map whole_of all)) (length all)) (le-ltb most_elements (length all) l)
    ∙ e

pub returns-then-length-eq0 : goal.returns-then-length-eq0
returns-then-length-eq0 c = record {
  value = λ ts ns h.
      let s = memory_of ts c.args.m.now in
      let none : length c.args.cells.now ≡ 0 = omega (arith, c.if-length-eq0.true) in
      let slice =
      c.in_ok-slice.ensures.value ts
      ∙ ap (λ (x : core.Scalar). x ∷ []) (c.whole_slice.ensures.value ts ∙ ap (λ (b : ℕ). core.slice b (length c.args.cells.now) (length c.args.cells.now)) (c.next_base-base.ensures.value ts) ∙ ap (λ (n : ℕ). core.slice (next_base s) n n) none) in
      made_none s ns _ (sym (length-map ns whole_of) ∙ sym (ap length h) ∙ length-map c.args.cells.now (scalar_of ts) ∙ none)
      (sym (c.gives_value.ensures.value ts s ∙ ap (λ (v : Value). gives (v ∷ []) s 1) slice));
}

pub returns : goal.returns
returns c = record {
  value = λ ts ns h.
      let s = memory_of ts c.args.m.now in
      let cells = value_of ts c.args.cells.now in
      let same : length c.args.cells.now ≡ length ns = sym (length-map c.args.cells.now (scalar_of ts)) ∙ ap length h ∙ length-map ns whole_of in
      let some : ¬ (length ns ≡ 0) = λ e. c.if-length-eq0.false (same ∙ e) in
      let fits : length ns ≤ most_elements = omega (arith, same, c.if-length-gt-MOST_ELEMENTS.false) in
      let slice =
      c.in_ok-slice.ensures.value ts
      ∙ ap (λ (x : core.Scalar). x ∷ []) (c.whole_slice.ensures.value ts ∙ ap (λ (b : ℕ). core.slice b (length c.args.cells.now) (length c.args.cells.now)) (c.next_base-base.ensures.value ts)) in
      made_some s ns _ some fits
      (sym (c.gives_fresh.ensures.value ts s
      ∙ ap (λ (v : Value). gives (v ∷ []) (with_fresh s cells) (length c.args.cells.now)) slice
      ∙ ap (λ (n : ℕ). gives ((core.slice (next_base s) n n ∷ []) ∷ []) (with_fresh s cells) n) same
      ∙ ap (λ (xs : Value). gives ((core.slice (next_base s) (length ns) (length ns) ∷ []) ∷ []) (with_fresh s xs) (length ns)) h));
}

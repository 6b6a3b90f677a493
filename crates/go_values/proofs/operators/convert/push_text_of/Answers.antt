use Rattle.std.proofs.Common.{◌≡◌, ◌∙◌, ◌++◌, refl, sym, ap, ℕ, List, flat_map}
use Rattle.std.proofs.lemmas.Result.{on_ok_weaker}
use Rattle.gj_base.specs.declared.kind.Kind.{Kind}
use Rattle.gj_base.specs.declared.kind.Kind.TheVariants as kinds
use Rattle.go_core.specs.Memory.{Value}
use Rattle.go_core.specs.StepNumbers.{text_of_slice, character_of}
use Rattle.go_values.specs.ValuesSeen.{value_of}
use Rattle.go_values.proofs.operators.convert.push_text_of.Goals as goal

others : (k : Kind) (xs : Value) → ¬ (k ≡ kinds.U8) → flat_map character_of xs ≡ text_of_slice k xs
others kinds.I8 xs h = refl
others kinds.I16 xs h = refl
others kinds.I32 xs h = refl
others kinds.I64 xs h = refl
others kinds.U8 xs h = absurd (h refl)
others kinds.U16 xs h = refl
others kinds.U32 xs h = refl
others kinds.U64 xs h = refl

pub returns-in-U8 : goal.returns-in-U8
returns-in-U8 c = record {
  value = on_ok_weaker c.push_bytes.result (λ h ts.
      h ts ∙ ap (λ (k : Kind). c.args.text.now.items ++ text_of_slice k (value_of ts c.args.cells.now)) (sym c.in-U8.is)) c.push_bytes.ensures.value;
}

pub returns-in_default : goal.returns-in_default
returns-in_default c = record {
  value = on_ok_weaker c.push_characters.result (λ h ts.
      h ts ∙ ap (λ (xs : List ℕ). c.args.text.now.items ++ xs) (others c.args.kind (value_of ts c.args.cells.now) c.in_default.not-U8)) c.push_characters.ensures.value;
}

use Rattle.std.proofs.Common.{◌≡◌, refl, sym, subst, map, ℕ, List}
use Rattle.std.specs.Prelude.{IfOk}
use Rattle.gj_base.specs.declared.kind.Kind.{Kind}
use Rattle.gj_base.specs.declared.kind.Kind.TheVariants as kinds
use Rattle.go_type.specs.Tree.{Ty}
use Rattle.go_core.specs.StepNumbers.{whole_of, elements_of}
use Rattle.go_core.specs.Text.{runes}
use Rattle.go_values.specs.ValuesSeen.{value_of}
use Rattle.go_values.proofs.operators.convert.wholes_of.Goals as goal

others : (k : Kind) (bytes : List ℕ) → ¬ (k ≡ kinds.U8) → runes bytes ≡ elements_of k bytes
others kinds.I8 bytes h = refl
others kinds.I16 bytes h = refl
others kinds.I32 bytes h = refl
others kinds.I64 bytes h = refl
others kinds.U8 bytes h = absurd (h refl)
others kinds.U16 bytes h = refl
others kinds.U32 bytes h = refl
others kinds.U64 bytes h = refl

pub returns-in-U8 : goal.returns-in-U8
returns-in-U8 c = record {
  value = subst (λ (k : Kind). IfOk c.wholes_of_bytes.result (λ v. (ts : List Ty) → value_of ts v.now ≡ map whole_of (elements_of k c.args.bytes.now))) (sym c.in-U8.is) c.wholes_of_bytes.ensures.value;
}

pub returns-in_default : goal.returns-in_default
returns-in_default c = record {
  value = subst (λ (ns : List ℕ). IfOk c.wholes_of_runes.result (λ v. (ts : List Ty) → value_of ts v.now ≡ map whole_of ns)) (others c.args.kind c.args.bytes.now c.in_default.not-U8) c.wholes_of_runes.ensures.value;
}

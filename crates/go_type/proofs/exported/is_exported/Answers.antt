use Rattle.std.proofs.Common.{◌≡◌, Bool, true, false, List, ℕ, refl, ap, sym, ◌∙◌}
use Rattle.std.specs.Prelude.{◌&&◌}
use Rattle.std.specs.Str.{chars, is_utf8, IsUtf8}
use Rattle.std.proofs.lemmas.Str.{IsUtf8-from_is_utf8, is_utf8-from_IsUtf8}
use Rattle.go_type.specs.Exported.{begins_upper, is_exported}
use Rattle.go_type.proofs.exported.is_exported.Goals as goal

not_text : (bs : List ℕ) → (IsUtf8 bs → ⊥) → is_utf8 bs ≡ false
not_text bs n = by (is_utf8 bs) refl
  where
    by : (b : Bool) → is_utf8 bs ≡ b → is_utf8 bs ≡ false
    by true e = absurd (n (IsUtf8-from_is_utf8 bs e))
    by false e = e

pub returns-in-Ok : goal.returns-in-Ok
unfolding is_exported
returns-in-Ok c =
    let name = c.args.name.now in
    let same = c.in-Ok.ensures.cases.0 ∙ c.as_bytes.ensures in
    let text : is_utf8 c.as_bytes.result.now ≡ true = is_utf8-from_IsUtf8 c.as_bytes.result.now c.in-Ok.ensures.cases.1 in
    c.begins_upper.ensures ∙ ap (λ (bs : List ℕ). begins_upper (chars bs)) same ∙ sym (ap (λ (b : Bool). b && begins_upper (chars name)) (ap is_utf8 (sym c.as_bytes.ensures) ∙ text))

pub returns-in-Err : goal.returns-in-Err
unfolding is_exported
returns-in-Err c =
    let name = c.args.name.now in
    sym (ap (λ (b : Bool). b && begins_upper (chars name)) (ap is_utf8 (sym c.as_bytes.ensures) ∙ not_text c.as_bytes.result.now c.in-Err.ensures.cases.0))

use Rattle.std.proofs.Common.{◌≡◌, ℤ, None, refl, sym, ap, rules, ◌∙◌}
use Rattle.std.specs.Int.{w128}
use Rattle.std.specs.Int.RustNames.{FitsSigned}
use Rattle.std.proofs.lemmas.Int.{to_z-of_z}
use Rattle.go_type.specs.Tree.{Ty}
use Rattle.go_core.specs.CoreTree as core
use Rattle.go_core.specs.CoreView.{constant_of}
use Rattle.go_core.specs.declared.node.Constant.{Constant}
use Rattle.go_core.specs.declared.node.Constant.TheVariants as constant
use Rattle.js_values.specs.Numbers.{constant_count}
use Rattle.js_values.proofs.numbers.count_in.Goals as goal

no_whole : (v : Constant) (t : Ty) → ((n : ℤ) → v ≡ constant.Int n → ⊥) → None ≡ constant_count (core.constant t (constant_of v))
no_whole (constant.Bool b) t n = refl
no_whole (constant.Int i) t n = absurd (n i refl)
no_whole (constant.Text s) t n = refl

pub returns-in-Int : goal.returns-in-Int
returns-in-Int c =
    let f : FitsSigned w128 c.in-Int.n = search rules in
    let w = simp to_z-of_z at c.cut_to_32.ensures in
    λ t. w t ∙ sym (ap (λ (v : Constant). constant_count (core.constant t (constant_of v))) c.in-Int.is)

pub returns-in_default : goal.returns-in_default
returns-in_default c = λ t. no_whole c.args.value.now t c.in_default.not-Int

use Rattle.std.proofs.Common.{ℕ, suc, ap, ◌∷◌, [], ◌∙◌}
use Rattle.std.specs.Prelude.{codes}
use Rattle.go_typing.specs.Checked.{method_at}
use Rattle.go_stmt.proofs.stmt.made.frame_of.Goals as goal

pub returns : goal.returns
returns c = record {
  value = record {
    main = c.in_ok-main.ensures.value;
    methods = λ ts h. c.in_ok-rows.ensures.methods ts h ∙ ap (λ (n : ℕ). method_at (codes "Error") n ∷ method_at (codes "RuntimeError") (suc n) ∷ []) c.in_ok-count.ensures.value;
    packages = c.in_ok-rows.ensures.packages;
  };
}

use Rattle.std.proofs.Common.{◌∙◌, sym, ap, ◌∷◌}
use Rattle.std.specs.Prelude.{Option}
use Rattle.go_syntax.specs.View.{expr_view}
use Rattle.go_typing.specs.Signature as go
use Rattle.go_typing.specs.Signature.{alone, grouped}
use Rattle.go_items.proofs.ItemsParamLemmas.{with_name, without_name}
use Rattle.go_items.proofs.items.param.one.Goals as goal

pub returns-in-Some : goal.returns-in-Some
returns-in-Some c = record { value = λ rest h. with_name c.args.p.now rest c.in-Some.n c.in-Some.is }

pub returns-in-None : goal.returns-in-None
returns-in-None c = record {
  value = λ rest h.
      without_name c.args.p.now rest c.in-None.is
      ∙ ap (λ (o : Option go.Typed). alone c.args.p.now.place c.args.p.now.variadic (expr_view c.args.p.now.ty) o ∷ grouped rest) h
      ∙ ap (λ (g : go.Param). g ∷ grouped rest) (sym c.alone.ensures.value);
}

use Rattle.std.proofs.Common.{◌≡◌, length, refl, arith, ◌∙◌}
use Rattle.std.proofs.lemmas.List.{nil_from_length}
use Rattle.js_pool.specs.Stands.{opened}
use Rattle.js_body.proofs.Steps.{same_tables, last_dropped, last_declares, none_dropped, none_declares}
use Rattle.js_body.proofs.stack.drop_line.Goals as goal

pub returns-in-Some : goal.returns-in-Some
unfolding opened
returns-in-Some c = (
  (same_tables _ _ refl refl refl refl refl refl refl refl, λ end g. refl),
  last_dropped _ _ _ c.in-Some.ensures.items,
  c.is_declaration.ensures ∙ last_declares _ _ _ c.in-Some.ensures.items,
)

pub returns-in-None : goal.returns-in-None
unfolding opened
returns-in-None c =
    let e : length c.args.p.now.lines.items ≡ 0 = omega (arith, c.args.p.now.lines.ok.0, c.in-None.ensures.cases) in
    let f : length c.pop.new.self.items ≡ 0 = omega (arith, c.pop.new.self.ok.0, c.in-None.ensures.cases) in (
      (same_tables _ _ refl refl refl refl refl refl refl refl, λ end g. refl),
      none_dropped _ _ (nil_from_length _ e) (nil_from_length _ f),
      none_declares _ (nil_from_length _ e),
    )

use Rattle.std.proofs.Common.{◌≡◌, ◌∷◌, [], ◌++◌, ◌∙◌, ap, Some, None}
use Rattle.js_pool.specs.Stands.{Opened, opened}
use Rattle.js_pool.specs.Says.{with_lines, with_arms, switch, bare, more_cases, one_case, no_case}
use Rattle.js_pool.specs.declared.node.Stmt.TheVariants as line
use Rattle.js_pool.proofs.pool.Pool.block_at.Goals as goal

pub returns : goal.returns
returns c = (
  line.Switch (Some c.args.x) c.num-tag.result c.close_cases-cases.result None,
  (
    λ end g.
        let g3 = c.switch_at.ensures.0 end g in
        let g2 = c.num-tag.ensures.0.0 end g3 in
        let g1 = c.close_cases-cases.ensures.0 end g2 in
        c.case.ensures.0 end g1,
    λ end g.
        let g3 = c.switch_at.ensures.0 end g in
        let g2 = c.num-tag.ensures.0.0 end g3 in
        let g1 = c.close_cases-cases.ensures.0 end g2 in
        let o1 = c.case.ensures.1 end g1 in
        let closed = c.close_cases-cases.ensures.1 end g2 (opened c.args.self.now).arms (record { number = 0; body = c.args.body } ∷ []) (ap (λ (o : Opened). o.arms) o1) c.open_cases-mark.ensures in
        c.switch_at.ensures.1 end g
        ∙ ap (λ (o : Opened). with_lines o (o.lines ++ line.Switch (Some c.args.x) c.num-tag.result c.close_cases-cases.result None ∷ []))
        (c.num-tag.ensures.0.1 ∙ closed.0 ∙ ap (λ (o : Opened). with_arms o (opened c.args.self.now).arms) o1),
  ),
  λ end g ss h.
      let g3 = c.switch_at.ensures.0 end g in
      let g2 = c.num-tag.ensures.0.0 end g3 in
      let g1 = c.close_cases-cases.ensures.0 end g2 in
      let o1 = c.case.ensures.1 end g1 in
      let closed = c.close_cases-cases.ensures.1 end g2 (opened c.args.self.now).arms (record { number = 0; body = c.args.body } ∷ []) (ap (λ (o : Opened). o.arms) o1) c.open_cases-mark.ensures in
      switch (c.num-tag.ensures.1 end g3) (bare closed.1 (more_cases (one_case h) no_case)),
)

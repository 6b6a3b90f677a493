use Rattle.std.proofs.Common.{rules, ◌≡◌, ◌∷◌, [], ◌++◌, ◌-◌, ◌≤◌, length, min, drop, refl, sym, ◌∙◌, ap, arith}
use Rattle.js_pool.specs.Stands.{Later, opened}
use Rattle.js_pool.proofs.Growth.{holds_more, grows_by, never, fails_grow, least_mark, front_part, whole_back, moved, held_last}
use Rattle.js_pool.proofs.pool.Pool.close_params.Goals as goal

pub returns-in-Some-Some : goal.returns-in-Some-Some
unfolding Later
returns-in-Some-Some c =
    let d = c.in-Some-Some in
    let f : d.from ≡ c.min-begun.result = rw d.is-0 at c.next_number-from.ensures in
    let m : d.many ≡ c.len-2.result - c.min-begun.result = rw d.is-1 at c.next_number-many.ensures in
    let l : c.len.result ≡ length c.args.self.now.names.items = omega (arith, c.args.self.now.names.ok.0) in
    let k : c.len-2.result ≡ length c.args.self.now.names.items = omega (arith, c.args.self.now.names.ok.0) in
    let b : c.min-begun.result ≡ min c.args.mark.0 c.len.result = search rules in (
      (λ end g. g, refl),
      λ end g before s e a.
          let h : d.from ≡ length before = f ∙ least_mark _ before s _ _ _ b l e a in
          let n : d.many ≡ length c.args.self.now.names.items - d.from = omega arith in
          held_last _ before s _ _ _ e h n g.names,
    )

pub returns-in_default : goal.returns-in_default
returns-in_default c = ((fails_grow _ _ c.fail.ensures.0, c.fail.ensures.1), λ end g before s e a. absurd (never _ _ c.fail.ensures.0 g))

use Rattle.std.proofs.Common.{rules, ◌≡◌, ◌∷◌, [], ◌++◌, ◌-◌, ◌≤◌, length, min, drop, refl, sym, ◌∙◌, ap, arith}
use Rattle.js_pool.specs.Stands.{Later, opened}
use Rattle.js_pool.proofs.Growth.{holds_more, grows_by, never, fails_grow, least_mark, front_part, whole_back, moved, held_last}
use Rattle.js_pool.proofs.pool.Pool.close_cases.Goals as goal

pub returns-in-Some-Some : goal.returns-in-Some-Some
unfolding opened
returns-in-Some-Some c =
    let d = c.in-Some-Some in
    let f : d.from ≡ c.len-2.result = rw d.is-0 at c.next_number-from.ensures in
    let m : d.many ≡ c.len-3.result - c.min-begun.result = rw d.is-1 at c.next_number-many.ensures in
    let l : c.len.result ≡ length c.args.self.now.arms.items = omega (arith, c.args.self.now.arms.ok.0) in
    let k : c.len-3.result ≡ length c.args.self.now.arms.items = omega (arith, c.args.self.now.arms.ok.0) in
    let o : d.from ≡ length c.args.self.now.cases.items = omega (arith, c.args.self.now.cases.ok.0, f) in
    let n : d.many ≡ length c.args.self.now.arms.items - c.min-begun.result = omega arith in
    let b : c.min-begun.result ≡ min c.args.mark.0 c.len.result = search rules in
    let r = c.move_arms.ensures o n in
    (r.0, λ end g before es e a. r.1 end g before es e (least_mark _ before es _ _ _ b l e a))

pub returns-in_default : goal.returns-in_default
returns-in_default c = (fails_grow _ _ c.fail.ensures.0, λ end g before es e a. absurd (never _ _ c.fail.ensures.0 g))

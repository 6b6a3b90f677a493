use Rattle.std.proofs.Common.{◌≡◌, ◌-◌, List, length, take, drop, arith, Some, None, sym}
use Rattle.std.proofs.lemmas.List.{length-drop, take-append-drop}
use Rattle.js_pool.specs.declared.node.Stmt.TheVariants as line
use Rattle.js_body.specs.State.{with_arms_of}
use Rattle.js_body.specs.Tells.{around}
use Rattle.js_body.specs.Later.{stands_later, cases_later}
use Rattle.js_body.specs.ListLaws.{parts_cased}
use Rattle.js_body.specs.StepLaws.{earlier, from_here, parts_line}
use Rattle.js_plain.specs.Control.{switch_line, arms_since}
use Rattle.js_plain.proofs.Blocks.{switches}
use Rattle.js_plain.proofs.control.end_clauses.Goals as goal

pub returns : goal.returns
returns c =
    let b = c.args.b.now in
    let p = c.close_cases-cases.new.self in
    let q = c.switch_at.new.self in
    let mark = c.args.cases.0 in (
      λ end g. c.close_cases-cases.ensures.0 end (c.switch_at.ensures.0 end g),
      λ l t h s r n.
          let m = earlier p q c.switch_at.ensures.0 l in
          let k = length s.arms - mark in
          let e : mark ≡ length (drop k s.arms) = omega (arith, length-drop k s.arms, n) in
          let d = parts_cased b.pool p b.stack.items b.temps b.declared.items (around b) s mark c.close_cases-cases.result (take k s.arms) (drop k s.arms) (sym (take-append-drop k s.arms)) e c.close_cases-cases.ensures m r in
          let g = from_here b.pool q (λ end z. c.close_cases-cases.ensures.0 end (c.switch_at.ensures.0 end z)) l in
          parts_line p q b.stack.items b.temps b.declared.items (around b) (with_arms_of (drop k s.arms) s) (line.Switch (Some c.label_name.result) c.args.tag c.close_cases-cases.result None) (switch_line c.args.c.end t (arms_since mark s)) c.switch_at.ensures l
          (switches c.label_name.result c.args.c.end c.label_name.ensures q c.args.tag c.close_cases-cases.result t (arms_since mark s) (stands_later g h) (cases_later (from_here p q c.switch_at.ensures.0 l) d.0)) d.1,
    )

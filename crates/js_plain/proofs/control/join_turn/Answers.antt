use Rattle.std.proofs.Common.{◌-◌, List, length, ap}
use Rattle.std.proofs.lemmas.List.{take-append-drop}
use Rattle.js_body.specs.State.{Line, with_lines_of, lines_since, cut_to}
use Rattle.js_body.specs.Tells.{around}
use Rattle.js_body.specs.BlockLaws.{parts_since}
use Rattle.js_body.specs.StepLaws.{earlier, parts_same}
use Rattle.js_plain.specs.Lines.{parts_included}
use Rattle.js_plain.proofs.control.join_turn.Goals as goal

pub returns : goal.returns
returns c =
    let b = c.args.b.now in
    let p = c.close-block.new.self in
    let q = c.include.new.self in (
      λ end g. c.close-block.ensures.0 end (c.include.ensures.0 end g),
      λ l s t n.
          let m = earlier p q c.include.ensures.0 l in
          let d = parts_since b.pool p b.stack.items b.temps b.declared.items (around b) s c.args.mark.0 c.close-block.result n c.close-block.ensures m t in
          parts_same _ _ _ _ _ _ _ _ (ap (λ (ls : List Line). with_lines_of ls s) (take-append-drop (length s.lines - c.args.mark.0) s.lines))
          (parts_included p q b.stack.items b.temps b.declared.items (around b) (cut_to c.args.mark.0 s) c.close-block.result (lines_since c.args.mark.0 s) d.0 c.include.ensures l d.1),
    )

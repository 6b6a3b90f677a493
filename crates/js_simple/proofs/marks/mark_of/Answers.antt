use Rattle.std.proofs.Common.{sym}
use Rattle.js_code.specs.Held.{part_of}
use Rattle.js_code.specs.Parts.{trees_of}
use Rattle.js_simple.proofs.Marked.{marked_part}
use Rattle.js_simple.proofs.marks.mark_of.Goals as goal

pub returns-in-Some : goal.returns-in-Some
returns-in-Some c = record { value = λ h e. marked_part c.args.code.now c.args.i (part_of c.in-Some.part) c.requires.sound (sym c.in-Some.ensures.value) (c.is_simple.ensures.value (trees_of c.args.code.now) h e) }

pub returns-in-None : goal.returns-in-None
returns-in-None c = record { value = λ h e. cc }

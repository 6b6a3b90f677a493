use Rattle.std.proofs.Common.{◌∙◌, ap}
use Rattle.js_tree.specs.Erase.{erase}
use Rattle.js_tree.specs.Printed.{plain}
use Rattle.js_grammar.proofs.PrintedItems.{read_back}
use Rattle.js_grammar.proofs.PrintedPlaces.{same_text, same_printable}
use Rattle.js_grammar.proofs.laws.reads_only_back.Goals as goal

pub returns : goal.returns
returns c s t q h =
    let b = read_back s q in
    let same = ap erase (c.one_script.ensures (plain s) t b.tree h b.is_script) ∙ b.same in
    record { same = same; printable = same_printable s t same ∙ q; text = same_text s t same }

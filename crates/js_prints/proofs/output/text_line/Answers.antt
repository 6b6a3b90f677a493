use Rattle.std.proofs.Common.{◌++◌, ◌∷◌, [], ◌∙◌, ap, refl, List, ℕ}
use Rattle.js_prints.proofs.Printing.{byte_after}
use Rattle.js_prints.proofs.output.text_line.Goals as goal

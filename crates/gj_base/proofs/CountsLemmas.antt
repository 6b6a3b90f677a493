-- The first bytes of a text begin it.
use Rattle.std.proofs.Common.{ℕ, List, take, drop, sym}
use Rattle.std.proofs.lemmas.List.{take-append-drop}
use Rattle.gj_base.specs.Counts.{Begins}

pub Begins-take : (n : ℕ) (text : List ℕ) → Begins (take n text) text
Begins-take n text = (drop n text, sym (take-append-drop n text))

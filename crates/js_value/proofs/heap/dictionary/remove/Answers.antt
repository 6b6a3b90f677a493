use Rattle.std.proofs.Common.{ap, sym, ◌∙◌, refl}
use Rattle.std.specs.Map as map
use Rattle.js_value.specs.HeapSeen.{entries_of}
use Rattle.js_value.proofs.DictionaryLemmas.{remove_is}
use Rattle.js_value.proofs.heap.dictionary.remove.Goals as goal

pub returns : goal.returns
returns c =
    record { value = ap entries_of c.shift_remove-lost.ensures.entries ∙ remove_is _ c.args.name.now (λ k. refl) c.args.entries.now.entries (ap (map.lookup _) (sym c.shift_remove-lost.ensures.entries) ∙ c.shift_remove-lost.ensures.updates.1) }

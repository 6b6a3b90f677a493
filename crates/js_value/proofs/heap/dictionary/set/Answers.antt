use Rattle.std.proofs.Common.{ap, ◌∙◌, refl}
use Rattle.js_value.specs.HeapSeen.{entries_of}
use Rattle.js_value.proofs.DictionaryLemmas.{insert_is}
use Rattle.js_value.proofs.heap.dictionary.set.Goals as goal

pub returns : goal.returns
returns c = record { value = ap entries_of c.in_ok-insert.ensures.entries ∙ insert_is _ c.args.name (λ j. refl) c.args.value c.args.entries.now.entries }

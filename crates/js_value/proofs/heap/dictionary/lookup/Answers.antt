use Rattle.std.proofs.Common.{ap, ◌∙◌, refl}
use Rattle.std.specs.Prelude.{option_map}
use Rattle.js_value.specs.HeapSeen.{value_of}
use Rattle.js_value.proofs.DictionaryLemmas.{lookup_is}
use Rattle.js_value.proofs.heap.dictionary.lookup.Goals as goal

pub returns : goal.returns
returns c = record { value = ap (option_map value_of) (c.copied.ensures ∙ c.get.ensures.value) ∙ lookup_is _ c.args.name.now (λ k. refl) c.args.entries.now.entries }

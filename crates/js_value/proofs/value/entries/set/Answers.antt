use Rattle.std.proofs.Common.{refl, sym, ap, ◌∙◌}
use Rattle.js_value.specs.ValueSeen.{str_bytes, value_of, entries_of}
use Rattle.js_value.proofs.Places.{set_found, set_added}
use Rattle.js_value.proofs.value.entries.set.Goals as goal

pub returns-in-Some : goal.returns-in-Some
returns-in-Some c = record { value = set_found (str_bytes c.args.name) (value_of c.args.value) c.args.entries.now.items c.in-Some.i (record { name = c.args.name; value = c.args.value }) (rw (← c.as_slice.ensures.value, ← c.as_bytes.ensures.value) (sym c.in-Some.ensures.value)) refl refl }

pub returns-in_ok-push-in-None : goal.returns-in_ok-push-in-None
returns-in_ok-push-in-None c = record { value = ap entries_of c.in_ok-push-in-None.ensures.items ∙ set_added (str_bytes c.args.name) (value_of c.args.value) c.args.entries.now.items (record { name = c.args.name; value = c.args.value }) (rw (← c.as_slice.ensures.value, ← c.as_bytes.ensures.value) (sym c.in-None.ensures.value)) refl refl }

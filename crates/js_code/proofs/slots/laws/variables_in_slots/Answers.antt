use Rattle.js_code.specs.NameLaws.{distinct_once}
use Rattle.js_code.specs.SlotLaws.{reads_slots, sets_place, sets_slot, binds_slots}
use Rattle.js_code.proofs.slots.laws.variables_in_slots.Goals as goal

pub returns : goal.returns
returns c = record { reads = reads_slots; sets = sets_place; slots = sets_slot; binds = binds_slots; once = distinct_once }

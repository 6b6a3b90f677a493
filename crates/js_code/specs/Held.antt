-- The parts that those of the program stand for.
use Rattle.std.specs.Prelude.{List, Some, None, map}
use Rattle.js_code.specs.declared.slots.place.Place.TheVariants.{Caught, Local, Host, Function, Global, Nowhere}
use Rattle.js_code.specs.Parts
use Rattle.js_code.specs.declared.code.part.Part.{Part}
use Rattle.js_code.specs.declared.code.part.Part.TheVariants as held

abbrev pub part_of : Part → Parts.Part
part_of (held.Number at n) = Parts.number at n
part_of (held.Str at s) = Parts.string at s.now
part_of (held.Bool at b) = Parts.boolean at b
part_of (held.Null at) = Parts.null at
part_of (held.Caught at x) = Parts.name at x.now Caught
part_of (held.Local at slot x) = Parts.name at x.now (Local slot)
part_of (held.Host at h x) = Parts.name at x.now (Host h)
part_of (held.Function at n x) = Parts.name at x.now (Function n)
part_of (held.Global at slot x) = Parts.name at x.now (Global slot)
part_of (held.Nowhere at x) = Parts.name at x.now Nowhere
part_of (held.Unary at op e) = Parts.unary at op e
part_of (held.Binary at op a b) = Parts.binary at op a b
part_of (held.And at a b) = Parts.both at a b
part_of (held.Or at a b) = Parts.either at a b
part_of (held.Conditional at a b c) = Parts.choice at a b c
part_of (held.Call at f es) = Parts.call at f es
part_of (held.Index at e i) = Parts.index at e i
part_of (held.Length at e) = Parts.length_of at e
part_of (held.Pop at e) = Parts.pop at e
part_of (held.CharCodeAt at e i) = Parts.char_code_at at e i
part_of (held.Substring at e i j) = Parts.substring at e i j
part_of (held.Array at es) = Parts.array at es
part_of (held.Dictionary at) = Parts.dictionary at
part_of (held.Decimal at e) = Parts.decimal_of at e
part_of (held.FromCharCode at e) = Parts.from_char_code at e
part_of held.NoMore = Parts.no_more
part_of (held.More e es) = Parts.more e es
part_of (held.Declare at slot e x) = Parts.declare at x.now (Some slot) e
part_of (held.DeclareNowhere at e x) = Parts.declare at x.now None e
part_of (held.AssignLocal at slot e x) = Parts.assign at x.now (Local slot) e
part_of (held.AssignGlobal at slot e x) = Parts.assign at x.now (Global slot) e
part_of (held.AssignNowhere at e x) = Parts.assign at x.now Nowhere e
part_of (held.Store at e i v) = Parts.store at e i v
part_of (held.Perform at e) = Parts.perform at e
part_of (held.Push at e v) = Parts.push at e v
part_of (held.Delete at e k) = Parts.remove at e k
part_of (held.If at e b x) = Parts.branch at e b x
part_of (held.While at e b l) = Parts.while at l.now e b
part_of (held.Forever at b l) = Parts.forever at l.now b
part_of (held.Switch at e cs l) = Parts.switch at l.now e cs
part_of (held.ReturnNothing at) = Parts.return_nothing at
part_of (held.Return at e) = Parts.return at e
part_of (held.Throw at e) = Parts.throw at e
part_of (held.Break at l) = Parts.break at l.now
part_of (held.Continue at l) = Parts.continue at l.now
part_of (held.Try at b h) = Parts.attempt at b h
part_of held.Done = Parts.done
part_of (held.Then s ss) = Parts.then s ss
part_of held.NoElse = Parts.no_else
part_of (held.ElseBlock b) = Parts.else_block b
part_of (held.ElseIf at e b x) = Parts.else_if at e b x
part_of held.NoCases = Parts.no_cases
part_of (held.Default b) = Parts.default b
part_of (held.Case b cs n) = Parts.case n b cs

abbrev pub parts_of : List Part → List Parts.Part
parts_of parts = map part_of parts

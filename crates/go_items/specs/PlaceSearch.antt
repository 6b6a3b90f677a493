-- Own: a search for the function of a number that goes from file to file.
use Rattle.std.specs.Prelude.{List, Option, Some, None}
use Rattle.gj_base.specs.declared.place.Place.{Place}
use Rattle.go_syntax.specs.Tree as t
use Rattle.go_syntax.specs.declared.tree.Params.{Params}
use Rattle.go_typing.specs.Checked.{function_at}
use Rattle.go_items.specs.declared.items.count.Counting.{Counting}
use Rattle.go_items.specs.declared.items.count.Counting.TheVariants.{Passed, Left}

-- where a function stands, if it may have a core: it has no receiver
abbrev pub own_place : Option Params → Place → Option Place
own_place None at = Some at
own_place (Some r) at = None

-- where it stands, with these declarations left
abbrev pub place_after : Counting → List t.Decl → Option Place
place_after (Passed at) ds = at
place_after (Left n) ds = function_at n ds

-- Go specification (as of Go 1.17), "Declarations and scope"; own: which declarations need themselves.
use Rattle.std.specs.Prelude.{◌≡◌, List}
use Rattle.go_syntax.specs.Tree as t
use Rattle.go_typing.specs.Items.{items_of}
use Rattle.go_typing.specs.Known.{nothing_known}
use Rattle.go_typing.specs.Cycles.{cycle_flaws}
use Rattle.go_typing.specs.Checked.{known_in}

-- it doesn't rest on what names stand for: what is told of them is the same before any declaration is typed
abbrev pub CirclesStay : Type 0
CirclesStay = (ds : List t.Decl) → cycle_flaws (nothing_known (items_of ds)).binds (items_of ds) ≡ cycle_flaws (known_in ds).binds (items_of ds)

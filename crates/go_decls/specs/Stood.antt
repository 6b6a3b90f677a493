-- For private clauses: what is told of a name by those that stood before, and those that stood after it.
use Rattle.std.specs.Prelude.{List, [], if◌then◌else◌}
use Rattle.go_syntax.specs.declared.tree.Name.{Name}
use Rattle.go_typing.specs.Answer.{Flaw}
use Rattle.go_typing.specs.Env.{Bind, is_blank, unknown}
use Rattle.go_typing.specs.Scopes.{place_in}
use Rattle.go_typing.specs.Walk.{redeclared}
use Rattle.go_typing.specs.Items.{Item, constant_item, type_item, alias_item, function_item, variable_item, init_item}
use Rattle.go_typing.specs.Known.{with_item}

abbrev pub again : Name → List Bind → List Flaw
again n bs = if is_blank n.text then [] else redeclared n (place_in n.text bs)

-- a function `init` declares nothing
abbrev pub stood : Item → List Bind → List Bind
stood (init_item n) bs = bs
stood (constant_item n k u y all) bs = with_item n unknown bs
stood (type_item n k e) bs = with_item n unknown bs
stood (alias_item n e) bs = with_item n unknown bs
stood (function_item n id s) bs = with_item n unknown bs
stood (variable_item n) bs = with_item n unknown bs

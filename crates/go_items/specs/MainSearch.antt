-- Own: a search for `main` that goes from file to file.
use Rattle.std.specs.Prelude.{ℕ, List}
use Rattle.go_syntax.specs.Tree as t
use Rattle.go_typing.specs.Checked.{main_from}
use Rattle.go_items.specs.declared.items.count.Search.{Search}
use Rattle.go_items.specs.declared.items.count.Search.TheVariants.{Found, From}

-- the number of `main`, with these declarations left
abbrev pub main_after : Search → List t.Decl → ℕ
main_after (Found n) ds = n
main_after (From n) ds = main_from n ds

-- The tag of a `switch` in code, and what it stands for.
use Rattle.std.specs.Prelude.{◌≡◌, ◌<◌, option_map, IfSome}
use Rattle.go_type.specs.Levels.{tree_of}
use Rattle.go_type.specs.Table.{places, size}
use Rattle.go_type.specs.declared.table.TypeTable.{TypeTable}
use Rattle.go_typing.specs.Expressions.{Valued, type_of, core_of}
use Rattle.go_typing.specs.Statements as statements
use Rattle.go_assign.specs.Taken.{StandsFor}
use Rattle.go_assign.specs.declared.branch.tag.Tag as code

-- the tag that a value is
abbrev pub tag_in : Valued → statements.Tag
tag_in v = record { type_ = type_of v.answer; core = core_of v.answer; flaws = v.flaws }

pub record IsTag (g : statements.Tag) (table : TypeTable) (tag : code.Tag) : Type 0 where
  pub type_ : option_map (tree_of (places table)) tag.ty ≡ g.type_
  pub below : IfSome tag.ty (λ t. t.0 < size table)
  pub core : StandsFor table g.core tag.core

-- What can be told of a refusal; only private clauses cite this file.
use Rattle.std.specs.Prelude.{◌≤◌, All, length, Result, Ok, Err}
use Rattle.js_tree.specs.declared.tree.Script.{Script}
use Rattle.go_load.specs.Root.{file_limit}
use Rattle.gj_compile.specs.declared.refused.Refused.{Refused}
use Rattle.gj_compile.specs.declared.refused.Refused.TheVariants as refused

-- the files of a fault that is defined keep their limit
abbrev pub CanBeTold : Refused → Type 0
CanBeTold (refused.Fault fault entries) = All (λ e. length e.bytes ≤ file_limit) entries
CanBeTold (refused.Beyond fault entries) = Unit {0}
CanBeTold refused.ReadFault = Unit {0}
CanBeTold refused.NoMemory = Unit {0}
CanBeTold refused.Internal = Unit {0}

-- why there is no script can be told
abbrev pub ErrCanBeTold : Result Script Refused → Type 0
ErrCanBeTold (Ok script) = Unit {0}
ErrCanBeTold (Err refused) = CanBeTold refused

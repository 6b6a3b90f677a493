-- The bytes of a name.
use Rattle.std.specs.Prelude.{ℕ, List, ◌++◌}
use Rattle.std.specs.Fmt.{decimal}
use Rattle.js_pool.specs.declared.name.Name.{Name}
use Rattle.js_pool.specs.declared.name.Name.TheVariants as name

abbrev pub name_bytes : Name → List ℕ
name_bytes (name.Word w) = w.now
name_bytes (name.Numbered w n) = w.now ++ decimal n

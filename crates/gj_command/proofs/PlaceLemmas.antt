-- The files of a root keep their limit.
use Rattle.std.proofs.Common.{◌≤◌, List, [], ◌∷◌, length}
use Rattle.std.specs.Prelude.{All}
use Rattle.std.specs.List.{AllByRecursion}
use Rattle.std.proofs.lemmas.List.Elements.{All-from_recursion, recursion_from_All}
use Rattle.go_load.specs.Root.{file_limit, IsOfRoot}
use Rattle.go_load.specs.declared.sources.FileEntry.{FileEntry}

short_of_root : (es : List FileEntry) → AllByRecursion IsOfRoot es → AllByRecursion (λ e. length e.bytes ≤ file_limit) es
short_of_root [] own = tt
short_of_root (e ∷ es) own = (own.0.short, short_of_root es own.1)

-- the files of the root keep their limit
pub short : (es : List FileEntry) → All IsOfRoot es → All (λ e. length e.bytes ≤ file_limit) es
short es own = All-from_recursion (λ (e : FileEntry). length e.bytes ≤ file_limit) es (short_of_root es (recursion_from_All IsOfRoot es own))

-- Which fault of a package is told. own: the first by file and offset, and of several at one place that of the least code.
use Rattle.std.specs.Prelude.{◌≡◌, ◌<◌, ◌⊎◌, ◌↔◌, List, [], Some, None}
use Rattle.go_syntax.specs.Tree as t
use Rattle.go_typing.specs.Answer.{Flaw}
use Rattle.go_typing.specs.Faulty.{IsIn}
use Rattle.go_typing.specs.Checked.{told, fault_of}

-- by file, then by offset, then by code
abbrev pub IsBefore : Flaw → Flaw → Type 0
IsBefore f g =
    (f.place.file < g.place.file)
    ⊎ (f.place.file ≡ g.place.file) × ((f.place.offset < g.place.offset) ⊎ (f.place.offset ≡ g.place.offset) × (f.code < g.code))

-- it is told, and nothing that is told is before it
pub record IsLeast (f : Flaw) (fs : List Flaw) : Type 0 where
  pub is_told : IsIn f fs
  pub none_before : (g : Flaw) → IsIn g fs → IsBefore g f → ⊥

abbrev pub TellsTheLeast : Type 0
TellsTheLeast = (ds : List t.Decl) (f : Flaw) → fault_of ds ≡ Some f → IsLeast f (told ds)

abbrev pub NoneIsTold : Type 0
NoneIsTold = (ds : List t.Decl) → (fault_of ds ≡ None) ↔ (told ds ≡ [])

-- Own: what `iota` is held as.
use Rattle.std.specs.Prelude.{◌≡◌, ℕ, pos, List, Option, Some, None, codes, bytes_eq, if◌then◌else◌}
use Rattle.std.specs.Coded.{Unit-prop, Coded-set, coded_ℕ}
use Rattle.gj_base.specs.declared.place.Place.{Place}
use Rattle.go_const.specs.declared.constant.Const.TheVariants as form
use Rattle.go_typing.specs.Env.{nowhere}
use Rattle.go_operands.specs.declared.scopes.declared.Declared.{Declared}
use Rattle.go_operands.specs.declared.scopes.declared.Declared.TheVariants as as_

-- an untyped integer constant that isn't negative
abbrev pub CountsAs : Declared → Type 0
CountsAs (as_.Const (form.Int (pos n)) t) = t.0 ≡ 4
CountsAs _ = ⊥

abbrev pub Counts : Option Declared → Type 0
Counts None = Unit {0}
Counts (Some d) = CountsAs d

CountsAs-prop : (d : Declared) → IsProp (CountsAs d)
CountsAs-prop (as_.Const (form.Int (pos n)) t) = Coded-set coded_ℕ _ _
CountsAs-prop _ = λ a b. absurd a

pub Counts-prop : (o : Option Declared) → IsProp (Counts o)
Counts-prop None = Unit-prop
Counts-prop (Some d) = CountsAs-prop d

abbrev pub number_in : Declared → Option ℕ
number_in (as_.Const (form.Int (pos n)) t) = Some n
number_in _ = None

-- the number of the constant specification
abbrev pub number_of : Option Declared → Option ℕ
number_of None = None
number_of (Some d) = number_in d

-- what the name stands for, if it is `iota`
abbrev pub what_named : List ℕ → Option Declared → Option Declared
what_named x o = if bytes_eq x (codes "iota") then o else None

-- where it stands
abbrev pub place_of : Option Declared → Option Place
place_of None = None
place_of (Some d) = Some nowhere

abbrev pub place_named : List ℕ → Option Declared → Option Place
place_named x o = place_of (what_named x o)

-- Faults have the numbers of their files; only private clauses cite this file.
use Rattle.std.specs.Prelude.{◌≡◌, ◌+◌, ℕ, List, [], ◌∷◌}
use Rattle.go_load.specs.Readings.{Reading, Long, Unlexed, Unparsed, Parsed}

abbrev pub IsNumbered : ℕ → Reading → Type 0
IsNumbered number Long = Unit {0}
IsNumbered number (Unlexed fault) = fault.place.file ≡ number
IsNumbered number (Unparsed fault) = fault.place.file ≡ number
IsNumbered number (Parsed start constraint tree) = Unit {0}

-- the first of the files has this number
abbrev pub AreNumbered : ℕ → List Reading → Type 0
AreNumbered number [] = Unit {0}
AreNumbered number (r ∷ rs) = IsNumbered number r × AreNumbered (number + 1) rs

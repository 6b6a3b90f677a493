-- own: which words are commands, and what the numbers of settings are at most.
use Rattle.std.specs.Prelude.{◌≤◌, ◌||◌, ℕ, List, [], ◌∷◌, Bool, false, codes, bytes_eq}
use Rattle.gj_words.specs.declared.settings.Settings.{Settings}
use Rattle.gj_words.specs.declared.settings.Settings.TheVariants as settings

-- the most steps of a run
abbrev pub most_steps : ℕ
most_steps = 1000000000000

-- the most goroutines of a generated program
abbrev pub most_size : ℕ
most_size = 1000

abbrev pub IsWithinLimits : Settings → Type 0
IsWithinLimits (settings.Run folder src budget) = budget.steps ≤ most_steps
IsWithinLimits (settings.Exec file budget) = budget.steps ≤ most_steps
IsWithinLimits (settings.Gen size) = size ≤ most_size
IsWithinLimits (settings.Build folder out src is_small) = Unit {0}
IsWithinLimits (settings.Blocking folder src) = Unit {0}
IsWithinLimits settings.Version = Unit {0}

-- the first word is a command
abbrev pub names_command : List (List ℕ) → Bool
names_command [] = false
names_command (command ∷ words) = bytes_eq command (codes "build")
    || (bytes_eq command (codes "run") || (bytes_eq command (codes "exec") || (bytes_eq command (codes "blocking") || (bytes_eq command (codes "gen") || bytes_eq command (codes "version")))))

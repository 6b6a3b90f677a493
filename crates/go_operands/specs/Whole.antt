-- Own: a number as an untyped integer constant, where 128 bits hold it.
use Rattle.std.specs.Prelude.{ℕ, ℤ, pos, ◌^◌, nat_lt, Option, Some, None, if◌then◌else◌}

abbrev pub whole : ℕ → Option ℤ
whole n = if nat_lt n (2 ^ 127) then Some (pos n) else None

-- for private clauses: what is past 128 bits is cut
abbrev pub cut : ℕ → ℕ
cut n = if nat_lt n (2 ^ 127) then n else 2 ^ 127

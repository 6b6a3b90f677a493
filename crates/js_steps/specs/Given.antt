-- Own: what the functions of the host take, by the values that they are given.
use Rattle.std.specs.Prelude.{ℕ, ◌^◌, ◌&&◌, pos, List, Option, Some, None, nat_le, nat_lt, if◌then◌else◌}
use Rattle.std.specs.Borrow.{Bor}
use Rattle.js_tree.specs.Value.{Value, whole, bytes, nothing}

-- the bytes of a string
abbrev pub text_in : Value → Option (List ℕ)
text_in (bytes s) = Some s
text_in _ = None

-- a string, where there is one
abbrev pub text_value : Option (Bor (List ℕ)) → Value
text_value (Some s) = bytes s.now
text_value None = nothing

-- a status: from 0 to 255
abbrev pub status_in : Value → Option ℕ
status_in (whole (pos c)) = if nat_lt c 256 then Some c else None
status_in _ = None

-- how many numbers `$pick` chooses among: from 2 to 2^32 - 1
abbrev pub bound_in : Value → Option ℕ
bound_in (whole (pos k)) = if nat_le 2 k && nat_lt k (2 ^ 32) then Some k else None
bound_in _ = None

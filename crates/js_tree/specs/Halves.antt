-- Own: what the functions of the run-time's group "two halves" do. A 64-bit value is an array of two halves below 2 ^ 32, the high one first; a signed one stands there as its two's complement.
use Rattle.std.specs.Prelude.{◌≡◌, ◌≤◌, ◌<◌, ◌+◌, ◌-◌, ◌*◌, ◌/◌, ◌%◌, ◌^◌, ◌++◌, ℕ, ℤ, pos, negsuc, neg_ℤ, int_lt, int_div, int_rem, List, [], ◌∷◌, length, Some, Bool, true, false, if◌then◌else◌, nat_lt, slice_get, codes}
use Rattle.std.specs.Fmt.{signed_decimal}
use Rattle.js_tree.specs.Script.{Name, ScriptTree}
use Rattle.js_tree.specs.Value.{Value, whole, bytes, truth, object, function, Object, items, World, gives}
use Rattle.js_tree.specs.Operation.{shifted_right}
use Rattle.js_tree.specs.Evaluate.{Called, call_value}
use Rattle.js_tree.specs.Ticks.{worlds, Comes}

-- the array of a number below 2 ^ 64
abbrev pub wide : ℕ → Object
wide n = items (whole (pos (n / 2 ^ 32)) ∷ whole (pos (n % 2 ^ 32)) ∷ [])

-- an array holds the halves of a number
pub record IsWide (w : World) (id n : ℕ) : Type 0 where
  pub small : n < 2 ^ 64
  pub halves : slice_get w.objects id ≡ Some (wide n)

-- the number that 64 bits stand for, with a sign or without
abbrev pub number_of : Bool → ℕ → ℤ
number_of true n = if nat_lt n (2 ^ 63) then pos n else neg_ℤ (pos (2 ^ 64 - n))
number_of false n = pos n

-- the 64 bits of a number
abbrev pub bits_of : ℤ → ℕ
bits_of (pos n) = n % 2 ^ 64
bits_of (negsuc n) = 2 ^ 64 - 1 - n % 2 ^ 64

-- quotients are cut toward zero, and remainders have the sign of the dividend
abbrev pub quotient : Bool → ℕ → ℕ → ℕ
quotient sign x y = bits_of (int_div (number_of sign x) (number_of sign y))

abbrev pub remains : Bool → ℕ → ℕ → ℕ
remains sign x y = bits_of (int_rem (number_of sign x) (number_of sign y))

-- a shift to the right, which keeps the sign where there is one
abbrev pub shifted : Bool → ℕ → ℕ → ℕ
shifted sign x k = bits_of (shifted_right (number_of sign x) k)

-- -1, 0 or 1 where the first is less, equal or greater
abbrev pub order : ℤ → ℤ → ℤ
order x y = if int_lt x y then negsuc 0 else if int_lt y x then pos 1 else pos 0

-- a call takes at most 65 ticks, its own among them
pub record Does (script : ScriptTree) (choices : List ℕ) (x : Name) (vs : List Value) (w : World) (o : Called) : Type 0 where
  pub ticks : ℕ
  pub few : ticks ≤ 65
  pub comes : (at : ℕ) → Comes worlds script choices (λ st. call_value st at (function x) vs) w ticks o

-- a new array of two halves, and nothing else is changed
abbrev pub new_wide : ℕ → World → Called
new_wide n w = gives (Some (object (length w.objects))) (record w { objects = w.objects ++ wide n ∷ [] })

-- a function of two values whose bits it gives
abbrev pub OfTwo : ScriptTree → Name → (ℕ → ℕ → ℕ) → Type 0
OfTwo script x f =
    (choices : List ℕ) (w : World) (a b m n : ℕ) → IsWide w a m → IsWide w b n
    → Does script choices x (object a ∷ object b ∷ []) w (new_wide (f m n) w)

-- the same with a sign, for a divisor that isn't zero
abbrev pub OfDividend : ScriptTree → Name → (Bool → ℕ → ℕ → ℕ) → Type 0
OfDividend script x f =
    (choices : List ℕ) (w : World) (a b m n : ℕ) (sign : Bool) → IsWide w a m → IsWide w b n → 0 < n
    → Does script choices x (object a ∷ object b ∷ truth sign ∷ []) w (new_wide (f sign m n) w)

-- each function of the group meets its clause
pub record HasHalves (script : ScriptTree) : Type 0 where
  pub add64 : OfTwo script (codes "$add64") (λ m n. (m + n) % 2 ^ 64)
  pub sub64 : OfTwo script (codes "$sub64") (λ m n. (m + (2 ^ 64 - n)) % 2 ^ 64)
  pub mul64 : OfTwo script (codes "$mul64") (λ m n. m * n % 2 ^ 64)
  pub div64 : OfDividend script (codes "$div64") quotient
  pub mod64 : OfDividend script (codes "$mod64") remains
  pub shl64 : (choices : List ℕ) (w : World) (a m k : ℕ) → IsWide w a m → k < 2 ^ 32
      → Does script choices (codes "$shl64") (object a ∷ whole (pos k) ∷ []) w (new_wide (m * 2 ^ k % 2 ^ 64) w)
  pub shr64 : (choices : List ℕ) (w : World) (a m k : ℕ) (sign : Bool) → IsWide w a m → k < 2 ^ 32
      → Does script choices (codes "$shr64") (object a ∷ whole (pos k) ∷ truth sign ∷ []) w (new_wide (shifted sign m k) w)
  pub cmp64 : (choices : List ℕ) (w : World) (a b m n : ℕ) (sign : Bool) → IsWide w a m → IsWide w b n
      → Does script choices (codes "$cmp64") (object a ∷ object b ∷ truth sign ∷ []) w (gives (Some (whole (order (number_of sign m) (number_of sign n)))) w)
  pub str64 : (choices : List ℕ) (w : World) (a m : ℕ) (sign : Bool) → IsWide w a m
      → Does script choices (codes "$str64") (object a ∷ truth sign ∷ []) w (gives (Some (bytes (signed_decimal (number_of sign m)))) w)

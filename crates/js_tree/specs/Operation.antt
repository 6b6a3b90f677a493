-- ECMA-262 5.1, 9.5, 9.6 and 11: the operations on values, cut to the subset. `None`: the operation has no meaning.
use Rattle.std.specs.Prelude.{ℕ, zero, ◌-◌, ◌*◌, ◌/◌, ◌%◌, ◌^◌, ℤ, pos, negsuc, ◌+ℤ◌, ◌-ℤ◌, ◌*ℤ◌, neg_ℤ, nat_abs, int_lt, int_le, int_div, int_rem, List, [], ◌∷◌, ◌++◌, Option, Some, None, Bool, true, false, not, if◌then◌else◌, ◌&&◌, ◌==◌, nat_lt, nat_le, length, slice_get, slice_set, take, drop, option_map, is_some, bit_and, bit_or, bit_xor, bytes_eq}
use Rattle.std.specs.Ordering.{int_eq}
use Rattle.std.specs.Fmt.{signed_decimal}
use Rattle.js_tree.specs.Script.{Name}
use Rattle.js_tree.specs.Value.{Value, whole, bytes, truth, nothing, object, function, Object, items, entries, lookup, with_entry, without_entry}
use Rattle.js_tree.specs.declared.tree.UnaryOp.{UnaryOp}
use Rattle.js_tree.specs.declared.tree.UnaryOp.TheVariants.{Negate, Complement, Not}
use Rattle.js_tree.specs.declared.tree.BinaryOp.{BinaryOp}
use Rattle.js_tree.specs.declared.tree.BinaryOp.TheVariants.{Add, Subtract, Multiply, Divide, Remainder, BitOr, BitAnd, BitXor, ShiftLeft, ShiftRight, ShiftRightUnsigned, Less, LessEqual, Greater, GreaterEqual, Same, Different, In}

-- 8.5, cut: a whole number from -2^53 to 2^53, with one zero
abbrev pub in_range : ℤ → Option Value
in_range n = if nat_le (nat_abs n) (2 ^ 53) then Some (whole n) else None

-- 9.6: ToUint32
abbrev pub uint32 : ℤ → ℕ
uint32 (pos n) = n % 2 ^ 32
uint32 (negsuc n) = 2 ^ 32 - 1 - n % 2 ^ 32

-- 9.5: the number of 32 bits with a sign
abbrev pub signed32 : ℕ → ℤ
signed32 n = if nat_lt n (2 ^ 31) then pos n else neg_ℤ (pos (2 ^ 32 - n))

-- 9.5: ToInt32
abbrev pub int32 : ℤ → ℤ
int32 n = signed32 (uint32 n)

-- 11.7: the count of a shift
abbrev pub shift_count : ℤ → ℕ
shift_count n = uint32 n % 32

-- 11.7.2: a shift to the right by so many bits that keeps the sign
abbrev pub shifted_right : ℤ → ℕ → ℤ
shifted_right (pos n) k = pos (n / 2 ^ k)
shifted_right (negsuc n) k = negsuc (n / 2 ^ k)

abbrev pub exact : ℤ → ℤ → Option Value
exact (pos zero) quotient = in_range quotient
exact _ quotient = None

-- 11.5.2: a quotient without a remainder
abbrev pub quotient_of : ℤ → ℤ → Option Value
quotient_of x (pos zero) = None
quotient_of x y = exact (int_rem x y) (int_div x y)

-- 11.5.3: a remainder with the sign of the dividend
abbrev pub remainder_of : ℤ → ℤ → Option Value
remainder_of x (pos zero) = None
remainder_of x y = Some (whole (int_rem x y))

-- 11.5 to 11.8, 11.10: an operator between two numbers
abbrev pub on_numbers : BinaryOp → ℤ → ℤ → Option Value
on_numbers Add x y = in_range (x +ℤ y)
on_numbers Subtract x y = in_range (x -ℤ y)
on_numbers Multiply x y = in_range (x *ℤ y)
on_numbers Divide x y = quotient_of x y
on_numbers Remainder x y = remainder_of x y
on_numbers BitOr x y = Some (whole (signed32 (bit_or (uint32 x) (uint32 y))))
on_numbers BitAnd x y = Some (whole (signed32 (bit_and (uint32 x) (uint32 y))))
on_numbers BitXor x y = Some (whole (signed32 (bit_xor (uint32 x) (uint32 y))))
on_numbers ShiftLeft x y = Some (whole (signed32 (uint32 x * 2 ^ shift_count y % 2 ^ 32)))
on_numbers ShiftRight x y = Some (whole (shifted_right (int32 x) (shift_count y)))
on_numbers ShiftRightUnsigned x y = Some (whole (pos (uint32 x / 2 ^ shift_count y)))
on_numbers Less x y = Some (truth (int_lt x y))
on_numbers LessEqual x y = Some (truth (int_le x y))
on_numbers Greater x y = Some (truth (int_lt y x))
on_numbers GreaterEqual x y = Some (truth (int_le y x))
on_numbers _ x y = None

-- 11.8.5: the order of strings, by their first difference
abbrev pub string_less : List ℕ → List ℕ → Bool
string_less [] [] = false
string_less [] (y ∷ ys) = true
string_less (x ∷ xs) [] = false
string_less (x ∷ xs) (y ∷ ys) = if x == y then string_less xs ys else nat_lt x y

-- 11.6.1, 11.8: an operator between two strings
abbrev pub on_strings : BinaryOp → List ℕ → List ℕ → Option Value
on_strings Add s t = Some (bytes (s ++ t))
on_strings Less s t = Some (truth (string_less s t))
on_strings LessEqual s t = Some (truth (not (string_less t s)))
on_strings Greater s t = Some (truth (string_less t s))
on_strings GreaterEqual s t = Some (truth (not (string_less s t)))
on_strings _ s t = None

abbrev pub on_values : BinaryOp → Value → Value → Option Value
on_values op (whole x) (whole y) = on_numbers op x y
on_values op (bytes s) (bytes t) = on_strings op s t
on_values op _ _ = None

abbrev pub same_truth : Bool → Bool → Bool
same_truth true b = b
same_truth false b = not b

-- 11.9.6: strict equality; arrays and dictionaries by identity, functions by name
abbrev pub same_value : Value → Value → Bool
same_value (whole x) (whole y) = int_eq x y
same_value (bytes s) (bytes t) = bytes_eq s t
same_value (truth a) (truth b) = same_truth a b
same_value nothing nothing = true
same_value (object a) (object b) = a == b
same_value (function x) (function y) = bytes_eq x y
same_value _ _ = false

-- own: the keys of dictionaries begin with `$`
abbrev pub is_key : Name → Bool
is_key [] = false
is_key (c ∷ cs) = c == 36

abbrev pub key_in : Option Object → Value → Option Value
key_in (Some (entries es)) (bytes k) = if is_key k then Some (truth (is_some (lookup k es))) else None
key_in _ _ = None

-- 11.8.7: whether a dictionary has a key
abbrev pub has_key : List Object → Value → Value → Option Value
has_key objects k (object id) = key_in (slice_get objects id) k
has_key objects k _ = None

-- 11.5 to 11.10: an operator between two values
abbrev pub binary_value : List Object → BinaryOp → Value → Value → Option Value
binary_value objects Same a b = Some (truth (same_value a b))
binary_value objects Different a b = Some (truth (not (same_value a b)))
binary_value objects In a b = has_key objects a b
binary_value objects op a b = on_values op a b

-- 11.4.7 to 11.4.9: an operator before a value
abbrev pub unary_value : UnaryOp → Value → Option Value
unary_value Negate (whole n) = Some (whole (neg_ℤ n))
unary_value Complement (whole n) = Some (whole (signed32 (2 ^ 32 - 1 - uint32 n)))
unary_value Not (truth b) = Some (truth (not b))
unary_value _ _ = None

abbrev pub element_in : Option Object → Value → Option Value
element_in (Some (items vs)) (whole (pos i)) = slice_get vs i
element_in (Some (entries es)) (bytes k) = if is_key k then lookup k es else None
element_in _ _ = None

-- 11.2.1: an element below the length, or what is under a key that is there
abbrev pub element : List Object → Value → Value → Option Value
element objects (object id) i = element_in (slice_get objects id) i
element objects _ i = None

abbrev pub stored_in : Option Object → Value → Value → Option Object
stored_in (Some (items vs)) (whole (pos i)) v = if nat_lt i (length vs) then Some (items (slice_set vs i v)) else None
stored_in (Some (entries es)) (bytes k) v = if is_key k then Some (entries (with_entry k v es)) else None
stored_in _ _ v = None

-- the objects with another in the place of one
abbrev pub replaced : List Object → ℕ → Option Object → Option (List Object)
replaced objects id changed = option_map (λ o. slice_set objects id o) changed

-- 11.13.1: an element below the length, or under a key, is set
abbrev pub stored : List Object → Value → Value → Value → Option (List Object)
stored objects (object id) i v = replaced objects id (stored_in (slice_get objects id) i v)
stored objects _ i v = None

abbrev pub removed_in : Option Object → Value → Option Object
removed_in (Some (entries es)) (bytes k) = if is_key k then Some (entries (without_entry k es)) else None
removed_in _ _ = None

-- 11.4.1: a dictionary without a key, which needn't be there
abbrev pub removed : List Object → Value → Value → Option (List Object)
removed objects (object id) k = replaced objects id (removed_in (slice_get objects id) k)
removed objects _ k = None

abbrev pub pushed_in : Option Object → Value → Option Object
pushed_in (Some (items vs)) v = Some (items (vs ++ v ∷ []))
pushed_in _ v = None

-- 15.4.4.7: an array with one element more
abbrev pub pushed : List Object → Value → Value → Option (List Object)
pushed objects (object id) v = replaced objects id (pushed_in (slice_get objects id) v)
pushed objects _ v = None

abbrev pub popped_in : List Object → ℕ → Option Object → Option (Value × List Object)
popped_in objects id (Some (items vs)) =
    option_map (λ v. (v, slice_set objects id (items (take (length vs - 1) vs)))) (slice_get vs (length vs - 1))
popped_in objects id _ = None

-- 15.4.4.6: the last element of an array that has one, and the objects without it
abbrev pub popped : List Object → Value → Option (Value × List Object)
popped objects (object id) = popped_in objects id (slice_get objects id)
popped objects _ = None

abbrev pub length_in : Option Object → Option Value
length_in (Some (items vs)) = in_range (pos (length vs))
length_in _ = None

-- 15.4.5.2, 15.5.5.1: the length of an array or a string
abbrev pub length_value : List Object → Value → Option Value
length_value objects (bytes s) = in_range (pos (length s))
length_value objects (object id) = length_in (slice_get objects id)
length_value objects _ = None

-- 15.5.4.5: the byte of a string at an index below its length
abbrev pub char_code : Value → Value → Option Value
char_code (bytes s) (whole (pos i)) = option_map (λ c. whole (pos c)) (slice_get s i)
char_code _ _ = None

-- 15.5.4.15: the part of a string between two indices in order
abbrev pub part_of : Value → Value → Value → Option Value
part_of (bytes s) (whole (pos i)) (whole (pos j)) =
    if nat_le i j && nat_le j (length s) then Some (bytes (take (j - i) (drop i s))) else None
part_of _ _ _ = None

-- 9.8.1, 15.5.1.1: the decimal text of a number
abbrev pub decimal_text : Value → Option Value
decimal_text (whole n) = Some (bytes (signed_decimal n))
decimal_text _ = None

-- 15.5.3.2: the string of one byte
abbrev pub one_byte : Value → Option Value
one_byte (whole (pos n)) = if nat_lt n 256 then Some (bytes (n ∷ [])) else None
one_byte _ = None

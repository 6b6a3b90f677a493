-- Lemmas on loops over a text.
use Rattle.std.proofs.Common.{arith, ◌≡◌, ◌∙◌, sym, ap, ℕ, suc, ◌+◌, ◌-◌, ◌*◌, ◌≤◌, ◌<◌, List, [], ◌∷◌, length, drop, get_or, Bool, true, false, refl, drop-cons}
use Rattle.std.specs.Prelude.{◌&&◌, ◌==◌}
use Rattle.std.proofs.lemmas.Bool.{lt-leb}
use Rattle.js_tree.specs.Lexical.{begins}
use Rattle.js_tree.specs.Printable.{is_in_range}
use Rattle.js_grammar.specs.Scan.{value_after}

and_off : (a b : Bool) → b ≡ false → (a && b) ≡ false
and_off true b q = q
and_off false b q = refl

pub begins_short : (p text : List ℕ) → length text < length p → begins p text ≡ false
begins_short [] text h = absurd (omega (arith, h))
begins_short (c ∷ cs) [] h = refl
begins_short (c ∷ cs) (x ∷ xs) h = and_off (c == x) (begins cs xs) (begins_short cs xs (omega (arith, h)))

value_least : (n : ℕ) (ds : List ℕ) → n ≤ value_after n ds
value_least n [] = omega arith
value_least n (c ∷ cs) = let h = value_least (10 * n + (c - 48)) cs in omega (arith, h)

pub too_large : (ds : List ℕ) (at n m total : ℕ) (a : Bool) → at < length ds → value_after n (drop at ds) ≡ total → m ≡ 10 * n + (get_or ds at 0 - 48) → 9007199254740992 < m → (a && is_in_range total) ≡ false
too_large ds at n m total a lt same is large =
    let split : drop at ds ≡ get_or ds at 0 ∷ drop (suc at) ds = drop-cons ds at 0 lt in
    let least = value_least (10 * n + (get_or ds at 0 - 48)) (drop (suc at) ds) in
    let all : value_after (10 * n + (get_or ds at 0 - 48)) (drop (suc at) ds) ≡ total = sym (ap (value_after n) split) ∙ same in
    and_off a (is_in_range total) (lt-leb total 9007199254740992 (omega (arith, least, all, is, large)))

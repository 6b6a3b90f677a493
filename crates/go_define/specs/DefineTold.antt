-- Own: what is told of the names on the left of `:=`, by whether each stood there before, and of the values by what
-- comes of each.
use Rattle.std.specs.Prelude.{ℕ, List, [], ◌∷◌, ◌++◌, Bool, true, false, ◌||◌, ◌&&◌, Option, Some, None, bytes_eq, if◌then◌else◌}
use Rattle.gj_base.specs.declared.place.Place.{Place}
use Rattle.go_syntax.specs.Tree as t
use Rattle.go_syntax.specs.View.{exprs_of}
use Rattle.go_typing.specs.Env.{is_blank}
use Rattle.go_typing.specs.Answer.{Flaw, flaw, is_known}
use Rattle.go_typing.specs.Typing.{place_of}
use Rattle.go_typing.specs.Walk.{Walk}
use Rattle.go_typing.specs.Assign.{no_name_flaws, names_flaws, first_place}
use Rattle.go_expr.specs.Raw.{Raw}
use Rattle.go_define.specs.FreshView.{Spot, plain_name, any_new_spot, spots_typed}

-- ---- one on the left

-- `_` may stand there more than once
abbrev pub twice_told : Place → List ℕ → Bool → List Flaw
twice_told at x stood = if is_blank x then [] else (if stood then record { place = at; code = 82; name = x } ∷ [] else [])

-- what is no name: what is told of it, and where it is typed that it is none
abbrev pub no_name_told : Raw → List Flaw
no_name_told r = r.flaws ++ (if is_known r.part.answer then flaw r.part.place 83 ∷ [] else [])

abbrev pub name_told_by : Walk → (List ℕ → Bool) → t.Expr → Option (List ℕ) → List Flaw
name_told_by w f e (Some x) = twice_told (place_of e) x (f x)
name_told_by w f e None = no_name_flaws w e

abbrev pub name_told : Walk → (List ℕ → Bool) → t.Expr → List Flaw
name_told w f e = name_told_by w f e (plain_name e)

-- those that stood there before, with one more
abbrev pub seen_with : (List ℕ → Bool) → Option (List ℕ) → List ℕ → Bool
seen_with f (Some x) y = bytes_eq y x || f y
seen_with f None y = f y

-- ---- values that are all typed, of which nothing is told

abbrev pub is_clean : List Flaw → Bool
is_clean [] = true
is_clean (f ∷ fs) = false

abbrev pub is_fine : Raw → Bool
is_fine r = is_known r.part.answer && is_clean r.flaws

abbrev pub all_fine : List Raw → Bool
all_fine [] = true
all_fine (r ∷ rs) = is_fine r && all_fine rs

-- ---- all of them

-- none is new, which is told where each of them is typed and the values are fine
abbrev pub new_told : Place → List t.Expr → List Spot → List Raw → List Flaw
new_told at xs ss rs = if any_new_spot ss then [] else (if spots_typed ss && all_fine rs then flaw (first_place (exprs_of xs) at) 83 ∷ [] else [])

-- all that is told of the names
abbrev pub names_told : Walk → Place → List t.Expr → List Spot → List Raw → List Flaw
names_told w at xs ss rs = names_flaws w [] (exprs_of xs) ++ new_told at xs ss rs

-- Go specification (as of Go 1.17), "Declarations and scope"; own: a name whose type or constant value can't be found without
-- itself (74). A form that is not built yet is faulty by itself and needs nothing.
use Rattle.std.specs.Prelude.{ℕ, zero, suc, length, List, [], ◌∷◌, ◌++◌, Bool, false, ◌||◌, if◌then◌else◌, Option, Some, None, bytes_eq}
use Rattle.go_syntax.specs.Tree as t
use Rattle.go_typing.specs.Env.{Bind, universe, is_blank}
use Rattle.go_typing.specs.Answer.{Flaw, flaw}
use Rattle.go_typing.specs.Typing.{Callee, a_built_in, callee_of, is_built_prefix}
use Rattle.go_typing.specs.Call.{is_built}
use Rattle.go_typing.specs.Signature.{Param, params_of, results_of}
use Rattle.go_typing.specs.Items.{Item, constant_item, type_item, alias_item, function_item, variable_item, init_item, name_of}

abbrev pub call_needs : Callee → List (List ℕ) → List (List ℕ) → List (List ℕ)
call_needs (a_built_in b) f xs = if is_built b then xs else []
call_needs c f xs = f ++ xs

-- the names without which an expression isn't typed, in these scopes
module _ (ss : List (List Bind)) where
  abbrev mutual
    pub needed : t.Expr → List (List ℕ)
    needed (t.NameExpr at x) = if is_blank x then [] else x ∷ []
    needed (t.ParenExpr at x) = needed x
    needed (t.UnaryExpr at op x) = if is_built_prefix op then needed x else []
    needed (t.BinaryExpr at x op y) = needed x ++ needed y
    needed (t.IndexExpr at x i) = needed x ++ needed i
    needed (t.SliceExpr at x low high most) = needed x ++ needed_bound low ++ needed_bound high ++ needed_bound most
    needed (t.CallExpr at f xs spread) = call_needs (callee_of ss f) (needed f) (needed_all xs)
    needed x = []

    pub needed_bound : t.MaybeExpr → List (List ℕ)
    needed_bound t.NoExpr = []
    needed_bound (t.AnExpr x) = needed x

    pub needed_all : t.Exprs → List (List ℕ)
    needed_all t.NoExprs = []
    needed_all (t.MoreExprs x xs) = needed x ++ needed_all xs

  -- a constant's name without a value of its own needs all values of its specification
  abbrev pub needed_value : Option t.Expr → t.Exprs → List (List ℕ)
  needed_value None all = needed_all all
  needed_value (Some y) all = needed y

  abbrev pub needed_params : List Param → List (List ℕ)
  needed_params [] = []
  needed_params (p ∷ ps) = (if p.variadic then [] else needed p.type_) ++ needed_params ps

  abbrev pub needs_of : Item → List (List ℕ)
  needs_of (constant_item n k u y all) = needed_bound u ++ needed_value y all
  needs_of (type_item n k e) = needed e
  needs_of (alias_item n e) = needed e
  needs_of (function_item n id s) = needed_params (params_of s) ++ needed_params (results_of s)
  needs_of (variable_item n) = []
  needs_of (init_item n) = []

-- ---- what is needed in the end

abbrev pub is_among : List ℕ → List (List ℕ) → Bool
is_among x [] = false
is_among x (y ∷ ys) = bytes_eq y x || is_among x ys

-- these names, and those others that are not among them
abbrev pub joined : List (List ℕ) → List (List ℕ) → List (List ℕ)
joined xs [] = xs
joined xs (y ∷ ys) = joined (if is_among y xs then xs else xs ++ y ∷ []) ys

module _ (ss : List (List Bind)) (all : List Item) where
  -- of a name that is declared: what its first declaration needs
  abbrev pub needs_named : List ℕ → List Item → List (List ℕ)
  needs_named x [] = []
  needs_named x (i ∷ is) = if bytes_eq (name_of i).text x then needs_of ss i else needs_named x is

  abbrev pub needs_all : List (List ℕ) → List (List ℕ)
  needs_all [] = []
  needs_all (x ∷ xs) = needs_named x all ++ needs_all xs

  -- so many steps on
  abbrev pub reached : ℕ → List (List ℕ) → List (List ℕ)
  reached zero xs = xs
  reached (suc n) xs = reached n (joined xs (needs_all xs))

  abbrev pub needs_itself : Item → Bool
  needs_itself i = is_among (name_of i).text (reached (length all) (needs_of ss i))

  -- each name is declared by the first of its declarations
  abbrev pub cycles_from : List (List ℕ) → List Item → List Flaw
  cycles_from seen [] = []
  cycles_from seen (i ∷ is) =
      (if is_blank (name_of i).text || is_among (name_of i).text seen then [] else (if needs_itself i then flaw (name_of i).place 74 ∷ [] else []))
      ++ cycles_from ((name_of i).text ∷ seen) is

abbrev pub cycle_flaws : List Bind → List Item → List Flaw
cycle_flaws binds is = cycles_from (universe None ∷ binds ∷ []) is [] is

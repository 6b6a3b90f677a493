-- Go specification (as of Go 1.17), "Constant declarations", "Type declarations", "Uniqueness of identifiers", "Program execution",
-- "Package initialization": what is told of the declarations of a package, bodies of functions aside.
use Rattle.std.specs.Prelude.{ℕ, suc, List, [], ◌∷◌, ◌++◌, Bool, true, false, if◌then◌else◌, Option, Some, None, bytes_eq, codes}
use Rattle.gj_base.specs.declared.place.Place.{Place}
use Rattle.go_syntax.specs.Tree as t
use Rattle.go_syntax.specs.declared.tree.Name.{Name}
use Rattle.go_type.specs.Tree.{Tys, no_tys}
use Rattle.go_typing.specs.Env.{Bind, is_blank, unknown}
use Rattle.go_typing.specs.Answer.{Flaw, flaw}
use Rattle.go_typing.specs.Scopes.{place_in}
use Rattle.go_typing.specs.Walk.{Walk, redeclared}
use Rattle.go_typing.specs.Expressions.{type_in}
use Rattle.go_typing.specs.Assign.{all_typed, all_in_flaws}
use Rattle.go_typing.specs.Declare.{SpecType, counting, spec_type, spec_type_flaws, constant_value, names_count, spec_place, count_told}
use Rattle.go_typing.specs.Signature.{SigTypes, sig_flaws, sig_types}
use Rattle.go_typing.specs.Items.{Item, init_item, name_of, is_init}
use Rattle.go_typing.specs.Known.{with_item}

-- ---- constants

abbrev pub each_told : Walk → SpecType → List Name → t.Exprs → List Flaw
each_told w s (n ∷ ns) (t.MoreExprs y ys) = (constant_value w s y).flaws ++ each_told w s ns ys
each_told w s _ _ = []

-- a wrong count is told at the specification, where its type and its values are typed (84)
abbrev pub spec_told : Place → Walk → List Name → t.MaybeExpr → t.Exprs → List Flaw
spec_told at w ns u ys =
    spec_type_flaws w u ++ (if names_count ns ys then each_told w (spec_type w u) ns ys else count_told (spec_type w u) (spec_place ns at) (all_typed w ys) (all_in_flaws w ys))

abbrev pub specs_told : Place → ℕ → Walk → t.MaybeExpr → t.Exprs → t.ValueSpecs → List Flaw
specs_told at k w u ys t.NoValues = []
specs_told at k w u ys (t.MoreValues ns v t.NoExprs vs) = spec_told at (counting k w) ns u ys ++ specs_told at (suc k) w u ys vs
specs_told at k w u ys (t.MoreValues ns v (t.MoreExprs z zs) vs) = spec_told at (counting k w) ns v (t.MoreExprs z zs) ++ specs_told at (suc k) w v (t.MoreExprs z zs) vs

-- ---- types

abbrev pub types_told : Walk → t.TypeSpecs → List Flaw
types_told w t.NoTypes = []
types_told w (t.MoreTypes n alias e ts) = (type_in w e).flaws ++ types_told w ts

-- ---- functions

abbrev pub is_main : Name → Bool
is_main n = bytes_eq n.text (codes "main")

abbrev pub takes_something : SigTypes → Bool
takes_something s = is_more s.params s.results where
  is_more : Tys → Tys → Bool
  is_more no_tys no_tys = false
  is_more _ _ = true

-- `main` has no parameters and no results (99)
abbrev pub main_told : Name → Option SigTypes → List Flaw
main_told n None = []
main_told n (Some s) = if is_main n then (if takes_something s then flaw n.place 99 ∷ [] else []) else []

-- a function `init` is not built yet
abbrev pub function_told : Place → Name → t.Sig → Walk → List Flaw
function_told at n s w = if is_init n then flaw at 0 ∷ [] else sig_flaws w s ++ main_told n (sig_types w s)

-- ---- one after the other; package variables and methods are not built yet

abbrev pub decls_told : Walk → List t.Decl → List Flaw
decls_told w [] = []
decls_told w (t.ConstDecl at vs ∷ ds) = specs_told at 0 w t.NoExpr t.NoExprs vs ++ decls_told w ds
decls_told w (t.TypeDecl at ts ∷ ds) = types_told w ts ++ decls_told w ds
decls_told w (t.VarDecl at vs ∷ ds) = flaw at 0 ∷ decls_told w ds
decls_told w (t.FuncDecl at n s b ∷ ds) = function_told at n s w ++ decls_told w ds
decls_told w (t.MethodDecl at p rs n s b ∷ ds) = flaw at 0 ∷ decls_told w ds

-- ---- names

-- a name is declared once in the package's scope (82), a function `init` aside; nothing else is named so (99)
abbrev pub init_told : Name → List Flaw
init_told n = if is_init n then flaw n.place 99 ∷ [] else []

abbrev pub names_told : List Bind → List Item → List Flaw
names_told seen [] = []
names_told seen (init_item n ∷ is) = names_told seen is
names_told seen (i ∷ is) = (if is_blank (name_of i).text then [] else redeclared (name_of i) (place_in (name_of i).text seen)) ++ init_told (name_of i) ++ names_told (with_item (name_of i) unknown seen) is

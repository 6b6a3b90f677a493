-- What a left side of the code stands for.
use Rattle.std.specs.Prelude.{ℕ, ◌<◌, List, [], ◌∷◌, ◌++◌, Option, Some, None, map, if◌then◌else◌}
use Rattle.std.specs.List.{AllByRecursion}
use Rattle.go_syntax.specs.Tree as t
use Rattle.go_type.specs.Tree.{Ty}
use Rattle.go_type.specs.Levels.{tree_of}
use Rattle.go_type.specs.Named.{NamedTy}
use Rattle.go_core.specs.CoreTree as core
use Rattle.go_typing.specs.Env.{Decl, variable, global}
use Rattle.go_typing.specs.Answer.{flaw, is_known}
use Rattle.go_operands.specs.AnswerView.{flaw_view}
use Rattle.go_typing.specs.Walk.{Walk}
use Rattle.go_typing.specs.Expressions.{Valued}
use Rattle.go_typing.specs.Assign.{Left, left_blank, left_place, left_wrong, left_of}
use Rattle.go_expr.specs.Raw.{Raw}
use Rattle.go_assign.specs.Settled.{at_type, alone}
use Rattle.go_assign.specs.declared.assign.left.Left as code
use Rattle.go_assign.specs.declared.assign.left.Left.TheVariants as left
use Rattle.go_assign.specs.declared.assign.left.Lefts.{Lefts}

abbrev pub left_view : List Ty → code.Left → Left
left_view ts left.Blank = left_blank
left_view ts (left.Local v t) = left_place (core.local_ v.0) (tree_of ts t)
left_view ts (left.Global n t) = left_place (core.global n) (tree_of ts t)
left_view ts (left.Wrong fs) = left_wrong (map flaw_view fs.items)

-- in order, where the last one is held first
abbrev pub lefts_after : List Ty → List code.Left → List Left → List Left
lefts_after ts [] after = after
lefts_after ts (l ∷ ls) after = lefts_after ts ls (left_view ts l ∷ after)

abbrev pub lefts_view : List Ty → Lefts → List Left
lefts_view ts ls = lefts_after ts ls.items.items []

-- its type is one of the first n
abbrev pub LeftBelow : ℕ → code.Left → Type 0
LeftBelow n (left.Local v t) = t.0 < n
LeftBelow n (left.Global v t) = t.0 < n
LeftBelow n _ = Unit {0}

abbrev pub LeftsBelow : ℕ → Lefts → Type 0
LeftsBelow n ls = AllByRecursion (LeftBelow n) ls.items.items

-- what a declared name is as a left side, if it is a variable
abbrev pub spot_of : Option Decl → Option Left
spot_of (Some (variable id u)) = Some (left_place (core.local_ id) u)
spot_of (Some (global number u)) = Some (left_place (core.global number) u)
spot_of _ = None

-- what is told of what can't be assigned: where it is typed, that (85)
abbrev pub refused_left : Raw → Left
refused_left r = left_wrong (r.flaws ++ (if is_known r.part.answer then flaw r.part.place 85 ∷ [] else []))

abbrev pub lefts_of : Walk → List t.Expr → List Left
lefts_of w xs = map (left_of w) xs

-- what a left side takes of a value that is typed
abbrev pub fitted : List NamedTy → Left → Raw → Valued
fitted ns left_blank r = alone ns r
fitted ns (left_place p u) r = at_type ns u r
fitted ns (left_wrong fs) r = record { answer = r.part.answer; flaws = fs ++ r.flaws }

-- ---- without parentheses

abbrev pub bare : t.Expr → t.Expr
bare (t.ParenExpr at e) = bare e
bare e = e

abbrev pub bare_name : t.Expr → Option (List ℕ)
bare_name (t.NameExpr at x) = Some x
bare_name (t.ParenExpr at e) = bare_name e
bare_name _ = None

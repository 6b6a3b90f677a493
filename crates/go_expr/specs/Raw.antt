-- Own: an expression as it is typed once, before it is known what its place wants: what it is, where it stands, and
-- all that is told of it.
use Rattle.std.specs.Prelude.{ℕ, ◌≡◌, ◌≤◌, List, [], ◌∷◌, map}
use Rattle.std.specs.List.{AllByRecursion}
use Rattle.go_syntax.specs.Tree as t
use Rattle.go_type.specs.Tree.{Ty}
use Rattle.go_type.specs.Named.{NamedTy}
use Rattle.go_type.specs.Table.{size, KeepsTrees}
use Rattle.go_type.specs.declared.table.TypeTable.{TypeTable}
use Rattle.go_typing.specs.Env.{Bind}
use Rattle.go_typing.specs.Answer.{Flaw, Part}
use Rattle.go_typing.specs.Typing.{place_of, typing, flaws}
use Rattle.go_operands.specs.declared.scopes.env.Env.{Env}
use Rattle.go_operands.specs.EnvView.{table_of, env_of}
use Rattle.go_operands.specs.AnswerView.{flaw_view}
use Rattle.go_operands.specs.Below.{AnswerBelow}
use Rattle.go_operands.specs.Parts.{part, part_view}
use Rattle.go_calls.specs.declared.callee.gives.Gives.{Gives}
use Rattle.go_calls.specs.ResultTypes.{AreRight}
use Rattle.go_expr.specs.Ready.{IsReady}
use Rattle.go_expr.specs.declared.typed.raw.Raw as code
use Rattle.go_expr.specs.declared.typed.raw.Raws.{Raws}

pub record Raw : Type 0 where
  pub part : Part
  pub flaws : List Flaw

abbrev pub raw_of : List NamedTy → List (List Bind) → t.Expr → Raw
raw_of ns ss e = record { part = part (place_of e) (typing ns ss e); flaws = flaws ns ss e }

abbrev pub raws_of : List NamedTy → List (List Bind) → List t.Expr → List Raw
raws_of ns ss es = map (raw_of ns ss) es

-- ---- in code

abbrev pub raw_view : List Ty → code.Raw → Raw
raw_view ts r = record { part = part_view ts r.part; flaws = map flaw_view r.flaws.items }

-- in order, where the last one is held first
abbrev pub raws_after : List Ty → List code.Raw → List Raw → List Raw
raws_after ts [] after = after
raws_after ts (r ∷ rs) after = raws_after ts rs (raw_view ts r ∷ after)

abbrev pub raws_view : List Ty → Raws → List Raw
raws_view ts rs = raws_after ts rs.items.items []

-- the types are among the first n
abbrev pub RawBelow : ℕ → code.Raw → Type 0
RawBelow n r = AnswerBelow n r.part.answer

abbrev pub RawsBelow : ℕ → Raws → Type 0
RawsBelow n rs = AllByRecursion (RawBelow n) rs.items.items

-- ---- what an environment keeps while expressions are typed: what is declared, and the tree of each id
pub record Grows (old new : Env) : Type 0 where
  pub env : env_of new ≡ env_of old
  pub kept : KeepsTrees (table_of old) (table_of new)
  pub counts : size (table_of old) ≤ size (table_of new)

-- each of several expressions may be typed, with the types of what its calls give
abbrev pub AllReady : List (List Bind) → TypeTable → List Gives → List t.Expr → Type 0
AllReady ss table [] [] = Unit {0}
AllReady ss table (g ∷ gs) (e ∷ es) = (AreRight ss table g × IsReady ss g e) × AllReady ss table gs es
AllReady ss table _ _ = ⊥

-- What comes of the bodies of functions, one after the other, in the scope w of their package (go_typing, `functions_from`).
use Rattle.std.specs.Prelude.{◌≡◌, ◌≤◌, List, ◌++◌, map}
use Rattle.go_type.specs.Tree.{Ty}
use Rattle.go_type.specs.Table.{size, KeepsTrees}
use Rattle.go_core.specs.CoreView.{func_view}
use Rattle.go_core.specs.declared.program.Func.{Func}
use Rattle.go_typing.specs.Scopes.{visible}
use Rattle.go_operands.specs.EnvView.{table_of, env_of}
use Rattle.go_operands.specs.AnswerView.{flaw_view}
use Rattle.go_operands.specs.declared.answers.answer.Flaw.{Flaw}
use Rattle.go_typing.specs.Walk.{Walk}
use Rattle.go_typing.specs.Functions.{after_body}
use Rattle.go_walk.specs.WalkView.{Keeps}
use Rattle.go_walk.specs.declared.walk.walk.Walk as code
use Rattle.go_decls.specs.Heads.{body_by, function_with, functions_by}
use Rattle.go_decls.specs.HeadView.{head_view, now_of}
use Rattle.go_decls.specs.declared.heads.head.Head.{Head}

-- one function, between two others
pub record FunctionDone (w : Walk) (old : code.Walk) (h : Head) (new : code.Walk) (before after : List Flaw) (f : Func) : Type 0 where
  pub told : (ts : List Ty) → Keeps (table_of new.env) ts → map flaw_view after ≡ map flaw_view before ++ (body_by w (now_of old) (head_view ts h)).flaws
  pub func : (ts : List Ty) → Keeps (table_of new.env) ts → func_view ts f ≡ function_with (head_view ts h) (body_by w (now_of old) (head_view ts h))
  pub next : (ts : List Ty) → Keeps (table_of new.env) ts → now_of new ≡ after_body (body_by w (now_of old) (head_view ts h))
  pub scopes : visible (env_of new.env) ≡ w.scopes
  -- types stay
  pub kept : KeepsTrees (table_of old.env) (table_of new.env)
  pub counts : size (table_of old.env) ≤ size (table_of new.env)

-- with the functions that are left, those that are done are all
pub record FunctionsLeft (w : Walk) (first : code.Walk) (rest all : List Head) (new : code.Walk) (before now : List Flaw) (done : List Func) : Type 0 where
  pub funcs : (ts : List Ty) → Keeps (table_of new.env) ts → map (func_view ts) done ++ (functions_by w (map (head_view ts) rest) (now_of new)).funcs ≡ (functions_by w (map (head_view ts) all) (now_of first)).funcs
  pub told : (ts : List Ty) → Keeps (table_of new.env) ts
      → map flaw_view now ++ (functions_by w (map (head_view ts) rest) (now_of new)).flaws ≡ map flaw_view before ++ (functions_by w (map (head_view ts) all) (now_of first)).flaws
  pub between : (ts : List Ty) → Keeps (table_of new.env) ts → (functions_by w (map (head_view ts) rest) (now_of new)).between ≡ (functions_by w (map (head_view ts) all) (now_of first)).between
  pub scopes : visible (env_of new.env) ≡ w.scopes
  pub kept : KeepsTrees (table_of first.env) (table_of new.env)
  pub counts : size (table_of first.env) ≤ size (table_of new.env)

-- An expression where a value of a type is wanted, or where none is: what comes of it, and its faults.
use Rattle.std.specs.Prelude.{◌≡◌, ◌⊎◌, ◌↔◌, List, [], ◌++◌, Option, Some, None, option_map}
use Rattle.gj_base.specs.declared.place.Place.{Place}
use Rattle.gj_base.specs.declared.fault.Fault.{Fault}
use Rattle.go_const.specs.declared.constant.Const.{Const}
use Rattle.go_syntax.specs.Tree.{Expr}
use Rattle.go_type.specs.Tree.{Ty}
use Rattle.go_type.specs.Named.{NamedTy}
use Rattle.go_core.specs.CoreTree as core
use Rattle.go_core.specs.CoreView.{exprs_view, expr_view}
use Rattle.go_typing.specs.Env.{Bind}
use Rattle.go_typing.specs.Answer.{Flaw, Answer, value, pending, type_, does, wrong, untyped_part, own}
use Rattle.go_typing.specs.Operand.{default_type, settled_at, pending_passed}
use Rattle.go_typing.specs.Wanted.{settled_answer, wanted}
use Rattle.go_typing.specs.Typing.{place_of, typing, flaws}
use Rattle.go_typing.specs.Faulty.{IsIn, HasFault}
use Rattle.go_type.specs.Levels.{tree_of}
use Rattle.go_expr.specs.declared.expr.typed.Print.{Print}
use Rattle.go_expr.specs.declared.expr.typed.Typed as code

module _ (ns : List NamedTy) where
  -- an untyped number whose type nothing decides has its default type
  abbrev pub decided : Place → Answer → Answer
  decided at (pending p b) = settled_answer (settled_at at (default_type b) (pending_passed ns (default_type b) p))
  -- its faults are the node's own
  decided at (wrong f fs) = untyped_part
  decided at a = a

  abbrev pub fitted : Place → Option Ty → Answer → Answer
  fitted at (Some t) a = wanted ns at t a
  fitted at None a = decided at a

  module _ (ss : List (List Bind)) where
    -- what an expression is where a value of a type is wanted, or none
    abbrev pub result_of : Option Ty → Expr → Answer
    result_of t e = fitted (place_of e) t (typing ns ss e)

    -- the faults of the nodes in it, and of the place that wants the value
    abbrev pub faults_of : Option Ty → Expr → List Flaw
    faults_of t e = flaws ns ss e ++ own (result_of t e)

    -- the same, said apart from any order: a node in it has this fault, or the place that wants the value
    abbrev pub HasFaultAt : Option Ty → Expr → Flaw → Type 0
    HasFaultAt t e f = HasFault ns ss e f ⊎ IsIn f (own (result_of t e))

-- the list has exactly those
abbrev pub ListsFaults : Type 0
ListsFaults = (ns : List NamedTy) (ss : List (List Bind)) (t : Option Ty) (e : Expr) (f : Flaw) → IsIn f (faults_of ns ss t e) ↔ HasFaultAt ns ss t e f

abbrev pub core_in : Answer → Option core.Expr
core_in (value c t v) = Some c
core_in _ = None

abbrev pub type_in : Answer → Option Ty
type_in (value c t v) = Some t
type_in (type_ t) = Some t
type_in _ = None

abbrev pub constant_in : Answer → Option Const
constant_in (value c t v) = v
constant_in _ = None

abbrev pub print_in : Answer → Option core.Stmt
print_in (does s) = Some s
print_in _ = None

abbrev pub print_view : List Ty → Print → core.Stmt
print_view ts p = core.print (exprs_view ts p.operands) p.ends_line

abbrev pub fault_view : Fault → Flaw
fault_view f = record { place = f.place; code = f.code; name = f.text }

-- what is typed shows an answer, with these faults
pub record Shows (ts : List Ty) (a : Answer) (fs : List Fault) (r : code.Typed) : Type 0 where
  pub core : option_map (expr_view ts) r.core ≡ core_in a
  pub ty : option_map (tree_of ts) r.ty ≡ type_in a
  pub value : r.value ≡ constant_in a
  pub prints : option_map (print_view ts) r.prints ≡ print_in a
  pub faults : r.faults.items.items ≡ fs
  pub literals : r.literals.items.items ≡ []

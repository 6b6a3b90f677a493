-- What the functions of the code stand for, before their bodies.
use Rattle.std.specs.Prelude.{◌≡◌, List, ◌++◌, Option, map, option_map, length, IfSome}
use Rattle.std.specs.List.{AllByRecursion}
use Rattle.gj_base.specs.declared.place.Place.{Place}
use Rattle.go_syntax.specs.Tree as t
use Rattle.go_syntax.specs.View.{block_view}
use Rattle.go_type.specs.Tree.{Ty}
use Rattle.go_type.specs.Table.{names, size}
use Rattle.go_type.specs.declared.table.TypeTable.{TypeTable}
use Rattle.go_operands.specs.declared.scopes.env.Env.{Env}
use Rattle.go_operands.specs.EnvView.{table_of}
use Rattle.go_typing.specs.Walk.{Walk}
use Rattle.go_typing.specs.Signature.{type_of_param}
use Rattle.go_typing.specs.Functions.{Between}
use Rattle.go_items.specs.ParamView.{grouped_view}
use Rattle.go_decls.specs.Bound.{type_view, TypesBelow}
use Rattle.go_decls.specs.SigView.{sig_found, SigFoundBelow}
use Rattle.go_expr.specs.Raw.{Grows}
use Rattle.go_walk.specs.WalkView.{walk_outside, Keeps}
use Rattle.go_walk.specs.declared.walk.walk.Walk as code
use Rattle.go_decls.specs.Heads as go
use Rattle.go_decls.specs.Heads.{heads_from}
use Rattle.go_decls.specs.declared.heads.head.Head.{Head}

abbrev pub head_view : List Ty → Head → go.Head
head_view ts h = record {
  place = h.place;
  name = h.name;
  params = map grouped_view h.params.items;
  sig = option_map (sig_found ts) h.sig;
  named_results = h.named_results;
  too_far = h.too_far;
  body = block_view h.body.now;
}

-- its types are in the table, and each parameter and result has the one that it has in w, the package's scope
pub record IsReady (table : TypeTable) (w : Walk) (h : Head) : Type 0 where
  pub count : length h.params.items ≡ length h.types.items
  pub types : TypesBelow (size table) h.types.items
  pub sig : IfSome h.sig (SigFoundBelow (size table))
  pub each : (ts : List Ty) → Keeps table ts → map (type_view ts) h.types.items ≡ map (type_of_param w) (map grouped_view h.params.items)

abbrev pub AreReady : TypeTable → Walk → List Head → Type 0
AreReady table w hs = AllByRecursion (IsReady table w) hs

-- with the functions of these declarations that are left, the list is what it was before with all
pub record HeadsLeft (far : Option Place) (a b : Env) (old new : List Head) (rest all : List t.Decl) : Type 0 where
  pub view : (ts : List Ty) → Keeps (table_of b) ts → map (head_view ts) new ++ heads_from far (walk_outside a) rest ≡ map (head_view ts) old ++ heads_from far (walk_outside a) all
  pub ready : AreReady (table_of a) (walk_outside a) old → AreReady (table_of b) (walk_outside a) new
  pub grows : Grows a b

-- between two functions: the named types so far, and the number of the next variable
abbrev pub now_of : code.Walk → Between
now_of v = record { names = names (table_of v.env); next = v.next }

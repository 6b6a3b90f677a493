-- Go specification (as of Go 1.17), "Declarations and scope", "Type definitions", "Alias declarations": what the names of a
-- package stand for. Declarations stand in any order, so this is the least that follows: in each round a declaration is
-- typed by what the round before knew.
use Rattle.std.specs.Prelude.{ℕ, zero, suc, ◌+◌, length, List, [], ◌∷◌, ◌++◌, false, if◌then◌else◌, Option, Some, None, option_map, codes}
use Rattle.gj_base.specs.declared.place.Place.{Place}
use Rattle.go_syntax.specs.Tree as t
use Rattle.go_syntax.specs.declared.tree.Name.{Name}
use Rattle.go_type.specs.Tree as ty
use Rattle.go_type.specs.Tree.{Ty, no_tys, more_tys}
use Rattle.go_type.specs.Named.{NamedTy, MethodTy}
use Rattle.go_type.specs.Predeclared.{predeclared_names}
use Rattle.go_type.specs.Underlying.{underlying}
use Rattle.go_typing.specs.Env.{Decl, type_name, function, unknown, Bind, universe, is_blank}
use Rattle.go_typing.specs.Scopes.{place_in, with_bind}
use Rattle.go_typing.specs.Walk.{Walk, bind_of}
use Rattle.go_typing.specs.Expressions.{type_in, type_of}
use Rattle.go_typing.specs.Declare.{counting, spec_type, constant_value, constant_decl}
use Rattle.go_typing.specs.Signature.{SigTypes, sig_types}
use Rattle.go_typing.specs.Items.{Item, constant_item, type_item, alias_item, function_item, variable_item, init_item, name_of}

-- what is known: what the names of the package's scope stand for, and the named types
pub record Known : Type 0 where
  pub binds : List Bind
  pub names : List NamedTy

-- ---- named types

-- own: the type of run-time panics, a string with two methods
abbrev pub runtime_methods : List MethodTy
runtime_methods =
    record { name = codes "Error"; pointer = false; params = no_tys; results = more_tys ty.str no_tys; variadic = false }
    ∷ record { name = codes "RuntimeError"; pointer = false; params = no_tys; results = no_tys; variadic = false } ∷ []

abbrev pub runtime_type : NamedTy
runtime_type = record { name = codes "runtimeError"; package_ = []; under = Some ty.str; methods = runtime_methods }

-- those before the package's
abbrev pub first_names : List NamedTy
first_names = predeclared_names ++ runtime_type ∷ []

-- the type of run-time panics
abbrev pub hidden : Ty
hidden = ty.named (length predeclared_names)

-- a named type of the package by its number
abbrev pub named_type : ℕ → Ty
named_type k = ty.named (length first_names + k)

-- ---- typing by what is known

abbrev pub outside : Known → Walk
outside k = record { names = k.names; scopes = universe None ∷ k.binds ∷ []; next = 0; next_label = 0; vars = []; declared = []; used = []; lost = 0 }

abbrev pub type_found : Known → t.Expr → Option Ty
type_found k e = type_of (type_in (outside k) e).answer

abbrev pub type_decl : Ty → Option Ty → Decl
type_decl self None = unknown
type_decl self (Some u) = type_name self

abbrev pub alias_decl : Option Ty → Decl
alias_decl None = unknown
alias_decl (Some u) = type_name u

abbrev pub constant_found : Walk → t.MaybeExpr → Option t.Expr → Decl
constant_found w u None = unknown
constant_found w u (Some y) = constant_decl (constant_value w (spec_type w u) y).answer

abbrev pub function_decl : ℕ → Option SigTypes → Decl
function_decl id None = unknown
function_decl id (Some s) = function id s.params s.results false

abbrev pub decl_of : Known → Item → Decl
decl_of k (constant_item n number u y all) = constant_found (counting number (outside k)) u y
decl_of k (type_item n number e) = type_decl (named_type number) (type_found k e)
decl_of k (alias_item n e) = alias_decl (type_found k e)
decl_of k (function_item n id s) = function_decl id (sig_types (outside k) s)
decl_of k (variable_item n) = unknown
decl_of k (init_item n) = unknown

-- ---- rounds

-- a name that the scope has already declares nothing, and `_` is declared nowhere
abbrev pub bound_at : Bind → Option Place → List Bind → List Bind
bound_at b None bs = with_bind b bs
bound_at b (Some at) bs = bs

abbrev pub with_item : Name → Decl → List Bind → List Bind
with_item n what bs = if is_blank n.text then bs else bound_at (bind_of n what) (place_in n.text bs) bs

abbrev pub binds_from : Known → List Item → List Bind → List Bind
binds_from k [] bs = bs
binds_from k (i ∷ is) bs = binds_from k is (with_item (name_of i) (decl_of k i) bs)

abbrev pub named_by : Known → List Item → List NamedTy
named_by k [] = []
named_by k (type_item n number e ∷ is) = record { name = n.text; package_ = []; under = option_map (underlying k.names) (type_found k e); methods = [] } ∷ named_by k is
named_by k (i ∷ is) = named_by k is

abbrev pub round : List Item → Known → Known
round is k = record { binds = binds_from k is []; names = first_names ++ named_by k is }

-- nothing is typed yet
abbrev pub unset : List Item → List NamedTy
unset [] = []
unset (type_item n number e ∷ is) = record { name = n.text; package_ = []; under = None; methods = [] } ∷ unset is
unset (i ∷ is) = unset is

abbrev pub names_alone : List Item → List Bind → List Bind
names_alone [] bs = bs
names_alone (i ∷ is) bs = names_alone is (with_item (name_of i) unknown bs)

abbrev pub nothing_known : List Item → Known
nothing_known is = record { binds = names_alone is []; names = first_names ++ unset is }

abbrev pub after_rounds : ℕ → List Item → Known
after_rounds zero is = nothing_known is
after_rounds (suc n) is = round is (after_rounds n is)

-- each round but the last types one more declaration, so that there are no more rounds than declarations
abbrev pub known : List Item → Known
known is = after_rounds (length is) is

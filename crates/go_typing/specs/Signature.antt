-- Go specification (as of Go 1.17), "Function types", "Function declarations": parameters and results.
use Rattle.std.specs.Prelude.{List, [], ◌∷◌, ◌++◌, Bool, true, false, not, ◌&&◌, ◌||◌, if◌then◌else◌, Option, Some, None}
use Rattle.gj_base.specs.declared.place.Place.{Place}
use Rattle.go_syntax.specs.Tree as t
use Rattle.go_syntax.specs.declared.tree.Name.{Name}
use Rattle.go_type.specs.Tree.{Ty, Tys, no_tys, more_tys}
use Rattle.go_typing.specs.Env.{variable, unknown}
use Rattle.go_typing.specs.Answer.{Flaw, flaw}
use Rattle.go_typing.specs.Typing.{place_of}
use Rattle.go_typing.specs.Walk.{Walk, is_there, redeclared, with_name, fresh}
use Rattle.go_typing.specs.Expressions.{type_in, type_of}

-- a parameter or a result: where it stands, its name if it has one, whether `...` is before its type, its type, and
-- whether the type is written with it
pub record Param : Type 0 where
  pub place : Place
  pub name : Option Name
  pub variadic : Bool
  pub type_ : t.Expr
  pub has_type : Bool

-- the type of the next one that has a name and a type
pub record Typed : Type 0 where
  pub variadic : Bool
  pub type_ : t.Expr

abbrev pub next_named : t.Params → Option Typed
next_named t.NoParams = None
next_named (t.MoreParams at (Some n) variadic u ps) = Some (record { variadic = variadic; type_ = u })
next_named (t.MoreParams at None variadic u ps) = next_named ps

-- a name alone is a name where one with a name and a type follows, and else a type
abbrev pub alone : Place → (variadic : Bool) → t.Expr → Option Typed → Param
alone at false (t.NameExpr p x) (Some u) = record { place = at; name = Some (record { place = p; text = x }); variadic = u.variadic; type_ = u.type_; has_type = false }
alone at variadic u _ = record { place = at; name = None; variadic = variadic; type_ = u; has_type = true }

abbrev pub grouped : t.Params → List Param
grouped t.NoParams = []
grouped (t.MoreParams at (Some n) variadic u ps) = record { place = at; name = Some n; variadic = variadic; type_ = u; has_type = true } ∷ grouped ps
grouped (t.MoreParams at None variadic u ps) = alone at variadic u (next_named ps) ∷ grouped ps

abbrev pub has_name : Param → Bool
has_name p = is_some p.name where
  is_some : Option Name → Bool
  is_some None = false
  is_some (Some n) = true

abbrev pub some_named : List Param → Bool
some_named [] = false
some_named (p ∷ ps) = has_name p || some_named ps

abbrev pub all_named : List Param → Bool
all_named [] = true
all_named (p ∷ ps) = has_name p && all_named ps

-- ---- types

-- `...` is not built yet
abbrev pub type_of_param : Walk → Param → Option Ty
type_of_param w p = if p.variadic then None else type_of (type_in w p.type_).answer

abbrev pub and_type : Option Ty → Option Tys → Option Tys
and_type (Some u) (Some us) = Some (more_tys u us)
and_type _ _ = None

abbrev pub types_of : Walk → List Param → Option Tys
types_of w [] = Some no_tys
types_of w (p ∷ ps) = and_type (type_of_param w p) (types_of w ps)

abbrev pub param_flaws : Walk → Param → List Flaw
param_flaws w p = if p.has_type then (if p.variadic then flaw p.place 0 ∷ [] else (type_in w p.type_).flaws) else []

abbrev pub params_flaws : Walk → List Param → List Flaw
params_flaws w [] = []
params_flaws w (p ∷ ps) = param_flaws w p ++ params_flaws w ps

-- either all have names or none has (53)
abbrev pub is_mixed : List Param → Bool
is_mixed ps = some_named ps && not (all_named ps)

abbrev pub mixed_flaws : Place → Option Tys → (is_mixed : Bool) → List Flaw
mixed_flaws at (Some us) true = flaw at 53 ∷ []
mixed_flaws at _ _ = []

abbrev pub list_flaws : Walk → Place → List Param → List Flaw
list_flaws w at ps = params_flaws w ps ++ mixed_flaws at (types_of w ps) (is_mixed ps)

-- ---- signatures

abbrev pub params_of : t.Sig → List Param
params_of (t.SigOf at ps rs) = grouped ps

-- one type without parentheses is a result without a name
abbrev pub results_in : t.Results → List Param
results_in t.NoResults = []
results_in (t.OneResult u) = alone (place_of u) false u None ∷ []
results_in (t.ManyResults at ps) = grouped ps

abbrev pub results_of : t.Sig → List Param
results_of (t.SigOf at ps rs) = results_in rs

abbrev pub params_place : t.Sig → Place
params_place (t.SigOf at ps rs) = at

abbrev pub results_place_in : Place → t.Results → Place
results_place_in at (t.ManyResults p ps) = p
results_place_in at rs = at

abbrev pub results_place : t.Sig → Place
results_place (t.SigOf at ps rs) = results_place_in at rs

-- names of parameters and results are declared once (82): what is known before each is known to w
abbrev pub name_flaws : Option Name → Walk → List Flaw
name_flaws None v = []
name_flaws (Some n) v = redeclared n (is_there n v)

-- a parameter or a result is a variable of the function, also without a name
abbrev pub bound_name : Name → Option Ty → Option Place → Walk → Walk
bound_name n None None v = with_name n unknown v
bound_name n (Some u) None v = with_name n (variable v.next u) (fresh u v)
bound_name n u (Some at) v = v

abbrev pub bound : Option Name → Option Ty → Walk → Walk
bound None None v = v
bound None (Some u) v = fresh u v
bound (Some n) u v = bound_name n u (is_there n v) v

-- types are found in w, outside the function; v grows
abbrev pub all_bound : Walk → List Param → Walk → Walk
all_bound w [] v = v
all_bound w (p ∷ ps) v = all_bound w ps (bound p.name (type_of_param w p) v)

abbrev pub names_flaws : Walk → List Param → Walk → List Flaw
names_flaws w [] v = []
names_flaws w (p ∷ ps) v = name_flaws p.name v ++ names_flaws w ps (bound p.name (type_of_param w p) v)

-- a function's own scope, where none of its names is declared yet
abbrev pub inside : Walk → Walk
inside w = record w { scopes = w.scopes ++ [] ∷ []; vars = []; next_label = 0; declared = []; used = []; lost = 0 }

-- what is told of a signature
abbrev pub sig_flaws : Walk → t.Sig → List Flaw
sig_flaws w s =
    list_flaws w (params_place s) (params_of s) ++ list_flaws w (results_place s) (results_of s) ++ names_flaws w (params_of s ++ results_of s) (inside w)

-- the types of the parameters and of the results, where nothing is told of the signature
pub record SigTypes : Type 0 where
  pub params : Tys
  pub results : Tys

abbrev pub both : Option Tys → Option Tys → Option SigTypes
both (Some ps) (Some rs) = Some (record { params = ps; results = rs })
both _ _ = None

abbrev pub where_untold : List Flaw → Option SigTypes → Option SigTypes
where_untold [] s = s
where_untold (f ∷ fs) s = None

abbrev pub sig_types : Walk → t.Sig → Option SigTypes
sig_types w s = where_untold (sig_flaws w s) (both (types_of w (params_of s)) (types_of w (results_of s)))

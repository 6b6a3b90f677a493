-- Go specification (as of Go 1.17), "Function declarations": the functions of a package, their bodies in the scope of the package.
use Rattle.std.specs.Prelude.{ℕ, List, [], ◌∷◌, ◌++◌, Bool, true, false, ◌&&◌, ◌||◌, if◌then◌else◌, Option, Some, None, codes}
use Rattle.gj_base.specs.declared.place.Place.{Place}
use Rattle.go_syntax.specs.Tree as t
use Rattle.go_syntax.specs.declared.tree.Name.{Name}
use Rattle.go_type.specs.Tree.{Tys, no_tys}
use Rattle.go_type.specs.Named.{NamedTy}
use Rattle.go_core.specs.CoreTree.{CoreFunc}
use Rattle.go_typing.specs.Env.{is_blank}
use Rattle.go_typing.specs.Answer.{Flaw}
use Rattle.go_typing.specs.Walk.{Walk, Around, Did, body, declared_place, same_place, any_among}
use Rattle.go_typing.specs.Statements.{function_body}
use Rattle.go_typing.specs.Signature.{SigTypes, params_of, results_of, some_named, all_bound, inside, sig_types}
use Rattle.go_typing.specs.Items.{is_init}
use Rattle.go_typing.specs.Told.{main_told}

-- own: what is known between two functions: the named types, those of bodies too, and the number of the next variable
pub record Between : Type 0 where
  pub names : List NamedTy
  pub next : ℕ

-- the functions in order, what is told of their bodies, and what is known after them
pub record Functions : Type 0 where
  pub funcs : List CoreFunc
  pub flaws : List Flaw
  pub between : Between

abbrev pub at_start : Walk → Between → Walk
at_start w k = record w { names = k.names; next = k.next }

abbrev pub results_typed : Option SigTypes → Option Tys
results_typed None = None
results_typed (Some s) = Some s.results

-- a name that is declared by this declaration of it; "Blank identifier": `_` is declared nowhere
abbrev pub is_own : Name → Walk → Bool
is_own n w = is_blank n.text || any_among (declared_place n.text w.scopes) (n.place ∷ [])

abbrev pub is_at : Option Place → Place → Bool
is_at None at = false
is_at (Some p) at = same_place p at

abbrev pub none_told : List Flaw → Bool
none_told [] = true
none_told (f ∷ fs) = false

-- own: where the function stands, if it is the first one too many and nothing is told of its name and its signature
abbrev pub too_far : Option Place → Walk → Place → Name → Option SigTypes → Option Place
too_far far w at n None = None
too_far far w at n (Some s) = if is_at far at && is_own n w && none_told (main_told n (Some s)) then Some at else None

abbrev pub around_body : Option Place → Walk → Place → Name → t.Sig → Around
around_body far w at n s = record {
  results = results_typed (sig_types w s);
  named_results = some_named (results_of s);
  targets = [];
  label = None;
  wrong_labels = [];
  too_far = too_far far w at n (sig_types w s);
}

-- parameters and results are declared in the function's scope, where its body stands
abbrev pub body_of : Walk → Between → t.Sig → t.Block → Around → Did
body_of w k s b a = function_body b a (all_bound w (params_of s ++ results_of s) (inside (at_start w k)))

abbrev pub after_body : Did → Between
after_body d = record { names = d.walk.names; next = d.walk.next }

abbrev pub params_typed : Option SigTypes → Tys
params_typed None = no_tys
params_typed (Some s) = s.params

abbrev pub results_or_none : Option Tys → Tys
results_or_none None = no_tys
results_or_none (Some rs) = rs

abbrev pub core_function : Place → Name → Option SigTypes → Did → CoreFunc
core_function at n s d = record {
  name = codes "main." ++ n.text;
  params = params_typed s;
  results = results_or_none (results_typed s);
  variadic = false;
  vars = d.walk.vars;
  captured = [];
  body = body d.core;
  place = at;
}

abbrev pub and_function : CoreFunc → List Flaw → Functions → Functions
and_function f fs r = record { funcs = f ∷ r.funcs; flaws = fs ++ r.flaws; between = r.between }

-- one function, and those after it by what is known then
abbrev pub function_then : Place → Name → Option SigTypes → Did → (Between → Functions) → Functions
function_then at n s d others = and_function (core_function at n s d) d.flaws (others (after_body d))

-- w: the package's scope; far: where the first function stands that is one too many
abbrev pub functions_from : Option Place → Walk → List t.Decl → Between → Functions
functions_from far w [] k = record { funcs = []; flaws = []; between = k }
functions_from far w (t.FuncDecl at n s b ∷ ds) k =
    if is_init n then functions_from far w ds k
    else function_then at n (sig_types w s) (body_of w k s b (around_body far w at n s)) (functions_from far w ds)
functions_from far w (d ∷ ds) k = functions_from far w ds k

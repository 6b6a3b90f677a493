-- Go specification (as of Go 1.17), "Function declarations": the functions of a package by what is known of each before its body
-- is gone through (go_typing, `functions_from`).
use Rattle.std.specs.Prelude.{ℕ, List, [], ◌∷◌, ◌++◌, Bool, false, if◌then◌else◌, Option, None, codes}
use Rattle.gj_base.specs.declared.place.Place.{Place}
use Rattle.go_syntax.specs.Tree as t
use Rattle.go_syntax.specs.declared.tree.Name.{Name}
use Rattle.go_core.specs.CoreTree.{CoreFunc}
use Rattle.go_typing.specs.Walk.{Walk, Around, Did, body}
use Rattle.go_typing.specs.Statements.{function_body}
use Rattle.go_typing.specs.Signature.{Param, SigTypes, params_of, results_of, some_named, all_bound, inside, sig_types}
use Rattle.go_typing.specs.Items.{is_init}
use Rattle.go_typing.specs.Functions.{Between, Functions, at_start, results_typed, after_body, params_typed, results_or_none, and_function, too_far}

-- a function before its body: where it stands, the name that is told of it, its parameters and then its results, its types where
-- nothing is told of its signature, whether its results have names, where it stands if it is one too many (own), and the body
pub record Head : Type 0 where
  pub place : Place
  pub name : List ℕ
  pub params : List Param
  pub sig : Option SigTypes
  pub named_results : Bool
  pub too_far : Option Place
  pub body : t.Block

abbrev pub head_of : Option Place → Walk → Place → Name → t.Sig → t.Block → Head
head_of far w at n s b = record {
  place = at;
  name = codes "main." ++ n.text;
  params = params_of s ++ results_of s;
  sig = sig_types w s;
  named_results = some_named (results_of s);
  too_far = too_far far w at n (sig_types w s);
  body = b;
}

-- w: the package's scope; far: where the first function stands that is one too many
abbrev pub heads_from : Option Place → Walk → List t.Decl → List Head
heads_from far w [] = []
heads_from far w (t.FuncDecl at n s b ∷ ds) = if is_init n then heads_from far w ds else head_of far w at n s b ∷ heads_from far w ds
heads_from far w (d ∷ ds) = heads_from far w ds

-- ---- with their bodies

abbrev pub around_head : Head → Around
around_head h = record { results = results_typed h.sig; named_results = h.named_results; targets = []; label = None; wrong_labels = []; too_far = h.too_far }

-- what comes of a body, from the walk in which its parameters and results are declared
abbrev pub body_in : Head → Walk → Did
body_in h v = function_body h.body (around_head h) v

abbrev pub body_by : Walk → Between → Head → Did
body_by w k h = body_in h (all_bound w h.params (inside (at_start w k)))

abbrev pub function_with : Head → Did → CoreFunc
function_with h d = record {
  name = h.name;
  params = params_typed h.sig;
  results = results_or_none (results_typed h.sig);
  variadic = false;
  vars = d.walk.vars;
  captured = [];
  body = body d.core;
  place = h.place;
}

abbrev pub functions_by : Walk → List Head → Between → Functions
functions_by w [] k = record { funcs = []; flaws = []; between = k }
functions_by w (h ∷ hs) k = and_function (function_with h (body_by w k h)) (body_by w k h).flaws (functions_by w hs (after_body (body_by w k h)))

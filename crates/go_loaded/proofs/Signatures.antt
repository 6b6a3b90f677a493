-- Signatures that the grammar derives.
use Rattle.std.proofs.Common.{Bool, List, Option}
use Rattle.gj_base.specs.declared.place.Place.{Place}
use Rattle.go_syntax.specs.Tree as t
use Rattle.go_syntax.specs.Token.{Token}
use Rattle.go_syntax.specs.declared.tree.Name.{Name}
use Rattle.go_grammar.specs.Grammar.{IsSig, without_results, with_result, with_results, AreParams, params_in_parens, AreParamsInside, no_params, last_param, more_params, IsParam, param_type, named_param}
use Rattle.go_sound.specs.SoundTyped.{HasOperators}
use Rattle.go_sound.specs.Grammar.{ParamsOfGrammar, SigOfGrammar}
use Rattle.go_loaded.proofs.Operators.{type_operators}

param_operators : {ts : List Token} {x : Option Name} {variadic : Bool} {e : t.Expr} → IsParam ts x variadic e → HasOperators e
param_operators (param_type s d) = type_operators d
param_operators (named_param x s d) = type_operators d

inside_derived : {ts : List Token} {ps : t.Params} → AreParamsInside ts ps → ParamsOfGrammar ps
inside_derived no_params = tt
inside_derived (last_param d) = (param_operators d, tt)
inside_derived (more_params d x ds) = (param_operators d, inside_derived ds)

pub params_derived : {ts : List Token} {at : Place} {ps : t.Params} → AreParams ts at ps → ParamsOfGrammar ps
params_derived (params_in_parens x d y) = inside_derived d

pub sig_derived : {ts : List Token} {s : t.Sig} → IsSig ts s → SigOfGrammar s
sig_derived (without_results d) = (params_derived d, tt)
sig_derived (with_result d apart r) = (params_derived d, type_operators r)
sig_derived (with_results d r) = (params_derived d, params_derived r)

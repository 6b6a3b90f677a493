-- Declarations of constants, variables and types that the grammar derives: a variable specification has a type or values.
use Rattle.std.proofs.Common.{Bool, List}
use Rattle.go_syntax.specs.Tree as t
use Rattle.go_syntax.specs.Token.{Token}
use Rattle.go_grammar.specs.Grammar.{AreExprs, one_expr, more_exprs, IsDecl, const_decl, const_group, type_decl, type_group, var_decl, var_group, IsConst, repeated_const, untyped_const, typed_const, IsVar, unset_var, untyped_var, typed_var, IsTypeSpec, type_spec, AreConsts, no_consts, last_const, more_consts, AreVars, no_vars, last_var, more_vars, AreTypeSpecs, no_type_specs, last_type_spec, more_type_specs}
use Rattle.go_sound.specs.Grammar.{ValuesOfGrammar, IsTypedOrValued, VarsOfGrammar, TypesOfGrammar, DeclOfGrammar}
use Rattle.go_loaded.proofs.Operators.{type_operators, all_operators}

-- ---- constants

const_derived : {ts : List Token} {vs : t.ValueSpecs} → IsConst ts vs → ValuesOfGrammar vs
const_derived (repeated_const n) = (tt, tt, tt)
const_derived (untyped_const n x ys) = (tt, all_operators ys, tt)
const_derived (typed_const n u x ys) = (type_operators u, all_operators ys, tt)

consts_derived : {ts : List Token} {vs : t.ValueSpecs} → AreConsts ts vs → ValuesOfGrammar vs
consts_derived no_consts = tt
consts_derived (last_const d) = const_derived d
consts_derived (more_consts d x ds) = let o = const_derived d in (o.0, o.1, consts_derived ds)

-- ---- variables

has_type : (e : t.Expr) (ys : t.Exprs) → IsTypedOrValued (t.AnExpr e) ys
has_type e t.NoExprs = tt
has_type e (t.MoreExprs y ys) = tt

has_values : {h : Bool} {ts : List Token} {ys : t.Exprs} → AreExprs h ts ys → IsTypedOrValued t.NoExpr ys
has_values (one_expr d) = tt
has_values (more_exprs d x ds) = tt

var_derived : {ts : List Token} {vs : t.ValueSpecs} → IsVar ts vs → VarsOfGrammar vs
var_derived (unset_var {e} n u) = (has_type e t.NoExprs, type_operators u, tt, tt)
var_derived (untyped_var n x ys) = (has_values ys, tt, all_operators ys, tt)
var_derived (typed_var {e} {es} n u x ys) = (has_type e es, type_operators u, all_operators ys, tt)

vars_derived : {ts : List Token} {vs : t.ValueSpecs} → AreVars ts vs → VarsOfGrammar vs
vars_derived no_vars = tt
vars_derived (last_var d) = var_derived d
vars_derived (more_vars d x ds) = let o = var_derived d in (o.0, o.1, o.2, vars_derived ds)

-- ---- types

type_derived : {ts : List Token} {us : t.TypeSpecs} → IsTypeSpec ts us → TypesOfGrammar us
type_derived (type_spec x s u) = (type_operators u, tt)

types_derived : {ts : List Token} {us : t.TypeSpecs} → AreTypeSpecs ts us → TypesOfGrammar us
types_derived no_type_specs = tt
types_derived (last_type_spec d) = type_derived d
types_derived (more_type_specs d x ds) = let o = type_derived d in (o.0, types_derived ds)

-- ---- the whole

pub decl_derived : {ts : List Token} {d : t.Decl} → IsDecl ts d → DeclOfGrammar d
decl_derived (const_decl x d) = const_derived d
decl_derived (const_group x y d z) = consts_derived d
decl_derived (type_decl x d) = type_derived d
decl_derived (type_group x y d z) = types_derived d
decl_derived (var_decl x d) = var_derived d
decl_derived (var_group x y d z) = vars_derived d

-- Rows by hand: small packages, and the least that is told of each, if anything is. Each source stands after `package main` and an
-- empty line. Go specification (as of Go 1.17), "Declarations and scope".
use Rattle.std.specs.Prelude.{◌≡◌, [], ◌∷◌, true, false, Some, None, codes}
use Rattle.gj_base.specs.declared.kind.Op.TheVariants as operator
use Rattle.go_syntax.specs.Tree as t
use Rattle.go_typing.specs.TypingRowWords.{at, name, num, str, two, call, exprs, fault, named_fault}
use Rattle.go_typing.specs.StatementsRowWords.{block, id, spec}
use Rattle.go_typing.specs.PackagesRowWords.{type_alone, with_type, params, bodies_told}
use Rattle.go_typing.specs.Checked.{function_at, fault_of}

pub record RowsTold : Type 0 where
  -- order and scope
  -- `func main() { }`
  pub empty_main : fault_of ((t.FuncDecl (at 14) (id (codes "main") 19) (t.SigOf (at 23) (params ([])) t.NoResults) (block 26 ([]) 28)) ∷ []) ≡ None
  -- `func main() { f() }; func f() { }`
  pub function_before_its_declaration : fault_of ((t.FuncDecl (at 14) (id (codes "main") 19) (t.SigOf (at 23) (params ([])) t.NoResults) (block 26 ((t.ExprStmt (at 28) (exprs ((call (name (codes "f") 28) ([])) ∷ []))) ∷ []) 32)) ∷ (t.FuncDecl (at 34) (id (codes "f") 39) (t.SigOf (at 40) (params ([])) t.NoResults) (block 43 ([]) 45)) ∷ []) ≡ None
  -- `func main() { println(a) }; const a = b + 1; const b = 4`
  pub constant_before_its_declaration : fault_of ((t.FuncDecl (at 14) (id (codes "main") 19) (t.SigOf (at 23) (params ([])) t.NoResults) (block 26 ((t.ExprStmt (at 28) (exprs ((call (name (codes "println") 28) ((name (codes "a") 36) ∷ [])) ∷ []))) ∷ []) 39)) ∷ (t.ConstDecl (at 41) (spec ((id (codes "a") 47) ∷ []) t.NoExpr ((two (name (codes "b") 51) operator.Add (num (codes "1") 55)) ∷ []) t.NoValues)) ∷ (t.ConstDecl (at 57) (spec ((id (codes "b") 63) ∷ []) t.NoExpr ((num (codes "4") 67) ∷ []) t.NoValues)) ∷ []) ≡ None
  -- `type T U; type U int; func main() { var x T = 4; println(x) }`
  pub type_before_its_declaration : fault_of ((t.TypeDecl (at 14) (t.MoreTypes (id (codes "T") 19) false (name (codes "U") 21) t.NoTypes)) ∷ (t.TypeDecl (at 23) (t.MoreTypes (id (codes "U") 28) false (name (codes "int") 30) t.NoTypes)) ∷ (t.FuncDecl (at 34) (id (codes "main") 39) (t.SigOf (at 43) (params ([])) t.NoResults) (block 46 ((t.DeclStmt (at 48) (t.VarDecl (at 48) (spec ((id (codes "x") 52) ∷ []) (t.AnExpr (name (codes "T") 54)) ((num (codes "4") 58) ∷ []) t.NoValues))) ∷ (t.ExprStmt (at 61) (exprs ((call (name (codes "println") 61) ((name (codes "x") 69) ∷ [])) ∷ []))) ∷ []) 72)) ∷ []) ≡ None
  -- `const a T = 4; type T int; func main() { var x T = a; println(x) }`
  pub constant_of_a_later_type : fault_of ((t.ConstDecl (at 14) (spec ((id (codes "a") 20) ∷ []) (t.AnExpr (name (codes "T") 22)) ((num (codes "4") 26) ∷ []) t.NoValues)) ∷ (t.TypeDecl (at 28) (t.MoreTypes (id (codes "T") 33) false (name (codes "int") 35) t.NoTypes)) ∷ (t.FuncDecl (at 39) (id (codes "main") 44) (t.SigOf (at 48) (params ([])) t.NoResults) (block 51 ((t.DeclStmt (at 53) (t.VarDecl (at 53) (spec ((id (codes "x") 57) ∷ []) (t.AnExpr (name (codes "T") 59)) ((name (codes "a") 63) ∷ []) t.NoValues))) ∷ (t.ExprStmt (at 66) (exprs ((call (name (codes "println") 66) ((name (codes "x") 74) ∷ [])) ∷ []))) ∷ []) 77)) ∷ []) ≡ None
  -- `const len = 4; func main() { println(len) }`
  pub a_name_of_the_universe_is_hidden : fault_of ((t.ConstDecl (at 14) (spec ((id (codes "len") 20) ∷ []) t.NoExpr ((num (codes "4") 26) ∷ []) t.NoValues)) ∷ (t.FuncDecl (at 28) (id (codes "main") 33) (t.SigOf (at 37) (params ([])) t.NoResults) (block 40 ((t.ExprStmt (at 42) (exprs ((call (name (codes "println") 42) ((name (codes "len") 50) ∷ [])) ∷ []))) ∷ []) 55)) ∷ []) ≡ None
  -- `func f(x U) { println(x) }; func main() { }`
  pub unknown_type : fault_of ((t.FuncDecl (at 14) (id (codes "f") 19) (t.SigOf (at 20) (params (with_type (id (codes "x") 21) false (name (codes "U") 23) ∷ [])) t.NoResults) (block 26 ((t.ExprStmt (at 28) (exprs ((call (name (codes "println") 28) ((name (codes "x") 36) ∷ [])) ∷ []))) ∷ []) 39)) ∷ (t.FuncDecl (at 41) (id (codes "main") 46) (t.SigOf (at 50) (params ([])) t.NoResults) (block 53 ([]) 55)) ∷ []) ≡ Some (named_fault 23 50 (codes "U"))
  -- `func main() { println(init) }`
  pub init_is_no_name : fault_of ((t.FuncDecl (at 14) (id (codes "main") 19) (t.SigOf (at 23) (params ([])) t.NoResults) (block 26 ((t.ExprStmt (at 28) (exprs ((call (name (codes "println") 28) ((name (codes "init") 36) ∷ [])) ∷ []))) ∷ []) 42)) ∷ []) ≡ Some (named_fault 36 50 (codes "init"))
  -- names (82, 99)
  -- `const a = 4; func a() { }; func main() { }`
  pub constant_and_function : fault_of ((t.ConstDecl (at 14) (spec ((id (codes "a") 20) ∷ []) t.NoExpr ((num (codes "4") 24) ∷ []) t.NoValues)) ∷ (t.FuncDecl (at 26) (id (codes "a") 31) (t.SigOf (at 32) (params ([])) t.NoResults) (block 35 ([]) 37)) ∷ (t.FuncDecl (at 39) (id (codes "main") 44) (t.SigOf (at 48) (params ([])) t.NoResults) (block 51 ([]) 53)) ∷ []) ≡ Some (named_fault 31 82 (codes "a"))
  -- `func main() { }; func main() { }`
  pub second_main : fault_of ((t.FuncDecl (at 14) (id (codes "main") 19) (t.SigOf (at 23) (params ([])) t.NoResults) (block 26 ([]) 28)) ∷ (t.FuncDecl (at 30) (id (codes "main") 35) (t.SigOf (at 39) (params ([])) t.NoResults) (block 42 ([]) 44)) ∷ []) ≡ Some (named_fault 35 82 (codes "main"))
  -- `const _ = 4; const _ = 6; func _() { }; func main() { }`
  pub blank_names : fault_of ((t.ConstDecl (at 14) (spec ((id (codes "_") 20) ∷ []) t.NoExpr ((num (codes "4") 24) ∷ []) t.NoValues)) ∷ (t.ConstDecl (at 26) (spec ((id (codes "_") 32) ∷ []) t.NoExpr ((num (codes "6") 36) ∷ []) t.NoValues)) ∷ (t.FuncDecl (at 38) (id (codes "_") 43) (t.SigOf (at 44) (params ([])) t.NoResults) (block 47 ([]) 49)) ∷ (t.FuncDecl (at 51) (id (codes "main") 56) (t.SigOf (at 60) (params ([])) t.NoResults) (block 63 ([]) 65)) ∷ []) ≡ None
  -- `func main(x int) { }`
  pub main_with_a_parameter : fault_of ((t.FuncDecl (at 14) (id (codes "main") 19) (t.SigOf (at 23) (params (with_type (id (codes "x") 24) false (name (codes "int") 26) ∷ [])) t.NoResults) (block 31 ([]) 33)) ∷ []) ≡ Some (fault 19 99)
  -- `func main() int { return 4 }`
  pub main_with_a_result : fault_of ((t.FuncDecl (at 14) (id (codes "main") 19) (t.SigOf (at 23) (params ([])) (t.OneResult (name (codes "int") 26))) (block 30 ((t.ReturnStmt (at 32) (exprs ((num (codes "4") 39) ∷ []))) ∷ []) 41)) ∷ []) ≡ Some (fault 19 99)
  -- `func main(x U) { }`
  pub main_of_a_faulty_signature : fault_of ((t.FuncDecl (at 14) (id (codes "main") 19) (t.SigOf (at 23) (params (with_type (id (codes "x") 24) false (name (codes "U") 26) ∷ [])) t.NoResults) (block 29 ([]) 31)) ∷ []) ≡ Some (named_fault 26 50 (codes "U"))
  -- `const init = 4; func main() { }`
  pub constant_named_init : fault_of ((t.ConstDecl (at 14) (spec ((id (codes "init") 20) ∷ []) t.NoExpr ((num (codes "4") 27) ∷ []) t.NoValues)) ∷ (t.FuncDecl (at 29) (id (codes "main") 34) (t.SigOf (at 38) (params ([])) t.NoResults) (block 41 ([]) 43)) ∷ []) ≡ Some (fault 20 99)
  -- a name that needs itself (74)
  -- `const a = b; const b = a; func main() { }`
  pub constants_in_a_circle : fault_of ((t.ConstDecl (at 14) (spec ((id (codes "a") 20) ∷ []) t.NoExpr ((name (codes "b") 24) ∷ []) t.NoValues)) ∷ (t.ConstDecl (at 26) (spec ((id (codes "b") 32) ∷ []) t.NoExpr ((name (codes "a") 36) ∷ []) t.NoValues)) ∷ (t.FuncDecl (at 38) (id (codes "main") 43) (t.SigOf (at 47) (params ([])) t.NoResults) (block 50 ([]) 52)) ∷ []) ≡ Some (fault 20 74)
  -- `const a = a + b; func main() { }`
  pub constant_of_itself_and_more : fault_of ((t.ConstDecl (at 14) (spec ((id (codes "a") 20) ∷ []) t.NoExpr ((two (name (codes "a") 24) operator.Add (name (codes "b") 28)) ∷ []) t.NoValues)) ∷ (t.FuncDecl (at 30) (id (codes "main") 35) (t.SigOf (at 39) (params ([])) t.NoResults) (block 42 ([]) 44)) ∷ []) ≡ Some (fault 20 74)
  -- `const c = a; const a = a; func main() { }`
  pub constant_that_leads_to_a_circle : fault_of ((t.ConstDecl (at 14) (spec ((id (codes "c") 20) ∷ []) t.NoExpr ((name (codes "a") 24) ∷ []) t.NoValues)) ∷ (t.ConstDecl (at 26) (spec ((id (codes "a") 32) ∷ []) t.NoExpr ((name (codes "a") 36) ∷ []) t.NoValues)) ∷ (t.FuncDecl (at 38) (id (codes "main") 43) (t.SigOf (at 47) (params ([])) t.NoResults) (block 50 ([]) 52)) ∷ []) ≡ Some (fault 32 74)
  -- `type T T; func main() { }`
  pub type_of_itself : fault_of ((t.TypeDecl (at 14) (t.MoreTypes (id (codes "T") 19) false (name (codes "T") 21) t.NoTypes)) ∷ (t.FuncDecl (at 23) (id (codes "main") 28) (t.SigOf (at 32) (params ([])) t.NoResults) (block 35 ([]) 37)) ∷ []) ≡ Some (fault 19 74)
  -- `type A = B; type B = A; func main() { }`
  pub types_in_a_circle : fault_of ((t.TypeDecl (at 14) (t.MoreTypes (id (codes "A") 19) true (name (codes "B") 23) t.NoTypes)) ∷ (t.TypeDecl (at 25) (t.MoreTypes (id (codes "B") 30) true (name (codes "A") 34) t.NoTypes)) ∷ (t.FuncDecl (at 36) (id (codes "main") 41) (t.SigOf (at 45) (params ([])) t.NoResults) (block 48 ([]) 50)) ∷ []) ≡ Some (fault 19 74)
  -- `type int int; func main() { }`
  pub hidden_name_of_itself : fault_of ((t.TypeDecl (at 14) (t.MoreTypes (id (codes "int") 19) false (name (codes "int") 23) t.NoTypes)) ∷ (t.FuncDecl (at 27) (id (codes "main") 32) (t.SigOf (at 36) (params ([])) t.NoResults) (block 39 ([]) 41)) ∷ []) ≡ Some (fault 19 74)
  -- `func f(x f) { }; func main() { }`
  pub function_of_its_own_name : fault_of ((t.FuncDecl (at 14) (id (codes "f") 19) (t.SigOf (at 20) (params (with_type (id (codes "x") 21) false (name (codes "f") 23) ∷ [])) t.NoResults) (block 26 ([]) 28)) ∷ (t.FuncDecl (at 30) (id (codes "main") 35) (t.SigOf (at 39) (params ([])) t.NoResults) (block 42 ([]) 44)) ∷ []) ≡ Some (fault 19 74)
  -- `func f() int { return f() }; func main() { println(f()) }`
  pub body_of_its_own_function : fault_of ((t.FuncDecl (at 14) (id (codes "f") 19) (t.SigOf (at 20) (params ([])) (t.OneResult (name (codes "int") 23))) (block 27 ((t.ReturnStmt (at 29) (exprs ((call (name (codes "f") 36) ([])) ∷ []))) ∷ []) 40)) ∷ (t.FuncDecl (at 42) (id (codes "main") 47) (t.SigOf (at 51) (params ([])) t.NoResults) (block 54 ((t.ExprStmt (at 56) (exprs ((call (name (codes "println") 56) ((call (name (codes "f") 64) ([])) ∷ [])) ∷ []))) ∷ []) 69)) ∷ []) ≡ None
  -- `const a = len(a); func main() { }`
  pub length_of_itself : fault_of ((t.ConstDecl (at 14) (spec ((id (codes "a") 20) ∷ []) t.NoExpr ((call (name (codes "len") 24) ((name (codes "a") 28) ∷ [])) ∷ []) t.NoValues)) ∷ (t.FuncDecl (at 31) (id (codes "main") 36) (t.SigOf (at 40) (params ([])) t.NoResults) (block 43 ([]) 45)) ∷ []) ≡ Some (fault 20 74)
  -- `const a, b = b; func f() int { return b }; func main() { f() }`
  pub list_that_needs_a_name_of_its_own : fault_of ((t.ConstDecl (at 14) (spec ((id (codes "a") 20) ∷ (id (codes "b") 23) ∷ []) t.NoExpr ((name (codes "b") 27) ∷ []) t.NoValues)) ∷ (t.FuncDecl (at 30) (id (codes "f") 35) (t.SigOf (at 36) (params ([])) (t.OneResult (name (codes "int") 39))) (block 43 ((t.ReturnStmt (at 45) (exprs ((name (codes "b") 52) ∷ []))) ∷ []) 54)) ∷ (t.FuncDecl (at 57) (id (codes "main") 62) (t.SigOf (at 66) (params ([])) t.NoResults) (block 69 ((t.ExprStmt (at 71) (exprs ((call (name (codes "f") 71) ([])) ∷ []))) ∷ []) 75)) ∷ []) ≡ Some (fault 23 74)
  -- `const a = 4, a; func main() { }`
  pub list_longer_than_the_names : fault_of ((t.ConstDecl (at 14) (spec ((id (codes "a") 20) ∷ []) t.NoExpr ((num (codes "4") 24) ∷ (name (codes "a") 27) ∷ []) t.NoValues)) ∷ (t.FuncDecl (at 30) (id (codes "main") 35) (t.SigOf (at 39) (params ([])) t.NoResults) (block 42 ([]) 44)) ∷ []) ≡ Some (fault 20 74)
  -- `const a, b = c; const c = a; func main() { }`
  pub list_that_leads_to_a_circle : fault_of ((t.ConstDecl (at 14) (spec ((id (codes "a") 20) ∷ (id (codes "b") 23) ∷ []) t.NoExpr ((name (codes "c") 27) ∷ []) t.NoValues)) ∷ (t.ConstDecl (at 30) (spec ((id (codes "c") 36) ∷ []) t.NoExpr ((name (codes "a") 40) ∷ []) t.NoValues)) ∷ (t.FuncDecl (at 43) (id (codes "main") 48) (t.SigOf (at 52) (params ([])) t.NoResults) (block 55 ([]) 57)) ∷ []) ≡ Some (fault 20 74)
  -- `const ( a = c; b, c ); func main() { }`: the list stands again for b and c
  pub repeated_list_of_its_own_name : fault_of ((t.ConstDecl (at 14) (spec ((id (codes "a") 22) ∷ []) t.NoExpr ((name (codes "c") 26) ∷ []) (spec ((id (codes "b") 29) ∷ (id (codes "c") 32) ∷ []) t.NoExpr ([]) t.NoValues))) ∷ (t.FuncDecl (at 37) (id (codes "main") 42) (t.SigOf (at 46) (params ([])) t.NoResults) (block 49 ([]) 51)) ∷ []) ≡ Some (fault 32 74)
  -- `const a, b = 4, a; func main() { println(b) }`: a needs its own value alone
  pub value_of_a_name_before : fault_of ((t.ConstDecl (at 14) (spec ((id (codes "a") 20) ∷ (id (codes "b") 23) ∷ []) t.NoExpr ((num (codes "4") 27) ∷ (name (codes "a") 30) ∷ []) t.NoValues)) ∷ (t.FuncDecl (at 33) (id (codes "main") 38) (t.SigOf (at 42) (params ([])) t.NoResults) (block 45 ((t.ExprStmt (at 47) (exprs ((call (name (codes "println") 47) ((name (codes "b") 55) ∷ [])) ∷ []))) ∷ []) 58)) ∷ []) ≡ None
  -- `const a, b, c = 4, a; func main() { }`
  pub short_list_of_its_own_name : fault_of ((t.ConstDecl (at 14) (spec ((id (codes "a") 20) ∷ (id (codes "b") 23) ∷ (id (codes "c") 26) ∷ []) t.NoExpr ((num (codes "4") 30) ∷ (name (codes "a") 33) ∷ []) t.NoValues)) ∷ (t.FuncDecl (at 36) (id (codes "main") 41) (t.SigOf (at 45) (params ([])) t.NoResults) (block 48 ([]) 50)) ∷ []) ≡ Some (fault 20 74)
  -- `const a = _; const _ = a; func main() { }`: nothing is declared by `_`
  pub nothing_needs_the_blank_name : fault_of ((t.ConstDecl (at 14) (spec ((id (codes "a") 20) ∷ []) t.NoExpr ((name (codes "_") 24) ∷ []) t.NoValues)) ∷ (t.ConstDecl (at 27) (spec ((id (codes "_") 33) ∷ []) t.NoExpr ((name (codes "a") 37) ∷ []) t.NoValues)) ∷ (t.FuncDecl (at 40) (id (codes "main") 45) (t.SigOf (at 49) (params ([])) t.NoResults) (block 52 ([]) 54)) ∷ []) ≡ Some (fault 24 52)
  -- `type T _; type _ T; func main() { }`
  pub no_type_needs_the_blank_name : fault_of ((t.TypeDecl (at 14) (t.MoreTypes (id (codes "T") 19) false (name (codes "_") 21) t.NoTypes)) ∷ (t.TypeDecl (at 24) (t.MoreTypes (id (codes "_") 29) false (name (codes "T") 31) t.NoTypes)) ∷ (t.FuncDecl (at 34) (id (codes "main") 39) (t.SigOf (at 43) (params ([])) t.NoResults) (block 46 ([]) 48)) ∷ []) ≡ Some (fault 21 51)
  -- constants
  -- `type T uint8; const c T = 300; func main() { }`
  pub constant_past_its_type : fault_of ((t.TypeDecl (at 14) (t.MoreTypes (id (codes "T") 19) false (name (codes "uint8") 21) t.NoTypes)) ∷ (t.ConstDecl (at 27) (spec ((id (codes "c") 33) ∷ []) (t.AnExpr (name (codes "T") 35)) ((num (codes "300") 39) ∷ []) t.NoValues)) ∷ (t.FuncDecl (at 43) (id (codes "main") 48) (t.SigOf (at 52) (params ([])) t.NoResults) (block 55 ([]) 57)) ∷ []) ≡ Some (fault 39 32)
  -- `const a, b = 4; func main() { }`
  pub constant_without_a_value : fault_of ((t.ConstDecl (at 14) (spec ((id (codes "a") 20) ∷ (id (codes "b") 23) ∷ []) t.NoExpr ((num (codes "4") 27) ∷ []) t.NoValues)) ∷ (t.FuncDecl (at 29) (id (codes "main") 34) (t.SigOf (at 38) (params ([])) t.NoResults) (block 41 ([]) 43)) ∷ []) ≡ Some (fault 20 84)
  -- `const ( a = iota; b; c ); func main() { var x uint8 = c; println(x) }`
  pub counted_constants : fault_of ((t.ConstDecl (at 14) (spec ((id (codes "a") 22) ∷ []) t.NoExpr ((name (codes "iota") 26) ∷ []) (spec ((id (codes "b") 32) ∷ []) t.NoExpr ([]) (spec ((id (codes "c") 35) ∷ []) t.NoExpr ([]) t.NoValues)))) ∷ (t.FuncDecl (at 39) (id (codes "main") 44) (t.SigOf (at 48) (params ([])) t.NoResults) (block 51 ((t.DeclStmt (at 53) (t.VarDecl (at 53) (spec ((id (codes "x") 57) ∷ []) (t.AnExpr (name (codes "uint8") 59)) ((name (codes "c") 67) ∷ []) t.NoValues))) ∷ (t.ExprStmt (at 70) (exprs ((call (name (codes "println") 70) ((name (codes "x") 78) ∷ [])) ∷ []))) ∷ []) 81)) ∷ []) ≡ None
  -- `const x, y z = 4; func main() { }`
  pub counts_beside_an_undefined_type : fault_of ((t.ConstDecl (at 14) (spec ((id (codes "x") 20) ∷ (id (codes "y") 23) ∷ []) (t.AnExpr (name (codes "z") 25)) ((num (codes "4") 29) ∷ []) t.NoValues)) ∷ (t.FuncDecl (at 32) (id (codes "main") 37) (t.SigOf (at 41) (params ([])) t.NoResults) (block 44 ([]) 46)) ∷ []) ≡ Some (named_fault 25 50 (codes "z"))
  -- `const ( a uint8 = 255 + iota; b ); func main() { }`
  pub repeated_list_past_its_type : fault_of ((t.ConstDecl (at 14) (spec ((id (codes "a") 22) ∷ []) (t.AnExpr (name (codes "uint8") 24)) ((two (num (codes "255") 32) operator.Add (name (codes "iota") 38)) ∷ []) (spec ((id (codes "b") 44) ∷ []) t.NoExpr ([]) t.NoValues))) ∷ (t.FuncDecl (at 48) (id (codes "main") 53) (t.SigOf (at 57) (params ([])) t.NoResults) (block 60 ([]) 62)) ∷ []) ≡ Some (fault 32 32)
  -- `const a = f(); func f() int { return a }; func main() { }`
  pub call_for_a_constant : fault_of ((t.ConstDecl (at 14) (spec ((id (codes "a") 20) ∷ []) t.NoExpr ((call (name (codes "f") 24) ([])) ∷ []) t.NoValues)) ∷ (t.FuncDecl (at 28) (id (codes "f") 33) (t.SigOf (at 34) (params ([])) (t.OneResult (name (codes "int") 37))) (block 41 ((t.ReturnStmt (at 43) (exprs ((name (codes "a") 50) ∷ []))) ∷ []) 52)) ∷ (t.FuncDecl (at 54) (id (codes "main") 59) (t.SigOf (at 63) (params ([])) t.NoResults) (block 66 ([]) 68)) ∷ []) ≡ Some (fault 24 61)
  -- signatures (53, 82)
  -- `func f(a, b int) int { return a + b }; func main() { println(f(4, 6)) }`
  pub parameters_of_one_type : fault_of ((t.FuncDecl (at 14) (id (codes "f") 19) (t.SigOf (at 20) (params (type_alone 21 false (name (codes "a") 21) ∷ with_type (id (codes "b") 24) false (name (codes "int") 26) ∷ [])) (t.OneResult (name (codes "int") 31))) (block 35 ((t.ReturnStmt (at 37) (exprs ((two (name (codes "a") 44) operator.Add (name (codes "b") 48)) ∷ []))) ∷ []) 50)) ∷ (t.FuncDecl (at 52) (id (codes "main") 57) (t.SigOf (at 61) (params ([])) t.NoResults) (block 64 ((t.ExprStmt (at 66) (exprs ((call (name (codes "println") 66) ((call (name (codes "f") 74) ((num (codes "4") 76) ∷ (num (codes "6") 79) ∷ [])) ∷ [])) ∷ []))) ∷ []) 83)) ∷ []) ≡ None
  -- `func f(int, string) { }; func main() { f(4, "a") }`
  pub parameters_without_names : fault_of ((t.FuncDecl (at 14) (id (codes "f") 19) (t.SigOf (at 20) (params (type_alone 21 false (name (codes "int") 21) ∷ type_alone 26 false (name (codes "string") 26) ∷ [])) t.NoResults) (block 34 ([]) 36)) ∷ (t.FuncDecl (at 38) (id (codes "main") 43) (t.SigOf (at 47) (params ([])) t.NoResults) (block 50 ((t.ExprStmt (at 52) (exprs ((call (name (codes "f") 52) ((num (codes "4") 54) ∷ (str (codes "a") 57) ∷ [])) ∷ []))) ∷ []) 62)) ∷ []) ≡ None
  -- `func f(a int, string) { }; func main() { }`
  pub mixed_parameters : fault_of ((t.FuncDecl (at 14) (id (codes "f") 19) (t.SigOf (at 20) (params (with_type (id (codes "a") 21) false (name (codes "int") 23) ∷ type_alone 28 false (name (codes "string") 28) ∷ [])) t.NoResults) (block 36 ([]) 38)) ∷ (t.FuncDecl (at 40) (id (codes "main") 45) (t.SigOf (at 49) (params ([])) t.NoResults) (block 52 ([]) 54)) ∷ []) ≡ Some (fault 20 53)
  -- `func f(a int, a string) { }; func main() { }`
  pub repeated_parameter : fault_of ((t.FuncDecl (at 14) (id (codes "f") 19) (t.SigOf (at 20) (params (with_type (id (codes "a") 21) false (name (codes "int") 23) ∷ with_type (id (codes "a") 28) false (name (codes "string") 30) ∷ [])) t.NoResults) (block 38 ([]) 40)) ∷ (t.FuncDecl (at 42) (id (codes "main") 47) (t.SigOf (at 51) (params ([])) t.NoResults) (block 54 ([]) 56)) ∷ []) ≡ Some (named_fault 28 82 (codes "a"))
  -- `func f(a int) (a int) { return }; func main() { }`
  pub result_named_as_a_parameter : fault_of ((t.FuncDecl (at 14) (id (codes "f") 19) (t.SigOf (at 20) (params (with_type (id (codes "a") 21) false (name (codes "int") 23) ∷ [])) (t.ManyResults (at 28) (params (with_type (id (codes "a") 29) false (name (codes "int") 31) ∷ [])))) (block 36 ((t.ReturnStmt (at 38) (exprs ([]))) ∷ []) 45)) ∷ (t.FuncDecl (at 47) (id (codes "main") 52) (t.SigOf (at 56) (params ([])) t.NoResults) (block 59 ([]) 61)) ∷ []) ≡ Some (named_fault 29 82 (codes "a"))
  -- `func f(a int) { a := 4; println(a) }; func main() { }`
  pub parameters_in_the_body : fault_of ((t.FuncDecl (at 14) (id (codes "f") 19) (t.SigOf (at 20) (params (with_type (id (codes "a") 21) false (name (codes "int") 23) ∷ [])) t.NoResults) (block 28 ((t.DefineStmt (at 30) (exprs ((name (codes "a") 30) ∷ [])) (exprs ((num (codes "4") 35) ∷ []))) ∷ (t.ExprStmt (at 38) (exprs ((call (name (codes "println") 38) ((name (codes "a") 46) ∷ [])) ∷ []))) ∷ []) 49)) ∷ (t.FuncDecl (at 51) (id (codes "main") 56) (t.SigOf (at 60) (params ([])) t.NoResults) (block 63 ([]) 65)) ∷ []) ≡ Some (fault 30 83)
  -- `func f() (x int) { return }; func main() { println(f()) }`
  pub named_result : fault_of ((t.FuncDecl (at 14) (id (codes "f") 19) (t.SigOf (at 20) (params ([])) (t.ManyResults (at 23) (params (with_type (id (codes "x") 24) false (name (codes "int") 26) ∷ [])))) (block 31 ((t.ReturnStmt (at 33) (exprs ([]))) ∷ []) 40)) ∷ (t.FuncDecl (at 42) (id (codes "main") 47) (t.SigOf (at 51) (params ([])) t.NoResults) (block 54 ((t.ExprStmt (at 56) (exprs ((call (name (codes "println") 56) ((call (name (codes "f") 64) ([])) ∷ [])) ∷ []))) ∷ []) 69)) ∷ []) ≡ None
  -- `func f() T { return 4 }; type T T; func main() { }`
  pub result_of_a_faulty_type : fault_of ((t.FuncDecl (at 14) (id (codes "f") 19) (t.SigOf (at 20) (params ([])) (t.OneResult (name (codes "T") 23))) (block 25 ((t.ReturnStmt (at 27) (exprs ((num (codes "4") 34) ∷ []))) ∷ []) 36)) ∷ (t.TypeDecl (at 38) (t.MoreTypes (id (codes "T") 43) false (name (codes "T") 45) t.NoTypes)) ∷ (t.FuncDecl (at 47) (id (codes "main") 52) (t.SigOf (at 56) (params ([])) t.NoResults) (block 59 ([]) 61)) ∷ []) ≡ Some (fault 43 74)
  -- `func main() { f(4, 6) }; func f(x T) { }; type T T`
  pub argument_of_a_faulty_function : fault_of ((t.FuncDecl (at 14) (id (codes "main") 19) (t.SigOf (at 23) (params ([])) t.NoResults) (block 26 ((t.ExprStmt (at 28) (exprs ((call (name (codes "f") 28) ((num (codes "4") 30) ∷ (num (codes "6") 33) ∷ [])) ∷ []))) ∷ []) 36)) ∷ (t.FuncDecl (at 38) (id (codes "f") 43) (t.SigOf (at 44) (params (with_type (id (codes "x") 45) false (name (codes "T") 47) ∷ [])) t.NoResults) (block 50 ([]) 52)) ∷ (t.TypeDecl (at 54) (t.MoreTypes (id (codes "T") 59) false (name (codes "T") 61) t.NoTypes)) ∷ []) ≡ Some (fault 59 74)
  -- bodies
  -- `func f() int { }; func main() { f() }`
  pub missing_return : fault_of ((t.FuncDecl (at 14) (id (codes "f") 19) (t.SigOf (at 20) (params ([])) (t.OneResult (name (codes "int") 23))) (block 27 ([]) 29)) ∷ (t.FuncDecl (at 31) (id (codes "main") 36) (t.SigOf (at 40) (params ([])) t.NoResults) (block 43 ((t.ExprStmt (at 45) (exprs ((call (name (codes "f") 45) ([])) ∷ []))) ∷ []) 49)) ∷ []) ≡ Some (fault 29 87)
  -- `func f() int { x := c; println(x) }; const c int8 = 300; func main() { }`
  pub missing_return_where_a_constant_is_faulty : fault_of ((t.FuncDecl (at 14) (id (codes "f") 19) (t.SigOf (at 20) (params ([])) (t.OneResult (name (codes "int") 23))) (block 27 ((t.DefineStmt (at 29) (exprs ((name (codes "x") 29) ∷ [])) (exprs ((name (codes "c") 34) ∷ []))) ∷ (t.ExprStmt (at 37) (exprs ((call (name (codes "println") 37) ((name (codes "x") 45) ∷ [])) ∷ []))) ∷ []) 48)) ∷ (t.ConstDecl (at 50) (spec ((id (codes "c") 56) ∷ []) (t.AnExpr (name (codes "int8") 58)) ((num (codes "300") 65) ∷ []) t.NoValues)) ∷ (t.FuncDecl (at 69) (id (codes "main") 74) (t.SigOf (at 78) (params ([])) t.NoResults) (block 81 ([]) 83)) ∷ []) ≡ Some (fault 65 32)
  -- `func f() int { x := c; println(x) }; const c int8 = 100; func main() { }`
  pub missing_return_where_a_constant_is_not : fault_of ((t.FuncDecl (at 14) (id (codes "f") 19) (t.SigOf (at 20) (params ([])) (t.OneResult (name (codes "int") 23))) (block 27 ((t.DefineStmt (at 29) (exprs ((name (codes "x") 29) ∷ [])) (exprs ((name (codes "c") 34) ∷ []))) ∷ (t.ExprStmt (at 37) (exprs ((call (name (codes "println") 37) ((name (codes "x") 45) ∷ [])) ∷ []))) ∷ []) 48)) ∷ (t.ConstDecl (at 50) (spec ((id (codes "c") 56) ∷ []) (t.AnExpr (name (codes "int8") 58)) ((num (codes "100") 65) ∷ []) t.NoValues)) ∷ (t.FuncDecl (at 69) (id (codes "main") 74) (t.SigOf (at 78) (params ([])) t.NoResults) (block 81 ([]) 83)) ∷ []) ≡ Some (fault 48 87)
  -- `func f() int { c = 4 }; const c int8 = 300; func main() { }`
  pub missing_return_where_a_faulty_constant_is_assigned : fault_of ((t.FuncDecl (at 14) (id (codes "f") 19) (t.SigOf (at 20) (params ([])) (t.OneResult (name (codes "int") 23))) (block 27 ((t.AssignStmt (at 29) (exprs ((name (codes "c") 29) ∷ [])) None (exprs ((num (codes "4") 33) ∷ []))) ∷ []) 35)) ∷ (t.ConstDecl (at 37) (spec ((id (codes "c") 43) ∷ []) (t.AnExpr (name (codes "int8") 45)) ((num (codes "300") 52) ∷ []) t.NoValues)) ∷ (t.FuncDecl (at 56) (id (codes "main") 61) (t.SigOf (at 65) (params ([])) t.NoResults) (block 68 ([]) 70)) ∷ []) ≡ Some (fault 52 32)
  -- `func main() { x := 4 }; func f() int { }`
  pub least_of_two_bodies : fault_of ((t.FuncDecl (at 14) (id (codes "main") 19) (t.SigOf (at 23) (params ([])) t.NoResults) (block 26 ((t.DefineStmt (at 28) (exprs ((name (codes "x") 28) ∷ [])) (exprs ((num (codes "4") 33) ∷ []))) ∷ []) 35)) ∷ (t.FuncDecl (at 37) (id (codes "f") 42) (t.SigOf (at 43) (params ([])) (t.OneResult (name (codes "int") 46))) (block 50 ([]) 52)) ∷ []) ≡ Some (named_fault 28 80 (codes "x"))
  -- `type T int; func f(x T) T { return x + 1 }; func main() { println(f(4)) }`
  pub named_type_in_functions : fault_of ((t.TypeDecl (at 14) (t.MoreTypes (id (codes "T") 19) false (name (codes "int") 21) t.NoTypes)) ∷ (t.FuncDecl (at 25) (id (codes "f") 30) (t.SigOf (at 31) (params (with_type (id (codes "x") 32) false (name (codes "T") 34) ∷ [])) (t.OneResult (name (codes "T") 37))) (block 39 ((t.ReturnStmt (at 41) (exprs ((two (name (codes "x") 48) operator.Add (num (codes "1") 52)) ∷ []))) ∷ []) 54)) ∷ (t.FuncDecl (at 56) (id (codes "main") 61) (t.SigOf (at 65) (params ([])) t.NoResults) (block 68 ((t.ExprStmt (at 70) (exprs ((call (name (codes "println") 70) ((call (name (codes "f") 78) ((num (codes "4") 80) ∷ [])) ∷ [])) ∷ []))) ∷ []) 84)) ∷ []) ≡ None
  -- `type T int; func f(x T) { println(x) }; func main() { var y int = 4; f(y) }`
  pub other_named_type : fault_of ((t.TypeDecl (at 14) (t.MoreTypes (id (codes "T") 19) false (name (codes "int") 21) t.NoTypes)) ∷ (t.FuncDecl (at 25) (id (codes "f") 30) (t.SigOf (at 31) (params (with_type (id (codes "x") 32) false (name (codes "T") 34) ∷ [])) t.NoResults) (block 37 ((t.ExprStmt (at 39) (exprs ((call (name (codes "println") 39) ((name (codes "x") 47) ∷ [])) ∷ []))) ∷ []) 50)) ∷ (t.FuncDecl (at 52) (id (codes "main") 57) (t.SigOf (at 61) (params ([])) t.NoResults) (block 64 ((t.DeclStmt (at 66) (t.VarDecl (at 66) (spec ((id (codes "y") 70) ∷ []) (t.AnExpr (name (codes "int") 72)) ((num (codes "4") 78) ∷ []) t.NoValues))) ∷ (t.ExprStmt (at 81) (exprs ((call (name (codes "f") 81) ((name (codes "y") 83) ∷ [])) ∷ []))) ∷ []) 86)) ∷ []) ≡ Some (fault 83 61)
  -- one function too many (79): what is told of bodies, the first function being the one too many
  -- `func f() { }; func main() { }`
  pub function_too_many : bodies_told 14 ((t.FuncDecl (at 14) (id (codes "f") 19) (t.SigOf (at 20) (params ([])) t.NoResults) (block 23 ([]) 25)) ∷ (t.FuncDecl (at 27) (id (codes "main") 32) (t.SigOf (at 36) (params ([])) t.NoResults) (block 39 ([]) 41)) ∷ []) ≡ fault 14 79 ∷ []
  -- the same, `main` being the one too many
  pub later_function_too_many : bodies_told 27 ((t.FuncDecl (at 14) (id (codes "f") 19) (t.SigOf (at 20) (params ([])) t.NoResults) (block 23 ([]) 25)) ∷ (t.FuncDecl (at 27) (id (codes "main") 32) (t.SigOf (at 36) (params ([])) t.NoResults) (block 39 ([]) 41)) ∷ []) ≡ fault 27 79 ∷ []
  -- `func _() { }; func main() { }`
  pub blank_function_too_many : bodies_told 14 ((t.FuncDecl (at 14) (id (codes "_") 19) (t.SigOf (at 20) (params ([])) t.NoResults) (block 23 ([]) 25)) ∷ (t.FuncDecl (at 27) (id (codes "main") 32) (t.SigOf (at 36) (params ([])) t.NoResults) (block 39 ([]) 41)) ∷ []) ≡ fault 14 79 ∷ []
  -- `func f() int { }; func main() { }`
  pub function_too_many_without_a_return : bodies_told 14 ((t.FuncDecl (at 14) (id (codes "f") 19) (t.SigOf (at 20) (params ([])) (t.OneResult (name (codes "int") 23))) (block 27 ([]) 29)) ∷ (t.FuncDecl (at 31) (id (codes "main") 36) (t.SigOf (at 40) (params ([])) t.NoResults) (block 43 ([]) 45)) ∷ []) ≡ fault 29 87 ∷ []
  -- `func f() { x := 4 }; func main() { }`
  pub function_too_many_with_an_unused_name : bodies_told 14 ((t.FuncDecl (at 14) (id (codes "f") 19) (t.SigOf (at 20) (params ([])) t.NoResults) (block 23 ((t.DefineStmt (at 25) (exprs ((name (codes "x") 25) ∷ [])) (exprs ((num (codes "4") 30) ∷ []))) ∷ []) 32)) ∷ (t.FuncDecl (at 34) (id (codes "main") 39) (t.SigOf (at 43) (params ([])) t.NoResults) (block 46 ([]) 48)) ∷ []) ≡ named_fault 25 80 (codes "x") ∷ []
  -- `func f() { println(c) }; const c int8 = 300; func main() { }`
  pub function_too_many_of_a_faulty_constant : bodies_told 14 ((t.FuncDecl (at 14) (id (codes "f") 19) (t.SigOf (at 20) (params ([])) t.NoResults) (block 23 ((t.ExprStmt (at 25) (exprs ((call (name (codes "println") 25) ((name (codes "c") 33) ∷ [])) ∷ []))) ∷ []) 36)) ∷ (t.ConstDecl (at 38) (spec ((id (codes "c") 44) ∷ []) (t.AnExpr (name (codes "int8") 46)) ((num (codes "300") 53) ∷ []) t.NoValues)) ∷ (t.FuncDecl (at 57) (id (codes "main") 62) (t.SigOf (at 66) (params ([])) t.NoResults) (block 69 ([]) 71)) ∷ []) ≡ []
  -- `func main() { }; func main() { }`, the second being the one too many
  pub second_main_too_many : bodies_told 30 ((t.FuncDecl (at 14) (id (codes "main") 19) (t.SigOf (at 23) (params ([])) t.NoResults) (block 26 ([]) 28)) ∷ (t.FuncDecl (at 30) (id (codes "main") 35) (t.SigOf (at 39) (params ([])) t.NoResults) (block 42 ([]) 44)) ∷ []) ≡ []
  -- `func main(x int) { }`
  pub main_with_a_parameter_too_many : bodies_told 14 ((t.FuncDecl (at 14) (id (codes "main") 19) (t.SigOf (at 23) (params (with_type (id (codes "x") 24) false (name (codes "int") 26) ∷ [])) t.NoResults) (block 31 ([]) 33)) ∷ []) ≡ []
  -- which function has a number: `func f() { }; const a = 4; func main() { }`
  pub numbered_function : function_at 1 ((t.FuncDecl (at 14) (id (codes "f") 19) (t.SigOf (at 20) (params ([])) t.NoResults) (block 23 ([]) 25)) ∷ (t.ConstDecl (at 27) (spec ((id (codes "a") 33) ∷ []) t.NoExpr ((num (codes "4") 37) ∷ []) t.NoValues)) ∷ (t.FuncDecl (at 39) (id (codes "main") 44) (t.SigOf (at 48) (params ([])) t.NoResults) (block 51 ([]) 53)) ∷ []) ≡ Some (at 39)
  -- `_` is declared nowhere: as a type it is 51, as a value 52, and no label
  -- `type _ _; func main() { }`
  pub blank_type : fault_of ((t.TypeDecl (at 14) (t.MoreTypes (id (codes "_") 19) false (name (codes "_") 21) t.NoTypes)) ∷ (t.FuncDecl (at 24) (id (codes "main") 29) (t.SigOf (at 33) (params ([])) t.NoResults) (block 36 ([]) 38)) ∷ []) ≡ Some (fault 21 51)
  -- `type _ = _; func main() { }`
  pub blank_alias : fault_of ((t.TypeDecl (at 14) (t.MoreTypes (id (codes "_") 19) true (name (codes "_") 23) t.NoTypes)) ∷ (t.FuncDecl (at 26) (id (codes "main") 31) (t.SigOf (at 35) (params ([])) t.NoResults) (block 38 ([]) 40)) ∷ []) ≡ Some (fault 23 51)
  -- `const _ = _; func main() { }`
  pub constant_of_blank : fault_of ((t.ConstDecl (at 14) (spec ((id (codes "_") 20) ∷ []) t.NoExpr ((name (codes "_") 24) ∷ []) t.NoValues)) ∷ (t.FuncDecl (at 27) (id (codes "main") 32) (t.SigOf (at 36) (params ([])) t.NoResults) (block 39 ([]) 41)) ∷ []) ≡ Some (fault 24 52)
  -- `func main() { type _ _ }`
  pub blank_type_in_a_body : fault_of ((t.FuncDecl (at 14) (id (codes "main") 19) (t.SigOf (at 23) (params ([])) t.NoResults) (block 26 ((t.DeclStmt (at 28) (t.TypeDecl (at 28) (t.MoreTypes (id (codes "_") 33) false (name (codes "_") 35) t.NoTypes))) ∷ []) 37)) ∷ []) ≡ Some (fault 35 51)
  -- `func main() { _: for { break } }`
  pub blank_label : fault_of ((t.FuncDecl (at 14) (id (codes "main") 19) (t.SigOf (at 23) (params ([])) t.NoResults) (block 26 ((t.LabeledStmt (at 28) (id (codes "_") 28) (t.ForStmt (at 31) t.NoStmt t.NoExpr t.NoStmt (block 35 ((t.BreakStmt (at 37) None) ∷ []) 43))) ∷ []) 45)) ∷ []) ≡ None
  -- `func main() { _: for { break _ } }`
  pub break_to_blank : fault_of ((t.FuncDecl (at 14) (id (codes "main") 19) (t.SigOf (at 23) (params ([])) t.NoResults) (block 26 ((t.LabeledStmt (at 28) (id (codes "_") 28) (t.ForStmt (at 31) t.NoStmt t.NoExpr t.NoStmt (block 35 ((t.BreakStmt (at 37) (Some (id (codes "_") 43))) ∷ []) 45))) ∷ []) 47)) ∷ []) ≡ Some (fault 43 89)
  -- `func main() { _: ; _: ; }`
  pub blank_labels : fault_of ((t.FuncDecl (at 14) (id (codes "main") 19) (t.SigOf (at 23) (params ([])) t.NoResults) (block 26 ((t.LabeledStmt (at 28) (id (codes "_") 28) (t.EmptyStmt (at 31))) ∷ (t.LabeledStmt (at 33) (id (codes "_") 33) (t.EmptyStmt (at 36))) ∷ []) 38)) ∷ []) ≡ None
  -- not built yet (0)
  -- `var x int; func main() { }`
  pub package_variable : fault_of ((t.VarDecl (at 14) (spec ((id (codes "x") 18) ∷ []) (t.AnExpr (name (codes "int") 20)) ([]) t.NoValues)) ∷ (t.FuncDecl (at 24) (id (codes "main") 29) (t.SigOf (at 33) (params ([])) t.NoResults) (block 36 ([]) 38)) ∷ []) ≡ Some (fault 14 0)
  -- `func main() { println(x) }; var x int`
  pub use_of_a_package_variable : fault_of ((t.FuncDecl (at 14) (id (codes "main") 19) (t.SigOf (at 23) (params ([])) t.NoResults) (block 26 ((t.ExprStmt (at 28) (exprs ((call (name (codes "println") 28) ((name (codes "x") 36) ∷ [])) ∷ []))) ∷ []) 39)) ∷ (t.VarDecl (at 41) (spec ((id (codes "x") 45) ∷ []) (t.AnExpr (name (codes "int") 47)) ([]) t.NoValues)) ∷ []) ≡ Some (fault 41 0)
  -- `func init() { }; func main() { }`
  pub init_function : fault_of ((t.FuncDecl (at 14) (id (codes "init") 19) (t.SigOf (at 23) (params ([])) t.NoResults) (block 26 ([]) 28)) ∷ (t.FuncDecl (at 30) (id (codes "main") 35) (t.SigOf (at 39) (params ([])) t.NoResults) (block 42 ([]) 44)) ∷ []) ≡ Some (fault 14 0)
  -- `func (x int) f() { }; func main() { }`
  pub method : fault_of ((t.MethodDecl (at 14) (at 19) (params (with_type (id (codes "x") 20) false (name (codes "int") 22) ∷ [])) (id (codes "f") 27) (t.SigOf (at 28) (params ([])) t.NoResults) (block 31 ([]) 33)) ∷ (t.FuncDecl (at 35) (id (codes "main") 40) (t.SigOf (at 44) (params ([])) t.NoResults) (block 47 ([]) 49)) ∷ []) ≡ Some (fault 14 0)
  -- `func f(x ...int) { }; func main() { }`
  pub variadic_parameter : fault_of ((t.FuncDecl (at 14) (id (codes "f") 19) (t.SigOf (at 20) (params (with_type (id (codes "x") 21) true (name (codes "int") 26) ∷ [])) t.NoResults) (block 31 ([]) 33)) ∷ (t.FuncDecl (at 35) (id (codes "main") 40) (t.SigOf (at 44) (params ([])) t.NoResults) (block 47 ([]) 49)) ∷ []) ≡ Some (fault 21 0)
  -- `type T []T; func main() { }`
  pub type_form : fault_of ((t.TypeDecl (at 14) (t.MoreTypes (id (codes "T") 19) false (t.SliceType (at 21) (name (codes "T") 23)) t.NoTypes)) ∷ (t.FuncDecl (at 25) (id (codes "main") 30) (t.SigOf (at 34) (params ([])) t.NoResults) (block 37 ([]) 39)) ∷ []) ≡ Some (fault 21 0)
  -- `type _ []_; func main() { }`
  pub type_form_of_blank : fault_of ((t.TypeDecl (at 14) (t.MoreTypes (id (codes "_") 19) false (t.SliceType (at 21) (name (codes "_") 23)) t.NoTypes)) ∷ (t.FuncDecl (at 26) (id (codes "main") 31) (t.SigOf (at 35) (params ([])) t.NoResults) (block 38 ([]) 40)) ∷ []) ≡ Some (fault 21 0)
  -- `var _ = _; func main() { }`
  pub package_variable_of_blank : fault_of ((t.VarDecl (at 14) (spec ((id (codes "_") 18) ∷ []) t.NoExpr ((name (codes "_") 22) ∷ []) t.NoValues)) ∷ (t.FuncDecl (at 25) (id (codes "main") 30) (t.SigOf (at 34) (params ([])) t.NoResults) (block 37 ([]) 39)) ∷ []) ≡ Some (fault 14 0)

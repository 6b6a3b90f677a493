-- Rows by hand: assignments and short declarations. Go specification (as of Go 1.17), "Assignments",
-- "IncDec statements", "Short variable declarations", "Expression statements".
use Rattle.std.specs.Prelude.{◌≡◌, [], ◌∷◌, true, false, Some, None, codes}
use Rattle.gj_base.specs.declared.kind.Op.TheVariants as operator
use Rattle.go_syntax.specs.Tree as t
use Rattle.go_syntax.specs.declared.tree.Prefix.TheVariants as «prefix»
use Rattle.go_typing.specs.TypingRowWords.{at, name, num, str, paren, pre, two, at_index, exprs, call, fault, named_fault}
use Rattle.go_typing.specs.StatementsRowWords.{id, spec, block, told}

pub record RowsAssign : Type 0 where
  -- assignments
  -- `{ i = 4 }`
  pub of_a_constant : told (block 0 ((t.AssignStmt (at 2) (exprs ((name (codes "i") 2) ∷ [])) None (exprs ((num (codes "4") 6) ∷ []))) ∷ []) 8) ≡ []
  -- `{ i = "a" }`
  pub text_for_an_integer : told (block 0 ((t.AssignStmt (at 2) (exprs ((name (codes "i") 2) ∷ [])) None (exprs ((str (codes "a") 6) ∷ []))) ∷ []) 10) ≡ fault 6 61 ∷ []
  -- `{ u = 300 }`
  pub constant_past_its_type : told (block 0 ((t.AssignStmt (at 2) (exprs ((name (codes "u") 2) ∷ [])) None (exprs ((num (codes "300") 6) ∷ []))) ∷ []) 10) ≡ fault 6 32 ∷ []
  -- `{ w = 1 << i }`
  pub shift_takes_the_type : told (block 0 ((t.AssignStmt (at 2) (exprs ((name (codes "w") 2) ∷ [])) None (exprs ((two (num (codes "1") 6) operator.Shl (name (codes "i") 11)) ∷ []))) ∷ []) 13) ≡ []
  -- `{ i, w = 4, 6 }`
  pub two_at_once : told (block 0 ((t.AssignStmt (at 2) (exprs ((name (codes "i") 2) ∷ (name (codes "w") 5) ∷ [])) None (exprs ((num (codes "4") 9) ∷ (num (codes "6") 12) ∷ []))) ∷ []) 14) ≡ []
  -- `{ i, w = 4 }`
  pub two_for_one : told (block 0 ((t.AssignStmt (at 2) (exprs ((name (codes "i") 2) ∷ (name (codes "w") 5) ∷ [])) None (exprs ((num (codes "4") 9) ∷ []))) ∷ []) 11) ≡ fault 2 84 ∷ []
  -- `{ i = 4, 6 }`
  pub one_for_two : told (block 0 ((t.AssignStmt (at 2) (exprs ((name (codes "i") 2) ∷ [])) None (exprs ((num (codes "4") 6) ∷ (num (codes "6") 9) ∷ []))) ∷ []) 11) ≡ fault 2 84 ∷ []
  -- `{ i, s = g() }`
  pub results_of_a_call : told (block 0 ((t.AssignStmt (at 2) (exprs ((name (codes "i") 2) ∷ (name (codes "s") 5) ∷ [])) None (exprs ((call (name (codes "g") 9) []) ∷ []))) ∷ []) 13) ≡ []
  -- `{ i, w = g() }`
  pub results_of_another_type : told (block 0 ((t.AssignStmt (at 2) (exprs ((name (codes "i") 2) ∷ (name (codes "w") 5) ∷ [])) None (exprs ((call (name (codes "g") 9) []) ∷ []))) ∷ []) 13) ≡ fault 9 61 ∷ []
  -- `{ s = g() }`
  pub two_results_for_one : told (block 0 ((t.AssignStmt (at 2) (exprs ((name (codes "s") 2) ∷ [])) None (exprs ((call (name (codes "g") 6) []) ∷ []))) ∷ []) 10) ≡ fault 2 84 ∷ []
  -- `{ i = h() }`
  pub no_result : told (block 0 ((t.AssignStmt (at 2) (exprs ((name (codes "i") 2) ∷ [])) None (exprs ((call (name (codes "h") 6) []) ∷ []))) ∷ []) 10) ≡ fault 6 52 ∷ []
  -- `{ i, w = x }`
  pub undefined_parts_come_first : told (block 0 ((t.AssignStmt (at 2) (exprs ((name (codes "i") 2) ∷ (name (codes "w") 5) ∷ [])) None (exprs ((name (codes "x") 9) ∷ []))) ∷ []) 11) ≡ named_fault 9 50 (codes "x") ∷ []
  -- `{ x := y; x, w = 4 }`
  pub one_for_an_unknown_type : told (block 0 ((t.DefineStmt (at 2) (exprs ((name (codes "x") 2) ∷ [])) (exprs ((name (codes "y") 7) ∷ []))) ∷ (t.AssignStmt (at 10) (exprs ((name (codes "x") 10) ∷ (name (codes "w") 13) ∷ [])) None (exprs ((num (codes "4") 17) ∷ []))) ∷ []) 19) ≡ named_fault 7 50 (codes "y") ∷ named_fault 2 80 (codes "x") ∷ []
  -- `{ c = 4 }`
  pub to_a_constant : told (block 0 ((t.AssignStmt (at 2) (exprs ((name (codes "c") 2) ∷ [])) None (exprs ((num (codes "4") 6) ∷ []))) ∷ []) 8) ≡ fault 2 85 ∷ []
  -- `{ 4 = i }`
  pub to_a_number : told (block 0 ((t.AssignStmt (at 2) (exprs ((num (codes "4") 2) ∷ [])) None (exprs ((name (codes "i") 6) ∷ []))) ∷ []) 8) ≡ fault 2 85 ∷ []
  -- `{ s[1] = u }`
  pub to_a_byte : told (block 0 ((t.AssignStmt (at 2) (exprs ((at_index (name (codes "s") 2) (num (codes "1") 4)) ∷ [])) None (exprs ((name (codes "u") 9) ∷ []))) ∷ []) 11) ≡ fault 2 85 ∷ []
  -- `{ int = 4 }`
  pub to_a_type : told (block 0 ((t.AssignStmt (at 2) (exprs ((name (codes "int") 2) ∷ [])) None (exprs ((num (codes "4") 8) ∷ []))) ∷ []) 10) ≡ fault 2 85 ∷ []
  -- `{ f = 4 }`
  pub to_a_function : told (block 0 ((t.AssignStmt (at 2) (exprs ((name (codes "f") 2) ∷ [])) None (exprs ((num (codes "4") 6) ∷ []))) ∷ []) 8) ≡ fault 2 0 ∷ []
  -- `{ x = y }`
  pub to_an_undefined_name : told (block 0 ((t.AssignStmt (at 2) (exprs ((name (codes "x") 2) ∷ [])) None (exprs ((name (codes "y") 6) ∷ []))) ∷ []) 8) ≡ named_fault 2 50 (codes "x") ∷ named_fault 6 50 (codes "y") ∷ []
  -- `{ (i) = 4 }`
  pub in_parentheses : told (block 0 ((t.AssignStmt (at 2) (exprs ((paren 2 (name (codes "i") 3)) ∷ [])) None (exprs ((num (codes "4") 8) ∷ []))) ∷ []) 10) ≡ []
  -- `{ _ = i }`
  pub to_blank : told (block 0 ((t.AssignStmt (at 2) (exprs ((name (codes "_") 2) ∷ [])) None (exprs ((name (codes "i") 6) ∷ []))) ∷ []) 8) ≡ []
  -- `{ _ = nil }`
  pub nil_to_blank : told (block 0 ((t.AssignStmt (at 2) (exprs ((name (codes "_") 2) ∷ [])) None (exprs ((name (codes "nil") 6) ∷ []))) ∷ []) 10) ≡ fault 6 73 ∷ []
  -- `{ i = x; c = 4 }`
  pub after_another_fault : told (block 0 ((t.AssignStmt (at 2) (exprs ((name (codes "i") 2) ∷ [])) None (exprs ((name (codes "x") 6) ∷ []))) ∷ (t.AssignStmt (at 9) (exprs ((name (codes "c") 9) ∷ [])) None (exprs ((num (codes "4") 13) ∷ []))) ∷ []) 15) ≡ named_fault 6 50 (codes "x") ∷ fault 9 85 ∷ []
  -- with an operator
  -- `{ i += 4; s += "a"; u <<= 4 }`
  pub sum : told (block 0 ((t.AssignStmt (at 2) (exprs ((name (codes "i") 2) ∷ [])) (Some operator.Add) (exprs ((num (codes "4") 7) ∷ []))) ∷ (t.AssignStmt (at 10) (exprs ((name (codes "s") 10) ∷ [])) (Some operator.Add) (exprs ((str (codes "a") 15) ∷ []))) ∷ (t.AssignStmt (at 20) (exprs ((name (codes "u") 20) ∷ [])) (Some operator.Shl) (exprs ((num (codes "4") 26) ∷ []))) ∷ []) 28) ≡ []
  -- `{ i += "a" }`
  pub text_for_a_number : told (block 0 ((t.AssignStmt (at 2) (exprs ((name (codes "i") 2) ∷ [])) (Some operator.Add) (exprs ((str (codes "a") 7) ∷ []))) ∷ []) 11) ≡ fault 2 55 ∷ []
  -- `{ u += 300 }`
  pub past_its_type : told (block 0 ((t.AssignStmt (at 2) (exprs ((name (codes "u") 2) ∷ [])) (Some operator.Add) (exprs ((num (codes "300") 7) ∷ []))) ∷ []) 11) ≡ fault 7 32 ∷ []
  -- `{ i /= 0 }`
  pub by_zero : told (block 0 ((t.AssignStmt (at 2) (exprs ((name (codes "i") 2) ∷ [])) (Some operator.Div) (exprs ((num (codes "0") 7) ∷ []))) ∷ []) 9) ≡ fault 7 30 ∷ []
  -- `{ c += 4 }`
  pub of_a_constant_operand : told (block 0 ((t.AssignStmt (at 2) (exprs ((name (codes "c") 2) ∷ [])) (Some operator.Add) (exprs ((num (codes "4") 7) ∷ []))) ∷ []) 9) ≡ fault 2 85 ∷ []
  -- `{ _ += 4 }`
  pub of_blank : told (block 0 ((t.AssignStmt (at 2) (exprs ((name (codes "_") 2) ∷ [])) (Some operator.Add) (exprs ((num (codes "4") 7) ∷ []))) ∷ []) 9) ≡ fault 2 52 ∷ []
  -- `{ i, w += 4 }`
  pub of_two : told (block 0 ((t.AssignStmt (at 2) (exprs ((name (codes "i") 2) ∷ (name (codes "w") 5) ∷ [])) (Some operator.Add) (exprs ((num (codes "4") 10) ∷ []))) ∷ []) 12) ≡ fault 2 84 ∷ []
  -- `{ i++; w-- }`
  pub step : told (block 0 ((t.IncDecStmt (at 2) (exprs ((name (codes "i") 2) ∷ [])) true) ∷ (t.IncDecStmt (at 7) (exprs ((name (codes "w") 7) ∷ [])) false) ∷ []) 11) ≡ []
  -- `{ s++ }`
  pub step_of_a_string : told (block 0 ((t.IncDecStmt (at 2) (exprs ((name (codes "s") 2) ∷ [])) true) ∷ []) 6) ≡ fault 2 55 ∷ []
  -- `{ c++ }`
  pub step_of_a_constant : told (block 0 ((t.IncDecStmt (at 2) (exprs ((name (codes "c") 2) ∷ [])) true) ∷ []) 6) ≡ fault 2 85 ∷ []
  -- `{ x++ }`
  pub step_of_an_undefined_name : told (block 0 ((t.IncDecStmt (at 2) (exprs ((name (codes "x") 2) ∷ [])) true) ∷ []) 6) ≡ named_fault 2 50 (codes "x") ∷ []
  -- short declarations
  -- `{ x := 4; i = x }`
  pub used : told (block 0 ((t.DefineStmt (at 2) (exprs ((name (codes "x") 2) ∷ [])) (exprs ((num (codes "4") 7) ∷ []))) ∷ (t.AssignStmt (at 10) (exprs ((name (codes "i") 10) ∷ [])) None (exprs ((name (codes "x") 14) ∷ []))) ∷ []) 16) ≡ []
  -- `{ x := 4 }`
  pub not_used : told (block 0 ((t.DefineStmt (at 2) (exprs ((name (codes "x") 2) ∷ [])) (exprs ((num (codes "4") 7) ∷ []))) ∷ []) 9) ≡ named_fault 2 80 (codes "x") ∷ []
  -- `{ x := 4; x = 6 }`
  pub only_assigned : told (block 0 ((t.DefineStmt (at 2) (exprs ((name (codes "x") 2) ∷ [])) (exprs ((num (codes "4") 7) ∷ []))) ∷ (t.AssignStmt (at 10) (exprs ((name (codes "x") 10) ∷ [])) None (exprs ((num (codes "6") 14) ∷ []))) ∷ []) 16) ≡ named_fault 2 80 (codes "x") ∷ []
  -- `{ x := 4; x++ }`
  pub stepped : told (block 0 ((t.DefineStmt (at 2) (exprs ((name (codes "x") 2) ∷ [])) (exprs ((num (codes "4") 7) ∷ []))) ∷ (t.IncDecStmt (at 10) (exprs ((name (codes "x") 10) ∷ [])) true) ∷ []) 14) ≡ []
  -- `{ x := 4; _ = x + y }`
  pub used_in_a_faulty_node : told (block 0 ((t.DefineStmt (at 2) (exprs ((name (codes "x") 2) ∷ [])) (exprs ((num (codes "4") 7) ∷ []))) ∷ (t.AssignStmt (at 10) (exprs ((name (codes "_") 10) ∷ [])) None (exprs ((two (name (codes "x") 14) operator.Add (name (codes "y") 18)) ∷ []))) ∷ []) 20) ≡ named_fault 18 50 (codes "y") ∷ []
  -- `{ x := 4; go h(x) }`
  pub used_in_a_form_that_is_not_built : told (block 0 ((t.DefineStmt (at 2) (exprs ((name (codes "x") 2) ∷ [])) (exprs ((num (codes "4") 7) ∷ []))) ∷ (t.GoStmt (at 10) (call (name (codes "h") 13) ((name (codes "x") 15) ∷ []))) ∷ []) 18) ≡ fault 10 0 ∷ []
  -- `{ x := y }`
  pub of_an_undefined_value : told (block 0 ((t.DefineStmt (at 2) (exprs ((name (codes "x") 2) ∷ [])) (exprs ((name (codes "y") 7) ∷ []))) ∷ []) 9) ≡ named_fault 7 50 (codes "y") ∷ named_fault 2 80 (codes "x") ∷ []
  -- `{ x := 4; x := y }`
  pub none_new_of_an_undefined_value : told (block 0 ((t.DefineStmt (at 2) (exprs ((name (codes "x") 2) ∷ [])) (exprs ((num (codes "4") 7) ∷ []))) ∷ (t.DefineStmt (at 10) (exprs ((name (codes "x") 10) ∷ [])) (exprs ((name (codes "y") 15) ∷ []))) ∷ []) 17) ≡ named_fault 15 50 (codes "y") ∷ named_fault 2 80 (codes "x") ∷ []
  -- `{ x := y; x := 4 }`
  pub none_new_of_an_unknown_type : told (block 0 ((t.DefineStmt (at 2) (exprs ((name (codes "x") 2) ∷ [])) (exprs ((name (codes "y") 7) ∷ []))) ∷ (t.DefineStmt (at 10) (exprs ((name (codes "x") 10) ∷ [])) (exprs ((num (codes "4") 15) ∷ []))) ∷ []) 17) ≡ named_fault 7 50 (codes "y") ∷ named_fault 2 80 (codes "x") ∷ []
  -- `{ const x = 4; x := 6 }`
  pub none_new_but_a_constant : told (block 0 ((t.DeclStmt (at 2) (t.ConstDecl (at 2) (spec ((id (codes "x") 8) ∷ []) t.NoExpr ((num (codes "4") 12) ∷ []) t.NoValues))) ∷ (t.DefineStmt (at 15) (exprs ((name (codes "x") 15) ∷ [])) (exprs ((num (codes "6") 20) ∷ []))) ∷ []) 22) ≡ fault 15 85 ∷ []
  -- `{ const x = 4; x, y := 6 }`
  pub one_for_a_constant_and_a_name : told (block 0 ((t.DeclStmt (at 2) (t.ConstDecl (at 2) (spec ((id (codes "x") 8) ∷ []) t.NoExpr ((num (codes "4") 12) ∷ []) t.NoValues))) ∷ (t.DefineStmt (at 15) (exprs ((name (codes "x") 15) ∷ (name (codes "y") 18) ∷ [])) (exprs ((num (codes "6") 23) ∷ []))) ∷ []) 25) ≡ fault 15 85 ∷ named_fault 18 80 (codes "y") ∷ []
  -- `{ x := 4; x + 4 := 6 }`
  pub used_on_the_left : told (block 0 ((t.DefineStmt (at 2) (exprs ((name (codes "x") 2) ∷ [])) (exprs ((num (codes "4") 7) ∷ []))) ∷ (t.DefineStmt (at 10) (exprs ((two (name (codes "x") 10) operator.Add (num (codes "4") 14)) ∷ [])) (exprs ((num (codes "6") 19) ∷ []))) ∷ []) 21) ≡ fault 10 83 ∷ []
  -- `{ y + 4 := 6 }`
  pub undefined_on_the_left : told (block 0 ((t.DefineStmt (at 2) (exprs ((two (name (codes "y") 2) operator.Add (num (codes "4") 6)) ∷ [])) (exprs ((num (codes "6") 11) ∷ []))) ∷ []) 13) ≡ named_fault 2 50 (codes "y") ∷ []
  -- `{ x := *b }`
  pub of_a_value_that_is_not_built : told (block 0 ((t.DefineStmt (at 2) (exprs ((name (codes "x") 2) ∷ [])) (exprs ((pre 7 «prefix».Star (name (codes "b") 8)) ∷ []))) ∷ []) 10) ≡ fault 7 0 ∷ []
  -- `{ x := y; i = x + "a" }`
  pub user_of_an_unknown_type : told (block 0 ((t.DefineStmt (at 2) (exprs ((name (codes "x") 2) ∷ [])) (exprs ((name (codes "y") 7) ∷ []))) ∷ (t.AssignStmt (at 10) (exprs ((name (codes "i") 10) ∷ [])) None (exprs ((two (name (codes "x") 14) operator.Add (str (codes "a") 18)) ∷ []))) ∷ []) 22) ≡ named_fault 7 50 (codes "y") ∷ []
  -- `{ x := nil; _ = x }`
  pub of_nil : told (block 0 ((t.DefineStmt (at 2) (exprs ((name (codes "x") 2) ∷ [])) (exprs ((name (codes "nil") 7) ∷ []))) ∷ (t.AssignStmt (at 12) (exprs ((name (codes "_") 12) ∷ [])) None (exprs ((name (codes "x") 16) ∷ []))) ∷ []) 18) ≡ fault 7 73 ∷ []
  -- `{ x := h(); _ = x }`
  pub of_no_result : told (block 0 ((t.DefineStmt (at 2) (exprs ((name (codes "x") 2) ∷ [])) (exprs ((call (name (codes "h") 7) []) ∷ []))) ∷ (t.AssignStmt (at 12) (exprs ((name (codes "_") 12) ∷ [])) None (exprs ((name (codes "x") 16) ∷ []))) ∷ []) 18) ≡ fault 7 52 ∷ []
  -- `{ x := g(); _ = x }`
  pub of_two_results : told (block 0 ((t.DefineStmt (at 2) (exprs ((name (codes "x") 2) ∷ [])) (exprs ((call (name (codes "g") 7) []) ∷ []))) ∷ (t.AssignStmt (at 12) (exprs ((name (codes "_") 12) ∷ [])) None (exprs ((name (codes "x") 16) ∷ []))) ∷ []) 18) ≡ fault 2 84 ∷ []
  -- `{ x, y := g(); i, s = x, y }`
  pub two_of_two_results : told (block 0 ((t.DefineStmt (at 2) (exprs ((name (codes "x") 2) ∷ (name (codes "y") 5) ∷ [])) (exprs ((call (name (codes "g") 10) []) ∷ []))) ∷ (t.AssignStmt (at 15) (exprs ((name (codes "i") 15) ∷ (name (codes "s") 18) ∷ [])) None (exprs ((name (codes "x") 22) ∷ (name (codes "y") 25) ∷ []))) ∷ []) 27) ≡ []
  -- `{ x := 5000000000; _ = x }`
  pub past_int : told (block 0 ((t.DefineStmt (at 2) (exprs ((name (codes "x") 2) ∷ [])) (exprs ((num (codes "5000000000") 7) ∷ []))) ∷ (t.AssignStmt (at 19) (exprs ((name (codes "_") 19) ∷ [])) None (exprs ((name (codes "x") 23) ∷ []))) ∷ []) 25) ≡ fault 7 32 ∷ []
  -- `{ x := 4; u = x }`
  pub default_type : told (block 0 ((t.DefineStmt (at 2) (exprs ((name (codes "x") 2) ∷ [])) (exprs ((num (codes "4") 7) ∷ []))) ∷ (t.AssignStmt (at 10) (exprs ((name (codes "u") 10) ∷ [])) None (exprs ((name (codes "x") 14) ∷ []))) ∷ []) 16) ≡ fault 14 61 ∷ []
  -- `{ x := 4; x := 6; _ = x }`
  pub no_new_name : told (block 0 ((t.DefineStmt (at 2) (exprs ((name (codes "x") 2) ∷ [])) (exprs ((num (codes "4") 7) ∷ []))) ∷ (t.DefineStmt (at 10) (exprs ((name (codes "x") 10) ∷ [])) (exprs ((num (codes "6") 15) ∷ []))) ∷ (t.AssignStmt (at 18) (exprs ((name (codes "_") 18) ∷ [])) None (exprs ((name (codes "x") 22) ∷ []))) ∷ []) 24) ≡ fault 10 83 ∷ []
  -- `{ x := 4; x, y := 6, 8; _, _ = x, y }`
  pub one_new_name : told (block 0 ((t.DefineStmt (at 2) (exprs ((name (codes "x") 2) ∷ [])) (exprs ((num (codes "4") 7) ∷ []))) ∷ (t.DefineStmt (at 10) (exprs ((name (codes "x") 10) ∷ (name (codes "y") 13) ∷ [])) (exprs ((num (codes "6") 18) ∷ (num (codes "8") 21) ∷ []))) ∷ (t.AssignStmt (at 24) (exprs ((name (codes "_") 24) ∷ (name (codes "_") 27) ∷ [])) None (exprs ((name (codes "x") 31) ∷ (name (codes "y") 34) ∷ []))) ∷ []) 36) ≡ []
  -- `{ x := 4; x, y := "a", 8; _, _ = x, y }`
  pub old_name_keeps_its_type : told (block 0 ((t.DefineStmt (at 2) (exprs ((name (codes "x") 2) ∷ [])) (exprs ((num (codes "4") 7) ∷ []))) ∷ (t.DefineStmt (at 10) (exprs ((name (codes "x") 10) ∷ (name (codes "y") 13) ∷ [])) (exprs ((str (codes "a") 18) ∷ (num (codes "8") 23) ∷ []))) ∷ (t.AssignStmt (at 26) (exprs ((name (codes "_") 26) ∷ (name (codes "_") 29) ∷ [])) None (exprs ((name (codes "x") 33) ∷ (name (codes "y") 36) ∷ []))) ∷ []) 38) ≡ fault 18 61 ∷ []
  -- `{ x, x := 4, 6; _ = x }`
  pub twice_on_the_left : told (block 0 ((t.DefineStmt (at 2) (exprs ((name (codes "x") 2) ∷ (name (codes "x") 5) ∷ [])) (exprs ((num (codes "4") 10) ∷ (num (codes "6") 13) ∷ []))) ∷ (t.AssignStmt (at 16) (exprs ((name (codes "_") 16) ∷ [])) None (exprs ((name (codes "x") 20) ∷ []))) ∷ []) 22) ≡ named_fault 5 82 (codes "x") ∷ []
  -- `{ 4 := i }`
  pub no_name : told (block 0 ((t.DefineStmt (at 2) (exprs ((num (codes "4") 2) ∷ [])) (exprs ((name (codes "i") 7) ∷ []))) ∷ []) 9) ≡ fault 2 83 ∷ []
  -- `{ _ := 4 }`
  pub blank_alone : told (block 0 ((t.DefineStmt (at 2) (exprs ((name (codes "_") 2) ∷ [])) (exprs ((num (codes "4") 7) ∷ []))) ∷ []) 9) ≡ fault 2 83 ∷ []
  -- `{ i := "a"; s = i }`
  pub hides : told (block 0 ((t.DefineStmt (at 2) (exprs ((name (codes "i") 2) ∷ [])) (exprs ((str (codes "a") 7) ∷ []))) ∷ (t.AssignStmt (at 12) (exprs ((name (codes "s") 12) ∷ [])) None (exprs ((name (codes "i") 16) ∷ []))) ∷ []) 18) ≡ []
  -- `{ { i := "a"; s = i }; i = 4 }`
  pub hides_in_a_block : told (block 0 ((t.BlockStmt (at 2) (block 2 ((t.DefineStmt (at 4) (exprs ((name (codes "i") 4) ∷ [])) (exprs ((str (codes "a") 9) ∷ []))) ∷ (t.AssignStmt (at 14) (exprs ((name (codes "s") 14) ∷ [])) None (exprs ((name (codes "i") 18) ∷ []))) ∷ []) 20)) ∷ (t.AssignStmt (at 23) (exprs ((name (codes "i") 23) ∷ [])) None (exprs ((num (codes "4") 27) ∷ []))) ∷ []) 29) ≡ []
  -- expressions
  -- `{ h(); f(4, "a"); (h()); println(i) }`
  pub calls : told (block 0 ((t.ExprStmt (at 2) (exprs ((call (name (codes "h") 2) []) ∷ []))) ∷ (t.ExprStmt (at 7) (exprs ((call (name (codes "f") 7) ((num (codes "4") 9) ∷ (str (codes "a") 12) ∷ [])) ∷ []))) ∷ (t.ExprStmt (at 18) (exprs ((paren 18 (call (name (codes "h") 19) [])) ∷ []))) ∷ (t.ExprStmt (at 25) (exprs ((call (name (codes "println") 25) ((name (codes "i") 33) ∷ [])) ∷ []))) ∷ []) 36) ≡ []
  -- `{ 4 }`
  pub number_alone : told (block 0 ((t.ExprStmt (at 2) (exprs ((num (codes "4") 2) ∷ []))) ∷ []) 4) ≡ fault 2 93 ∷ []
  -- `{ i == 4 }`
  pub comparison_alone : told (block 0 ((t.ExprStmt (at 2) (exprs ((two (name (codes "i") 2) operator.Eq (num (codes "4") 7)) ∷ []))) ∷ []) 9) ≡ fault 2 93 ∷ []
  -- `{ len(s) }`
  pub length_alone : told (block 0 ((t.ExprStmt (at 2) (exprs ((call (name (codes "len") 2) ((name (codes "s") 6) ∷ [])) ∷ []))) ∷ []) 9) ≡ fault 2 93 ∷ []
  -- `{ int(w) }`
  pub conversion_alone : told (block 0 ((t.ExprStmt (at 2) (exprs ((call (name (codes "int") 2) ((name (codes "w") 6) ∷ [])) ∷ []))) ∷ []) 9) ≡ fault 2 93 ∷ []
  -- `{ int }`
  pub type_alone : told (block 0 ((t.ExprStmt (at 2) (exprs ((name (codes "int") 2) ∷ []))) ∷ []) 6) ≡ fault 2 93 ∷ []
  -- `{ x }`
  pub undefined_alone : told (block 0 ((t.ExprStmt (at 2) (exprs ((name (codes "x") 2) ∷ []))) ∷ []) 4) ≡ named_fault 2 50 (codes "x") ∷ []
  -- `{ h(), h() }`
  pub two_expressions : told (block 0 ((t.ExprStmt (at 2) (exprs ((call (name (codes "h") 2) []) ∷ (call (name (codes "h") 7) []) ∷ []))) ∷ []) 11) ≡ fault 2 84 ∷ []
  -- `{ x; 4 }`
  pub alone_after_another_fault : told (block 0 ((t.ExprStmt (at 2) (exprs ((name (codes "x") 2) ∷ []))) ∷ (t.ExprStmt (at 5) (exprs ((num (codes "4") 5) ∷ []))) ∷ []) 7) ≡ named_fault 2 50 (codes "x") ∷ fault 5 93 ∷ []

-- Rows by hand: control. Go specification (as of Go 1.17), "If statements", "For statements", "Switch statements",
-- "Break statements", "Continue statements", "Fallthrough statements", "Return statements", "Terminating statements".
use Rattle.std.specs.Prelude.{◌≡◌, [], ◌∷◌, true, false, Some, None, codes}
use Rattle.gj_base.specs.declared.kind.Op.TheVariants as operator
use Rattle.go_syntax.specs.Tree as t
use Rattle.go_type.specs.Tree as ty
use Rattle.go_typing.specs.TypingRowWords.{at, name, num, str, two, exprs, call, int, one_type, two_types, fault, named_fault}
use Rattle.go_typing.specs.StatementsRowWords.{block, id, clause, spec, told_in, told, clauses_like}

pub record RowsControl : Type 0 where
  -- conditions (86)
  -- `{ if i == 4 { } else if b { } else { } }`
  pub comparison : told (block 0 ((t.IfStmt (at 2) t.NoStmt (two (name (codes "i") 5) operator.Eq (num (codes "4") 10)) (block 12 ([]) 14) (t.AStmt (t.IfStmt (at 21) t.NoStmt (name (codes "b") 24) (block 26 ([]) 28) (t.AStmt (t.BlockStmt (at 35) (block 35 ([]) 37)))))) ∷ []) 39) ≡ []
  -- `{ if i { } }`
  pub integer : told (block 0 ((t.IfStmt (at 2) t.NoStmt (name (codes "i") 5) (block 7 ([]) 9) t.NoStmt) ∷ []) 11) ≡ fault 5 86 ∷ []
  -- `{ if 4 { } }`
  pub number : told (block 0 ((t.IfStmt (at 2) t.NoStmt (num (codes "4") 5) (block 7 ([]) 9) t.NoStmt) ∷ []) 11) ≡ fault 5 86 ∷ []
  -- `{ if d { } }`
  pub of_a_named_type : told (block 0 ((t.IfStmt (at 2) t.NoStmt (name (codes "d") 5) (block 7 ([]) 9) t.NoStmt) ∷ []) 11) ≡ []
  -- `{ if x { y = 4 } }`
  pub undefined_condition : told (block 0 ((t.IfStmt (at 2) t.NoStmt (name (codes "x") 5) (block 7 ((t.AssignStmt (at 9) (exprs ((name (codes "y") 9) ∷ [])) None (exprs ((num (codes "4") 13) ∷ []))) ∷ []) 15) t.NoStmt) ∷ []) 17) ≡ named_fault 5 50 (codes "x") ∷ named_fault 9 50 (codes "y") ∷ []
  -- `{ if h() { } }`
  pub no_value : told (block 0 ((t.IfStmt (at 2) t.NoStmt (call (name (codes "h") 5) []) (block 9 ([]) 11) t.NoStmt) ∷ []) 13) ≡ fault 5 52 ∷ []
  -- `{ for i { } }`
  pub loop_on_an_integer : told (block 0 ((t.ForStmt (at 2) t.NoStmt (t.AnExpr (name (codes "i") 6)) t.NoStmt (block 8 ([]) 10)) ∷ []) 12) ≡ fault 6 86 ∷ []
  -- `{ for { }; for i < 4 { i++ }; for x := 0; x < 4; x++ { println(x) } }`
  pub loops : told (block 0 ((t.ForStmt (at 2) t.NoStmt t.NoExpr t.NoStmt (block 6 ([]) 8)) ∷ (t.ForStmt (at 11) t.NoStmt (t.AnExpr (two (name (codes "i") 15) operator.Lt (num (codes "4") 19))) t.NoStmt (block 21 ((t.IncDecStmt (at 23) (exprs ((name (codes "i") 23) ∷ [])) true) ∷ []) 27)) ∷ (t.ForStmt (at 30) (t.AStmt (t.DefineStmt (at 34) (exprs ((name (codes "x") 34) ∷ [])) (exprs ((num (codes "0") 39) ∷ [])))) (t.AnExpr (two (name (codes "x") 42) operator.Lt (num (codes "4") 46))) (t.AStmt (t.IncDecStmt (at 49) (exprs ((name (codes "x") 49) ∷ [])) true)) (block 53 ((t.ExprStmt (at 55) (exprs ((call (name (codes "println") 55) ((name (codes "x") 63) ∷ [])) ∷ []))) ∷ []) 66)) ∷ []) 68) ≡ []
  -- `{ for ; ; x := 4 { } }`
  pub declaration_after_a_turn : told (block 0 ((t.ForStmt (at 2) t.NoStmt t.NoExpr (t.AStmt (t.DefineStmt (at 10) (exprs ((name (codes "x") 10) ∷ [])) (exprs ((num (codes "4") 15) ∷ [])))) (block 17 ([]) 19)) ∷ []) 21) ≡ fault 10 83 ∷ []
  -- `{ for ; ; y + 4 := 6 { } }`
  pub undefined_after_a_turn : told (block 0 ((t.ForStmt (at 2) t.NoStmt t.NoExpr (t.AStmt (t.DefineStmt (at 10) (exprs ((two (name (codes "y") 10) operator.Add (num (codes "4") 14)) ∷ [])) (exprs ((num (codes "6") 19) ∷ [])))) (block 21 ([]) 23)) ∷ []) 25) ≡ named_fault 10 50 (codes "y") ∷ []
  -- `{ if x := 4; x == i { i = x }; i = x }`
  pub header_has_a_scope : told (block 0 ((t.IfStmt (at 2) (t.AStmt (t.DefineStmt (at 5) (exprs ((name (codes "x") 5) ∷ [])) (exprs ((num (codes "4") 10) ∷ [])))) (two (name (codes "x") 13) operator.Eq (name (codes "i") 18)) (block 20 ((t.AssignStmt (at 22) (exprs ((name (codes "i") 22) ∷ [])) None (exprs ((name (codes "x") 26) ∷ []))) ∷ []) 28) t.NoStmt) ∷ (t.AssignStmt (at 31) (exprs ((name (codes "i") 31) ∷ [])) None (exprs ((name (codes "x") 35) ∷ []))) ∷ []) 37) ≡ named_fault 35 50 (codes "x") ∷ []
  -- `{ if x := 4; b { } }`
  pub header_name_is_unused : told (block 0 ((t.IfStmt (at 2) (t.AStmt (t.DefineStmt (at 5) (exprs ((name (codes "x") 5) ∷ [])) (exprs ((num (codes "4") 10) ∷ [])))) (name (codes "b") 13) (block 15 ([]) 17) t.NoStmt) ∷ []) 19) ≡ named_fault 5 80 (codes "x") ∷ []
  -- `{ if b { x := 4; i = x } else { i = x } }`
  pub block_has_a_scope : told (block 0 ((t.IfStmt (at 2) t.NoStmt (name (codes "b") 5) (block 7 ((t.DefineStmt (at 9) (exprs ((name (codes "x") 9) ∷ [])) (exprs ((num (codes "4") 14) ∷ []))) ∷ (t.AssignStmt (at 17) (exprs ((name (codes "i") 17) ∷ [])) None (exprs ((name (codes "x") 21) ∷ []))) ∷ []) 23) (t.AStmt (t.BlockStmt (at 30) (block 30 ((t.AssignStmt (at 32) (exprs ((name (codes "i") 32) ∷ [])) None (exprs ((name (codes "x") 36) ∷ []))) ∷ []) 38)))) ∷ []) 40) ≡ named_fault 36 50 (codes "x") ∷ []
  -- `{ if x := 4; b { } else { i = x } }`
  pub header_is_seen_in_else : told (block 0 ((t.IfStmt (at 2) (t.AStmt (t.DefineStmt (at 5) (exprs ((name (codes "x") 5) ∷ [])) (exprs ((num (codes "4") 10) ∷ [])))) (name (codes "b") 13) (block 15 ([]) 17) (t.AStmt (t.BlockStmt (at 24) (block 24 ((t.AssignStmt (at 26) (exprs ((name (codes "i") 26) ∷ [])) None (exprs ((name (codes "x") 30) ∷ []))) ∷ []) 32)))) ∷ []) 34) ≡ []
  -- switches
  -- `{ switch i { case 4: case 6: default: } }`
  pub cases : told (block 0 ((t.SwitchStmt (at 2) t.NoStmt (t.AnExpr (name (codes "i") 9)) (clause 13 ((num (codes "4") 18) ∷ []) ([]) (clause 21 ((num (codes "6") 26) ∷ []) ([]) (clause 29 ([]) ([]) t.NoClauses)))) ∷ []) 40) ≡ []
  -- `{ switch i { case "a": } }`
  pub case_of_another_type : told (block 0 ((t.SwitchStmt (at 2) t.NoStmt (t.AnExpr (name (codes "i") 9)) (clause 13 ((str (codes "a") 18) ∷ []) ([]) t.NoClauses)) ∷ []) 25) ≡ fault 18 55 ∷ []
  -- `{ switch u { case 300: } }`
  pub case_past_the_type : told (block 0 ((t.SwitchStmt (at 2) t.NoStmt (t.AnExpr (name (codes "u") 9)) (clause 13 ((num (codes "300") 18) ∷ []) ([]) t.NoClauses)) ∷ []) 25) ≡ fault 18 32 ∷ []
  -- `{ switch w { case 1 << i: } }`
  pub case_of_a_shift : told (block 0 ((t.SwitchStmt (at 2) t.NoStmt (t.AnExpr (name (codes "w") 9)) (clause 13 ((two (num (codes "1") 18) operator.Shl (name (codes "i") 23)) ∷ []) ([]) t.NoClauses)) ∷ []) 28) ≡ []
  -- `{ switch i { case int: } }`
  pub case_that_is_a_type : told (block 0 ((t.SwitchStmt (at 2) t.NoStmt (t.AnExpr (name (codes "i") 9)) (clause 13 ((name (codes "int") 18) ∷ []) ([]) t.NoClauses)) ∷ []) 25) ≡ fault 18 52 ∷ []
  -- `{ switch i { case 4, 4: } }`
  pub repeated_case : told (block 0 ((t.SwitchStmt (at 2) t.NoStmt (t.AnExpr (name (codes "i") 9)) (clause 13 ((num (codes "4") 18) ∷ (num (codes "4") 21) ∷ []) ([]) t.NoClauses)) ∷ []) 26) ≡ fault 21 92 ∷ []
  -- `{ switch s { case "a": case "b": case "a": } }`
  pub repeated_text : told (block 0 ((t.SwitchStmt (at 2) t.NoStmt (t.AnExpr (name (codes "s") 9)) (clause 13 ((str (codes "a") 18) ∷ []) ([]) (clause 23 ((str (codes "b") 28) ∷ []) ([]) (clause 33 ((str (codes "a") 38) ∷ []) ([]) t.NoClauses)))) ∷ []) 45) ≡ fault 38 92 ∷ []
  -- `{ switch { case true: case true: } }`
  pub repeated_truth : told (block 0 ((t.SwitchStmt (at 2) t.NoStmt t.NoExpr (clause 11 ((name (codes "true") 16) ∷ []) ([]) (clause 22 ((name (codes "true") 27) ∷ []) ([]) t.NoClauses))) ∷ []) 35) ≡ fault 27 92 ∷ []
  -- `{ switch i { case 4: case 6: } }`
  pub other_case : told (block 0 ((t.SwitchStmt (at 2) t.NoStmt (t.AnExpr (name (codes "i") 9)) (clause 13 ((num (codes "4") 18) ∷ []) ([]) (clause 21 ((num (codes "6") 26) ∷ []) ([]) t.NoClauses))) ∷ []) 31) ≡ []
  -- `{ switch { default: default: } }`
  pub two_defaults : told (block 0 ((t.SwitchStmt (at 2) t.NoStmt t.NoExpr (clause 11 ([]) ([]) (clause 20 ([]) ([]) t.NoClauses))) ∷ []) 31) ≡ fault 20 92 ∷ []
  -- `{ switch { case b: .. } }`, with 1000 clauses, then with 1001, then with 1001 and a fault in one
  pub as_many_clauses : told (block 0 ((t.SwitchStmt (at 2) t.NoStmt t.NoExpr (clauses_like 1000 t.NoClauses)) ∷ []) 30) ≡ []
  pub too_many_clauses : told (block 0 ((t.SwitchStmt (at 2) t.NoStmt t.NoExpr (clauses_like 1001 t.NoClauses)) ∷ []) 30) ≡ fault 2 76 ∷ []
  pub too_many_clauses_around_a_fault : told (block 0 ((t.SwitchStmt (at 2) t.NoStmt t.NoExpr (clauses_like 1000 (clause 20 (name (codes "x") 25 ∷ []) [] t.NoClauses))) ∷ []) 30) ≡ named_fault 25 50 (codes "x") ∷ []
  -- with 1001 clauses, one of them `case b: x := 4`, then `case b: L: ;`, then `case lost:`
  pub too_many_clauses_around_an_unused_name : told (block 0 ((t.SwitchStmt (at 2) t.NoStmt t.NoExpr (clauses_like 1000 (clause 20 (name (codes "b") 25 ∷ []) ((t.DefineStmt (at 28) (exprs ((name (codes "x") 28) ∷ [])) (exprs ((num (codes "4") 33) ∷ []))) ∷ []) t.NoClauses))) ∷ []) 37) ≡ named_fault 28 80 (codes "x") ∷ []
  pub too_many_clauses_around_an_unused_label : told (block 0 ((t.SwitchStmt (at 2) t.NoStmt t.NoExpr (clauses_like 1000 (clause 20 (name (codes "b") 25 ∷ []) ((t.LabeledStmt (at 28) (id (codes "L") 28) (t.EmptyStmt (at 31))) ∷ []) t.NoClauses))) ∷ []) 35) ≡ named_fault 28 90 (codes "L") ∷ []
  pub too_many_clauses_around_a_lost_name : told (block 0 ((t.SwitchStmt (at 2) t.NoStmt t.NoExpr (clauses_like 1000 (clause 20 (name (codes "lost") 25 ∷ []) [] t.NoClauses))) ∷ []) 33) ≡ []
  -- with 1001 clauses, one of them `case b: lost = 4`
  pub too_many_clauses_around_a_lost_left_side : told (block 0 ((t.SwitchStmt (at 2) t.NoStmt t.NoExpr (clauses_like 1000 (clause 20 (name (codes "b") 25 ∷ []) ((t.AssignStmt (at 28) (exprs ((name (codes "lost") 28) ∷ [])) None (exprs ((num (codes "4") 35) ∷ []))) ∷ []) t.NoClauses))) ∷ []) 39) ≡ []
  -- `{ x := lost; switch { case b: .. case b: x = 4 }; println(x) }`, with 1001 clauses
  pub too_many_clauses_around_an_untyped_left_side : told (block 0 ((t.DefineStmt (at 2) (exprs ((name (codes "x") 2) ∷ [])) (exprs ((name (codes "lost") 7) ∷ []))) ∷ (t.SwitchStmt (at 13) t.NoStmt t.NoExpr (clauses_like 1000 (clause 40 (name (codes "b") 45 ∷ []) ((t.AssignStmt (at 48) (exprs ((name (codes "x") 48) ∷ [])) None (exprs ((num (codes "4") 52) ∷ []))) ∷ []) t.NoClauses))) ∷ (t.ExprStmt (at 57) (exprs ((call (name (codes "println") 57) ((name (codes "x") 65) ∷ [])) ∷ []))) ∷ []) 68) ≡ []
  -- `{ x := 4; L: ; println(lost); switch { case b: .. } }`, with 1001 clauses
  pub too_many_clauses_after_all_of_these : told (block 0 ((t.DefineStmt (at 2) (exprs ((name (codes "x") 2) ∷ [])) (exprs ((num (codes "4") 7) ∷ []))) ∷ (t.LabeledStmt (at 10) (id (codes "L") 10) (t.EmptyStmt (at 13))) ∷ (t.ExprStmt (at 15) (exprs ((call (name (codes "println") 15) ((name (codes "lost") 23) ∷ [])) ∷ []))) ∷ (t.SwitchStmt (at 30) t.NoStmt t.NoExpr (clauses_like 1001 t.NoClauses)) ∷ []) 58) ≡ fault 30 76 ∷ named_fault 10 90 (codes "L") ∷ named_fault 2 80 (codes "x") ∷ []
  -- `{ switch i { case x: case 4, 4: } }`
  pub repeated_after_another_fault : told (block 0 ((t.SwitchStmt (at 2) t.NoStmt (t.AnExpr (name (codes "i") 9)) (clause 13 ((name (codes "x") 18) ∷ []) ([]) (clause 21 ((num (codes "4") 26) ∷ (num (codes "4") 29) ∷ []) ([]) t.NoClauses))) ∷ []) 34) ≡ named_fault 18 50 (codes "x") ∷ fault 29 92 ∷ []
  -- `{ switch { case i == 4: case b: } }`
  pub no_tag : told (block 0 ((t.SwitchStmt (at 2) t.NoStmt t.NoExpr (clause 11 ((two (name (codes "i") 16) operator.Eq (num (codes "4") 21)) ∷ []) ([]) (clause 24 ((name (codes "b") 29) ∷ []) ([]) t.NoClauses))) ∷ []) 34) ≡ []
  -- `{ switch { case 4: } }`
  pub no_tag_and_a_number : told (block 0 ((t.SwitchStmt (at 2) t.NoStmt t.NoExpr (clause 11 ((num (codes "4") 16) ∷ []) ([]) t.NoClauses)) ∷ []) 21) ≡ fault 16 55 ∷ []
  -- `{ switch nil { } }`
  pub tag_without_a_type : told (block 0 ((t.SwitchStmt (at 2) t.NoStmt (t.AnExpr (name (codes "nil") 9)) t.NoClauses) ∷ []) 17) ≡ fault 9 73 ∷ []
  -- `{ switch x { case 4: i = y } }`
  pub undefined_tag : told (block 0 ((t.SwitchStmt (at 2) t.NoStmt (t.AnExpr (name (codes "x") 9)) (clause 13 ((num (codes "4") 18) ∷ []) ((t.AssignStmt (at 21) (exprs ((name (codes "i") 21) ∷ [])) None (exprs ((name (codes "y") 25) ∷ []))) ∷ []) t.NoClauses)) ∷ []) 29) ≡ named_fault 9 50 (codes "x") ∷ named_fault 25 50 (codes "y") ∷ []
  -- `{ switch i { case 4: x := 4; i = x; case 6: i = x } }`
  pub clause_has_a_scope : told (block 0 ((t.SwitchStmt (at 2) t.NoStmt (t.AnExpr (name (codes "i") 9)) (clause 13 ((num (codes "4") 18) ∷ []) ((t.DefineStmt (at 21) (exprs ((name (codes "x") 21) ∷ [])) (exprs ((num (codes "4") 26) ∷ []))) ∷ (t.AssignStmt (at 29) (exprs ((name (codes "i") 29) ∷ [])) None (exprs ((name (codes "x") 33) ∷ []))) ∷ []) (clause 36 ((num (codes "6") 41) ∷ []) ((t.AssignStmt (at 44) (exprs ((name (codes "i") 44) ∷ [])) None (exprs ((name (codes "x") 48) ∷ []))) ∷ []) t.NoClauses))) ∷ []) 52) ≡ named_fault 48 50 (codes "x") ∷ []
  -- `{ switch i { case 4: i = 6; fallthrough; case 6: } }`
  pub falls_through : told (block 0 ((t.SwitchStmt (at 2) t.NoStmt (t.AnExpr (name (codes "i") 9)) (clause 13 ((num (codes "4") 18) ∷ []) ((t.AssignStmt (at 21) (exprs ((name (codes "i") 21) ∷ [])) None (exprs ((num (codes "6") 25) ∷ []))) ∷ (t.FallthroughStmt (at 28)) ∷ []) (clause 41 ((num (codes "6") 46) ∷ []) ([]) t.NoClauses))) ∷ []) 51) ≡ []
  -- `{ switch i { case 4: fallthrough } }`
  pub falls_through_the_end : told (block 0 ((t.SwitchStmt (at 2) t.NoStmt (t.AnExpr (name (codes "i") 9)) (clause 13 ((num (codes "4") 18) ∷ []) ((t.FallthroughStmt (at 21)) ∷ []) t.NoClauses)) ∷ []) 35) ≡ fault 21 91 ∷ []
  -- `{ fallthrough }`
  pub falls_through_nothing : told (block 0 ((t.FallthroughStmt (at 2)) ∷ []) 14) ≡ fault 2 91 ∷ []
  -- `{ switch i { case 4: fallthrough; i = 4; case 6: } }`
  pub falls_through_early : told (block 0 ((t.SwitchStmt (at 2) t.NoStmt (t.AnExpr (name (codes "i") 9)) (clause 13 ((num (codes "4") 18) ∷ []) ((t.FallthroughStmt (at 21)) ∷ (t.AssignStmt (at 34) (exprs ((name (codes "i") 34) ∷ [])) None (exprs ((num (codes "4") 38) ∷ []))) ∷ []) (clause 41 ((num (codes "6") 46) ∷ []) ([]) t.NoClauses))) ∷ []) 51) ≡ fault 21 91 ∷ []
  -- branches (89)
  -- `{ for { break }; switch { case b: break } }`
  pub breaks : told (block 0 ((t.ForStmt (at 2) t.NoStmt t.NoExpr t.NoStmt (block 6 ((t.BreakStmt (at 8) None) ∷ []) 14)) ∷ (t.SwitchStmt (at 17) t.NoStmt t.NoExpr (clause 26 ((name (codes "b") 31) ∷ []) ((t.BreakStmt (at 34) None) ∷ []) t.NoClauses)) ∷ []) 42) ≡ []
  -- `{ break }`
  pub break_alone : told (block 0 ((t.BreakStmt (at 2) None) ∷ []) 8) ≡ fault 2 89 ∷ []
  -- `{ switch { case b: continue } }`
  pub continue_alone : told (block 0 ((t.SwitchStmt (at 2) t.NoStmt t.NoExpr (clause 11 ((name (codes "b") 16) ∷ []) ((t.ContinueStmt (at 19) None) ∷ []) t.NoClauses)) ∷ []) 30) ≡ fault 19 89 ∷ []
  -- `{ for { switch { case b: continue } } }`
  pub continue_in_a_switch : told (block 0 ((t.ForStmt (at 2) t.NoStmt t.NoExpr t.NoStmt (block 6 ((t.SwitchStmt (at 8) t.NoStmt t.NoExpr (clause 17 ((name (codes "b") 22) ∷ []) ((t.ContinueStmt (at 25) None) ∷ []) t.NoClauses)) ∷ []) 36)) ∷ []) 38) ≡ []
  -- `{ L: for { for { break L; continue L } } }`
  pub labels : told (block 0 ((t.LabeledStmt (at 2) (id (codes "L") 2) (t.ForStmt (at 5) t.NoStmt t.NoExpr t.NoStmt (block 9 ((t.ForStmt (at 11) t.NoStmt t.NoExpr t.NoStmt (block 15 ((t.BreakStmt (at 17) (Some (id (codes "L") 23))) ∷ (t.ContinueStmt (at 26) (Some (id (codes "L") 35))) ∷ []) 37)) ∷ []) 39))) ∷ []) 41) ≡ []
  -- `{ L: switch { case b: for { break L } } }`
  pub label_of_a_switch : told (block 0 ((t.LabeledStmt (at 2) (id (codes "L") 2) (t.SwitchStmt (at 5) t.NoStmt t.NoExpr (clause 14 ((name (codes "b") 19) ∷ []) ((t.ForStmt (at 22) t.NoStmt t.NoExpr t.NoStmt (block 26 ((t.BreakStmt (at 28) (Some (id (codes "L") 34))) ∷ []) 36)) ∷ []) t.NoClauses))) ∷ []) 40) ≡ []
  -- `{ L: switch { case b: for { continue L } } }`
  pub continue_of_a_switch : told (block 0 ((t.LabeledStmt (at 2) (id (codes "L") 2) (t.SwitchStmt (at 5) t.NoStmt t.NoExpr (clause 14 ((name (codes "b") 19) ∷ []) ((t.ForStmt (at 22) t.NoStmt t.NoExpr t.NoStmt (block 26 ((t.ContinueStmt (at 28) (Some (id (codes "L") 37))) ∷ []) 39)) ∷ []) t.NoClauses))) ∷ []) 43) ≡ fault 37 89 ∷ []
  -- `{ for { break M } }`
  pub unknown_label : told (block 0 ((t.ForStmt (at 2) t.NoStmt t.NoExpr t.NoStmt (block 6 ((t.BreakStmt (at 8) (Some (id (codes "M") 14))) ∷ []) 16)) ∷ []) 18) ≡ fault 14 89 ∷ []
  -- `{ L: for { break } }`
  pub unused_label : told (block 0 ((t.LabeledStmt (at 2) (id (codes "L") 2) (t.ForStmt (at 5) t.NoStmt t.NoExpr t.NoStmt (block 9 ((t.BreakStmt (at 11) None) ∷ []) 17))) ∷ []) 19) ≡ named_fault 2 90 (codes "L") ∷ []
  -- `{ L: for { break L }; L: for { break L } }`
  pub label_twice : told (block 0 ((t.LabeledStmt (at 2) (id (codes "L") 2) (t.ForStmt (at 5) t.NoStmt t.NoExpr t.NoStmt (block 9 ((t.BreakStmt (at 11) (Some (id (codes "L") 17))) ∷ []) 19))) ∷ (t.LabeledStmt (at 22) (id (codes "L") 22) (t.ForStmt (at 25) t.NoStmt t.NoExpr t.NoStmt (block 29 ((t.BreakStmt (at 31) (Some (id (codes "L") 37))) ∷ []) 39))) ∷ []) 41) ≡ named_fault 22 82 (codes "L") ∷ []
  -- `{ x = 4; L: h() }`
  pub unused_label_after_another_fault : told (block 0 ((t.AssignStmt (at 2) (exprs ((name (codes "x") 2) ∷ [])) None (exprs ((num (codes "4") 6) ∷ []))) ∷ (t.LabeledStmt (at 9) (id (codes "L") 9) (t.ExprStmt (at 12) (exprs ((call (name (codes "h") 12) []) ∷ [])))) ∷ []) 16) ≡ named_fault 2 50 (codes "x") ∷ named_fault 9 90 (codes "L") ∷ []
  -- `{ L: for { break L }; for { break L } }`
  pub label_of_another : told (block 0 ((t.LabeledStmt (at 2) (id (codes "L") 2) (t.ForStmt (at 5) t.NoStmt t.NoExpr t.NoStmt (block 9 ((t.BreakStmt (at 11) (Some (id (codes "L") 17))) ∷ []) 19))) ∷ (t.ForStmt (at 22) t.NoStmt t.NoExpr t.NoStmt (block 26 ((t.BreakStmt (at 28) (Some (id (codes "L") 34))) ∷ []) 36)) ∷ []) 38) ≡ fault 34 89 ∷ []
  -- `{ x = 4; break }`
  pub break_after_another_fault : told (block 0 ((t.AssignStmt (at 2) (exprs ((name (codes "x") 2) ∷ [])) None (exprs ((num (codes "4") 6) ∷ []))) ∷ (t.BreakStmt (at 9) None) ∷ []) 15) ≡ named_fault 2 50 (codes "x") ∷ fault 9 89 ∷ []
  -- a label `_` is declared nowhere
  -- `{ _: for { break } }`
  pub blank_label : told (block 0 ((t.LabeledStmt (at 2) (id (codes "_") 2) (t.ForStmt (at 5) t.NoStmt t.NoExpr t.NoStmt (block 9 ((t.BreakStmt (at 11) None) ∷ []) 17))) ∷ []) 19) ≡ []
  -- `{ _: ; _: ; }`
  pub blank_labels : told (block 0 ((t.LabeledStmt (at 2) (id (codes "_") 2) (t.EmptyStmt (at 5))) ∷ (t.LabeledStmt (at 7) (id (codes "_") 7) (t.EmptyStmt (at 10))) ∷ []) 12) ≡ []
  -- `{ _: for { break _ } }`
  pub break_to_blank : told (block 0 ((t.LabeledStmt (at 2) (id (codes "_") 2) (t.ForStmt (at 5) t.NoStmt t.NoExpr t.NoStmt (block 9 ((t.BreakStmt (at 11) (Some (id (codes "_") 17))) ∷ []) 19))) ∷ []) 21) ≡ fault 17 89 ∷ []
  -- `{ _: for { continue _ } }`
  pub continue_of_blank : told (block 0 ((t.LabeledStmt (at 2) (id (codes "_") 2) (t.ForStmt (at 5) t.NoStmt t.NoExpr t.NoStmt (block 9 ((t.ContinueStmt (at 11) (Some (id (codes "_") 20))) ∷ []) 22))) ∷ []) 24) ≡ fault 20 89 ∷ []
  -- `{ _: L: for { break L } }`
  pub label_after_blank : told (block 0 ((t.LabeledStmt (at 2) (id (codes "_") 2) (t.LabeledStmt (at 5) (id (codes "L") 5) (t.ForStmt (at 8) t.NoStmt t.NoExpr t.NoStmt (block 12 ((t.BreakStmt (at 14) (Some (id (codes "L") 20))) ∷ []) 22)))) ∷ []) 24) ≡ []
  -- `{ L: _: for { break L } }`: the loop has the label before it alone
  pub label_before_blank : told (block 0 ((t.LabeledStmt (at 2) (id (codes "L") 2) (t.LabeledStmt (at 5) (id (codes "_") 5) (t.ForStmt (at 8) t.NoStmt t.NoExpr t.NoStmt (block 12 ((t.BreakStmt (at 14) (Some (id (codes "L") 20))) ∷ []) 22)))) ∷ []) 24) ≡ fault 20 89 ∷ []
  -- results (88, 87)
  -- `{ return 4 }`
  pub result : told_in (one_type int) (block 0 ((t.ReturnStmt (at 2) (exprs ((num (codes "4") 9) ∷ []))) ∷ []) 11) ≡ []
  -- `{ return "a" }`
  pub other_result : told_in (one_type int) (block 0 ((t.ReturnStmt (at 2) (exprs ((str (codes "a") 9) ∷ []))) ∷ []) 13) ≡ fault 9 61 ∷ []
  -- `{ return 5000000000 }`
  pub result_past_its_type : told_in (one_type int) (block 0 ((t.ReturnStmt (at 2) (exprs ((num (codes "5000000000") 9) ∷ []))) ∷ []) 20) ≡ fault 9 32 ∷ []
  -- `{ return }`
  pub no_result : told_in (one_type int) (block 0 ((t.ReturnStmt (at 2) (exprs ([]))) ∷ []) 9) ≡ fault 2 88 ∷ []
  -- `{ return 4, 6 }`
  pub two_for_one : told_in (one_type int) (block 0 ((t.ReturnStmt (at 2) (exprs ((num (codes "4") 9) ∷ (num (codes "6") 12) ∷ []))) ∷ []) 14) ≡ fault 2 88 ∷ []
  -- `{ return g() }`
  pub two_results_of_a_call_for_one : told_in (one_type int) (block 0 ((t.ReturnStmt (at 2) (exprs ((call (name (codes "g") 9) []) ∷ []))) ∷ []) 13) ≡ fault 2 88 ∷ []
  -- `{ return g() }`
  pub results_of_a_call : told_in (two_types int ty.str) (block 0 ((t.ReturnStmt (at 2) (exprs ((call (name (codes "g") 9) []) ∷ []))) ∷ []) 13) ≡ []
  -- `{ return 4, "a" }`
  pub results : told_in (two_types int ty.str) (block 0 ((t.ReturnStmt (at 2) (exprs ((num (codes "4") 9) ∷ (str (codes "a") 12) ∷ []))) ∷ []) 16) ≡ []
  -- `{ return 4 }`
  pub result_of_none : told (block 0 ((t.ReturnStmt (at 2) (exprs ((num (codes "4") 9) ∷ []))) ∷ []) 11) ≡ fault 2 88 ∷ []
  -- `{ return }`
  pub return_of_none : told (block 0 ((t.ReturnStmt (at 2) (exprs ([]))) ∷ []) 9) ≡ []
  -- `{ if x { }; return }`
  pub wrong_count_after_another_fault : told_in (one_type int) (block 0 ((t.IfStmt (at 2) t.NoStmt (name (codes "x") 5) (block 7 ([]) 9) t.NoStmt) ∷ (t.ReturnStmt (at 12) (exprs ([]))) ∷ []) 19) ≡ named_fault 5 50 (codes "x") ∷ fault 12 88 ∷ []
  -- `{ }`
  pub missing_return : told_in (one_type int) (block 0 ([]) 2) ≡ fault 2 87 ∷ []
  -- `{ println(i) }`
  pub missing_return_after_a_typed_name : told_in (one_type int) (block 0 ((t.ExprStmt (at 2) (exprs ((call (name (codes "println") 2) ((name (codes "i") 10) ∷ [])) ∷ []))) ∷ []) 13) ≡ fault 13 87 ∷ []
  -- `{ println(lost) }`
  pub missing_return_after_a_lost_name : told_in (one_type int) (block 0 ((t.ExprStmt (at 2) (exprs ((call (name (codes "println") 2) ((name (codes "lost") 10) ∷ [])) ∷ []))) ∷ []) 16) ≡ []
  -- `{ lost := 4; i = lost }`: a name of the function's own
  pub missing_return_after_an_own_name : told_in (one_type int) (block 0 ((t.DefineStmt (at 2) (exprs ((name (codes "lost") 2) ∷ [])) (exprs ((num (codes "4") 10) ∷ []))) ∷ (t.AssignStmt (at 13) (exprs ((name (codes "i") 13) ∷ [])) None (exprs ((name (codes "lost") 17) ∷ []))) ∷ []) 22) ≡ fault 22 87 ∷ []
  -- `{ lost := 4; println(lost) }`
  pub missing_return_after_an_own_name_is_printed : told_in (one_type int) (block 0 ((t.DefineStmt (at 2) (exprs ((name (codes "lost") 2) ∷ [])) (exprs ((num (codes "4") 10) ∷ []))) ∷ (t.ExprStmt (at 13) (exprs ((call (name (codes "println") 13) ((name (codes "lost") 21) ∷ [])) ∷ []))) ∷ []) 27) ≡ fault 27 87 ∷ []
  -- `{ (lost) := 4 }`
  pub missing_return_after_a_lost_name_in_parentheses : told_in (one_type int) (block 0 ((t.DefineStmt (at 2) (exprs ((t.ParenExpr (at 2) (name (codes "lost") 3)) ∷ [])) (exprs ((num (codes "4") 12) ∷ []))) ∷ []) 14) ≡ []
  -- `{ lost = 4 }`
  pub missing_return_after_a_lost_left_side : told_in (one_type int) (block 0 ((t.AssignStmt (at 2) (exprs ((name (codes "lost") 2) ∷ [])) None (exprs ((num (codes "4") 9) ∷ []))) ∷ []) 11) ≡ []
  -- `{ x := lost; x = 4; println(x) }`
  pub missing_return_after_an_untyped_left_side : told_in (one_type int) (block 0 ((t.DefineStmt (at 2) (exprs ((name (codes "x") 2) ∷ [])) (exprs ((name (codes "lost") 7) ∷ []))) ∷ (t.AssignStmt (at 13) (exprs ((name (codes "x") 13) ∷ [])) None (exprs ((num (codes "4") 17) ∷ []))) ∷ (t.ExprStmt (at 20) (exprs ((call (name (codes "println") 20) ((name (codes "x") 28) ∷ [])) ∷ []))) ∷ []) 31) ≡ []
  -- `{ x := 4 }`
  pub missing_return_after_an_unused_name : told_in (one_type int) (block 0 ((t.DefineStmt (at 2) (exprs ((name (codes "x") 2) ∷ [])) (exprs ((num (codes "4") 7) ∷ []))) ∷ []) 9) ≡ named_fault 2 80 (codes "x") ∷ []
  -- `{ L: ; }`
  pub missing_return_after_an_unused_label : told_in (one_type int) (block 0 ((t.LabeledStmt (at 2) (id (codes "L") 2) (t.EmptyStmt (at 5))) ∷ []) 7) ≡ named_fault 2 90 (codes "L") ∷ []
  -- `{ if b { return 4 } else { return 6 } }`
  pub both_ways_return : told_in (one_type int) (block 0 ((t.IfStmt (at 2) t.NoStmt (name (codes "b") 5) (block 7 ((t.ReturnStmt (at 9) (exprs ((num (codes "4") 16) ∷ []))) ∷ []) 18) (t.AStmt (t.BlockStmt (at 25) (block 25 ((t.ReturnStmt (at 27) (exprs ((num (codes "6") 34) ∷ []))) ∷ []) 36)))) ∷ []) 38) ≡ []
  -- `{ if b { return 4 } }`
  pub one_way_returns : told_in (one_type int) (block 0 ((t.IfStmt (at 2) t.NoStmt (name (codes "b") 5) (block 7 ((t.ReturnStmt (at 9) (exprs ((num (codes "4") 16) ∷ []))) ∷ []) 18) t.NoStmt) ∷ []) 20) ≡ fault 20 87 ∷ []
  -- `{ for { } }`
  pub endless_loop : told_in (one_type int) (block 0 ((t.ForStmt (at 2) t.NoStmt t.NoExpr t.NoStmt (block 6 ([]) 8)) ∷ []) 10) ≡ []
  -- `{ for { break } }`
  pub loop_that_ends : told_in (one_type int) (block 0 ((t.ForStmt (at 2) t.NoStmt t.NoExpr t.NoStmt (block 6 ((t.BreakStmt (at 8) None) ∷ []) 14)) ∷ []) 16) ≡ fault 16 87 ∷ []
  -- `{ switch i { case 4: return 4; default: return 6 } }`
  pub each_clause_returns : told_in (one_type int) (block 0 ((t.SwitchStmt (at 2) t.NoStmt (t.AnExpr (name (codes "i") 9)) (clause 13 ((num (codes "4") 18) ∷ []) ((t.ReturnStmt (at 21) (exprs ((num (codes "4") 28) ∷ []))) ∷ []) (clause 31 ([]) ((t.ReturnStmt (at 40) (exprs ((num (codes "6") 47) ∷ []))) ∷ []) t.NoClauses))) ∷ []) 51) ≡ []
  -- `{ switch i { case 4: return 4 } }`
  pub no_default : told_in (one_type int) (block 0 ((t.SwitchStmt (at 2) t.NoStmt (t.AnExpr (name (codes "i") 9)) (clause 13 ((num (codes "4") 18) ∷ []) ((t.ReturnStmt (at 21) (exprs ((num (codes "4") 28) ∷ []))) ∷ []) t.NoClauses)) ∷ []) 32) ≡ fault 32 87 ∷ []
  -- `{ L: for { for { break L } } }`
  pub labeled_break : told_in (one_type int) (block 0 ((t.LabeledStmt (at 2) (id (codes "L") 2) (t.ForStmt (at 5) t.NoStmt t.NoExpr t.NoStmt (block 9 ((t.ForStmt (at 11) t.NoStmt t.NoExpr t.NoStmt (block 15 ((t.BreakStmt (at 17) (Some (id (codes "L") 23))) ∷ []) 25)) ∷ []) 27))) ∷ []) 29) ≡ fault 29 87 ∷ []
  -- `{ return 4; ; }`
  pub empty_after_return : told_in (one_type int) (block 0 ((t.ReturnStmt (at 2) (exprs ((num (codes "4") 9) ∷ []))) ∷ (t.EmptyStmt (at 12)) ∷ []) 14) ≡ []
  -- `{ { return 4 } }`
  pub block_that_returns : told_in (one_type int) (block 0 ((t.BlockStmt (at 2) (block 2 ((t.ReturnStmt (at 4) (exprs ((num (codes "4") 11) ∷ []))) ∷ []) 13)) ∷ []) 15) ≡ []
  -- `{ return 4; { } }`
  pub block_after_return : told_in (one_type int) (block 0 ((t.ReturnStmt (at 2) (exprs ((num (codes "4") 9) ∷ []))) ∷ (t.BlockStmt (at 12) (block 12 ([]) 14)) ∷ []) 16) ≡ fault 16 87 ∷ []
  -- `{ return 4; const x = 4 }`
  pub constant_after_return : told_in (one_type int) (block 0 ((t.ReturnStmt (at 2) (exprs ((num (codes "4") 9) ∷ []))) ∷ (t.DeclStmt (at 12) (t.ConstDecl (at 12) (spec ((id (codes "x") 18) ∷ []) t.NoExpr ((num (codes "4") 22) ∷ []) t.NoValues))) ∷ []) 24) ≡ fault 24 87 ∷ []
  -- `{ return 4; type T int }`
  pub type_after_return : told_in (one_type int) (block 0 ((t.ReturnStmt (at 2) (exprs ((num (codes "4") 9) ∷ []))) ∷ (t.DeclStmt (at 12) (t.TypeDecl (at 12) (t.MoreTypes (id (codes "T") 17) false (name (codes "int") 19) t.NoTypes))) ∷ []) 23) ≡ fault 23 87 ∷ []
  -- `{ return 4; var ( ) }`
  pub no_variables_after_return : told_in (one_type int) (block 0 ((t.ReturnStmt (at 2) (exprs ((num (codes "4") 9) ∷ []))) ∷ (t.DeclStmt (at 12) (t.VarDecl (at 12) t.NoValues)) ∷ []) 20) ≡ fault 20 87 ∷ []
  -- `{ if b { return 4 } else { return 6; { } } }`
  pub block_after_return_in_else : told_in (one_type int) (block 0 ((t.IfStmt (at 2) t.NoStmt (name (codes "b") 5) (block 7 ((t.ReturnStmt (at 9) (exprs ((num (codes "4") 16) ∷ []))) ∷ []) 18) (t.AStmt (t.BlockStmt (at 25) (block 25 ((t.ReturnStmt (at 27) (exprs ((num (codes "6") 34) ∷ []))) ∷ (t.BlockStmt (at 37) (block 37 ([]) 39)) ∷ []) 41)))) ∷ []) 43) ≡ fault 43 87 ∷ []
  -- not built yet (0)
  -- `{ go h() }`
  pub go_statement : told (block 0 ((t.GoStmt (at 2) (call (name (codes "h") 5) [])) ∷ []) 9) ≡ fault 2 0 ∷ []
  -- `{ defer h() }`
  pub defer_statement : told (block 0 ((t.DeferStmt (at 2) (call (name (codes "h") 8) [])) ∷ []) 12) ≡ fault 2 0 ∷ []

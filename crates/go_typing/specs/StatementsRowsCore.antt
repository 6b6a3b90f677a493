-- Rows by hand: what statements become. Go specification (as of Go 1.17), "Statements", "Order of evaluation".
use Rattle.std.specs.Prelude.{◌≡◌, [], ◌∷◌, true, false, Some, None, codes}
use Rattle.gj_base.specs.declared.kind.Op.TheVariants as operator
use Rattle.go_syntax.specs.Tree as t
use Rattle.go_type.specs.Tree as ty
use Rattle.go_core.specs.CoreTree as core
use Rattle.go_typing.specs.TypingRowWords.{at, name, num, two, exprs, call, int, int64, uint8, one_type, two_types, var, i_, s_, num_at, args}
use Rattle.go_typing.specs.StatementsRowWords.{block, id, clause, spec, core_of}

pub record RowsCore : Type 0 where
  -- `{ x := 4; i = x }`
  pub declared_and_used : core_of (block 0 ((t.DefineStmt (at 2) (exprs ((name (codes "x") 2) ∷ [])) (exprs ((num (codes "4") 7) ∷ []))) ∷ (t.AssignStmt (at 10) (exprs ((name (codes "i") 10) ∷ [])) None (exprs ((name (codes "x") 14) ∷ []))) ∷ []) 16) ≡ core.declare (record { id = 20; type_ = int }) ∷ core.store (core.to_place int (core.local_ 20) ∷ []) (args ((num_at int 4) ∷ [])) ∷ core.store (core.to_place int (core.local_ 1) ∷ []) (args ((var int 20) ∷ [])) ∷ []
  -- `{ var x uint8; u = x }`
  pub zero_variable : core_of (block 0 ((t.DeclStmt (at 2) (t.VarDecl (at 2) (spec ((id (codes "x") 6) ∷ []) (t.AnExpr (name (codes "uint8") 8)) ([]) t.NoValues))) ∷ (t.AssignStmt (at 15) (exprs ((name (codes "u") 15) ∷ [])) None (exprs ((name (codes "x") 19) ∷ []))) ∷ []) 21) ≡ core.declare (record { id = 20; type_ = uint8 }) ∷ core.store (core.to_place uint8 (core.local_ 3) ∷ []) (args ((var uint8 20) ∷ [])) ∷ []
  -- `{ x := 4; x, y := 6, x; i, w = x, 1 << y }`
  pub new_and_old : core_of (block 0 ((t.DefineStmt (at 2) (exprs ((name (codes "x") 2) ∷ [])) (exprs ((num (codes "4") 7) ∷ []))) ∷ (t.DefineStmt (at 10) (exprs ((name (codes "x") 10) ∷ (name (codes "y") 13) ∷ [])) (exprs ((num (codes "6") 18) ∷ (name (codes "x") 21) ∷ []))) ∷ (t.AssignStmt (at 24) (exprs ((name (codes "i") 24) ∷ (name (codes "w") 27) ∷ [])) None (exprs ((name (codes "x") 31) ∷ (two (num (codes "1") 34) operator.Shl (name (codes "y") 39)) ∷ []))) ∷ []) 41) ≡ core.declare (record { id = 20; type_ = int }) ∷ core.store (core.to_place int (core.local_ 20) ∷ []) (args ((num_at int 4) ∷ [])) ∷ core.declare (record { id = 21; type_ = int }) ∷ core.store (core.to_place int (core.local_ 20) ∷ core.to_place int (core.local_ 21) ∷ []) (args ((num_at int 6) ∷ (var int 20) ∷ [])) ∷ core.store (core.to_place int (core.local_ 1) ∷ core.to_place int64 (core.local_ 2) ∷ []) (args ((var int 20) ∷ (core.binary operator.Shl int64 (num_at int64 1) (var int 21)) ∷ [])) ∷ []
  -- `{ i += 4 }`
  pub operator_and_assignment : core_of (block 0 ((t.AssignStmt (at 2) (exprs ((name (codes "i") 2) ∷ [])) (Some operator.Add) (exprs ((num (codes "4") 7) ∷ []))) ∷ []) 9) ≡ core.store (core.to_place int (core.local_ 1) ∷ []) (args ((core.binary operator.Add int i_ (num_at int 4)) ∷ [])) ∷ []
  -- `{ i++ }`
  pub stepped : core_of (block 0 ((t.IncDecStmt (at 2) (exprs ((name (codes "i") 2) ∷ [])) true) ∷ []) 6) ≡ core.store (core.to_place int (core.local_ 1) ∷ []) (args ((core.binary operator.Add int i_ (num_at int 1)) ∷ [])) ∷ []
  -- `{ i, _ = g() }`
  pub values_of_a_call : core_of (block 0 ((t.AssignStmt (at 2) (exprs ((name (codes "i") 2) ∷ (name (codes "_") 5) ∷ [])) None (exprs ((call (name (codes "g") 9) []) ∷ []))) ∷ []) 13) ≡ core.store (core.to_place int (core.local_ 1) ∷ core.blank ∷ []) (args ((core.call (two_types int ty.str) (core.function 12) core.no_exprs) ∷ [])) ∷ []
  -- `{ h() }`
  pub performed : core_of (block 0 ((t.ExprStmt (at 2) (exprs ((call (name (codes "h") 2) []) ∷ []))) ∷ []) 6) ≡ core.perform (core.call ty.no_tys (core.function 14) core.no_exprs) 0 ∷ []
  -- `{ f(i, s) }`
  pub call_with_a_result : core_of (block 0 ((t.ExprStmt (at 2) (exprs ((call (name (codes "f") 2) ((name (codes "i") 4) ∷ (name (codes "s") 7) ∷ [])) ∷ []))) ∷ []) 10) ≡ core.perform (core.call (one_type int) (core.function 10) (args (i_ ∷ s_ ∷ []))) 1 ∷ []
  -- `{ println(i) }`
  pub printed : core_of (block 0 ((t.ExprStmt (at 2) (exprs ((call (name (codes "println") 2) ((name (codes "i") 10) ∷ [])) ∷ []))) ∷ []) 13) ≡ core.print (args (i_ ∷ [])) true ∷ []
  -- `{ if i == 4 { i++ } }`
  pub condition : core_of (block 0 ((t.IfStmt (at 2) t.NoStmt (two (name (codes "i") 5) operator.Eq (num (codes "4") 10)) (block 12 ((t.IncDecStmt (at 14) (exprs ((name (codes "i") 14) ∷ [])) true) ∷ []) 18) t.NoStmt) ∷ []) 20) ≡ core.if_ (core.equal false int ty.bool i_ (num_at int 4)) (core.stmt (core.store (core.to_place int (core.local_ 1) ∷ []) (args ((core.binary operator.Add int i_ (num_at int 1)) ∷ []))) core.no_stmts) core.no_stmts ∷ []
  -- `{ for i < 4 { i++ } }`
  pub loop_with_a_condition : core_of (block 0 ((t.ForStmt (at 2) t.NoStmt (t.AnExpr (two (name (codes "i") 6) operator.Lt (num (codes "4") 10))) t.NoStmt (block 12 ((t.IncDecStmt (at 14) (exprs ((name (codes "i") 14) ∷ [])) true) ∷ []) 18)) ∷ []) 20) ≡ core.loop 0 (core.bound (core.less operator.Lt int ty.bool i_ (num_at int 4))) (core.stmt (core.store (core.to_place int (core.local_ 1) ∷ []) (args ((core.binary operator.Add int i_ (num_at int 1)) ∷ []))) core.no_stmts) core.no_stmts ∷ []
  -- `{ for x := 0; ; x++ { } }`
  pub loop_with_a_header : core_of (block 0 ((t.ForStmt (at 2) (t.AStmt (t.DefineStmt (at 6) (exprs ((name (codes "x") 6) ∷ [])) (exprs ((num (codes "0") 11) ∷ [])))) t.NoExpr (t.AStmt (t.IncDecStmt (at 16) (exprs ((name (codes "x") 16) ∷ [])) true)) (block 20 ([]) 22)) ∷ []) 24) ≡ core.declare (record { id = 20; type_ = int }) ∷ core.store (core.to_place int (core.local_ 20) ∷ []) (args ((num_at int 0) ∷ [])) ∷ core.loop 0 core.no_bound core.no_stmts (core.stmt (core.store (core.to_place int (core.local_ 20) ∷ []) (args ((core.binary operator.Add int (var int 20) (num_at int 1)) ∷ []))) core.no_stmts) ∷ []
  -- `{ L: for { for { continue L }; break } }`
  pub branches : core_of (block 0 ((t.LabeledStmt (at 2) (id (codes "L") 2) (t.ForStmt (at 5) t.NoStmt t.NoExpr t.NoStmt (block 9 ((t.ForStmt (at 11) t.NoStmt t.NoExpr t.NoStmt (block 15 ((t.ContinueStmt (at 17) (Some (id (codes "L") 26))) ∷ []) 28)) ∷ (t.BreakStmt (at 31) None) ∷ []) 37))) ∷ []) 39) ≡ core.loop 0 core.no_bound (core.stmt (core.loop 1 core.no_bound (core.stmt (core.branch core.continue_ 0) core.no_stmts) core.no_stmts) (core.stmt (core.branch core.break_ 0) core.no_stmts)) core.no_stmts ∷ []
  -- `{ switch i { case 4, 6: i++; fallthrough; default: } }`
  pub switch_on_a_value : core_of (block 0 ((t.SwitchStmt (at 2) t.NoStmt (t.AnExpr (name (codes "i") 9)) (clause 13 ((num (codes "4") 18) ∷ (num (codes "6") 21) ∷ []) ((t.IncDecStmt (at 24) (exprs ((name (codes "i") 24) ∷ [])) true) ∷ (t.FallthroughStmt (at 29)) ∷ []) (clause 42 ([]) ([]) t.NoClauses))) ∷ []) 53) ≡ core.declare (record { id = 20; type_ = int }) ∷ core.store (core.to_place int (core.local_ 20) ∷ []) (args (i_ ∷ [])) ∷ core.switch_on 0 (core.test (core.equal false int ty.bool (var int 20) (num_at int 4)) 0 (core.test (core.equal false int ty.bool (var int 20) (num_at int 6)) 0 core.no_tests)) (core.clause (core.stmt (core.store (core.to_place int (core.local_ 1) ∷ []) (args ((core.binary operator.Add int i_ (num_at int 1)) ∷ []))) core.no_stmts) true (core.clause core.no_stmts false core.no_clauses)) (Some 1) ∷ []
  -- `{ return }`
  pub return_alone : core_of (block 0 ((t.ReturnStmt (at 2) (exprs ([]))) ∷ []) 9) ≡ core.return_ core.no_exprs ∷ []
  -- `{ const x = 4; type T int; i = x }`
  pub constants_do_nothing : core_of (block 0 ((t.DeclStmt (at 2) (t.ConstDecl (at 2) (spec ((id (codes "x") 8) ∷ []) t.NoExpr ((num (codes "4") 12) ∷ []) t.NoValues))) ∷ (t.DeclStmt (at 15) (t.TypeDecl (at 15) (t.MoreTypes (id (codes "T") 20) false (name (codes "int") 22) t.NoTypes))) ∷ (t.AssignStmt (at 27) (exprs ((name (codes "i") 27) ∷ [])) None (exprs ((name (codes "x") 31) ∷ []))) ∷ []) 33) ≡ core.sequence core.no_stmts ∷ core.sequence core.no_stmts ∷ core.store (core.to_place int (core.local_ 1) ∷ []) (args ((num_at int 4) ∷ [])) ∷ []
  -- `{ { }; { i = 4 } }`
  pub empty_block_does_nothing : core_of (block 0 ((t.BlockStmt (at 2) (block 2 ([]) 4)) ∷ (t.BlockStmt (at 7) (block 7 ((t.AssignStmt (at 9) (exprs ((name (codes "i") 9) ∷ [])) None (exprs ((num (codes "4") 13) ∷ []))) ∷ []) 15)) ∷ []) 17) ≡ core.sequence core.no_stmts ∷ core.store (core.to_place int (core.local_ 1) ∷ []) (args ((num_at int 4) ∷ [])) ∷ []

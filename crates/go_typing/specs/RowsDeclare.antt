-- Rows by hand: declarations in functions. Go specification (as of Go 1.17), "Variable declarations", "Constant declarations",
-- "Iota", "Type declarations".
use Rattle.std.specs.Prelude.{◌≡◌, [], ◌∷◌, true, false, None, codes}
use Rattle.gj_base.specs.declared.kind.Op.TheVariants as operator
use Rattle.go_syntax.specs.Tree as t
use Rattle.go_typing.specs.TypingRowWords.{at, name, num, str, paren, two, exprs, call, fault, named_fault}
use Rattle.go_typing.specs.StatementsRowWords.{block, id, spec, told}

pub record RowsDeclare : Type 0 where
  -- variables
  -- `{ var x int; i = x }`
  pub zero : told (block 0 ((t.DeclStmt (at 2) (t.VarDecl (at 2) (spec ((id (codes "x") 6) ∷ []) (t.AnExpr (name (codes "int") 8)) ([]) t.NoValues))) ∷ (t.AssignStmt (at 13) (exprs ((name (codes "i") 13) ∷ [])) None (exprs ((name (codes "x") 17) ∷ []))) ∷ []) 19) ≡ []
  -- `{ var x int64 = 1 << i; w = x }`
  pub with_a_value : told (block 0 ((t.DeclStmt (at 2) (t.VarDecl (at 2) (spec ((id (codes "x") 6) ∷ []) (t.AnExpr (name (codes "int64") 8)) ((two (num (codes "1") 16) operator.Shl (name (codes "i") 21)) ∷ []) t.NoValues))) ∷ (t.AssignStmt (at 24) (exprs ((name (codes "w") 24) ∷ [])) None (exprs ((name (codes "x") 28) ∷ []))) ∷ []) 30) ≡ []
  -- `{ var x, y = 4, "a"; i, s = x, y }`
  pub without_a_type : told (block 0 ((t.DeclStmt (at 2) (t.VarDecl (at 2) (spec ((id (codes "x") 6) ∷ (id (codes "y") 9) ∷ []) t.NoExpr ((num (codes "4") 13) ∷ (str (codes "a") 16) ∷ []) t.NoValues))) ∷ (t.AssignStmt (at 21) (exprs ((name (codes "i") 21) ∷ (name (codes "s") 24) ∷ [])) None (exprs ((name (codes "x") 28) ∷ (name (codes "y") 31) ∷ []))) ∷ []) 33) ≡ []
  -- `{ var x, y = g(); i, s = x, y }`
  pub of_a_call : told (block 0 ((t.DeclStmt (at 2) (t.VarDecl (at 2) (spec ((id (codes "x") 6) ∷ (id (codes "y") 9) ∷ []) t.NoExpr ((call (name (codes "g") 13) []) ∷ []) t.NoValues))) ∷ (t.AssignStmt (at 18) (exprs ((name (codes "i") 18) ∷ (name (codes "s") 21) ∷ [])) None (exprs ((name (codes "x") 25) ∷ (name (codes "y") 28) ∷ []))) ∷ []) 30) ≡ []
  -- `{ var x, y int = g(); _, _ = x, y }`
  pub of_a_call_with_a_type : told (block 0 ((t.DeclStmt (at 2) (t.VarDecl (at 2) (spec ((id (codes "x") 6) ∷ (id (codes "y") 9) ∷ []) (t.AnExpr (name (codes "int") 11)) ((call (name (codes "g") 17) []) ∷ []) t.NoValues))) ∷ (t.AssignStmt (at 22) (exprs ((name (codes "_") 22) ∷ (name (codes "_") 25) ∷ [])) None (exprs ((name (codes "x") 29) ∷ (name (codes "y") 32) ∷ []))) ∷ []) 34) ≡ fault 17 61 ∷ []
  -- `{ var x int = "a"; _ = x }`
  pub not_assignable : told (block 0 ((t.DeclStmt (at 2) (t.VarDecl (at 2) (spec ((id (codes "x") 6) ∷ []) (t.AnExpr (name (codes "int") 8)) ((str (codes "a") 14) ∷ []) t.NoValues))) ∷ (t.AssignStmt (at 19) (exprs ((name (codes "_") 19) ∷ [])) None (exprs ((name (codes "x") 23) ∷ []))) ∷ []) 25) ≡ fault 14 61 ∷ []
  -- `{ var x uint8 = 256; _ = x }`
  pub past_its_type : told (block 0 ((t.DeclStmt (at 2) (t.VarDecl (at 2) (spec ((id (codes "x") 6) ∷ []) (t.AnExpr (name (codes "uint8") 8)) ((num (codes "256") 16) ∷ []) t.NoValues))) ∷ (t.AssignStmt (at 21) (exprs ((name (codes "_") 21) ∷ [])) None (exprs ((name (codes "x") 25) ∷ []))) ∷ []) 27) ≡ fault 16 32 ∷ []
  -- `{ var x, y = 4; _, _ = x, y }`
  pub two_for_one : told (block 0 ((t.DeclStmt (at 2) (t.VarDecl (at 2) (spec ((id (codes "x") 6) ∷ (id (codes "y") 9) ∷ []) t.NoExpr ((num (codes "4") 13) ∷ []) t.NoValues))) ∷ (t.AssignStmt (at 16) (exprs ((name (codes "_") 16) ∷ (name (codes "_") 19) ∷ [])) None (exprs ((name (codes "x") 23) ∷ (name (codes "y") 26) ∷ []))) ∷ []) 28) ≡ fault 6 84 ∷ []
  -- `{ var x x; _ = x }`
  pub undefined_type : told (block 0 ((t.DeclStmt (at 2) (t.VarDecl (at 2) (spec ((id (codes "x") 6) ∷ []) (t.AnExpr (name (codes "x") 8)) ([]) t.NoValues))) ∷ (t.AssignStmt (at 11) (exprs ((name (codes "_") 11) ∷ [])) None (exprs ((name (codes "x") 15) ∷ []))) ∷ []) 17) ≡ named_fault 8 50 (codes "x") ∷ []
  -- `{ var x i; _ = x }`
  pub variable_as_a_type : told (block 0 ((t.DeclStmt (at 2) (t.VarDecl (at 2) (spec ((id (codes "x") 6) ∷ []) (t.AnExpr (name (codes "i") 8)) ([]) t.NoValues))) ∷ (t.AssignStmt (at 11) (exprs ((name (codes "_") 11) ∷ [])) None (exprs ((name (codes "x") 15) ∷ []))) ∷ []) 17) ≡ fault 8 51 ∷ []
  -- `{ var x []int; _ = x }`
  pub type_that_is_not_built : told (block 0 ((t.DeclStmt (at 2) (t.VarDecl (at 2) (spec ((id (codes "x") 6) ∷ []) (t.AnExpr (t.SliceType (at 8) (name (codes "int") 10))) ([]) t.NoValues))) ∷ (t.AssignStmt (at 15) (exprs ((name (codes "_") 15) ∷ [])) None (exprs ((name (codes "x") 19) ∷ []))) ∷ []) 21) ≡ fault 8 0 ∷ []
  -- `{ var x []int }`
  pub unused_of_a_type_that_is_not_built : told (block 0 ((t.DeclStmt (at 2) (t.VarDecl (at 2) (spec ((id (codes "x") 6) ∷ []) (t.AnExpr (t.SliceType (at 8) (name (codes "int") 10))) ([]) t.NoValues))) ∷ []) 14) ≡ fault 8 0 ∷ []
  -- `{ var x int }`
  pub not_used : told (block 0 ((t.DeclStmt (at 2) (t.VarDecl (at 2) (spec ((id (codes "x") 6) ∷ []) (t.AnExpr (name (codes "int") 8)) ([]) t.NoValues))) ∷ []) 12) ≡ named_fault 6 80 (codes "x") ∷ []
  -- `{ var x int; var x string; i = x }`
  pub twice : told (block 0 ((t.DeclStmt (at 2) (t.VarDecl (at 2) (spec ((id (codes "x") 6) ∷ []) (t.AnExpr (name (codes "int") 8)) ([]) t.NoValues))) ∷ (t.DeclStmt (at 13) (t.VarDecl (at 13) (spec ((id (codes "x") 17) ∷ []) (t.AnExpr (name (codes "string") 19)) ([]) t.NoValues))) ∷ (t.AssignStmt (at 27) (exprs ((name (codes "i") 27) ∷ [])) None (exprs ((name (codes "x") 31) ∷ []))) ∷ []) 33) ≡ named_fault 17 82 (codes "x") ∷ []
  -- `{ var x, x int; i = x }`
  pub twice_in_one : told (block 0 ((t.DeclStmt (at 2) (t.VarDecl (at 2) (spec ((id (codes "x") 6) ∷ (id (codes "x") 9) ∷ []) (t.AnExpr (name (codes "int") 11)) ([]) t.NoValues))) ∷ (t.AssignStmt (at 16) (exprs ((name (codes "i") 16) ∷ [])) None (exprs ((name (codes "x") 20) ∷ []))) ∷ []) 22) ≡ named_fault 9 82 (codes "x") ∷ []
  -- `{ var x int; { var x string; s = x }; i = x }`
  pub again_in_a_block : told (block 0 ((t.DeclStmt (at 2) (t.VarDecl (at 2) (spec ((id (codes "x") 6) ∷ []) (t.AnExpr (name (codes "int") 8)) ([]) t.NoValues))) ∷ (t.BlockStmt (at 13) (block 13 ((t.DeclStmt (at 15) (t.VarDecl (at 15) (spec ((id (codes "x") 19) ∷ []) (t.AnExpr (name (codes "string") 21)) ([]) t.NoValues))) ∷ (t.AssignStmt (at 29) (exprs ((name (codes "s") 29) ∷ [])) None (exprs ((name (codes "x") 33) ∷ []))) ∷ []) 35)) ∷ (t.AssignStmt (at 38) (exprs ((name (codes "i") 38) ∷ [])) None (exprs ((name (codes "x") 42) ∷ []))) ∷ []) 44) ≡ []
  -- `{ var _ int; var _ string }`
  pub blank_twice : told (block 0 ((t.DeclStmt (at 2) (t.VarDecl (at 2) (spec ((id (codes "_") 6) ∷ []) (t.AnExpr (name (codes "int") 8)) ([]) t.NoValues))) ∷ (t.DeclStmt (at 13) (t.VarDecl (at 13) (spec ((id (codes "_") 17) ∷ []) (t.AnExpr (name (codes "string") 19)) ([]) t.NoValues))) ∷ []) 26) ≡ []
  -- `{ var x = nil; _ = x }`
  pub nil_value : told (block 0 ((t.DeclStmt (at 2) (t.VarDecl (at 2) (spec ((id (codes "x") 6) ∷ []) t.NoExpr ((name (codes "nil") 10) ∷ []) t.NoValues))) ∷ (t.AssignStmt (at 15) (exprs ((name (codes "_") 15) ∷ [])) None (exprs ((name (codes "x") 19) ∷ []))) ∷ []) 21) ≡ fault 10 73 ∷ []
  -- constants
  -- `{ const x = 1 << 100; i = x >> 98 }`
  pub untyped_constant : told (block 0 ((t.DeclStmt (at 2) (t.ConstDecl (at 2) (spec ((id (codes "x") 8) ∷ []) t.NoExpr ((two (num (codes "1") 12) operator.Shl (num (codes "100") 17)) ∷ []) t.NoValues))) ∷ (t.AssignStmt (at 22) (exprs ((name (codes "i") 22) ∷ [])) None (exprs ((two (name (codes "x") 26) operator.Shr (num (codes "98") 31)) ∷ []))) ∷ []) 34) ≡ []
  -- `{ const x uint8 = 200; u = x }`
  pub typed_constant : told (block 0 ((t.DeclStmt (at 2) (t.ConstDecl (at 2) (spec ((id (codes "x") 8) ∷ []) (t.AnExpr (name (codes "uint8") 10)) ((num (codes "200") 18) ∷ []) t.NoValues))) ∷ (t.AssignStmt (at 23) (exprs ((name (codes "u") 23) ∷ [])) None (exprs ((name (codes "x") 27) ∷ []))) ∷ []) 29) ≡ []
  -- `{ const x = i; _ = x }`
  pub no_constant : told (block 0 ((t.DeclStmt (at 2) (t.ConstDecl (at 2) (spec ((id (codes "x") 8) ∷ []) t.NoExpr ((name (codes "i") 12) ∷ []) t.NoValues))) ∷ (t.AssignStmt (at 15) (exprs ((name (codes "_") 15) ∷ [])) None (exprs ((name (codes "x") 19) ∷ []))) ∷ []) 21) ≡ fault 12 61 ∷ []
  -- `{ const x int = i; _ = x }`
  pub no_constant_of_a_type : told (block 0 ((t.DeclStmt (at 2) (t.ConstDecl (at 2) (spec ((id (codes "x") 8) ∷ []) (t.AnExpr (name (codes "int") 10)) ((name (codes "i") 16) ∷ []) t.NoValues))) ∷ (t.AssignStmt (at 19) (exprs ((name (codes "_") 19) ∷ [])) None (exprs ((name (codes "x") 23) ∷ []))) ∷ []) 25) ≡ fault 16 61 ∷ []
  -- `{ const x uint8 = 300; _ = x }`
  pub constant_past_its_type : told (block 0 ((t.DeclStmt (at 2) (t.ConstDecl (at 2) (spec ((id (codes "x") 8) ∷ []) (t.AnExpr (name (codes "uint8") 10)) ((num (codes "300") 18) ∷ []) t.NoValues))) ∷ (t.AssignStmt (at 23) (exprs ((name (codes "_") 23) ∷ [])) None (exprs ((name (codes "x") 27) ∷ []))) ∷ []) 29) ≡ fault 18 32 ∷ []
  -- `{ const x string = 4; _ = x }`
  pub constant_of_another_kind : told (block 0 ((t.DeclStmt (at 2) (t.ConstDecl (at 2) (spec ((id (codes "x") 8) ∷ []) (t.AnExpr (name (codes "string") 10)) ((num (codes "4") 19) ∷ []) t.NoValues))) ∷ (t.AssignStmt (at 22) (exprs ((name (codes "_") 22) ∷ [])) None (exprs ((name (codes "x") 26) ∷ []))) ∷ []) 28) ≡ fault 19 61 ∷ []
  -- `{ const x = 1 << 127; _ = x }`
  pub past_128_bits : told (block 0 ((t.DeclStmt (at 2) (t.ConstDecl (at 2) (spec ((id (codes "x") 8) ∷ []) t.NoExpr ((two (num (codes "1") 12) operator.Shl (num (codes "127") 17)) ∷ []) t.NoValues))) ∷ (t.AssignStmt (at 22) (exprs ((name (codes "_") 22) ∷ [])) None (exprs ((name (codes "x") 26) ∷ []))) ∷ []) 28) ≡ fault 12 31 ∷ []
  -- `{ const x = y; _ = x + "a" + 4 }`
  pub undefined_constant : told (block 0 ((t.DeclStmt (at 2) (t.ConstDecl (at 2) (spec ((id (codes "x") 8) ∷ []) t.NoExpr ((name (codes "y") 12) ∷ []) t.NoValues))) ∷ (t.AssignStmt (at 15) (exprs ((name (codes "_") 15) ∷ [])) None (exprs ((two (two (name (codes "x") 19) operator.Add (str (codes "a") 23)) operator.Add (num (codes "4") 29)) ∷ []))) ∷ []) 31) ≡ named_fault 12 50 (codes "y") ∷ []
  -- `{ const x = int; _ = x }`
  pub type_as_a_constant : told (block 0 ((t.DeclStmt (at 2) (t.ConstDecl (at 2) (spec ((id (codes "x") 8) ∷ []) t.NoExpr ((name (codes "int") 12) ∷ []) t.NoValues))) ∷ (t.AssignStmt (at 17) (exprs ((name (codes "_") 17) ∷ [])) None (exprs ((name (codes "x") 21) ∷ []))) ∷ []) 23) ≡ fault 12 52 ∷ []
  -- `{ const x = h(); _ = x }`
  pub call_as_a_constant : told (block 0 ((t.DeclStmt (at 2) (t.ConstDecl (at 2) (spec ((id (codes "x") 8) ∷ []) t.NoExpr ((call (name (codes "h") 12) []) ∷ []) t.NoValues))) ∷ (t.AssignStmt (at 17) (exprs ((name (codes "_") 17) ∷ [])) None (exprs ((name (codes "x") 21) ∷ []))) ∷ []) 23) ≡ fault 12 52 ∷ []
  -- `{ const x = nil; _ = x }`
  pub nil_as_a_constant : told (block 0 ((t.DeclStmt (at 2) (t.ConstDecl (at 2) (spec ((id (codes "x") 8) ∷ []) t.NoExpr ((name (codes "nil") 12) ∷ []) t.NoValues))) ∷ (t.AssignStmt (at 17) (exprs ((name (codes "_") 17) ∷ [])) None (exprs ((name (codes "x") 21) ∷ []))) ∷ []) 23) ≡ fault 12 61 ∷ []
  -- `{ const x = 4 }`
  pub constants_may_be_unused : told (block 0 ((t.DeclStmt (at 2) (t.ConstDecl (at 2) (spec ((id (codes "x") 8) ∷ []) t.NoExpr ((num (codes "4") 12) ∷ []) t.NoValues))) ∷ []) 14) ≡ []
  -- `{ const ( x = iota; y = 1 << ( 100 * iota ) ); i = x + y >> 98 }`
  pub iota_counts : told (block 0 ((t.DeclStmt (at 2) (t.ConstDecl (at 2) (spec ((id (codes "x") 10) ∷ []) t.NoExpr ((name (codes "iota") 14) ∷ []) (spec ((id (codes "y") 20) ∷ []) t.NoExpr ((two (num (codes "1") 24) operator.Shl (paren 29 (two (num (codes "100") 31) operator.Mul (name (codes "iota") 37)))) ∷ []) t.NoValues)))) ∷ (t.AssignStmt (at 47) (exprs ((name (codes "i") 47) ∷ [])) None (exprs ((two (name (codes "x") 51) operator.Add (two (name (codes "y") 55) operator.Shr (num (codes "98") 60))) ∷ []))) ∷ []) 63) ≡ []
  -- `{ const ( x uint8 = 254 + iota; y ); u = x; u = y }`
  pub lists_repeat : told (block 0 ((t.DeclStmt (at 2) (t.ConstDecl (at 2) (spec ((id (codes "x") 10) ∷ []) (t.AnExpr (name (codes "uint8") 12)) ((two (num (codes "254") 20) operator.Add (name (codes "iota") 26)) ∷ []) (spec ((id (codes "y") 32) ∷ []) t.NoExpr ([]) t.NoValues)))) ∷ (t.AssignStmt (at 37) (exprs ((name (codes "u") 37) ∷ [])) None (exprs ((name (codes "x") 41) ∷ []))) ∷ (t.AssignStmt (at 44) (exprs ((name (codes "u") 44) ∷ [])) None (exprs ((name (codes "y") 48) ∷ []))) ∷ []) 50) ≡ []
  -- `{ const ( x uint8 = 255 + iota; y ); u = x; u = y }`
  pub lists_repeat_with_their_type : told (block 0 ((t.DeclStmt (at 2) (t.ConstDecl (at 2) (spec ((id (codes "x") 10) ∷ []) (t.AnExpr (name (codes "uint8") 12)) ((two (num (codes "255") 20) operator.Add (name (codes "iota") 26)) ∷ []) (spec ((id (codes "y") 32) ∷ []) t.NoExpr ([]) t.NoValues)))) ∷ (t.AssignStmt (at 37) (exprs ((name (codes "u") 37) ∷ [])) None (exprs ((name (codes "x") 41) ∷ []))) ∷ (t.AssignStmt (at 44) (exprs ((name (codes "u") 44) ∷ [])) None (exprs ((name (codes "y") 48) ∷ []))) ∷ []) 50) ≡ fault 20 32 ∷ []
  -- `{ const x, y = 4; _ = x }`
  pub count_of_constants : told (block 0 ((t.DeclStmt (at 2) (t.ConstDecl (at 2) (spec ((id (codes "x") 8) ∷ (id (codes "y") 11) ∷ []) t.NoExpr ((num (codes "4") 15) ∷ []) t.NoValues))) ∷ (t.AssignStmt (at 18) (exprs ((name (codes "_") 18) ∷ [])) None (exprs ((name (codes "x") 22) ∷ []))) ∷ []) 24) ≡ fault 8 84 ∷ []
  -- `{ const x, y z = 4; _, _ = x, y }`
  pub count_beside_what_is_no_type : told (block 0 ((t.DeclStmt (at 2) (t.ConstDecl (at 2) (spec ((id (codes "x") 8) ∷ (id (codes "y") 11) ∷ []) (t.AnExpr (name (codes "z") 13)) ((num (codes "4") 17) ∷ []) t.NoValues))) ∷ (t.AssignStmt (at 20) (exprs ((name (codes "_") 20) ∷ (name (codes "_") 23) ∷ [])) None (exprs ((name (codes "x") 27) ∷ (name (codes "y") 30) ∷ []))) ∷ []) 32) ≡ fault 13 51 ∷ []
  -- `{ var x, y z = 4; _, _ = x, y }`
  pub variables_of_what_is_no_type : told (block 0 ((t.DeclStmt (at 2) (t.VarDecl (at 2) (spec ((id (codes "x") 6) ∷ (id (codes "y") 9) ∷ []) (t.AnExpr (name (codes "z") 11)) ((num (codes "4") 15) ∷ []) t.NoValues))) ∷ (t.AssignStmt (at 18) (exprs ((name (codes "_") 18) ∷ (name (codes "_") 21) ∷ [])) None (exprs ((name (codes "x") 25) ∷ (name (codes "y") 28) ∷ []))) ∷ []) 30) ≡ fault 11 51 ∷ []
  -- `{ const x int; _ = x }`
  pub first_list_is_missing : told (block 0 ((t.DeclStmt (at 2) (t.ConstDecl (at 2) (spec ((id (codes "x") 8) ∷ []) (t.AnExpr (name (codes "int") 10)) ([]) t.NoValues))) ∷ (t.AssignStmt (at 15) (exprs ((name (codes "_") 15) ∷ [])) None (exprs ((name (codes "x") 19) ∷ []))) ∷ []) 21) ≡ fault 8 84 ∷ []
  -- `{ const x = 4; const x = 6; i = x }`
  pub constant_twice : told (block 0 ((t.DeclStmt (at 2) (t.ConstDecl (at 2) (spec ((id (codes "x") 8) ∷ []) t.NoExpr ((num (codes "4") 12) ∷ []) t.NoValues))) ∷ (t.DeclStmt (at 15) (t.ConstDecl (at 15) (spec ((id (codes "x") 21) ∷ []) t.NoExpr ((num (codes "6") 25) ∷ []) t.NoValues))) ∷ (t.AssignStmt (at 28) (exprs ((name (codes "i") 28) ∷ [])) None (exprs ((name (codes "x") 32) ∷ []))) ∷ []) 34) ≡ named_fault 21 82 (codes "x") ∷ []
  -- types
  -- `{ type T int; var x T = 4; _ = x }`
  pub new_type : told (block 0 ((t.DeclStmt (at 2) (t.TypeDecl (at 2) (t.MoreTypes (id (codes "T") 7) false (name (codes "int") 9) t.NoTypes))) ∷ (t.DeclStmt (at 14) (t.VarDecl (at 14) (spec ((id (codes "x") 18) ∷ []) (t.AnExpr (name (codes "T") 20)) ((num (codes "4") 24) ∷ []) t.NoValues))) ∷ (t.AssignStmt (at 27) (exprs ((name (codes "_") 27) ∷ [])) None (exprs ((name (codes "x") 31) ∷ []))) ∷ []) 33) ≡ []
  -- `{ type T int; var x T = i; _ = x }`
  pub new_type_is_another : told (block 0 ((t.DeclStmt (at 2) (t.TypeDecl (at 2) (t.MoreTypes (id (codes "T") 7) false (name (codes "int") 9) t.NoTypes))) ∷ (t.DeclStmt (at 14) (t.VarDecl (at 14) (spec ((id (codes "x") 18) ∷ []) (t.AnExpr (name (codes "T") 20)) ((name (codes "i") 24) ∷ []) t.NoValues))) ∷ (t.AssignStmt (at 27) (exprs ((name (codes "_") 27) ∷ [])) None (exprs ((name (codes "x") 31) ∷ []))) ∷ []) 33) ≡ fault 24 61 ∷ []
  -- `{ type T = int; var x T = i; _ = x }`
  pub alias : told (block 0 ((t.DeclStmt (at 2) (t.TypeDecl (at 2) (t.MoreTypes (id (codes "T") 7) true (name (codes "int") 11) t.NoTypes))) ∷ (t.DeclStmt (at 16) (t.VarDecl (at 16) (spec ((id (codes "x") 20) ∷ []) (t.AnExpr (name (codes "T") 22)) ((name (codes "i") 26) ∷ []) t.NoValues))) ∷ (t.AssignStmt (at 29) (exprs ((name (codes "_") 29) ∷ [])) None (exprs ((name (codes "x") 33) ∷ []))) ∷ []) 35) ≡ []
  -- `{ type T S; var x T = "a"; s = string(x) }`
  pub of_a_named_type : told (block 0 ((t.DeclStmt (at 2) (t.TypeDecl (at 2) (t.MoreTypes (id (codes "T") 7) false (name (codes "S") 9) t.NoTypes))) ∷ (t.DeclStmt (at 12) (t.VarDecl (at 12) (spec ((id (codes "x") 16) ∷ []) (t.AnExpr (name (codes "T") 18)) ((str (codes "a") 22) ∷ []) t.NoValues))) ∷ (t.AssignStmt (at 27) (exprs ((name (codes "s") 27) ∷ [])) None (exprs ((call (name (codes "string") 31) ((name (codes "x") 38) ∷ [])) ∷ []))) ∷ []) 41) ≡ []
  -- `{ type T T }`
  pub of_itself : told (block 0 ((t.DeclStmt (at 2) (t.TypeDecl (at 2) (t.MoreTypes (id (codes "T") 7) false (name (codes "T") 9) t.NoTypes))) ∷ []) 11) ≡ fault 7 74 ∷ []
  -- `{ type T x; var y T; _ = y }`
  pub of_an_undefined_type : told (block 0 ((t.DeclStmt (at 2) (t.TypeDecl (at 2) (t.MoreTypes (id (codes "T") 7) false (name (codes "x") 9) t.NoTypes))) ∷ (t.DeclStmt (at 12) (t.VarDecl (at 12) (spec ((id (codes "y") 16) ∷ []) (t.AnExpr (name (codes "T") 18)) ([]) t.NoValues))) ∷ (t.AssignStmt (at 21) (exprs ((name (codes "_") 21) ∷ [])) None (exprs ((name (codes "y") 25) ∷ []))) ∷ []) 27) ≡ named_fault 9 50 (codes "x") ∷ []
  -- `{ type T int; type T string; var x T = 4; _ = x }`
  pub type_twice : told (block 0 ((t.DeclStmt (at 2) (t.TypeDecl (at 2) (t.MoreTypes (id (codes "T") 7) false (name (codes "int") 9) t.NoTypes))) ∷ (t.DeclStmt (at 14) (t.TypeDecl (at 14) (t.MoreTypes (id (codes "T") 19) false (name (codes "string") 21) t.NoTypes))) ∷ (t.DeclStmt (at 29) (t.VarDecl (at 29) (spec ((id (codes "x") 33) ∷ []) (t.AnExpr (name (codes "T") 35)) ((num (codes "4") 39) ∷ []) t.NoValues))) ∷ (t.AssignStmt (at 42) (exprs ((name (codes "_") 42) ∷ [])) None (exprs ((name (codes "x") 46) ∷ []))) ∷ []) 48) ≡ named_fault 19 82 (codes "T") ∷ []
  -- `_` is declared nowhere: as a type it is 51, as a value 52
  -- `{ type _ _ }`
  pub blank_type : told (block 0 ((t.DeclStmt (at 2) (t.TypeDecl (at 2) (t.MoreTypes (id (codes "_") 7) false (name (codes "_") 9) t.NoTypes))) ∷ []) 11) ≡ fault 9 51 ∷ []
  -- `{ type _ (_) }`
  pub blank_type_in_parentheses : told (block 0 ((t.DeclStmt (at 2) (t.TypeDecl (at 2) (t.MoreTypes (id (codes "_") 7) false (paren 9 (name (codes "_") 10)) t.NoTypes))) ∷ []) 13) ≡ fault 9 51 ∷ []
  -- `{ type _ = _ }`
  pub blank_alias : told (block 0 ((t.DeclStmt (at 2) (t.TypeDecl (at 2) (t.MoreTypes (id (codes "_") 7) true (name (codes "_") 11) t.NoTypes))) ∷ []) 13) ≡ fault 11 51 ∷ []
  -- `{ type _ int; type _ string }`
  pub blank_types : told (block 0 ((t.DeclStmt (at 2) (t.TypeDecl (at 2) (t.MoreTypes (id (codes "_") 7) false (name (codes "int") 9) t.NoTypes))) ∷ (t.DeclStmt (at 14) (t.TypeDecl (at 14) (t.MoreTypes (id (codes "_") 19) false (name (codes "string") 21) t.NoTypes))) ∷ []) 28) ≡ []
  -- `{ var _ _ }`
  pub variable_of_blank_type : told (block 0 ((t.DeclStmt (at 2) (t.VarDecl (at 2) (spec ((id (codes "_") 6) ∷ []) (t.AnExpr (name (codes "_") 8)) ([]) t.NoValues))) ∷ []) 10) ≡ fault 8 51 ∷ []
  -- `{ var _ = _ }`
  pub variable_of_blank : told (block 0 ((t.DeclStmt (at 2) (t.VarDecl (at 2) (spec ((id (codes "_") 6) ∷ []) t.NoExpr ((name (codes "_") 10) ∷ []) t.NoValues))) ∷ []) 12) ≡ fault 10 52 ∷ []
  -- `{ const _ _ = 4 }`
  pub constant_of_blank_type : told (block 0 ((t.DeclStmt (at 2) (t.ConstDecl (at 2) (spec ((id (codes "_") 8) ∷ []) (t.AnExpr (name (codes "_") 10)) ((num (codes "4") 14) ∷ []) t.NoValues))) ∷ []) 16) ≡ fault 10 51 ∷ []
  -- `{ const _ = _ }`
  pub constant_of_blank : told (block 0 ((t.DeclStmt (at 2) (t.ConstDecl (at 2) (spec ((id (codes "_") 8) ∷ []) t.NoExpr ((name (codes "_") 12) ∷ []) t.NoValues))) ∷ []) 14) ≡ fault 12 52 ∷ []

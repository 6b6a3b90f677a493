-- Rows by hand: the programs that small packages are. Go specification (as of Go 1.17), "Function declarations", "Type definitions".
use Rattle.std.specs.Prelude.{◌≡◌, [], ◌∷◌, ◌++◌, true, false, Some, codes}
use Rattle.gj_base.specs.declared.kind.Op.TheVariants as operator
use Rattle.go_syntax.specs.Tree as t
use Rattle.go_type.specs.Tree as ty
use Rattle.go_type.specs.Tree.{no_tys}
use Rattle.go_core.specs.CoreTree as core
use Rattle.go_typing.specs.TypingRowWords.{at, name, num, two, call, exprs, int, uint8, one_type, var, num_at, args}
use Rattle.go_typing.specs.StatementsRowWords.{block, id, spec}
use Rattle.go_typing.specs.PackagesRowWords.{with_type, params}
use Rattle.go_typing.specs.Known.{first_names}
use Rattle.go_typing.specs.Checked.{program_of, error_function, runtime_function, method_at}

pub record RowsCore : Type 0 where
  -- `const a = 4; func f(x int) int { return x + a }; func main() { println(f(6)) }`
  pub functions_and_constants : program_of ((t.ConstDecl (at 14) (spec ((id (codes "a") 20) ∷ []) t.NoExpr ((num (codes "4") 24) ∷ []) t.NoValues)) ∷ (t.FuncDecl (at 26) (id (codes "f") 31) (t.SigOf (at 32) (params (with_type (id (codes "x") 33) false (name (codes "int") 35) ∷ [])) (t.OneResult (name (codes "int") 40))) (block 44 ((t.ReturnStmt (at 46) (exprs ((two (name (codes "x") 53) operator.Add (name (codes "a") 57)) ∷ []))) ∷ []) 59)) ∷ (t.FuncDecl (at 61) (id (codes "main") 66) (t.SigOf (at 70) (params ([])) t.NoResults) (block 73 ((t.ExprStmt (at 75) (exprs ((call (name (codes "println") 75) ((call (name (codes "f") 83) ((num (codes "6") 85) ∷ [])) ∷ [])) ∷ []))) ∷ []) 89)) ∷ []) ≡ record {
    types = [];
    names = first_names;
    funcs =
        record {
          name = codes "main.f";
          params = one_type int;
          results = one_type int;
          variadic = false;
          vars = record { id = 0; type_ = int } ∷ record { id = 1; type_ = int } ∷ [];
          captured = [];
          body = core.stmt (core.return_ (args (core.binary operator.Add int (var int 0) (num_at int 4) ∷ []))) core.no_stmts;
          place = at 26;
        }
        ∷ record {
          name = codes "main.main";
          params = no_tys;
          results = no_tys;
          variadic = false;
          vars = [];
          captured = [];
          body = core.stmt (core.print (args (core.call (one_type int) (core.function 0) (args (num_at int 6 ∷ [])) ∷ [])) true) core.no_stmts;
          place = at 61;
        }
        ∷ error_function 2 ∷ runtime_function 4 ∷ [];
    globals = [];
    methods = method_at (codes "Error") 2 ∷ method_at (codes "RuntimeError") 3 ∷ [];
    main = 1;
    packages = record { path = []; imports = []; inits = [] } ∷ [];
    hidden = ty.named 1;
  }
  -- `type T uint8; func main() { var x T = 4; println(x) }`
  pub named_types : program_of ((t.TypeDecl (at 14) (t.MoreTypes (id (codes "T") 19) false (name (codes "uint8") 21) t.NoTypes)) ∷ (t.FuncDecl (at 27) (id (codes "main") 32) (t.SigOf (at 36) (params ([])) t.NoResults) (block 39 ((t.DeclStmt (at 41) (t.VarDecl (at 41) (spec ((id (codes "x") 45) ∷ []) (t.AnExpr (name (codes "T") 47)) ((num (codes "4") 51) ∷ []) t.NoValues))) ∷ (t.ExprStmt (at 54) (exprs ((call (name (codes "println") 54) ((name (codes "x") 62) ∷ [])) ∷ []))) ∷ []) 65)) ∷ []) ≡ record {
    types = [];
    names = first_names ++ record { name = codes "T"; package_ = []; under = Some uint8; methods = [] } ∷ [];
    funcs =
        record {
          name = codes "main.main";
          params = no_tys;
          results = no_tys;
          variadic = false;
          vars = record { id = 0; type_ = ty.named 2 } ∷ [];
          captured = [];
          body =
              core.stmt (core.declare (record { id = 0; type_ = ty.named 2 }))
              (core.stmt (core.store (core.to_place (ty.named 2) (core.local_ 0) ∷ []) (args (num_at (ty.named 2) 4 ∷ [])))
              (core.stmt (core.print (args (var (ty.named 2) 0 ∷ [])) true) core.no_stmts));
          place = at 27;
        }
        ∷ error_function 1 ∷ runtime_function 3 ∷ [];
    globals = [];
    methods = method_at (codes "Error") 1 ∷ method_at (codes "RuntimeError") 2 ∷ [];
    main = 0;
    packages = record { path = []; imports = []; inits = [] } ∷ [];
    hidden = ty.named 1;
  }
  -- `func main() { f() }; func f() { }`
  pub a_function_after_main : program_of ((t.FuncDecl (at 14) (id (codes "main") 19) (t.SigOf (at 23) (params ([])) t.NoResults) (block 26 ((t.ExprStmt (at 28) (exprs ((call (name (codes "f") 28) ([])) ∷ []))) ∷ []) 32)) ∷ (t.FuncDecl (at 34) (id (codes "f") 39) (t.SigOf (at 40) (params ([])) t.NoResults) (block 43 ([]) 45)) ∷ []) ≡ record {
    types = [];
    names = first_names;
    funcs =
        record {
          name = codes "main.main";
          params = no_tys;
          results = no_tys;
          variadic = false;
          vars = [];
          captured = [];
          body = core.stmt (core.perform (core.call no_tys (core.function 1) core.no_exprs) 0) core.no_stmts;
          place = at 14;
        }
        ∷ record {
          name = codes "main.f";
          params = no_tys;
          results = no_tys;
          variadic = false;
          vars = [];
          captured = [];
          body = core.no_stmts;
          place = at 34;
        }
        ∷ error_function 0 ∷ runtime_function 2 ∷ [];
    globals = [];
    methods = method_at (codes "Error") 2 ∷ method_at (codes "RuntimeError") 3 ∷ [];
    main = 0;
    packages = record { path = []; imports = []; inits = [] } ∷ [];
    hidden = ty.named 1;
  }

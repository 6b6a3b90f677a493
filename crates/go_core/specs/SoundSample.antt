-- Programs that are Sound, so that the laws of such programs are not empty, and programs that aren't.
use Rattle.std.specs.Prelude.{List, [], ◌∷◌, ◌++◌, false, None, Some, pos, codes}
use Rattle.go_type.specs.Tree as ty
use Rattle.go_type.specs.Tree.{Ty, no_tys, more_tys}
use Rattle.go_type.specs.Named.{NamedTy, MethodTy}
use Rattle.go_core.specs.CoreTree as core
use Rattle.go_core.specs.CoreTree.{CoreFunc, MethodRow, CoreProgram, Stmt}
use Rattle.go_core.specs.MeaningWords.{int, ints, hidden, error_func, error_method, func_of, var_of, say, plus, below, n_, var, if_, define, same}
use Rattle.go_core.specs.RowsCalls.{number, get, getter, row, get_through, int_results}
use Rattle.go_core.specs.RowsMemory.{tagged_names, tagged_vars, tagged_body, read_func, named_type}
use Rattle.go_core.specs.SoundProgram.{Sound}

-- the hidden type with both its methods
abbrev pub hidden_methods : List MethodTy
hidden_methods =
    record { name = codes "Error"; pointer = false; params = no_tys; results = more_tys ty.str no_tys; variadic = false }
    ∷ record { name = codes "RuntimeError"; pointer = false; params = no_tys; results = no_tys; variadic = false } ∷ []

abbrev pub hidden_type : NamedTy
hidden_type = record { name = codes "runtimeError"; package_ = []; under = Some ty.str; methods = hidden_methods }

abbrev pub runtime_func : CoreFunc
runtime_func = func_of [] [] (var_of 902 hidden ∷ []) [] []

abbrev pub runtime_method : MethodRow
runtime_method = record { type_ = hidden; name = codes "RuntimeError"; package_ = []; func = 2 }

-- `x := 4; if x < 6 { println(x + 8) }`
abbrev pub main_func : CoreFunc
main_func = func_of [] [] (var_of 1 int ∷ []) [] (core.declare (var_of 1 int) ∷ core.store (core.to_place int (core.local_ 1) ∷ []) (core.expr (n_ 4) core.no_exprs) ∷ if_ (below (var int 1) (n_ 6)) (say (plus (var int 1) (n_ 8) ∷ []) ∷ []) [] ∷ [])

-- with this `main`, further named types, further rows and further functions
abbrev pub sample_of : List NamedTy → List MethodRow → CoreFunc → List CoreFunc → CoreProgram
sample_of names rows main others = record {
  types = [];
  names = hidden_type ∷ names;
  funcs = main ∷ error_func ∷ runtime_func ∷ others;
  globals = [];
  methods = error_method ∷ runtime_method ∷ rows;
  main = 0;
  packages = [];
  hidden = hidden;
}

abbrev pub sample : CoreProgram
sample = sample_of [] [] main_func []

abbrev pub SampleIsSound : Type 0
SampleIsSound = Sound sample

-- "Conversions": the program of the row `tags_are_ignored`
abbrev pub tags_func : CoreFunc
tags_func = func_of [] [] tagged_vars [] (tagged_body 3)

abbrev pub tags_sample : CoreProgram
tags_sample = sample_of tagged_names [] tags_func (read_func ∷ [])

abbrev pub TagsAreIgnored : Type 0
TagsAreIgnored = Sound tags_sample

-- "Interface types": in the root package, whose path is empty, `type N int` with `func (n N) Get() int`, which is exported; `var x interface { Get() int } = N(4)`,
-- `println(x.Get())`
abbrev pub get_method : MethodTy
get_method = record { name = codes "Get"; pointer = false; params = no_tys; results = int_results; variadic = false }

abbrev pub number_type : NamedTy
number_type = record { name = codes "N"; package_ = []; under = Some int; methods = get_method ∷ [] }

abbrev pub methods_func : CoreFunc
methods_func = func_of [] [] (var_of 1 getter ∷ []) [] (
    define 1 getter (core.wrap number getter (core.constant number (core.whole_constant (pos 4))))
    ++ say (get_through (var getter 1) ∷ [])
    ∷ [])

abbrev pub methods_sample : CoreProgram
methods_sample = sample_of (number_type ∷ []) (row number (codes "Get") 3 ∷ []) methods_func (get ∷ [])

abbrev pub ValuesWithMethodsAreWrapped : Type 0
ValuesWithMethodsAreWrapped = Sound methods_sample

-- ---- programs that aren't Sound

-- with no statement but this
abbrev pub only : Stmt → CoreFunc
only s = func_of [] [] [] [] (s ∷ [])

-- a second row for `RuntimeError`
abbrev pub TwoRowsAreNot : Type 0
TwoRowsAreNot = Sound (sample_of [] (runtime_method ∷ []) main_func []) → ⊥

-- "For statements with range clause": over the array of a nil pointer, without a value
abbrev pub array_pointer : Ty
array_pointer = ty.pointer (ty.array 2 int)

abbrev pub ranges_func : CoreFunc
ranges_func = only (core.range_over 7 array_pointer (core.zero_value array_pointer) None None core.no_stmts)

abbrev pub RangesWithoutValueAreNot : Type 0
RangesWithoutValueAreNot = Sound (sample_of [] [] ranges_func []) → ⊥

-- "Type assertions": `x.(int)` of an `x` of type `interface { Get() int }`
abbrev pub asserts_func : CoreFunc
asserts_func = only (say (core.assert_ int false (core.zero_value getter) ∷ []))

abbrev pub AssertionsWithoutMethodAreNot : Type 0
AssertionsWithoutMethodAreNot = Sound (sample_of [] [] asserts_func []) → ⊥

-- "Conversions": `type N int`, `type P *int`, `println(P(new(N)) == nil)`; and `println(string([]int(nil)))`
abbrev pub pointer_names : List NamedTy
pointer_names = named_type (codes "N") int ∷ named_type (codes "P") (ty.pointer int) ∷ []

abbrev pub pointer_type : Ty
pointer_type = ty.named 2

abbrev pub pointers_func : CoreFunc
pointers_func = only (say (same pointer_type (core.convert (ty.pointer number) pointer_type (core.new_ number)) (core.zero_value pointer_type) ∷ []))

abbrev pub NamedPointersAreNot : Type 0
NamedPointersAreNot = Sound (sample_of pointer_names [] pointers_func []) → ⊥

abbrev pub numbers_func : CoreFunc
numbers_func = only (say (core.convert ints ty.str (core.zero_value ints) ∷ []))

abbrev pub NumbersAreNoRunes : Type 0
NumbersAreNoRunes = Sound (sample_of [] [] numbers_func []) → ⊥

-- no value has the type of `nil`
abbrev pub nil_func : CoreFunc
nil_func = only (say (same array_pointer (core.convert ty.nil array_pointer (core.zero_value ty.nil)) (core.zero_value array_pointer) ∷ []))

abbrev pub ValuesOfNilAreNot : Type 0
ValuesOfNilAreNot = Sound (sample_of [] [] nil_func []) → ⊥

-- Rows on memory, worked out by hand: Go specification (as of Go 1.17), "Variables", "Assignments", "Composite
-- literals", "Slice expressions", "Appending to and copying slices", "Map types", "Making slices, maps and channels",
-- "Conversions".
use Rattle.std.specs.Prelude.{◌≡◌, ℕ, negsuc, List, [], ◌∷◌, ◌++◌, true, false, Some, codes}
use Rattle.go_type.specs.Tree as ty
use Rattle.go_type.specs.Tree.{Ty, Tys, no_tys, more_tys, no_specs, more_specs, no_fields, more_fields}
use Rattle.go_type.specs.Named.{NamedTy}
use Rattle.go_core.specs.CoreTree as core
use Rattle.go_core.specs.CoreTree.{CoreProgram, CoreFunc, Expr, Stmt, Stmts, no_stmts, no_exprs, expr, Var}
use Rattle.go_core.specs.Goroutine.{Move}
use Rattle.go_core.specs.Run.{start}
use Rattle.go_core.specs.MeaningWords.{int, ints, num, n_, str, exprs, var, say, let_var, to_var, define, call_, var_of, func_of, program, program_with, plain_move, played, shown_if_ended, outcome, prints, panics_with, same, cell_of, elements_from, int_slice, returns_}

-- `struct { x, y int }`, and `[3]int`
abbrev pub point : Ty
point = ty.struct (more_fields (codes "X") [] int false [] (more_fields (codes "Y") [] int false [] no_fields))

abbrev pub three : Ty
three = ty.array 3 int

abbrev pub line : Ty
line = ty.struct (more_fields (codes "A") [] point false [] (more_fields (codes "B") [] point false [] no_fields))

abbrev pub table : Ty
table = ty.mapping ty.str int

abbrev pub field : Ty → ℕ → ℕ → Expr
field t v n = core.read int (core.field t n (core.local_ v))

abbrev pub int_at : ℕ → ℕ → Expr
int_at v i = core.read int (core.elem three (core.local_ v) (n_ i))

abbrev pub set_elem : ℕ → Expr → Expr → Stmt
set_elem v i e = core.store (core.to_place int (core.elem three (core.local_ v) i) ∷ []) (exprs (e ∷ []))

-- `s := point{Y: 2}`, `t := s`, `t.X = 9`
abbrev pub structs_are_copied : CoreProgram
structs_are_copied = program (
    define 1 point (core.build point 0 (core.element 1 (n_ 2) core.no_elements))
    ++ define 2 point (var point 1)
    ++ core.store (core.to_place int (core.field point 0 (core.local_ 2)) ∷ []) (exprs (n_ 9 ∷ []))
    ∷ say (field point 1 0 ∷ field point 1 1 ∷ field point 2 0 ∷ field point 2 1 ∷ [])
    ∷ []) []

-- `var l line`, `p := &l.B.Y`, `l.B = point{3, 4}`, `println(*p)`
abbrev pub pointer_to_a_field : CoreProgram
pointer_to_a_field = program (
    let_var 1 line
    ∷ define 2 (ty.pointer int) (core.address (ty.pointer int) (core.field point 1 (core.field line 1 (core.local_ 1))))
    ++ core.store (core.to_place point (core.field line 1 (core.local_ 1)) ∷ []) (exprs (core.build point 0 (elements_from 0 (n_ 3 ∷ n_ 4 ∷ [])) ∷ []))
    ∷ say (core.read int (core.deref (var (ty.pointer int) 2)) ∷ [])
    ∷ []) []

abbrev pub nil_pointer : CoreProgram
nil_pointer = program (let_var 1 (ty.pointer int) ∷ say (core.read int (core.deref (var (ty.pointer int) 1)) ∷ []) ∷ []) []

-- `a := [3]int{1, 2, 3}`, `i := 0`, `i, a[i] = 2, 7`: the index is evaluated first
abbrev pub two_phases : CoreProgram
two_phases = program (
    define 1 three (core.build three 0 (elements_from 0 (n_ 1 ∷ n_ 2 ∷ n_ 3 ∷ [])))
    ++ define 2 int (n_ 0)
    ++ core.store (to_var int 2 ∷ core.to_place int (core.elem three (core.local_ 1) (var int 2)) ∷ []) (exprs (n_ 2 ∷ n_ 7 ∷ []))
    ∷ say (int_at 1 0 ∷ int_at 1 1 ∷ int_at 1 2 ∷ var int 2 ∷ [])
    ∷ []) []

abbrev pub swap : CoreProgram
swap = program (
    define 1 int (n_ 1) ++ define 2 int (n_ 2)
    ++ core.store (to_var int 1 ∷ to_var int 2 ∷ core.blank ∷ []) (exprs (var int 2 ∷ var int 1 ∷ n_ 5 ∷ []))
    ∷ say (var int 1 ∷ var int 2 ∷ []) ∷ []) []

-- `x, a[3] = 5, 6` in a function that recovers from nothing: the first assignment was made
abbrev pub index_in_the_second_phase : CoreProgram
index_in_the_second_phase = program (
    define 1 three (core.zero_value three) ++ define 2 int (n_ 3)
    ++ core.store (core.blank ∷ core.to_place int (core.elem three (core.local_ 1) (var int 2)) ∷ []) (exprs (call_ 2 (more_tys int no_tys) [] ∷ n_ 6 ∷ []))
    ∷ []) (func_of [] (int ∷ []) (var_of 10 int ∷ []) [] (say (str (codes "right side") ∷ []) ∷ returns_ (n_ 5 ∷ []) ∷ []) ∷ [])

abbrev pub negative_index : CoreProgram
negative_index = program (define 1 three (core.zero_value three) ++ set_elem 1 (num (negsuc 0)) (n_ 1) ∷ []) []

abbrev pub index_at_the_length : CoreProgram
index_at_the_length = program (define 1 ints (int_slice 3 (n_ 1 ∷ n_ 2 ∷ [])) ++ say (cell_of ints int (var ints 1) (n_ 2) ∷ cell_of ints int (var ints 1) (n_ 3) ∷ []) ∷ []) []

-- `a := make([]int, 2, 4)`, `b := append(a, 1)`, `c := append(a, 2)`
abbrev pub append_in_place : CoreProgram
append_in_place = program (
    define 1 ints (core.make_slice ints (n_ 2) (core.bound (n_ 4)))
    ++ define 2 ints (core.append ints ints (var ints 1) (int_slice 1 (n_ 1 ∷ [])))
    ++ define 3 ints (core.append ints ints (var ints 1) (int_slice 1 (n_ 2 ∷ [])))
    ++ say (cell_of ints int (var ints 2) (n_ 2) ∷ cell_of ints int (var ints 3) (n_ 2) ∷ core.len ints (var ints 1) ∷ core.cap ints (var ints 2) ∷ [])
    ∷ []) []

-- past the capacity the elements are in an array of their own
abbrev pub append_anew : CoreProgram
append_anew = program (
    define 1 ints (int_slice 1 (n_ 1 ∷ []))
    ++ define 2 ints (core.append ints ints (var ints 1) (int_slice 2 (n_ 2 ∷ n_ 3 ∷ [])))
    ++ core.store (core.to_place int (core.slice_elem ints (var ints 1) (n_ 0)) ∷ []) (exprs (n_ 9 ∷ []))
    ∷ say (cell_of ints int (var ints 1) (n_ 0) ∷ cell_of ints int (var ints 2) (n_ 0) ∷ cell_of ints int (var ints 2) (n_ 2) ∷ core.len ints (var ints 2) ∷ core.cap ints (var ints 2) ∷ [])
    ∷ []) []

abbrev pub with_capacity : ℕ → List Move
with_capacity n = record (plain_move 0 1) { capacity = n } ∷ []

-- `s := []int{1, 2, 3}`, `n := copy(s[1:], s)`: as if at once
abbrev pub copy_overlaps : CoreProgram
copy_overlaps = program (
    define 1 ints (int_slice 3 (n_ 1 ∷ n_ 2 ∷ n_ 3 ∷ []))
    ++ define 2 int (core.copy_elems ints ints (core.slice_of ints ints (var ints 1) (core.bound (n_ 1)) core.no_bound core.no_bound) (var ints 1))
    ++ say (var int 2 ∷ cell_of ints int (var ints 1) (n_ 0) ∷ cell_of ints int (var ints 1) (n_ 1) ∷ cell_of ints int (var ints 1) (n_ 2) ∷ [])
    ∷ []) []

-- a slice of a slice ends at its limit; one of a nil slice is nil
abbrev pub full_slices : CoreProgram
full_slices = program (
    define 1 ints (int_slice 4 (n_ 1 ∷ n_ 2 ∷ n_ 3 ∷ n_ 4 ∷ []))
    ++ define 2 ints (core.slice_of ints ints (var ints 1) (core.bound (n_ 1)) (core.bound (n_ 2)) (core.bound (n_ 3)))
    ++ let_var 3 ints
    ∷ say (core.len ints (var ints 2) ∷ core.cap ints (var ints 2) ∷ cell_of ints int (core.slice_of ints ints (var ints 2) core.no_bound (core.bound (n_ 2)) core.no_bound) (n_ 1)
    ∷ same ints (core.slice_of ints ints (var ints 3) core.no_bound core.no_bound core.no_bound) (core.zero_value ints) ∷ [])
    ∷ []) []

abbrev pub slice_past_the_capacity : CoreProgram
slice_past_the_capacity = program (define 1 ints (int_slice 2 []) ++ say (core.len ints (core.slice_of ints ints (var ints 1) core.no_bound (core.bound (n_ 3)) core.no_bound) ∷ []) ∷ []) []

abbrev pub slice_of_a_nil_array : CoreProgram
slice_of_a_nil_array = program (let_var 1 (ty.pointer three) ∷ say (core.len ints (core.slice_of (ty.pointer three) ints (var (ty.pointer three) 1) core.no_bound core.no_bound core.no_bound) ∷ []) ∷ []) []

abbrev pub negative_size : CoreProgram
negative_size = program (define 1 int (num (negsuc 0)) ++ say (core.len ints (core.make_slice ints (var int 1) core.no_bound) ∷ []) ∷ []) []

abbrev pub length_above_the_capacity : CoreProgram
length_above_the_capacity = program (define 1 int (n_ 3) ++ say (core.len ints (core.make_slice ints (var int 1) (core.bound (n_ 2))) ∷ []) ∷ []) []

abbrev pub negative_map_size : CoreProgram
negative_map_size = program (say (core.len table (core.make_map table (core.bound (num (negsuc 0)))) ∷ []) ∷ []) []

abbrev pub set_key : ℕ → Expr → Expr → Stmt
set_key v k e = core.store (core.to_entry table (var table v) k ∷ []) (exprs (e ∷ []))

abbrev pub maps : CoreProgram
maps = program (
    define 1 table (core.build_map table (core.pair (str (codes "a")) (n_ 1) core.no_pairs))
    ++ set_key 1 (str (codes "b")) (n_ 2)
    ∷ set_key 1 (str (codes "a")) (n_ 3)
    ∷ let_var 2 int ∷ let_var 3 ty.bool
    ∷ core.store (to_var int 2 ∷ to_var ty.bool 3 ∷ []) (exprs (core.map_get table true (var table 1) (str (codes "c")) ∷ []))
    ∷ say (core.map_get table false (var table 1) (str (codes "a")) ∷ core.len table (var table 1) ∷ var int 2 ∷ var ty.bool 3 ∷ [])
    ∷ core.map_delete table (var table 1) (str (codes "a"))
    ∷ core.map_delete table (var table 1) (str (codes "z"))
    ∷ say (core.map_get table false (var table 1) (str (codes "a")) ∷ core.len table (var table 1) ∷ core.map_get table false (var table 1) (str (codes "b")) ∷ [])
    ∷ []) []

-- a nil map can be read, measured and deleted from, but not stored to
abbrev pub nil_map : CoreProgram
nil_map = program (
    let_var 1 table
    ∷ core.map_delete table (var table 1) (str (codes "a"))
    ∷ say (core.map_get table false (var table 1) (str (codes "a")) ∷ core.len table (var table 1) ∷ [])
    ∷ set_key 1 (str (codes "a")) (n_ 1)
    ∷ []) []

-- keys that are structs are compared field by field, blank ones left out
abbrev pub blank_key : Ty
blank_key = ty.struct (more_fields (codes "X") [] int false [] (more_fields (codes "_") [] int false [] no_fields))

abbrev pub blank_fields : CoreProgram
blank_fields = program (say (same blank_key (core.build blank_key 0 (elements_from 0 (n_ 1 ∷ n_ 2 ∷ []))) (core.build blank_key 0 (elements_from 0 (n_ 1 ∷ n_ 3 ∷ []))) ∷ same point (core.build point 0 (elements_from 0 (n_ 1 ∷ n_ 2 ∷ []))) (core.build point 0 (elements_from 0 (n_ 1 ∷ n_ 3 ∷ []))) ∷ []) ∷ []) []

-- `p := new(int)`, `*p = 4`, `q := &*p`: two pointers to one variable, and one to another
abbrev pub news : CoreProgram
news = program (
    define 1 (ty.pointer int) (core.new_ int)
    ++ define 2 (ty.pointer int) (core.address (ty.pointer int) (core.deref (var (ty.pointer int) 1)))
    ++ core.store (core.to_place int (core.deref (var (ty.pointer int) 1)) ∷ []) (exprs (n_ 4 ∷ []))
    ∷ say (core.read int (core.deref (var (ty.pointer int) 2)) ∷ same (ty.pointer int) (var (ty.pointer int) 1) (var (ty.pointer int) 2) ∷ same (ty.pointer int) (var (ty.pointer int) 1) (core.new_ int) ∷ [])
    ∷ []) []

-- `f().X`, where no place holds the value
abbrev pub let_in : CoreProgram
let_in = program (say (core.let_in (var_of 5 point ∷ []) (exprs (core.build point 0 (elements_from 0 (n_ 7 ∷ n_ 8 ∷ [])) ∷ [])) (field point 5 1) ∷ []) ∷ []) []

-- types without scalars have variables of their own
abbrev pub empty : Ty
empty = ty.struct no_fields

abbrev pub empty_variables : CoreProgram
empty_variables = program (let_var 1 empty ∷ let_var 2 empty ∷ say (same (ty.pointer empty) (core.address (ty.pointer empty) (core.local_ 1)) (core.address (ty.pointer empty) (core.local_ 2)) ∷ same empty (var empty 1) (var empty 2) ∷ []) ∷ []) []

-- ---- "Conversions": tags are ignored

-- `struct { X int }` with this tag, and `struct { P *struct { X int } }` with it inside
abbrev pub tagged : List ℕ → Ty
tagged tag = ty.struct (more_fields (codes "X") [] int false tag no_fields)

abbrev pub holder : List ℕ → Ty
holder tag = ty.struct (more_fields (codes "P") [] (ty.pointer (tagged tag)) false [] no_fields)

abbrev pub tag_a : List ℕ
tag_a = codes "a"

abbrev pub tag_b : List ℕ
tag_b = codes "b"

abbrev pub named_type : List ℕ → Ty → NamedTy
named_type name t = record { name = name; package_ = codes "main"; under = Some t; methods = [] }

-- `type A struct { X int "a" }`, `type B struct { X int "b" }`, `type C struct { P *struct { X int "a" } }`,
-- `type D struct { P *struct { X int "b" } }`
abbrev pub tagged_names : List NamedTy
tagged_names = named_type (codes "A") (tagged tag_a) ∷ named_type (codes "B") (tagged tag_b) ∷ named_type (codes "C") (holder tag_a) ∷ named_type (codes "D") (holder tag_b) ∷ []

abbrev pub type_a : Ty
type_a = ty.named 1

abbrev pub type_b : Ty
type_b = ty.named 2

abbrev pub type_c : Ty
type_c = ty.named 3

abbrev pub type_d : Ty
type_d = ty.named 4

abbrev pub pointer_a : Ty
pointer_a = ty.pointer (tagged tag_a)

abbrev pub pointer_b : Ty
pointer_b = ty.pointer (tagged tag_b)

abbrev pub reader : Ty → Ty
reader t = ty.func (more_tys t no_tys) (more_tys int no_tys) false

-- the field X of what a pointer points to
abbrev pub x_at : Ty → Expr → Expr
x_at t e = core.read int (core.field t 0 (core.deref e))

-- `func(p *struct { X int "a" }) int { return p.X }`
abbrev pub read_func : CoreFunc
read_func = func_of (pointer_a ∷ []) (int ∷ []) (var_of 10 pointer_a ∷ var_of 11 int ∷ []) [] (returns_ (x_at (tagged tag_a) (var pointer_a 10) ∷ []) ∷ [])

abbrev pub tagged_vars : List Var
tagged_vars = var_of 1 type_a ∷ var_of 2 type_b ∷ var_of 3 (ty.pointer type_b) ∷ var_of 4 type_c ∷ var_of 5 type_d ∷ var_of 6 (ty.slice pointer_b) ∷ var_of 7 (reader pointer_b) ∷ []

abbrev pub p_of_d : Expr
p_of_d = core.read pointer_b (core.field type_d 0 (core.local_ 5))

-- `a := A{4}`, `b := B(a)`, `p := (*B)(&a)`, `c := C{(*struct { X int "a" })(&a)}`, `d := D(c)`, `s` a slice of
-- pointers and `f` a function that takes one, both made with the tag "a" and converted to those with "b"; `p.X = 8`,
-- `println(b.X, p.X, d.P.X, s[0].X, f(d.P))`
abbrev pub tagged_body : ℕ → List Stmt
tagged_body reads =
    define 1 type_a (core.build type_a 0 (core.element 0 (n_ 4) core.no_elements))
    ++ define 2 type_b (core.convert type_a type_b (var type_a 1))
    ++ define 3 (ty.pointer type_b) (core.convert (ty.pointer type_a) (ty.pointer type_b) (core.address (ty.pointer type_a) (core.local_ 1)))
    ++ define 4 type_c (core.build type_c 0 (core.element 0 (core.convert (ty.pointer type_a) pointer_a (core.address (ty.pointer type_a) (core.local_ 1))) core.no_elements))
    ++ define 5 type_d (core.convert type_c type_d (var type_c 4))
    ++ define 6 (ty.slice pointer_b) (core.convert (ty.slice pointer_a) (ty.slice pointer_b) (core.build (ty.slice pointer_a) 1 (core.element 0 (core.read pointer_a (core.field type_c 0 (core.local_ 4))) core.no_elements)))
    ++ define 7 (reader pointer_b) (core.convert (reader pointer_a) (reader pointer_b) (core.closure (reader pointer_a) reads))
    ++ core.store (core.to_place int (core.field type_b 0 (core.deref (var (ty.pointer type_b) 3))) ∷ []) (exprs (n_ 8 ∷ []))
    ∷ say (
    core.read int (core.field type_b 0 (core.local_ 2))
    ∷ x_at type_b (var (ty.pointer type_b) 3)
    ∷ x_at (tagged tag_b) p_of_d
    ∷ x_at (tagged tag_b) (cell_of (ty.slice pointer_b) pointer_b (var (ty.slice pointer_b) 6) (n_ 0))
    ∷ core.call (more_tys int no_tys) (core.func_value (var (reader pointer_b) 7)) (exprs (p_of_d ∷ []))
    ∷ [])
    ∷ []

abbrev pub tags_converted : CoreProgram
tags_converted = program_with tagged_names [] (tagged_body 2) (read_func ∷ [])

pub record RowsMemory : Type 0 where
  pub a_struct_is_copied : outcome structs_are_copied [] ≡ prints (codes "0 2 9 2\n")
  pub a_field_stays_in_place : outcome pointer_to_a_field [] ≡ prints (codes "4\n")
  pub nil_pointer_panics : outcome nil_pointer [] ≡ panics_with [] (codes "runtime error: invalid memory address or nil pointer dereference")
  pub operands_come_first : outcome two_phases [] ≡ prints (codes "7 2 3 2\n")
  pub values_are_swapped : outcome swap [] ≡ prints (codes "2 1\n")
  pub index_is_checked_late : outcome index_in_the_second_phase [] ≡ panics_with (codes "right side\n") (codes "runtime error: index out of range [3] with length 3")
  pub negative_index_panics : outcome negative_index [] ≡ panics_with [] (codes "runtime error: index out of range [-1]")
  pub index_at_the_length_panics : outcome index_at_the_length [] ≡ panics_with [] (codes "runtime error: index out of range [3] with length 3")
  pub appends_share_an_array : outcome append_in_place [] ≡ prints (codes "2 2 2 4\n")
  pub append_grows : outcome append_anew [] ≡ prints (codes "9 1 3 3 3\n")
  pub append_grows_more : shown_if_ended (played append_anew [] (with_capacity 10) 80 (Some (start append_anew []))) ≡ prints (codes "9 1 3 3 10\n")
  pub append_holds_what_it_needs : shown_if_ended (played append_anew [] (with_capacity 2) 80 (Some (start append_anew []))) ≡ prints (codes "9 1 3 3 3\n")
  pub copy_is_at_once : outcome copy_overlaps [] ≡ prints (codes "2 1 1 2\n")
  pub slices_have_limits : outcome full_slices [] ≡ prints (codes "1 2 3 true\n")
  pub slice_bounds_panic : outcome slice_past_the_capacity [] ≡ panics_with [] (codes "runtime error: slice bounds out of range")
  pub nil_array_has_no_slice : outcome slice_of_a_nil_array [] ≡ panics_with [] (codes "runtime error: invalid memory address or nil pointer dereference")
  pub negative_size_panics : outcome negative_size [] ≡ panics_with [] (codes "runtime error: size out of range")
  pub length_above_capacity_panics : outcome length_above_the_capacity [] ≡ panics_with [] (codes "runtime error: size out of range")
  pub negative_map_size_panics : outcome negative_map_size [] ≡ panics_with [] (codes "runtime error: size out of range")
  pub maps_hold : outcome maps [] ≡ prints (codes "3 2 0 false\n0 1 2\n")
  pub nil_map_panics : outcome nil_map [] ≡ panics_with (codes "0 0\n") (codes "assignment to entry in nil map")
  pub blank_fields_are_left_out : outcome blank_fields [] ≡ prints (codes "true false\n")
  pub pointers_are_bases : outcome news [] ≡ prints (codes "4 true false\n")
  pub values_get_variables : outcome let_in [] ≡ prints (codes "8\n")
  pub empty_variables_differ : outcome empty_variables [] ≡ prints (codes "false true\n")
  pub tags_are_ignored : outcome tags_converted [] ≡ prints (codes "4 8 8 8 8\n")

-- Rows on control, worked out by hand: Go specification (as of Go 1.17), "If statements", "For statements",
-- "Switch statements", "Break statements", "Continue statements", "Fallthrough statements", "Select statements".
use Rattle.std.specs.Prelude.{◌≡◌, ℕ, List, [], ◌∷◌, ◌++◌, true, false, Option, Some, None, codes}
use Rattle.go_type.specs.declared.types.IntName.TheVariants as integer
use Rattle.go_type.specs.Tree as ty
use Rattle.go_type.specs.Tree.{Ty, Tys, no_tys, more_tys, no_specs, more_specs, no_fields, more_fields}
use Rattle.go_core.specs.CoreTree as core
use Rattle.go_core.specs.CoreTree.{CoreProgram, CoreFunc, Expr, Stmt, Stmts, no_stmts, no_exprs, expr, Var}
use Rattle.go_core.specs.Goroutine.{Move}
use Rattle.go_core.specs.Run.{start}
use Rattle.go_core.specs.MeaningWords.{int, ints, n_, str, exprs, var, body, say, let_var, set, define, var_of, program, plain_move, played, shown_if_ended, outcome, Shown, prints, panics_with, plus, same, below, elements_from, int_slice, if_, break_, continue_}

abbrev pub table : Ty
table = ty.mapping int int

abbrev pub three : Ty
three = ty.array 3 int

abbrev pub maybe : ℕ → Ty → Option Var
maybe v t = Some (var_of v t)

-- `for i := 0; i < 5; i++ { if i == 1 { continue }; if i == 3 { break }; println(i) }`
abbrev pub loop : CoreProgram
loop = program (define 1 int (n_ 0) ++
    core.loop 7 (core.bound (below (var int 1) (n_ 5))) (body (
    if_ (same int (var int 1) (n_ 1)) (continue_ 7 ∷ []) []
    ∷ if_ (same int (var int 1) (n_ 3)) (break_ 7 ∷ []) []
    ∷ say (var int 1 ∷ []) ∷ []))
    (body (set 1 int (plus (var int 1) (n_ 1)) ∷ []))
    ∷ say (str (codes "after") ∷ var int 1 ∷ []) ∷ []) []

-- an inner loop that continues and then leaves the outer one
abbrev pub labels : CoreProgram
labels = program (define 1 int (n_ 0) ++
    core.loop 7 core.no_bound (body (
    set 1 int (plus (var int 1) (n_ 1))
    ∷ core.loop 8 core.no_bound (body (
    if_ (below (var int 1) (n_ 3)) (continue_ 7 ∷ []) (break_ 7 ∷ []) ∷ [])) no_stmts
    ∷ []))
    (body (say (str (codes "post") ∷ var int 1 ∷ []) ∷ []))
    ∷ core.labeled 9 (body (say (str (codes "in") ∷ []) ∷ break_ 9 ∷ say (str (codes "not here") ∷ []) ∷ []))
    ∷ say (str (codes "out") ∷ []) ∷ []) []

-- a switch on a value: tests in order; a clause that falls through; a default
abbrev pub switched : ℕ → Stmt
switched tag = core.switch_on 7
    (core.test (same int (n_ tag) (n_ 1)) 0 (core.test (same int (n_ tag) (n_ 2)) 1 (core.test (same int (n_ tag) (n_ 3)) 2 core.no_tests)))
    (core.clause (body (say (str (codes "one") ∷ []) ∷ [])) true
    (core.clause (body (say (str (codes "two") ∷ []) ∷ [])) false
    (core.clause (body (break_ 7 ∷ say (str (codes "not here") ∷ []) ∷ [])) false
    (core.clause (body (say (str (codes "default") ∷ []) ∷ [])) false core.no_clauses))))
    (Some 3)

abbrev pub switches : CoreProgram
switches = program (switched 1 ∷ switched 2 ∷ switched 3 ∷ switched 4 ∷ core.switch_on 8 core.no_tests core.no_clauses None ∷ say [] ∷ []) []

-- ---- range

-- over a copy of an array
abbrev pub range_of_an_array : CoreProgram
range_of_an_array = program (
    define 1 three (core.build three 0 (elements_from 0 (n_ 1 ∷ n_ 2 ∷ n_ 3 ∷ [])))
    ++ let_var 2 int ∷ let_var 3 int
    ∷ core.range_over 7 three (var three 1) (maybe 2 int) (maybe 3 int) (body (
    core.store (core.to_place int (core.elem three (core.local_ 1) (n_ 2)) ∷ []) (exprs (n_ 9 ∷ []))
    ∷ say (var int 2 ∷ var int 3 ∷ []) ∷ []))
    ∷ []) []

-- through a pointer, and over a slice whose length stays
abbrev pub range_of_a_slice : CoreProgram
range_of_a_slice = program (
    define 1 ints (int_slice 2 (n_ 1 ∷ n_ 2 ∷ []))
    ++ let_var 2 int ∷ let_var 3 int
    ∷ core.range_over 7 ints (var ints 1) (maybe 2 int) (maybe 3 int) (body (
    core.store (core.to_place int (core.slice_elem ints (var ints 1) (n_ 1)) ∷ []) (exprs (n_ 9 ∷ []))
    ∷ set 1 ints (core.append ints ints (var ints 1) (int_slice 1 (n_ 5 ∷ [])))
    ∷ say (var int 2 ∷ var int 3 ∷ core.len ints (var ints 1) ∷ []) ∷ []))
    ∷ core.range_over 8 ints (core.zero_value ints) None None (body (say (str (codes "not here") ∷ []) ∷ []))
    ∷ []) []

abbrev pub range_of_a_pointer : CoreProgram
range_of_a_pointer = program (
    define 1 three (core.build three 0 (elements_from 0 (n_ 1 ∷ n_ 2 ∷ n_ 3 ∷ [])))
    ++ let_var 3 int
    ∷ core.range_over 7 (ty.pointer three) (core.address (ty.pointer three) (core.local_ 1)) None (maybe 3 int) (body (
    core.store (core.to_place int (core.elem three (core.local_ 1) (n_ 2)) ∷ []) (exprs (n_ 9 ∷ []))
    ∷ say (var int 3 ∷ []) ∷ []))
    ∷ core.range_over 8 (ty.pointer three) (core.zero_value (ty.pointer three)) None (maybe 3 int) no_stmts
    ∷ []) []

-- through a nil pointer to an array that has no elements
abbrev pub range_of_no_elements : CoreProgram
range_of_no_elements = program (
    let_var 3 int
    ∷ core.range_over 7 (ty.pointer (ty.array 0 int)) (core.zero_value (ty.pointer (ty.array 0 int))) None (maybe 3 int) (body (say (str (codes "not here") ∷ []) ∷ []))
    ∷ say (str (codes "end") ∷ [])
    ∷ []) []

-- "aé" and a byte that begins no character
abbrev pub range_of_a_text : CoreProgram
range_of_a_text = program (
    let_var 2 int ∷ let_var 3 (ty.int integer.Int32)
    ∷ core.range_over 7 ty.str (str (97 ∷ 195 ∷ 169 ∷ 255 ∷ [])) (maybe 2 int) (maybe 3 (ty.int integer.Int32)) (body (say (var int 2 ∷ var (ty.int integer.Int32) 3 ∷ []) ∷ []))
    ∷ []) []

abbrev pub range_of_a_number : CoreProgram
range_of_a_number = program (let_var 2 int ∷ core.range_over 7 int (n_ 2) (maybe 2 int) None (body (say (var int 2 ∷ []) ∷ [])) ∷ []) []

-- over a map, to which the first turn adds an entry (of birth 2)
abbrev pub range_of_a_map : CoreProgram
range_of_a_map = program (
    define 1 table (core.build_map table (core.pair (n_ 10) (n_ 1) (core.pair (n_ 20) (n_ 2) core.no_pairs)))
    ++ let_var 2 int ∷ let_var 3 int
    ∷ core.range_over 7 table (var table 1) (maybe 2 int) (maybe 3 int) (body (
    core.store (core.to_entry table (var table 1) (n_ 30) ∷ []) (exprs (n_ 3 ∷ []))
    ∷ say (var int 2 ∷ var int 3 ∷ []) ∷ []))
    ∷ []) []

-- the first turn deletes the entry of birth 1, and adds its key again (birth 2)
abbrev pub range_while_deleting : CoreProgram
range_while_deleting = program (
    define 1 table (core.build_map table (core.pair (n_ 10) (n_ 1) (core.pair (n_ 20) (n_ 2) core.no_pairs)))
    ++ let_var 2 int
    ∷ core.range_over 7 table (var table 1) (maybe 2 int) None (body (
    core.map_delete table (var table 1) (n_ 20)
    ∷ say (var int 2 ∷ []) ∷ []))
    ∷ []) []

-- the entry that a move produces, before others
abbrev pub born : ℕ → Move
born n = record (plain_move 0 1) { birth = Some n }

abbrev pub in_order : List ℕ → List Move
in_order [] = plain_move 0 1 ∷ []
in_order (n ∷ ns) = born n ∷ in_order ns

abbrev pub ranged : CoreProgram → List ℕ → Option Shown
ranged p births = shown_if_ended (played p [] (in_order births) 150 (Some (start p [])))

pub record RowsControl : Type 0 where
  pub loops_go_on_and_end : outcome loop [] ≡ prints (codes "0\n2\nafter 3\n")
  pub labels_lead : outcome labels [] ≡ prints (codes "post 1\npost 2\nin\nout\n")
  pub clauses_are_chosen : outcome switches [] ≡ prints (codes "one\ntwo\ntwo\ndefault\n\n")
  pub array_is_copied : outcome range_of_an_array [] ≡ prints (codes "0 1\n1 2\n2 3\n")
  pub length_is_fixed : outcome range_of_a_slice [] ≡ prints (codes "0 1 3\n1 9 4\n")
  pub pointed_array_is_not_copied : outcome range_of_a_pointer [] ≡ panics_with (codes "1\n2\n9\n") (codes "runtime error: invalid memory address or nil pointer dereference")
  pub nothing_is_pointed_at : outcome range_of_no_elements [] ≡ prints (codes "end\n")
  pub characters_are_produced : outcome range_of_a_text [] ≡ prints (codes "0 97\n1 233\n3 65533\n")
  pub numbers_are_counted : outcome range_of_a_number [] ≡ prints (codes "0\n1\n")
  pub entries_in_one_order : ranged range_of_a_map (0 ∷ 1 ∷ []) ≡ prints (codes "10 1\n20 2\n")
  pub entries_in_the_other_order : ranged range_of_a_map (1 ∷ 0 ∷ []) ≡ prints (codes "20 2\n10 1\n")
  pub a_new_entry_may_be_produced : ranged range_of_a_map (0 ∷ 2 ∷ 1 ∷ []) ≡ prints (codes "10 1\n30 3\n20 2\n")
  pub no_entry_may_be_passed_over : ranged range_of_a_map (0 ∷ []) ≡ None
  pub a_deleted_entry_is_not_produced : ranged range_while_deleting (0 ∷ 1 ∷ []) ≡ prints (codes "10\n")

use Rattle.std.proofs.Common.{◌≡◌, ◌++◌, drop, map}
use Rattle.go_syntax.specs.Tree as t
use Rattle.go_syntax.specs.View.{expr_view, exprs_of, elem_view, param_view, field_view, member_view, stmt_view, stmts_of, clause_view, comm_view, value_spec_view, type_spec_view, joined}
use Rattle.go_typing.specs.Uses.{names_in_all, names_in_elems, names_in_params, names_in_fields, names_in_members, names_in_stmts, names_in_clauses, names_in_comms, names_in_values, names_in_types}
use Rattle.go_walk.specs.Texts.{texts}
use Rattle.go_walk.proofs.uses.names.+uses.Given as goal

-- the names so far and those in what is left are all
abbrev pub invariant-in_exprs-loop-x : goal.invariant-in_exprs-loop-x
invariant-in_exprs-loop-x l = texts l.names.items ++ names_in_all (exprs_of (map expr_view (drop l.x-index l.xs))) ≡ texts l.initial.names.items ++ names_in_all (exprs_of (map expr_view l.xs))

abbrev pub invariant-in_elems-loop-e : goal.invariant-in_elems-loop-e
invariant-in_elems-loop-e l = texts l.names.items ++ names_in_elems (joined (map elem_view (drop l.e-index l.elems)) t.NoElems) ≡ texts l.initial.names.items ++ names_in_elems (joined (map elem_view l.elems) t.NoElems)

abbrev pub invariant-in_params-loop-p : goal.invariant-in_params-loop-p
invariant-in_params-loop-p l = texts l.names.items ++ names_in_params (joined (map param_view (drop l.p-index l.p-items)) t.NoParams) ≡ texts l.initial.names.items ++ names_in_params (joined (map param_view l.p-items) t.NoParams)

abbrev pub invariant-in_fields-loop-f : goal.invariant-in_fields-loop-f
invariant-in_fields-loop-f l = texts l.names.items ++ names_in_fields (joined (map field_view (drop l.f-index l.fields)) t.NoFields) ≡ texts l.initial.names.items ++ names_in_fields (joined (map field_view l.fields) t.NoFields)

abbrev pub invariant-in_members-loop-m : goal.invariant-in_members-loop-m
invariant-in_members-loop-m l = texts l.names.items ++ names_in_members (joined (map member_view (drop l.m-index l.members)) t.NoMembers) ≡ texts l.initial.names.items ++ names_in_members (joined (map member_view l.members) t.NoMembers)

abbrev pub invariant-in_stmts-loop-s : goal.invariant-in_stmts-loop-s
invariant-in_stmts-loop-s l = texts l.names.items ++ names_in_stmts (stmts_of (map stmt_view (drop l.s-index l.ss))) ≡ texts l.initial.names.items ++ names_in_stmts (stmts_of (map stmt_view l.ss))

abbrev pub invariant-in_clauses-loop-c : goal.invariant-in_clauses-loop-c
invariant-in_clauses-loop-c l = texts l.names.items ++ names_in_clauses (joined (map clause_view (drop l.c-index l.cs)) t.NoClauses) ≡ texts l.initial.names.items ++ names_in_clauses (joined (map clause_view l.cs) t.NoClauses)

abbrev pub invariant-in_comms-loop-c : goal.invariant-in_comms-loop-c
invariant-in_comms-loop-c l = texts l.names.items ++ names_in_comms (joined (map comm_view (drop l.c-index l.cs)) t.NoComms) ≡ texts l.initial.names.items ++ names_in_comms (joined (map comm_view l.cs) t.NoComms)

abbrev pub invariant-in_values-loop-s : goal.invariant-in_values-loop-s
invariant-in_values-loop-s l = texts l.names.items ++ names_in_values (joined (map value_spec_view (drop l.s-index l.specs)) t.NoValues) ≡ texts l.initial.names.items ++ names_in_values (joined (map value_spec_view l.specs) t.NoValues)

abbrev pub invariant-in_types-loop-s : goal.invariant-in_types-loop-s
invariant-in_types-loop-s l = texts l.names.items ++ names_in_types (joined (map type_spec_view (drop l.s-index l.specs)) t.NoTypes) ≡ texts l.initial.names.items ++ names_in_types (joined (map type_spec_view l.specs) t.NoTypes)

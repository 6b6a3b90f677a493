use Rattle.std.proofs.Common.{◌∙◌, refl, sym, ap, subst, ℕ, List, Ok}
use Rattle.go_type.specs.Tree.{Ty}
use Rattle.go_type.specs.Levels.{tree_of}
use Rattle.go_type.specs.Table.{places, names}
use Rattle.go_type.specs.Underlying.{underlying}
use Rattle.go_type.specs.declared.table.TypeTable.{TypeTable}
use Rattle.go_core.specs.CoreView.{program_view}
use Rattle.go_core.specs.Equality.{compared}
use Rattle.go_core.specs.Layout.{shape_of}
use Rattle.go_core.specs.StepInterfaces.{basic_step, bind_dynamic_step, wrap_step}
use Rattle.go_core.specs.StepMaps.{build_map_step, map_delete_step, map_get_step}
use Rattle.go_core.specs.StepMemory.{build_step, elem_step, field_step, new_step, read_step, slice_elem_step, zero_step}
use Rattle.go_core.specs.StepNumbers.{binary_step, convert_step, equal_step, less_step, unary_step}
use Rattle.go_core.specs.StepSlices.{append_step, cap_step, copy_step, len_step, make_slice_step, slice_step}
use Rattle.go_values.specs.ValuesSeen.{value_of, values_of, memory_of}
use Rattle.go_values.specs.OperatorsSeen.{Does}
use Rattle.go_values.proofs.Steps.{goes}
use Rattle.go_slices.proofs.OperatorLemmas.{kind_stops, kind_goes}
use Rattle.go_slices.proofs.composites.operator.operated.Goals as goal

pub returns-in_err-none_left-in-GiveConstant : goal.returns-in_err-none_left-in-GiveConstant
returns-in_err-none_left-in-GiveConstant c = record { value = kind_stops c.args.p.now c.args.wanted c.args.m.now c.args.vs.now c.from_residual.result _ _ _ c.in-GiveConstant.is c.from_residual.ensures.1 (c.in_err-none_left-in-GiveConstant.ensures.value (places c.args.p.now.types) _) }

pub returns-in_ok-none_left-in-GiveConstant : goal.returns-in_ok-none_left-in-GiveConstant
returns-in_ok-none_left-in-GiveConstant c =
    let w = c.args.c.now.table.now in
    let ts = places c.args.p.now.types in
    let s = memory_of ts c.args.m.now in
    record {
      value = kind_goes c.args.p.now c.args.wanted c.args.m.now c.args.vs.now c.constant_step.result _ _ _ c.in-GiveConstant.is (c.in_ok-none_left-in-GiveConstant.ensures.value ts _)
          (c.constant_step.ensures.value ts s);
    }

pub returns-in_err-none_left-in-GiveZero : goal.returns-in_err-none_left-in-GiveZero
returns-in_err-none_left-in-GiveZero c = record { value = kind_stops c.args.p.now c.args.wanted c.args.m.now c.args.vs.now c.from_residual-in_err-none_left-in-GiveZero.result _ _ _ c.in-GiveZero.is c.from_residual-in_err-none_left-in-GiveZero.ensures.1 (c.in_err-none_left-in-GiveZero.ensures.value (places c.args.p.now.types) _) }

pub returns-in_ok-none_left-in-GiveZero : goal.returns-in_ok-none_left-in-GiveZero
returns-in_ok-none_left-in-GiveZero c =
    let w = c.args.c.now.table.now in
    let ts = places c.args.p.now.types in
    let s = memory_of ts c.args.m.now in
    record {
      value = kind_goes c.args.p.now c.args.wanted c.args.m.now c.args.vs.now c.zero_step.result _ _ _ c.in-GiveZero.is (c.in_ok-none_left-in-GiveZero.ensures.value ts _)
          (subst (λ (u : TypeTable). Does (places u) (memory_of (places u) c.args.m.now) c.zero_step.result (zero_step (shape_of (names u) (tree_of (places u) c.in-GiveZero.t)) (memory_of (places u) c.args.m.now))) c.requires (c.zero_step.ensures.value (memory_of (places w) c.args.m.now)));
    }

pub returns-in_err-none_left-in-AtGlobal : goal.returns-in_err-none_left-in-AtGlobal
returns-in_err-none_left-in-AtGlobal c = record { value = kind_stops c.args.p.now c.args.wanted c.args.m.now c.args.vs.now c.from_residual-in_err-none_left-in-AtGlobal.result _ _ _ c.in-AtGlobal.is c.from_residual-in_err-none_left-in-AtGlobal.ensures.1 (c.in_err-none_left-in-AtGlobal.ensures.value (places c.args.p.now.types) _) }

pub returns-in_ok-none_left-in-AtGlobal : goal.returns-in_ok-none_left-in-AtGlobal
returns-in_ok-none_left-in-AtGlobal c =
    let w = c.args.c.now.table.now in
    let ts = places c.args.p.now.types in
    let s = memory_of ts c.args.m.now in
    record {
      value = kind_goes c.args.p.now c.args.wanted c.args.m.now c.args.vs.now c.global_step.result _ _ _ c.in-AtGlobal.is (c.in_ok-none_left-in-AtGlobal.ensures.value ts _)
          (c.global_step.ensures.value ts s);
    }

pub returns-in_err-x-in-AtPointer : goal.returns-in_err-x-in-AtPointer
returns-in_err-x-in-AtPointer c = record { value = kind_stops c.args.p.now c.args.wanted c.args.m.now c.args.vs.now c.from_residual-in_err-x-in-AtPointer.result _ _ _ c.in-AtPointer.is c.from_residual-in_err-x-in-AtPointer.ensures.1 (c.in_err-x-in-AtPointer.ensures.value (places c.args.p.now.types) _) }

pub returns-in_ok-x-in-AtPointer : goal.returns-in_ok-x-in-AtPointer
returns-in_ok-x-in-AtPointer c =
    let w = c.args.c.now.table.now in
    let ts = places c.args.p.now.types in
    let s = memory_of ts c.args.m.now in
    record {
      value = kind_goes c.args.p.now c.args.wanted c.args.m.now c.args.vs.now c.deref_step.result _ _ _ c.in-AtPointer.is (c.in_ok-x-in-AtPointer.ensures.value ts _)
          (c.deref_step.ensures.value ts s);
    }

pub returns-in_err-x-in-AtField : goal.returns-in_err-x-in-AtField
returns-in_err-x-in-AtField c = record { value = kind_stops c.args.p.now c.args.wanted c.args.m.now c.args.vs.now c.from_residual-in_err-x-in-AtField.result _ _ _ c.in-AtField.is c.from_residual-in_err-x-in-AtField.ensures.1 (c.in_err-x-in-AtField.ensures.value (places c.args.p.now.types) _) }

pub returns-in_ok-x-in-AtField : goal.returns-in_ok-x-in-AtField
returns-in_ok-x-in-AtField c =
    let w = c.args.c.now.table.now in
    let ts = places c.args.p.now.types in
    let s = memory_of ts c.args.m.now in
    record {
      value = kind_goes c.args.p.now c.args.wanted c.args.m.now c.args.vs.now c.field_step.result _ _ _ c.in-AtField.is (c.in_ok-x-in-AtField.ensures.value ts _)
          (subst (λ (u : TypeTable). Does (places u) (memory_of (places u) c.args.m.now) c.field_step.result (field_step (shape_of (names u) (tree_of (places u) c.in-AtField.struct_type)) c.in-AtField.number (value_of (places u) c.in_ok-x-in-AtField.x.now) (memory_of (places u) c.args.m.now))) c.requires (c.field_step.ensures.value (memory_of (places w) c.args.m.now)));
    }

pub returns-in_err-xs-in-AtElem : goal.returns-in_err-xs-in-AtElem
returns-in_err-xs-in-AtElem c = record { value = kind_stops c.args.p.now c.args.wanted c.args.m.now c.args.vs.now c.from_residual-in_err-xs-in-AtElem.result _ _ _ c.in-AtElem.is c.from_residual-in_err-xs-in-AtElem.ensures.1 (c.in_err-xs-in-AtElem.ensures.value (places c.args.p.now.types) _) }

pub returns-in_ok-xs-in-AtElem : goal.returns-in_ok-xs-in-AtElem
returns-in_ok-xs-in-AtElem c =
    let w = c.args.c.now.table.now in
    let ts = places c.args.p.now.types in
    let s = memory_of ts c.args.m.now in
    record {
      value = kind_goes c.args.p.now c.args.wanted c.args.m.now c.args.vs.now c.elem_step.result _ _ _ c.in-AtElem.is (c.in_ok-xs-in-AtElem.ensures.value ts _)
          (subst (λ (u : TypeTable). Does (places u) (memory_of (places u) c.args.m.now) c.elem_step.result (elem_step (names u) (underlying (names u) (tree_of (places u) c.in-AtElem.t)) (value_of (places u) c.in_ok-xs-in-AtElem.xs.left.now) (value_of (places u) c.in_ok-xs-in-AtElem.xs.right.now) (memory_of (places u) c.args.m.now))) c.requires
          (goes (places w) (memory_of (places w) c.args.m.now) c.elem_step.result _ _ (ap (λ (t : Ty). elem_step (names w) t (value_of (places w) c.in_ok-xs-in-AtElem.xs.left.now) (value_of (places w) c.in_ok-xs-in-AtElem.xs.right.now) (memory_of (places w) c.args.m.now)) (sym c.underlying.ensures.tree)) (c.elem_step.ensures.value (memory_of (places w) c.args.m.now))));
    }

pub returns-in_err-xs-in-AtSliceElem : goal.returns-in_err-xs-in-AtSliceElem
returns-in_err-xs-in-AtSliceElem c = record { value = kind_stops c.args.p.now c.args.wanted c.args.m.now c.args.vs.now c.from_residual-in_err-xs-in-AtSliceElem.result _ _ _ c.in-AtSliceElem.is c.from_residual-in_err-xs-in-AtSliceElem.ensures.1 (c.in_err-xs-in-AtSliceElem.ensures.value (places c.args.p.now.types) _) }

pub returns-in_ok-xs-in-AtSliceElem : goal.returns-in_ok-xs-in-AtSliceElem
returns-in_ok-xs-in-AtSliceElem c =
    let w = c.args.c.now.table.now in
    let ts = places c.args.p.now.types in
    let s = memory_of ts c.args.m.now in
    record {
      value = kind_goes c.args.p.now c.args.wanted c.args.m.now c.args.vs.now c.slice_elem_step.result _ _ _ c.in-AtSliceElem.is (c.in_ok-xs-in-AtSliceElem.ensures.value ts _)
          (subst (λ (u : TypeTable). Does (places u) (memory_of (places u) c.args.m.now) c.slice_elem_step.result (slice_elem_step (names u) (underlying (names u) (tree_of (places u) c.in-AtSliceElem.t)) (value_of (places u) c.in_ok-xs-in-AtSliceElem.xs.left.now) (value_of (places u) c.in_ok-xs-in-AtSliceElem.xs.right.now) (memory_of (places u) c.args.m.now))) c.requires
          (goes (places w) (memory_of (places w) c.args.m.now) c.slice_elem_step.result _ _ (ap (λ (t : Ty). slice_elem_step (names w) t (value_of (places w) c.in_ok-xs-in-AtSliceElem.xs.left.now) (value_of (places w) c.in_ok-xs-in-AtSliceElem.xs.right.now) (memory_of (places w) c.args.m.now)) (sym c.underlying-in-AtSliceElem.ensures.tree)) (c.slice_elem_step.ensures.value (memory_of (places w) c.args.m.now))));
    }

pub returns-in_err-x-in-ReadPlace : goal.returns-in_err-x-in-ReadPlace
returns-in_err-x-in-ReadPlace c = record { value = kind_stops c.args.p.now c.args.wanted c.args.m.now c.args.vs.now c.from_residual-in_err-x-in-ReadPlace.result _ _ _ c.in-ReadPlace.is c.from_residual-in_err-x-in-ReadPlace.ensures.1 (c.in_err-x-in-ReadPlace.ensures.value (places c.args.p.now.types) _) }

pub returns-in_ok-x-in-ReadPlace : goal.returns-in_ok-x-in-ReadPlace
returns-in_ok-x-in-ReadPlace c =
    let w = c.args.c.now.table.now in
    let ts = places c.args.p.now.types in
    let s = memory_of ts c.args.m.now in
    record {
      value = kind_goes c.args.p.now c.args.wanted c.args.m.now c.args.vs.now c.read_step.result _ _ _ c.in-ReadPlace.is (c.in_ok-x-in-ReadPlace.ensures.value ts _)
          (subst (λ (u : TypeTable). Does (places u) (memory_of (places u) c.args.m.now) c.read_step.result (read_step (shape_of (names u) (tree_of (places u) c.in-ReadPlace.t)) (value_of (places u) c.in_ok-x-in-ReadPlace.x.now) (memory_of (places u) c.args.m.now))) c.requires (c.read_step.ensures.value));
    }

pub returns-in_err-x-in-ToAddress : goal.returns-in_err-x-in-ToAddress
returns-in_err-x-in-ToAddress c = record { value = kind_stops c.args.p.now c.args.wanted c.args.m.now c.args.vs.now c.from_residual-in_err-x-in-ToAddress.result _ _ _ c.in-ToAddress.is c.from_residual-in_err-x-in-ToAddress.ensures.1 (c.in_err-x-in-ToAddress.ensures.value (places c.args.p.now.types) _) }

pub returns-in_ok-x-in-ToAddress : goal.returns-in_ok-x-in-ToAddress
returns-in_ok-x-in-ToAddress c =
    let w = c.args.c.now.table.now in
    let ts = places c.args.p.now.types in
    let s = memory_of ts c.args.m.now in
    record {
      value = kind_goes c.args.p.now c.args.wanted c.args.m.now c.args.vs.now (Ok c.gives_value.result) _ _ _ c.in-ToAddress.is (c.in_ok-x-in-ToAddress.ensures.value ts _)
          (sym (c.gives_value.ensures.value ts s));
    }

pub returns-in_err-x-in-ToUnary : goal.returns-in_err-x-in-ToUnary
returns-in_err-x-in-ToUnary c = record { value = kind_stops c.args.p.now c.args.wanted c.args.m.now c.args.vs.now c.from_residual-in_err-x-in-ToUnary.result _ _ _ c.in-ToUnary.is c.from_residual-in_err-x-in-ToUnary.ensures.1 (c.in_err-x-in-ToUnary.ensures.value (places c.args.p.now.types) _) }

pub returns-in_ok-x-in-ToUnary : goal.returns-in_ok-x-in-ToUnary
returns-in_ok-x-in-ToUnary c =
    let w = c.args.c.now.table.now in
    let ts = places c.args.p.now.types in
    let s = memory_of ts c.args.m.now in
    record {
      value = kind_goes c.args.p.now c.args.wanted c.args.m.now c.args.vs.now c.unary_step.result _ _ _ c.in-ToUnary.is (c.in_ok-x-in-ToUnary.ensures.value ts _)
          (subst (λ (u : TypeTable). Does (places u) (memory_of (places u) c.args.m.now) c.unary_step.result (unary_step (names u) c.in-ToUnary.op (tree_of (places u) c.in-ToUnary.t) (value_of (places u) c.in_ok-x-in-ToUnary.x.now) (memory_of (places u) c.args.m.now))) c.requires (c.unary_step.ensures.value (memory_of (places w) c.args.m.now)));
    }

pub returns-in_err-xs-in-ToBinary : goal.returns-in_err-xs-in-ToBinary
returns-in_err-xs-in-ToBinary c = record { value = kind_stops c.args.p.now c.args.wanted c.args.m.now c.args.vs.now c.from_residual-in_err-xs-in-ToBinary.result _ _ _ c.in-ToBinary.is c.from_residual-in_err-xs-in-ToBinary.ensures.1 (c.in_err-xs-in-ToBinary.ensures.value (places c.args.p.now.types) _) }

pub returns-in_ok-xs-in-ToBinary : goal.returns-in_ok-xs-in-ToBinary
returns-in_ok-xs-in-ToBinary c =
    let w = c.args.c.now.table.now in
    let ts = places c.args.p.now.types in
    let s = memory_of ts c.args.m.now in
    record {
      value = kind_goes c.args.p.now c.args.wanted c.args.m.now c.args.vs.now c.binary_step.result _ _ _ c.in-ToBinary.is (c.in_ok-xs-in-ToBinary.ensures.value ts _)
          (subst (λ (u : TypeTable). Does (places u) (memory_of (places u) c.args.m.now) c.binary_step.result (binary_step (names u) c.in-ToBinary.op (tree_of (places u) c.in-ToBinary.t) (value_of (places u) c.in_ok-xs-in-ToBinary.xs.left.now) (value_of (places u) c.in_ok-xs-in-ToBinary.xs.right.now) (memory_of (places u) c.args.m.now))) c.requires (c.binary_step.ensures.value (memory_of (places w) c.args.m.now)));
    }

pub returns-in_err-xs-in-ToConcat : goal.returns-in_err-xs-in-ToConcat
returns-in_err-xs-in-ToConcat c = record { value = kind_stops c.args.p.now c.args.wanted c.args.m.now c.args.vs.now c.from_residual-in_err-xs-in-ToConcat.result _ _ _ c.in-ToConcat.is c.from_residual-in_err-xs-in-ToConcat.ensures.1 (c.in_err-xs-in-ToConcat.ensures.value (places c.args.p.now.types) _) }

pub returns-in_ok-xs-in-ToConcat : goal.returns-in_ok-xs-in-ToConcat
returns-in_ok-xs-in-ToConcat c =
    let w = c.args.c.now.table.now in
    let ts = places c.args.p.now.types in
    let s = memory_of ts c.args.m.now in
    record {
      value = kind_goes c.args.p.now c.args.wanted c.args.m.now c.args.vs.now c.concat_step.result _ _ _ c.in-ToConcat.is (c.in_ok-xs-in-ToConcat.ensures.value ts _)
          (c.concat_step.ensures.value ts s);
    }

pub returns-in_err-x-in-ToNot : goal.returns-in_err-x-in-ToNot
returns-in_err-x-in-ToNot c = record { value = kind_stops c.args.p.now c.args.wanted c.args.m.now c.args.vs.now c.from_residual-in_err-x-in-ToNot.result _ _ _ c.in-ToNot.is c.from_residual-in_err-x-in-ToNot.ensures.1 (c.in_err-x-in-ToNot.ensures.value (places c.args.p.now.types) _) }

pub returns-in_ok-x-in-ToNot : goal.returns-in_ok-x-in-ToNot
returns-in_ok-x-in-ToNot c =
    let w = c.args.c.now.table.now in
    let ts = places c.args.p.now.types in
    let s = memory_of ts c.args.m.now in
    record {
      value = kind_goes c.args.p.now c.args.wanted c.args.m.now c.args.vs.now c.not_step.result _ _ _ c.in-ToNot.is (c.in_ok-x-in-ToNot.ensures.value ts _)
          (c.not_step.ensures.value ts s);
    }

pub returns-in_err-xs-in-ToEqual : goal.returns-in_err-xs-in-ToEqual
returns-in_err-xs-in-ToEqual c = record { value = kind_stops c.args.p.now c.args.wanted c.args.m.now c.args.vs.now c.from_residual-in_err-xs-in-ToEqual.result _ _ _ c.in-ToEqual.is c.from_residual-in_err-xs-in-ToEqual.ensures.1 (c.in_err-xs-in-ToEqual.ensures.value (places c.args.p.now.types) _) }

pub returns-in_ok-xs-in-ToEqual : goal.returns-in_ok-xs-in-ToEqual
returns-in_ok-xs-in-ToEqual c =
    let w = c.args.c.now.table.now in
    let ts = places c.args.p.now.types in
    let s = memory_of ts c.args.m.now in
    record {
      value = kind_goes c.args.p.now c.args.wanted c.args.m.now c.args.vs.now c.equal_step.result _ _ _ c.in-ToEqual.is (c.in_ok-xs-in-ToEqual.ensures.value ts _)
          (subst (λ (u : TypeTable). Does (places u) (memory_of (places u) c.args.m.now) c.equal_step.result (equal_step c.in-ToEqual.negated (compared (names u) (tree_of (places u) c.in-ToEqual.operands) (value_of (places u) c.in_ok-xs-in-ToEqual.xs.left.now) (value_of (places u) c.in_ok-xs-in-ToEqual.xs.right.now)) (memory_of (places u) c.args.m.now))) c.requires (c.equal_step.ensures.value (memory_of (places w) c.args.m.now)));
    }

pub returns-in_err-xs-in-ToLess : goal.returns-in_err-xs-in-ToLess
returns-in_err-xs-in-ToLess c = record { value = kind_stops c.args.p.now c.args.wanted c.args.m.now c.args.vs.now c.from_residual-in_err-xs-in-ToLess.result _ _ _ c.in-ToLess.is c.from_residual-in_err-xs-in-ToLess.ensures.1 (c.in_err-xs-in-ToLess.ensures.value (places c.args.p.now.types) _) }

pub returns-in_ok-xs-in-ToLess : goal.returns-in_ok-xs-in-ToLess
returns-in_ok-xs-in-ToLess c =
    let w = c.args.c.now.table.now in
    let ts = places c.args.p.now.types in
    let s = memory_of ts c.args.m.now in
    record {
      value = kind_goes c.args.p.now c.args.wanted c.args.m.now c.args.vs.now c.less_step.result _ _ _ c.in-ToLess.is (c.in_ok-xs-in-ToLess.ensures.value ts _)
          (subst (λ (u : TypeTable). Does (places u) (memory_of (places u) c.args.m.now) c.less_step.result (less_step c.in-ToLess.op (underlying (names u) (tree_of (places u) c.in-ToLess.operands)) (value_of (places u) c.in_ok-xs-in-ToLess.xs.left.now) (value_of (places u) c.in_ok-xs-in-ToLess.xs.right.now) (memory_of (places u) c.args.m.now))) c.requires
          (goes (places w) (memory_of (places w) c.args.m.now) c.less_step.result _ _ (ap (λ (t : Ty). less_step c.in-ToLess.op t (value_of (places w) c.in_ok-xs-in-ToLess.xs.left.now) (value_of (places w) c.in_ok-xs-in-ToLess.xs.right.now) (memory_of (places w) c.args.m.now)) (sym c.underlying-in-ToLess.ensures.tree)) (c.less_step.ensures.value (memory_of (places w) c.args.m.now))));
    }

pub returns-in_err-x-in-ToConverted : goal.returns-in_err-x-in-ToConverted
returns-in_err-x-in-ToConverted c = record { value = kind_stops c.args.p.now c.args.wanted c.args.m.now c.args.vs.now c.from_residual-in_err-x-in-ToConverted.result _ _ _ c.in-ToConverted.is c.from_residual-in_err-x-in-ToConverted.ensures.1 (c.in_err-x-in-ToConverted.ensures.value (places c.args.p.now.types) _) }

pub returns-in_ok-x-in-ToConverted : goal.returns-in_ok-x-in-ToConverted
returns-in_ok-x-in-ToConverted c =
    let w = c.args.c.now.table.now in
    let ts = places c.args.p.now.types in
    let s = memory_of ts c.args.m.now in
    record {
      value = kind_goes c.args.p.now c.args.wanted c.args.m.now c.args.vs.now c.convert_step.result _ _ _ c.in-ToConverted.is (c.in_ok-x-in-ToConverted.ensures.value ts _)
          (subst (λ (u : TypeTable). Does (places u) (memory_of (places u) c.args.m.now) c.convert_step.result (convert_step (names u) (tree_of (places u) c.in-ToConverted.from) (tree_of (places u) c.in-ToConverted.to) (value_of (places u) c.in_ok-x-in-ToConverted.x.now) (memory_of (places u) c.args.m.now))) c.requires (c.convert_step.ensures.value));
    }

pub returns-in_err-xs-in-ToByte : goal.returns-in_err-xs-in-ToByte
returns-in_err-xs-in-ToByte c = record { value = kind_stops c.args.p.now c.args.wanted c.args.m.now c.args.vs.now c.from_residual-in_err-xs-in-ToByte.result _ _ _ c.in-ToByte.is c.from_residual-in_err-xs-in-ToByte.ensures.1 (c.in_err-xs-in-ToByte.ensures.value (places c.args.p.now.types) _) }

pub returns-in_ok-xs-in-ToByte : goal.returns-in_ok-xs-in-ToByte
returns-in_ok-xs-in-ToByte c =
    let w = c.args.c.now.table.now in
    let ts = places c.args.p.now.types in
    let s = memory_of ts c.args.m.now in
    record {
      value = kind_goes c.args.p.now c.args.wanted c.args.m.now c.args.vs.now c.byte_at_step.result _ _ _ c.in-ToByte.is (c.in_ok-xs-in-ToByte.ensures.value ts _)
          (c.byte_at_step.ensures.value ts s);
    }

pub returns-in-ToSlice : goal.returns-in-ToSlice
returns-in-ToSlice c =
    let w = c.args.c.now.table.now in
    let ts = places c.args.p.now.types in
    let s = memory_of ts c.args.m.now in
    record {
      value = kind_goes c.args.p.now c.args.wanted c.args.m.now c.args.vs.now c.slice_step.result _ _ _ c.in-ToSlice.is refl
          (subst (λ (u : TypeTable). Does (places u) (memory_of (places u) c.args.m.now) c.slice_step.result (slice_step (names u) (tree_of (places u) c.in-ToSlice.from) c.in-ToSlice.written.low c.in-ToSlice.written.high c.in-ToSlice.written.limit (values_of (places u) c.args.vs.now) (memory_of (places u) c.args.m.now))) c.requires (c.slice_step.ensures.value (memory_of (places w) c.args.m.now)));
    }

pub returns-in-ToBuilt : goal.returns-in-ToBuilt
returns-in-ToBuilt c =
    let w = c.args.c.now.table.now in
    let ts = places c.args.p.now.types in
    let s = memory_of ts c.args.m.now in
    record {
      value = kind_goes c.args.p.now c.args.wanted c.args.m.now c.args.vs.now c.build_step.result _ _ _ c.in-ToBuilt.is refl
          (subst (λ (u : TypeTable). Does (places u) (memory_of (places u) c.args.m.now) c.build_step.result (build_step (names u) (tree_of (places u) c.in-ToBuilt.ty) (underlying (names u) (tree_of (places u) c.in-ToBuilt.ty)) c.in-ToBuilt.count c.in-ToBuilt.indexes.now (values_of (places u) c.args.vs.now) (memory_of (places u) c.args.m.now))) c.requires (c.build_step.ensures.value));
    }

pub returns-in-ToBuiltMap : goal.returns-in-ToBuiltMap
returns-in-ToBuiltMap c =
    let w = c.args.c.now.table.now in
    let ts = places c.args.p.now.types in
    let s = memory_of ts c.args.m.now in
    record {
      value = kind_goes c.args.p.now c.args.wanted c.args.m.now c.args.vs.now c.build_map_step.result _ _ _ c.in-ToBuiltMap.is refl
          (subst (λ (u : TypeTable). Does (places u) (memory_of (places u) c.args.m.now) c.build_map_step.result (build_map_step (names u) (underlying (names u) (tree_of (places u) c.in-ToBuiltMap.t)) (values_of (places u) c.args.vs.now) (memory_of (places u) c.args.m.now))) c.requires
          (goes (places w) (memory_of (places w) c.args.m.now) c.build_map_step.result _ _ (ap (λ (t : Ty). build_map_step (names w) t (values_of (places w) c.args.vs.now) (memory_of (places w) c.args.m.now)) (sym c.underlying-in-ToBuiltMap.ensures.tree)) (c.build_map_step.ensures.value)));
    }

pub returns-in_err-x-in-ToBound : goal.returns-in_err-x-in-ToBound
returns-in_err-x-in-ToBound c = record { value = kind_stops c.args.p.now c.args.wanted c.args.m.now c.args.vs.now c.from_residual-in_err-x-in-ToBound.result _ _ _ c.in-ToBound.is c.from_residual-in_err-x-in-ToBound.ensures.1 (c.in_err-x-in-ToBound.ensures.value (places c.args.p.now.types) _) }

pub returns-in_ok-x-in-ToBound : goal.returns-in_ok-x-in-ToBound
returns-in_ok-x-in-ToBound c =
    let w = c.args.c.now.table.now in
    let ts = places c.args.p.now.types in
    let s = memory_of ts c.args.m.now in
    record {
      value = kind_goes c.args.p.now c.args.wanted c.args.m.now c.args.vs.now c.bind_step.result _ _ _ c.in-ToBound.is (c.in_ok-x-in-ToBound.ensures.value ts _)
          (c.bind_step.ensures.value s);
    }

pub returns-in_err-x-in-ToBoundDynamic : goal.returns-in_err-x-in-ToBoundDynamic
returns-in_err-x-in-ToBoundDynamic c = record { value = kind_stops c.args.p.now c.args.wanted c.args.m.now c.args.vs.now c.from_residual-in_err-x-in-ToBoundDynamic.result _ _ _ c.in-ToBoundDynamic.is c.from_residual-in_err-x-in-ToBoundDynamic.ensures.1 (c.in_err-x-in-ToBoundDynamic.ensures.value (places c.args.p.now.types) _) }

pub returns-in_ok-x-in-ToBoundDynamic : goal.returns-in_ok-x-in-ToBoundDynamic
returns-in_ok-x-in-ToBoundDynamic c =
    let w = c.args.c.now.table.now in
    let ts = places c.args.p.now.types in
    let s = memory_of ts c.args.m.now in
    record {
      value = kind_goes c.args.p.now c.args.wanted c.args.m.now c.args.vs.now c.bind_dynamic_step.result _ _ _ c.in-ToBoundDynamic.is (c.in_ok-x-in-ToBoundDynamic.ensures.value ts _)
          (goes ts s c.bind_dynamic_step.result _ _
          (ap (λ (n : List ℕ). bind_dynamic_step (program_view c.args.p.now) n c.in-ToBoundDynamic.«package».now (value_of ts c.in_ok-x-in-ToBoundDynamic.x.now) s) (sym c.as_bytes.ensures)
          ∙ ap (λ (n : List ℕ). bind_dynamic_step (program_view c.args.p.now) c.as_bytes.result.now n (value_of ts c.in_ok-x-in-ToBoundDynamic.x.now) s) (sym c.as_bytes-in-ToBoundDynamic.ensures))
          (c.bind_dynamic_step.ensures.value s));
    }

pub returns-in_err-xs-in-GetEntry : goal.returns-in_err-xs-in-GetEntry
returns-in_err-xs-in-GetEntry c = record { value = kind_stops c.args.p.now c.args.wanted c.args.m.now c.args.vs.now c.from_residual-in_err-xs-in-GetEntry.result _ _ _ c.in-GetEntry.is c.from_residual-in_err-xs-in-GetEntry.ensures.1 (c.in_err-xs-in-GetEntry.ensures.value (places c.args.p.now.types) _) }

pub returns-in_ok-xs-in-GetEntry : goal.returns-in_ok-xs-in-GetEntry
returns-in_ok-xs-in-GetEntry c =
    let w = c.args.c.now.table.now in
    let ts = places c.args.p.now.types in
    let s = memory_of ts c.args.m.now in
    record {
      value = kind_goes c.args.p.now c.args.wanted c.args.m.now c.args.vs.now c.map_get_step.result _ _ _ c.in-GetEntry.is (c.in_ok-xs-in-GetEntry.ensures.value ts _)
          (subst (λ (u : TypeTable). Does (places u) (memory_of (places u) c.args.m.now) c.map_get_step.result (map_get_step (names u) (underlying (names u) (tree_of (places u) c.in-GetEntry.map_type)) c.in-GetEntry.ok (value_of (places u) c.in_ok-xs-in-GetEntry.xs.left.now) (value_of (places u) c.in_ok-xs-in-GetEntry.xs.right.now) (memory_of (places u) c.args.m.now))) c.requires
          (goes (places w) (memory_of (places w) c.args.m.now) c.map_get_step.result _ _ (ap (λ (t : Ty). map_get_step (names w) t c.in-GetEntry.ok (value_of (places w) c.in_ok-xs-in-GetEntry.xs.left.now) (value_of (places w) c.in_ok-xs-in-GetEntry.xs.right.now) (memory_of (places w) c.args.m.now)) (sym c.underlying-in-GetEntry.ensures.tree)) (c.map_get_step.ensures.value)));
    }

pub returns-in_err-xs-in-DeleteEntry : goal.returns-in_err-xs-in-DeleteEntry
returns-in_err-xs-in-DeleteEntry c = record { value = kind_stops c.args.p.now c.args.wanted c.args.m.now c.args.vs.now c.from_residual-in_err-xs-in-DeleteEntry.result _ _ _ c.in-DeleteEntry.is c.from_residual-in_err-xs-in-DeleteEntry.ensures.1 (c.in_err-xs-in-DeleteEntry.ensures.value (places c.args.p.now.types) _) }

pub returns-in_ok-xs-in-DeleteEntry : goal.returns-in_ok-xs-in-DeleteEntry
returns-in_ok-xs-in-DeleteEntry c =
    let w = c.args.c.now.table.now in
    let ts = places c.args.p.now.types in
    let s = memory_of ts c.args.m.now in
    record {
      value = kind_goes c.args.p.now c.args.wanted c.args.m.now c.args.vs.now c.map_delete_step.result _ _ _ c.in-DeleteEntry.is (c.in_ok-xs-in-DeleteEntry.ensures.value ts _)
          (subst (λ (u : TypeTable). Does (places u) (memory_of (places u) c.args.m.now) c.map_delete_step.result (map_delete_step (names u) (underlying (names u) (tree_of (places u) c.in-DeleteEntry.t)) (value_of (places u) c.in_ok-xs-in-DeleteEntry.xs.left.now) (value_of (places u) c.in_ok-xs-in-DeleteEntry.xs.right.now) (memory_of (places u) c.args.m.now))) c.requires
          (goes (places w) (memory_of (places w) c.args.m.now) c.map_delete_step.result _ _ (ap (λ (t : Ty). map_delete_step (names w) t (value_of (places w) c.in_ok-xs-in-DeleteEntry.xs.left.now) (value_of (places w) c.in_ok-xs-in-DeleteEntry.xs.right.now) (memory_of (places w) c.args.m.now)) (sym c.underlying-in-DeleteEntry.ensures.tree)) (c.map_delete_step.ensures.value)));
    }

pub returns-in_err-x-in-ToLen : goal.returns-in_err-x-in-ToLen
returns-in_err-x-in-ToLen c = record { value = kind_stops c.args.p.now c.args.wanted c.args.m.now c.args.vs.now c.from_residual-in_err-x-in-ToLen.result _ _ _ c.in-ToLen.is c.from_residual-in_err-x-in-ToLen.ensures.1 (c.in_err-x-in-ToLen.ensures.value (places c.args.p.now.types) _) }

pub returns-in_ok-x-in-ToLen : goal.returns-in_ok-x-in-ToLen
returns-in_ok-x-in-ToLen c =
    let w = c.args.c.now.table.now in
    let ts = places c.args.p.now.types in
    let s = memory_of ts c.args.m.now in
    record {
      value = kind_goes c.args.p.now c.args.wanted c.args.m.now c.args.vs.now c.len_step.result _ _ _ c.in-ToLen.is (c.in_ok-x-in-ToLen.ensures.value ts _)
          (subst (λ (u : TypeTable). Does (places u) (memory_of (places u) c.args.m.now) c.len_step.result (len_step (names u) (tree_of (places u) c.in-ToLen.from) (value_of (places u) c.in_ok-x-in-ToLen.x.now) (memory_of (places u) c.args.m.now))) c.requires (c.len_step.ensures.value));
    }

pub returns-in_err-x-in-ToCap : goal.returns-in_err-x-in-ToCap
returns-in_err-x-in-ToCap c = record { value = kind_stops c.args.p.now c.args.wanted c.args.m.now c.args.vs.now c.from_residual-in_err-x-in-ToCap.result _ _ _ c.in-ToCap.is c.from_residual-in_err-x-in-ToCap.ensures.1 (c.in_err-x-in-ToCap.ensures.value (places c.args.p.now.types) _) }

pub returns-in_ok-x-in-ToCap : goal.returns-in_ok-x-in-ToCap
returns-in_ok-x-in-ToCap c =
    let w = c.args.c.now.table.now in
    let ts = places c.args.p.now.types in
    let s = memory_of ts c.args.m.now in
    record {
      value = kind_goes c.args.p.now c.args.wanted c.args.m.now c.args.vs.now c.cap_step.result _ _ _ c.in-ToCap.is (c.in_ok-x-in-ToCap.ensures.value ts _)
          (subst (λ (u : TypeTable). Does (places u) (memory_of (places u) c.args.m.now) c.cap_step.result (cap_step (names u) (tree_of (places u) c.in-ToCap.from) (value_of (places u) c.in_ok-x-in-ToCap.x.now) (memory_of (places u) c.args.m.now))) c.requires (c.cap_step.ensures.value));
    }

pub returns-in_err-xs-in-ToAppended : goal.returns-in_err-xs-in-ToAppended
returns-in_err-xs-in-ToAppended c = record { value = kind_stops c.args.p.now c.args.wanted c.args.m.now c.args.vs.now c.from_residual-in_err-xs-in-ToAppended.result _ _ _ c.in-ToAppended.is c.from_residual-in_err-xs-in-ToAppended.ensures.1 (c.in_err-xs-in-ToAppended.ensures.value (places c.args.p.now.types) _) }

pub returns-in_ok-xs-in-ToAppended : goal.returns-in_ok-xs-in-ToAppended
returns-in_ok-xs-in-ToAppended c =
    let w = c.args.c.now.table.now in
    let ts = places c.args.p.now.types in
    let s = memory_of ts c.args.m.now in
    record {
      value = kind_goes c.args.p.now c.args.wanted c.args.m.now c.args.vs.now c.append_step.result _ _ _ c.in-ToAppended.is (c.in_ok-xs-in-ToAppended.ensures.value ts _)
          (subst (λ (u : TypeTable). Does (places u) (memory_of (places u) c.args.m.now) c.append_step.result (append_step (names u) (underlying (names u) (tree_of (places u) c.in-ToAppended.t)) c.args.wanted (value_of (places u) c.in_ok-xs-in-ToAppended.xs.left.now) (value_of (places u) c.in_ok-xs-in-ToAppended.xs.right.now) (memory_of (places u) c.args.m.now))) c.requires
          (goes (places w) (memory_of (places w) c.args.m.now) c.append_step.result _ _ (ap (λ (t : Ty). append_step (names w) t c.args.wanted (value_of (places w) c.in_ok-xs-in-ToAppended.xs.left.now) (value_of (places w) c.in_ok-xs-in-ToAppended.xs.right.now) (memory_of (places w) c.args.m.now)) (sym c.underlying-in-ToAppended.ensures.tree)) (c.append_step.ensures.value)));
    }

pub returns-in_err-xs-in-ToCopied : goal.returns-in_err-xs-in-ToCopied
returns-in_err-xs-in-ToCopied c = record { value = kind_stops c.args.p.now c.args.wanted c.args.m.now c.args.vs.now c.from_residual-in_err-xs-in-ToCopied.result _ _ _ c.in-ToCopied.is c.from_residual-in_err-xs-in-ToCopied.ensures.1 (c.in_err-xs-in-ToCopied.ensures.value (places c.args.p.now.types) _) }

pub returns-in_ok-xs-in-ToCopied : goal.returns-in_ok-xs-in-ToCopied
returns-in_ok-xs-in-ToCopied c =
    let w = c.args.c.now.table.now in
    let ts = places c.args.p.now.types in
    let s = memory_of ts c.args.m.now in
    record {
      value = kind_goes c.args.p.now c.args.wanted c.args.m.now c.args.vs.now c.copy_step.result _ _ _ c.in-ToCopied.is (c.in_ok-xs-in-ToCopied.ensures.value ts _)
          (subst (λ (u : TypeTable). Does (places u) (memory_of (places u) c.args.m.now) c.copy_step.result (copy_step (names u) (underlying (names u) (tree_of (places u) c.in-ToCopied.t)) (value_of (places u) c.in_ok-xs-in-ToCopied.xs.left.now) (value_of (places u) c.in_ok-xs-in-ToCopied.xs.right.now) (memory_of (places u) c.args.m.now))) c.requires
          (goes (places w) (memory_of (places w) c.args.m.now) c.copy_step.result _ _ (ap (λ (t : Ty). copy_step (names w) t (value_of (places w) c.in_ok-xs-in-ToCopied.xs.left.now) (value_of (places w) c.in_ok-xs-in-ToCopied.xs.right.now) (memory_of (places w) c.args.m.now)) (sym c.underlying-in-ToCopied.ensures.tree)) (c.copy_step.ensures.value)));
    }

pub returns-in-ToNewSlice : goal.returns-in-ToNewSlice
returns-in-ToNewSlice c =
    let w = c.args.c.now.table.now in
    let ts = places c.args.p.now.types in
    let s = memory_of ts c.args.m.now in
    record {
      value = kind_goes c.args.p.now c.args.wanted c.args.m.now c.args.vs.now c.make_slice_step.result _ _ _ c.in-ToNewSlice.is refl
          (subst (λ (u : TypeTable). Does (places u) (memory_of (places u) c.args.m.now) c.make_slice_step.result (make_slice_step (names u) (underlying (names u) (tree_of (places u) c.in-ToNewSlice.t)) (values_of (places u) c.args.vs.now) (memory_of (places u) c.args.m.now))) c.requires
          (goes (places w) (memory_of (places w) c.args.m.now) c.make_slice_step.result _ _ (ap (λ (t : Ty). make_slice_step (names w) t (values_of (places w) c.args.vs.now) (memory_of (places w) c.args.m.now)) (sym c.underlying-in-ToNewSlice.ensures.tree)) (c.make_slice_step.ensures.value)));
    }

pub returns-in-ToNewMap : goal.returns-in-ToNewMap
returns-in-ToNewMap c =
    let w = c.args.c.now.table.now in
    let ts = places c.args.p.now.types in
    let s = memory_of ts c.args.m.now in
    record {
      value = kind_goes c.args.p.now c.args.wanted c.args.m.now c.args.vs.now c.make_map_step.result _ _ _ c.in-ToNewMap.is refl
          (c.make_map_step.ensures.value ts);
    }

pub returns-in-ToNewChannel : goal.returns-in-ToNewChannel
returns-in-ToNewChannel c =
    let w = c.args.c.now.table.now in
    let ts = places c.args.p.now.types in
    let s = memory_of ts c.args.m.now in
    record {
      value = kind_goes c.args.p.now c.args.wanted c.args.m.now c.args.vs.now c.make_channel_step.result _ _ _ c.in-ToNewChannel.is refl
          (c.make_channel_step.ensures.value ts);
    }

pub returns-in_err-none_left-in-ToNew : goal.returns-in_err-none_left-in-ToNew
returns-in_err-none_left-in-ToNew c = record { value = kind_stops c.args.p.now c.args.wanted c.args.m.now c.args.vs.now c.from_residual-in_err-none_left-in-ToNew.result _ _ _ c.in-ToNew.is c.from_residual-in_err-none_left-in-ToNew.ensures.1 (c.in_err-none_left-in-ToNew.ensures.value (places c.args.p.now.types) _) }

pub returns-in_ok-none_left-in-ToNew : goal.returns-in_ok-none_left-in-ToNew
returns-in_ok-none_left-in-ToNew c =
    let w = c.args.c.now.table.now in
    let ts = places c.args.p.now.types in
    let s = memory_of ts c.args.m.now in
    record {
      value = kind_goes c.args.p.now c.args.wanted c.args.m.now c.args.vs.now c.new_step.result _ _ _ c.in-ToNew.is (c.in_ok-none_left-in-ToNew.ensures.value ts _)
          (subst (λ (u : TypeTable). Does (places u) (memory_of (places u) c.args.m.now) c.new_step.result (new_step (shape_of (names u) (tree_of (places u) c.in-ToNew.t)) (memory_of (places u) c.args.m.now))) c.requires (c.new_step.ensures.value));
    }

pub returns-in_err-x-in-ToInterface : goal.returns-in_err-x-in-ToInterface
returns-in_err-x-in-ToInterface c = record { value = kind_stops c.args.p.now c.args.wanted c.args.m.now c.args.vs.now c.from_residual-in_err-x-in-ToInterface.result _ _ _ c.in-ToInterface.is c.from_residual-in_err-x-in-ToInterface.ensures.1 (c.in_err-x-in-ToInterface.ensures.value (places c.args.p.now.types) _) }

pub returns-in_ok-x-in-ToInterface : goal.returns-in_ok-x-in-ToInterface
returns-in_ok-x-in-ToInterface c =
    let w = c.args.c.now.table.now in
    let ts = places c.args.p.now.types in
    let s = memory_of ts c.args.m.now in
    record {
      value = kind_goes c.args.p.now c.args.wanted c.args.m.now c.args.vs.now c.wrap_step.result _ _ _ c.in-ToInterface.is (c.in_ok-x-in-ToInterface.ensures.value ts _)
          (subst (λ (u : TypeTable). Does (places u) (memory_of (places u) c.args.m.now) c.wrap_step.result (wrap_step (names u) (tree_of (places u) c.in-ToInterface.from) (value_of (places u) c.in_ok-x-in-ToInterface.x.now) (memory_of (places u) c.args.m.now))) c.requires (c.wrap_step.ensures.value (memory_of (places w) c.args.m.now)));
    }

pub returns-in_err-x-in-ToAsserted : goal.returns-in_err-x-in-ToAsserted
returns-in_err-x-in-ToAsserted c = record { value = kind_stops c.args.p.now c.args.wanted c.args.m.now c.args.vs.now c.from_residual-in_err-x-in-ToAsserted.result _ _ _ c.in-ToAsserted.is c.from_residual-in_err-x-in-ToAsserted.ensures.1 (c.in_err-x-in-ToAsserted.ensures.value (places c.args.p.now.types) _) }

pub returns-in_ok-x-in-ToAsserted : goal.returns-in_ok-x-in-ToAsserted
returns-in_ok-x-in-ToAsserted c =
    let w = c.args.c.now.table.now in
    let ts = places c.args.p.now.types in
    let s = memory_of ts c.args.m.now in
    record {
      value = kind_goes c.args.p.now c.args.wanted c.args.m.now c.args.vs.now c.assert_step.result _ _ _ c.in-ToAsserted.is (c.in_ok-x-in-ToAsserted.ensures.value ts _)
          (c.assert_step.ensures.value s);
    }

pub returns-in_err-x-in-ToBasic : goal.returns-in_err-x-in-ToBasic
returns-in_err-x-in-ToBasic c = record { value = kind_stops c.args.p.now c.args.wanted c.args.m.now c.args.vs.now c.from_residual-in_err-x-in-ToBasic.result _ _ _ c.in-ToBasic.is c.from_residual-in_err-x-in-ToBasic.ensures.1 (c.in_err-x-in-ToBasic.ensures.value (places c.args.p.now.types) _) }

pub returns-in_ok-x-in-ToBasic : goal.returns-in_ok-x-in-ToBasic
returns-in_ok-x-in-ToBasic c =
    let w = c.args.c.now.table.now in
    let ts = places c.args.p.now.types in
    let s = memory_of ts c.args.m.now in
    record {
      value = kind_goes c.args.p.now c.args.wanted c.args.m.now c.args.vs.now c.basic_step.result _ _ _ c.in-ToBasic.is (c.in_ok-x-in-ToBasic.ensures.value ts _)
          (subst (λ (u : TypeTable). Does (places u) (memory_of (places u) c.args.m.now) c.basic_step.result (basic_step (names u) (value_of (places u) c.in_ok-x-in-ToBasic.x.now) (memory_of (places u) c.args.m.now))) c.requires (c.basic_step.ensures.value (memory_of (places w) c.args.m.now)));
    }

pub returns-in_err-x-in-ToGate : goal.returns-in_err-x-in-ToGate
returns-in_err-x-in-ToGate c = record { value = kind_stops c.args.p.now c.args.wanted c.args.m.now c.args.vs.now c.from_residual-in_err-x-in-ToGate.result _ _ _ c.in-ToGate.is c.from_residual-in_err-x-in-ToGate.ensures.1 (c.in_err-x-in-ToGate.ensures.value (places c.args.p.now.types) _) }

pub returns-in_ok-x-in-ToGate : goal.returns-in_ok-x-in-ToGate
returns-in_ok-x-in-ToGate c =
    let w = c.args.c.now.table.now in
    let ts = places c.args.p.now.types in
    let s = memory_of ts c.args.m.now in
    record {
      value = kind_goes c.args.p.now c.args.wanted c.args.m.now c.args.vs.now c.gate_step.result _ _ _ c.in-ToGate.is (c.in_ok-x-in-ToGate.ensures.value ts _)
          (c.gate_step.ensures.value ts);
    }

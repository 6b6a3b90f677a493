use Rattle.std.proofs.Common.{◌∙◌, ◌-◌, ap}
use Rattle.std.specs.Prelude.{◌==◌, if◌then◌else◌, Option}
use Rattle.gj_base.specs.declared.place.Place.{Place}
use Rattle.go_typing.specs.Checked.{function_at}
use Rattle.go_items.proofs.PlaceLemmas.{constants_left, types_left, variables_left, function_left}
use Rattle.go_items.proofs.items.count.place_step.Goals as goal

pub returns-in-Func : goal.returns-in-Func
returns-in-Func c = record {
  value = λ rest.
      c.place_at.ensures.value rest ∙ ap (λ (o : Option Place). if c.args.left == 0 then o else function_at (c.args.left - 1) rest) c.own_place.ensures.value
      ∙ function_left c.args.d.now c.deref.result.now c.in-Func.receiver c.in-Func.field-1 c.in-Func.field-2 c.in-Func.field-3 c.args.left rest c.deref.ensures c.in-Func.is;
}

pub returns-in-Const : goal.returns-in-Const
returns-in-Const c = record { value = λ rest. constants_left c.args.d.now c.deref.result.now c.in-Const.field-0 c.args.left rest c.deref.ensures c.in-Const.is }

pub returns-in-TypeDecl : goal.returns-in-TypeDecl
returns-in-TypeDecl c = record { value = λ rest. types_left c.args.d.now c.deref.result.now c.in-TypeDecl.field-0 c.args.left rest c.deref.ensures c.in-TypeDecl.is }

pub returns-in-Var : goal.returns-in-Var
returns-in-Var c = record { value = λ rest. variables_left c.args.d.now c.deref.result.now c.in-Var.field-0 c.args.left rest c.deref.ensures c.in-Var.is }

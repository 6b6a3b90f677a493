-- A Sound program from its parts.
use Rattle.std.proofs.Common.{refl, sym, ap, ◌∙◌}
use Rattle.std.specs.Prelude.{◌≡◌, ℕ, suc, List, [], ◌∷◌, Some, All, slice_get}
use Rattle.std.specs.List.{AllByRecursion}
use Rattle.go_type.specs.Table.{places}
use Rattle.go_core.specs.declared.program.MethodRow as declared
use Rattle.go_core.specs.declared.program.Program.{Program}
use Rattle.go_core.specs.CoreTree.{CoreFunc, MethodRow}
use Rattle.go_core.specs.CoreView.{method_row_view, package_var_view, program_view}
use Rattle.go_core.specs.SoundProgram.{Sound, SoundPackage, SoundRow, SoundVariable}
use Rattle.go_is_sound.specs.declared.facts.Facts.{Facts}
use Rattle.go_is_sound.specs.Facts.{Holds}
use Rattle.go_is_sound.specs.Rows.{IsDeclared, RowFits}
use Rattle.go_is_sound.specs.Whole.{AreDistinct, BodiesSound}
use Rattle.go_is_sound.proofs.ListLemmas.{some_one, all_mapped, got_mapped}
use Rattle.go_is_sound.proofs.RowLemmas.{rows_apart}

-- a row's function has a receiver, and is a method of the row's type
row_sound : (p : Program) (row : declared.MethodRow) → RowFits p row → IsDeclared (program_view p) (method_row_view (places p.types) row) → SoundRow (program_view p) (method_row_view (places p.types) row)
row_sound p row f d = record {
  function = d.function;
  receiver = f.has_receiver.receiver;
  others = f.has_receiver.others;
  is_function = d.is_function;
  has_vars = ap (λ (g : CoreFunc). g.vars) one ∙ f.has_receiver.has_vars;
  captures_nothing = ap (λ (g : CoreFunc). g.captured) one ∙ f.has_receiver.captures_nothing;
  fits = f.has_receiver.fits;
  has_signature = d.has_signature;
}
  where
    one : d.function ≡ f.function
    one = some_one d.function f.function (sym d.is_function ∙ f.is_function)

rows_sound : (p : Program) (rows : List declared.MethodRow) → AllByRecursion (RowFits p) rows → ((k : ℕ) (row : declared.MethodRow) → slice_get rows k ≡ Some row → IsDeclared (program_view p) (method_row_view (places p.types) row))
    → AllByRecursion (λ (row : declared.MethodRow). SoundRow (program_view p) (method_row_view (places p.types) row)) rows
rows_sound p [] f d = tt
rows_sound p (r ∷ rs) f d = (row_sound p r f.0 (d 0 r refl), rows_sound p rs f.1 (λ k row e. d (suc k) row e))

pub sound_of : (p : Program) (f : Facts) → Holds p f → AreDistinct p → All (SoundPackage (program_view p)) (program_view p).packages → BodiesSound p → Sound (program_view p)
sound_of p f h d k b = record {
  names_set = d.names_set;
  types_fit = h.types_fit;
  few_functions = b.functions.few_functions;
  functions = b.functions.functions;
  variables_differ = h.vars_differ;
  main_fits = d.main_fits;
  rows = all_mapped (SoundRow (program_view p)) (method_row_view (places p.types)) p.methods.items.items
      (rows_sound p p.methods.items.items d.rows_fit
      (λ n row e. h.rows_fit.declared n (method_row_view (places p.types) row) (got_mapped (method_row_view (places p.types)) p.methods.items.items n row e)));
  rows_differ = rows_apart p h.rows_fit.own_rows;
  package_variables = all_mapped (SoundVariable (program_view p)) (package_var_view (places p.types)) p.globals.items.items b.variables;
  numbers_differ = d.numbers_differ;
  packages = k;
  paths_differ = d.paths_differ;
  hidden = d.hidden;
}

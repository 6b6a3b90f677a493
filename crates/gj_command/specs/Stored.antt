-- A store of a script's text, answer by answer; only private clauses cite this file.
use Rattle.std.specs.Prelude.{◌≡◌, List, [], ℕ, Bool, Ok, Err}
use Rattle.gj_base.specs.Files.{FilesState, Stores}
use Rattle.gj_base.specs.declared.files.StoreError.TheVariants.{Failed}
use Rattle.gj_base.specs.declared.fault.Fault.{Fault}
use Rattle.js_tree.specs.Script.{ScriptTree}
use Rattle.gj_command.specs.Headline.{IsTextOf, write_failed_line, out_of_memory_line}
use Rattle.gj_command.specs.declared.outcome.Outcome.{Outcome}
use Rattle.gj_command.specs.declared.outcome.Outcome.TheVariants as outcome
use Rattle.gj_command.specs.declared.outcome.Outcome.TheVariants.{Done, WriteFault, NoMemory}

abbrev pub StoresAs : Outcome → List ℕ → ScriptTree → List ℕ → Bool → FilesState → FilesState → Type 0
StoresAs Done line s path is_small old new = (text : List ℕ) × IsTextOf is_small s text × Stores (Ok tt) path text old new × (line ≡ [])
StoresAs WriteFault line s path is_small old new = (text : List ℕ) × IsTextOf is_small s text × Stores (Err Failed) path text old new × (line ≡ write_failed_line)
StoresAs NoMemory line s path is_small old new = (new ≡ old) × (line ≡ out_of_memory_line)
StoresAs _ line s path is_small old new = ⊥

-- What the answers of a build say of the whole call.
use Rattle.std.proofs.Common.{◌≡◌, ◌⊎◌, ◌<◌, ◌++◌, List, [], ◌∷◌, ℕ, Bool, false, length, get_or, map, refl, sym, ap, subst, ◌∙◌, append-nil, arith, inl, inr}
use Rattle.std.specs.Prelude.{Option, Some, None, IfSome, Contains, Err, option_map}
use Rattle.std.proofs.lemmas.List.{get_or_read_under}
use Rattle.gj_base.specs.LineColumn.{line_and_column}
use Rattle.gj_base.specs.Counts.{Rose}
use Rattle.gj_base.specs.Tree.{Tree, with_file}
use Rattle.gj_base.specs.Files.{FilesState}
use Rattle.gj_base.specs.Sink.{SinkState, appended}
use Rattle.gj_base.specs.declared.fault.Fault.{Fault}
use Rattle.go_grammar.specs.Laws.{DerivesOneFile}
use Rattle.go_load.specs.GoFiles.{AreGoFiles}
use Rattle.go_load.specs.Root.{AreRead, IsRead}
use Rattle.go_load.specs.Readings.{Reading, AreReadings, trees_of}
use Rattle.go_load.specs.Faults.{stage_faults}
use Rattle.go_load.specs.Load.{IsFaultOf, large, staged}
use Rattle.go_load.specs.declared.sources.FileEntry.{FileEntry}
use Rattle.go_syntax.specs.Tree as t
use Rattle.go_core.specs.CoreTree.{CoreProgram}
use Rattle.go_items.specs.ItemView.{decls_of}
use Rattle.go_typing.specs.Checked.{fault_of, least}
use Rattle.js_tree.specs.Script.{ScriptTree}
use Rattle.js_tree.specs.Printed.{plain}
use Rattle.js_prints.specs.Faithful.{Faithful}
use Rattle.gj_plain.specs.Plain.{Main, plain_main}
use Rattle.gj_compile.specs.Answers.{HoldsProgram, AreUnbuilt, AreFaulty, IsToldFault, FindsFault, IsBeyond, IsRight, IsRefused}
use Rattle.gj_compile.specs.declared.refused.Refused.{Refused}
use Rattle.gj_compile.specs.declared.refused.Refused.TheVariants as refused
use Rattle.gj_command.specs.Settings.{Settings, build}
use Rattle.gj_command.specs.Headline.{out_file, Answers, BuildAnswers, CountsStay, Headline, IsComplete, IsToldBeyond, IsToldOf, Leaves, StoresScript, TellsUsage, TreeStays}
use Rattle.gj_command.specs.FaultText.{fault_text, fault_line, line_at}
use Rattle.gj_command.specs.Stored.{StoresAs}
use Rattle.gj_command.specs.Told.{Told}
use Rattle.gj_command.specs.declared.outcome.Outcome.{Outcome}
use Rattle.gj_command.specs.declared.outcome.Outcome.TheVariants.{Done}
use Rattle.gj_command.specs.declared.outcome.Outcome.TheVariants as outcome
use Rattle.gj_command.proofs.NameLemmas.{at_front, in_none}
use Rattle.gj_command.proofs.FileLemmas.{same_files, same_faultless}

-- nothing was written
pub appended-nil : (sink : SinkState) → sink ≡ appended sink []
appended-nil sink = ap (λ (bytes : Option (List ℕ)). record sink { bytes = bytes }) (by sink.bytes)
  where
    by : (bytes : Option (List ℕ)) → bytes ≡ option_map (λ bs. bs ++ []) bytes
    by None = refl
    by (Some bs) = ap (λ (cs : List ℕ). Some cs) (sym (append-nil bs))

same_folder : {a b : List ℕ} → Some (build a) ≡ Some (build b) → a ≡ b
same_folder e = cc

-- what a build answers is what the headline says
pub headline : (settings : Option Settings) (folder : List ℕ) (answer : Outcome) (line : List ℕ) (old new : FilesState) → settings ≡ Some (build folder) → BuildAnswers answer line folder out_file false old new → Headline answer settings old new
headline settings folder answer line old new named built = λ other named_too done. subst (λ (f : List ℕ). Goal f) (same_folder (sym named ∙ named_too)) (of_done (subst (λ (a : Outcome). BuildAnswers a line folder out_file false old new) done built))
  where
    Goal : List ℕ → Type 0
    Goal f = IfSome old.tree (λ tree. (s : ScriptTree) × (new.tree ≡ Some (with_file tree out_file (plain s))) × (((program : CoreProgram) × HoldsProgram tree f program × Faithful s program []) ⊎ IsBeyond f old))

    by : (o : Option Tree) (s : ScriptTree) (text : List ℕ) → text ≡ plain s → IfSome o (λ tree. (program : CoreProgram) × HoldsProgram tree folder program × Faithful s program []) ⊎ IsBeyond folder old → new.tree ≡ option_map (λ tree. with_file tree out_file text) o
        → IfSome o (λ tree. (s : ScriptTree) × (new.tree ≡ Some (with_file tree out_file (plain s))) × (((program : CoreProgram) × HoldsProgram tree folder program × Faithful s program []) ⊎ IsBeyond folder old))
    by None s text is right stored = tt
    by (Some tree) s text is (inl right) stored = (s, stored ∙ ap (λ (bytes : List ℕ). Some (with_file tree out_file bytes)) is, inl right)
    by (Some tree) s text is (inr beyond) stored = (s, stored ∙ ap (λ (bytes : List ℕ). Some (with_file tree out_file bytes)) is, inr beyond)

    of_done : BuildAnswers Done line folder out_file false old new → Goal folder
    of_done (stores, none) = by old.tree stores.0 stores.1 (stores.2 refl) stores.3 (ap (λ (s : FilesState). s.tree) stores.4)

-- a folder of which a file was read has `.go` files
never_empty : (tree : Tree) (folder : List ℕ) (entries : List FileEntry) → 0 < length entries → IsRead (Some tree) folder entries → AreGoFiles tree folder [] → ⊥
never_empty tree folder [] some read none = omega (arith, some)
never_empty tree folder (e ∷ es) some read none =
    let are : AreRead tree folder (e ∷ es) = read.files in
    in_none e.name ((none.files e.name).1 ((are.names.files e.name).0 (at_front e.name (map (λ e. e.name) es ++ are.left))))

some_is : (a b : Main) → (let o : Option Main = Some a in o) ≡ Some b → a ≡ b
some_is a b e = cc

-- a folder that holds a program has no fault that is told
pub not_faulty : DerivesOneFile → (tree : Tree) (folder : List ℕ) (program : CoreProgram) (fault : Fault) (entries : List FileEntry) → HoldsProgram tree folder program → IsRead (Some tree) folder entries → IsToldFault entries fault → ⊥
not_faulty one tree folder program fault entries holds read told =
    let same : entries ≡ holds.entries = same_files tree folder entries holds.entries read holds.read holds.have.small in
    by (subst (λ (es : List FileEntry). IsToldFault es fault) same told)
  where
    other_readings : (readings : List Reading) → AreReadings 0 holds.entries readings → readings ≡ holds.have.readings
    other_readings readings are = same_faultless one holds.entries holds.have.readings readings holds.have.none holds.have.are are

    stage : IsFaultOf holds.entries fault → ⊥
    stage (large is e) = let small = holds.have.small in cc
    stage (staged small readings are least) =
        let none : stage_faults readings ≡ [] = ap stage_faults (other_readings readings are) ∙ holds.have.none in
        in_none fault (subst (λ (faults : List Fault). Contains faults fault) none least.among)

    unlike : AreUnbuilt holds.entries fault → ⊥
    unlike unbuilt =
        let trees : unbuilt.trees ≡ holds.trees = unbuilt.have.all ∙ ap trees_of (other_readings unbuilt.have.readings unbuilt.have.are) ∙ sym holds.have.all in
        let plain : plain_main holds.trees ≡ None = ap plain_main (sym trees) ∙ unbuilt.unlike in
        let main = holds.plain in
        cc

    wrong : AreFaulty holds.entries fault → ⊥
    wrong faulty =
        let trees : faulty.trees ≡ holds.trees = faulty.have.all ∙ ap trees_of (other_readings faulty.have.readings faulty.have.are) ∙ sym holds.have.all in
        let none : fault_of (decls_of faulty.trees) ≡ None = ap (λ (files : List t.File). fault_of (decls_of files)) trees ∙ ap least holds.right in
        let some = faulty.least in
        cc

    by : IsToldFault holds.entries fault → ⊥
    by (inl fault) = stage fault
    by (inr (inl faulty)) = wrong faulty
    by (inr (inr unbuilt)) = unlike unbuilt

-- a folder that holds a program is not beyond what is proved
pub not_beyond : DerivesOneFile → (tree : Tree) (folder : List ℕ) (program : CoreProgram) (old : FilesState) → old.tree ≡ Some tree → HoldsProgram tree folder program → IsBeyond folder old → ⊥
not_beyond one tree folder program old told holds beyond =
    not_faulty one tree folder program beyond.fault beyond.entries holds (subst (λ (o : Option Tree). IsRead o folder beyond.entries) told beyond.read) beyond.told

-- what a build answers is complete
pub completes : DerivesOneFile → (settings : Option Settings) (folder : List ℕ) (answer : Outcome) (line : List ℕ) (old new : FilesState) → settings ≡ Some (build folder)
    → BuildAnswers answer line folder out_file false old new → IsComplete answer settings old new
completes one settings folder answer line old new named built = λ other named_too. subst (λ (f : List ℕ). Goal old.tree f answer) (same_folder (sym named ∙ named_too)) (by answer built)
  where
    Goal : Option Tree → List ℕ → Outcome → Type 0
    Goal o f a = IfSome o (λ tree. (program : CoreProgram) → HoldsProgram tree f program → (Rose old.reading_faults new.reading_faults → ⊥) → (Rose old.storing_faults new.storing_faults → ⊥) → (a ≡ Done) ⊎ (a ≡ outcome.NoMemory))

    done : (o : Option Tree) → Goal o folder Done
    done None = tt
    done (Some tree) = λ program holds reads stores. inl refl

    memory : (o : Option Tree) → Goal o folder outcome.NoMemory
    memory None = tt
    memory (Some tree) = λ program holds reads stores. inr refl

    never : (a : Outcome) → ((tree : Tree) (program : CoreProgram) → old.tree ≡ Some tree → HoldsProgram tree folder program → (Rose old.reading_faults new.reading_faults → ⊥) → (Rose old.storing_faults new.storing_faults → ⊥) → ⊥) → Goal old.tree folder a
    never a refutes = in_tree old.tree refl
      where
        in_tree : (o : Option Tree) → old.tree ≡ o → Goal o folder a
        in_tree None is = tt
        in_tree (Some tree) is = λ program holds reads stores. absurd (refutes tree program is holds reads stores)

    beyond : (a : Outcome) → IsBeyond folder old → Goal old.tree folder a
    beyond a is = never a (λ tree program told holds reads stores. not_beyond one tree folder program old told holds is)

    by : (a : Outcome) → BuildAnswers a line folder out_file false old new → Goal old.tree folder a
    by Done built = done old.tree
    by (outcome.Fault fault) why = elim why [
      | inl finds ↦ never (outcome.Fault fault) (λ tree program there holds reads stores. not_faulty one tree folder program finds.0 finds.1 holds (subst (λ (o : Option Tree). IsRead o folder finds.1) there finds.4.2) finds.4.3)
      | inr other ↦ beyond (outcome.Fault fault) other.3
    ]
    by outcome.ReadFault (why, told) = elim why [
      | inl fails ↦ elim fails [
        | inl failed ↦ never outcome.ReadFault (λ tree program there holds reads stores. reads failed.0)
        | inr none ↦ never outcome.ReadFault (λ tree program there holds reads stores. never_empty tree folder holds.entries holds.have.some holds.read (subst (λ (o : Option Tree). IfSome o (λ tree. AreGoFiles tree folder [])) there none.1))
      ]
      | inr later ↦ beyond outcome.ReadFault later.1
    ]
    by outcome.WriteFault (fails, told) = never outcome.WriteFault (λ tree program there holds reads stores. stores fails.4.0)
    by outcome.NoMemory built = memory old.tree
    by outcome.Internal (same, is, told) = beyond outcome.Internal is
    by (outcome.Ended code) none = absurd none
    by outcome.Usage none = absurd none
    by outcome.TooLong none = absurd none
    by (outcome.BadScript place) none = absurd none
    by (outcome.Stuck place) none = absurd none
    by (outcome.Stopped steps) none = absurd none

-- what comes of a script that is stored
pub builds : (answer : Outcome) (line : List ℕ) (s : ScriptTree) (folder path : List ℕ) (small : Bool) (old mid new : FilesState) → mid ≡ old → IsRight s folder old → StoresAs answer line s path small mid new
    → BuildAnswers answer line folder path small old new
builds answer line s folder path small old mid new same right stored = by answer (subst (λ (f : FilesState). StoresAs answer line s path small f new) same stored)
  where
    by : (a : Outcome) → StoresAs a line s path small old new → BuildAnswers a line folder path small old new
    by Done (text, is, stored, none) = ((s, text, is, right, stored), none)
    by outcome.WriteFault (text, is, failed, told) = ((s, text, is, right, failed), told)
    by outcome.NoMemory (stays, told) = (stays, told)
    by (outcome.Fault fault) none = absurd none
    by outcome.ReadFault none = absurd none
    by outcome.Internal none = absurd none
    by (outcome.Ended code) none = absurd none
    by outcome.Usage none = absurd none
    by outcome.TooLong none = absurd none
    by (outcome.BadScript place) none = absurd none
    by (outcome.Stuck place) none = absurd none
    by (outcome.Stopped steps) none = absurd none

-- what a build leaves
pub leaves : (answer : Outcome) (line folder path : List ℕ) (small : Bool) (old new : FilesState) → BuildAnswers answer line folder path small old new → Leaves answer old new
leaves Done line folder path small old new (stores, none) = inr (path, stores.1, stores.4)
leaves (outcome.Fault fault) line folder path small old new why = elim why [
  | inl finds ↦ finds.4.0
  | inr other ↦ other.2
]
leaves outcome.ReadFault line folder path small old new (why, told) = elim why [
  | inl fails ↦ elim fails [
    | inl failed ↦ inl failed
    | inr none ↦ inr none.0
  ]
  | inr later ↦ later.0
]
leaves outcome.WriteFault line folder path small old new (fails, told) = inr (path, fails.1, fails.4)
leaves outcome.NoMemory line folder path small old new (same, told) = same
leaves outcome.Internal line folder path small old new (same, is, told) = same
leaves (outcome.Ended code) line folder path small old new none = absurd none
leaves outcome.Usage line folder path small old new none = absurd none
leaves outcome.TooLong line folder path small old new none = absurd none
leaves (outcome.BadScript place) line folder path small old new none = absurd none
leaves (outcome.Stuck place) line folder path small old new none = absurd none
leaves (outcome.Stopped steps) line folder path small old new none = absurd none

-- and so which counts stay
pub counts : (answer : Outcome) (old new : FilesState) → Leaves answer old new → CountsStay answer old new
counts Done old new (inl same) = (ap (λ (s : FilesState). s.reading_faults) same, ap (λ (s : FilesState). s.storing_faults) same)
counts Done old new (inr (path, text, stored)) = (ap (λ (s : FilesState). s.reading_faults) stored, ap (λ (s : FilesState). s.storing_faults) stored)
counts outcome.ReadFault old new left = tt
counts outcome.WriteFault old new left = tt
counts (outcome.Fault fault) old new same = (ap (λ (s : FilesState). s.reading_faults) same, ap (λ (s : FilesState). s.storing_faults) same)
counts outcome.NoMemory old new same = (ap (λ (s : FilesState). s.reading_faults) same, ap (λ (s : FilesState). s.storing_faults) same)
counts outcome.Internal old new same = (ap (λ (s : FilesState). s.reading_faults) same, ap (λ (s : FilesState). s.storing_faults) same)
counts (outcome.Ended code) old new same = (ap (λ (s : FilesState). s.reading_faults) same, ap (λ (s : FilesState). s.storing_faults) same)
counts outcome.Usage old new same = (ap (λ (s : FilesState). s.reading_faults) same, ap (λ (s : FilesState). s.storing_faults) same)
counts outcome.TooLong old new same = (ap (λ (s : FilesState). s.reading_faults) same, ap (λ (s : FilesState). s.storing_faults) same)
counts (outcome.BadScript place) old new same = (ap (λ (s : FilesState). s.reading_faults) same, ap (λ (s : FilesState). s.storing_faults) same)
counts (outcome.Stuck place) old new same = (ap (λ (s : FilesState). s.reading_faults) same, ap (λ (s : FilesState). s.storing_faults) same)
counts (outcome.Stopped steps) old new same = (ap (λ (s : FilesState). s.reading_faults) same, ap (λ (s : FilesState). s.storing_faults) same)

-- and what of the tree
pub stays : (answer : Outcome) (old new : FilesState) → Leaves answer old new → TreeStays answer old new
stays Done old new left = tt
stays outcome.WriteFault old new left = tt
stays outcome.ReadFault old new (inl failed) = failed.1
stays outcome.ReadFault old new (inr same) = ap (λ (s : FilesState). s.tree) same
stays (outcome.Fault fault) old new same = ap (λ (s : FilesState). s.tree) same
stays outcome.NoMemory old new same = ap (λ (s : FilesState). s.tree) same
stays outcome.Internal old new same = ap (λ (s : FilesState). s.tree) same
stays (outcome.Ended code) old new same = ap (λ (s : FilesState). s.tree) same
stays outcome.Usage old new same = ap (λ (s : FilesState). s.tree) same
stays outcome.TooLong old new same = ap (λ (s : FilesState). s.tree) same
stays (outcome.BadScript place) old new same = ap (λ (s : FilesState). s.tree) same
stays (outcome.Stuck place) old new same = ap (λ (s : FilesState). s.tree) same
stays (outcome.Stopped steps) old new same = ap (λ (s : FilesState). s.tree) same

beyond_of : (answer : Outcome) (line folder path : List ℕ) (small : Bool) (old new : FilesState) → IsToldBeyond answer line → new ≡ old → IsBeyond folder old → BuildAnswers answer line folder path small old new
beyond_of (outcome.Fault fault) line folder path small old new told same is = inr (told.0, told.1, same, is)
beyond_of outcome.NoMemory line folder path small old new told same is = (same, told)
beyond_of outcome.Internal line folder path small old new told same is = (same, is, told)
beyond_of Done line folder path small old new none same is = absurd none
beyond_of outcome.ReadFault line folder path small old new none same is = absurd none
beyond_of outcome.WriteFault line folder path small old new none same is = absurd none
beyond_of (outcome.Ended code) line folder path small old new none same is = absurd none
beyond_of outcome.Usage line folder path small old new none same is = absurd none
beyond_of outcome.TooLong line folder path small old new none same is = absurd none
beyond_of (outcome.BadScript place) line folder path small old new none same is = absurd none
beyond_of (outcome.Stuck place) line folder path small old new none same is = absurd none
beyond_of (outcome.Stopped steps) line folder path small old new none same is = absurd none

-- what is told of a folder that has no script
pub answers_of : (refused : Refused) (answer : Outcome) (line folder path : List ℕ) (small : Bool) (old new : FilesState) → IsToldOf refused answer line → IsRefused refused folder old new → BuildAnswers answer line folder path small old new
answers_of refused.ReadFault answer line folder path small old new told why = subst (λ (a : Outcome). BuildAnswers a line folder path small old new) (sym told.0) (why, told.1)
answers_of refused.NoMemory answer line folder path small old new told why = subst (λ (a : Outcome). BuildAnswers a line folder path small old new) (sym told.0) (why, told.1)
answers_of refused.Internal answer line folder path small old new told why = subst (λ (a : Outcome). BuildAnswers a line folder path small old new) (sym told.0) (why.0, why.1, told.1)
answers_of (refused.Fault fault entries) answer line folder path small old new (inl told) why = subst (λ (a : Outcome). BuildAnswers a line folder path small old new) (sym told.0) (inl (fault, entries, refl, told.1, why))
answers_of (refused.Fault fault entries) answer line folder path small old new (inr told) why = subst (λ (a : Outcome). BuildAnswers a line folder path small old new) (sym told.0) (why.0, told.1)
answers_of (refused.Beyond fault entries) answer line folder path small old new told why = beyond_of answer line folder path small old new told why.0 why.1

-- a fault in a file is told by its line
pub told_at : (es : List FileEntry) (fault : Fault) (entry : FileEntry) (text : List ℕ) (old new : SinkState) → entry ≡ get_or es fault.place.file entry → fault.place.file < length es → text ≡ fault_text fault
    → Told (line_at entry.name (line_and_column entry.bytes fault.place.offset) text) old new → Told (fault_line es fault) old new
told_at es fault entry text old new at inside is told =
    subst (λ (e : FileEntry). Told (line_at e.name (line_and_column e.bytes fault.place.offset) (fault_text fault)) old new) (get_or_read_under es fault.place.file (length es) entry no_entry at inside refl)
    (subst (λ (t : List ℕ). Told (line_at entry.name (line_and_column entry.bytes fault.place.offset) t) old new) is told)
  where
    no_entry : FileEntry
    no_entry = record { path = []; name = []; bytes = []; embedded = false; too_long = false }

-- the answer of a plain build, and that of other words
pub answers_build : (settings : Option Settings) (folder : List ℕ) (answer : Outcome) (line : List ℕ) (words : List (List ℕ)) (old new : FilesState) → settings ≡ Some (build folder) → BuildAnswers answer line folder out_file false old new
    → Answers answer line settings words old new
answers_build settings folder answer line words old new named built = subst (λ (s : Option Settings). Answers answer line s words old new) (sym named) built

pub answers_other : (settings : Option Settings) (answer : Outcome) (line : List ℕ) (words : List (List ℕ)) (old new : FilesState) → settings ≡ None → Leaves answer old new → TellsUsage answer line words → Answers answer line settings words old new
answers_other settings answer line words old new none left tells = subst (λ (s : Option Settings). Answers answer line s words old new) (sym none) (left, tells)

pub none_some : (settings : Option Settings) (folder : List ℕ) → settings ≡ None → settings ≡ Some (build folder) → ⊥
none_some settings folder none some = cc

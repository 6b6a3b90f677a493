-- What commands other than a plain build leave and tell.
use Rattle.std.proofs.Common.{◌≡◌, ◌≢◌, ◌<◌, List, [], ℕ, Bool, false, length, get_or, refl, sym, subst, inl, inr}
use Rattle.std.specs.Prelude.{Err}
use Rattle.std.proofs.lemmas.List.{get_or_read_under}
use Rattle.gj_base.specs.Files.{FilesState, Reads, ReadFailed}
use Rattle.gj_base.specs.LineColumn.{line_and_column}
use Rattle.gj_base.specs.Sink.{SinkState}
use Rattle.gj_base.specs.declared.fault.Fault.{Fault}
use Rattle.gj_base.specs.declared.files.FileError.{FileError}
use Rattle.gj_base.specs.declared.files.FileError.TheVariants as file_error
use Rattle.go_load.specs.declared.sources.FileEntry.{FileEntry}
use Rattle.gj_compile.specs.Answers.{IsRefused}
use Rattle.gj_compile.specs.declared.refused.Refused.{Refused}
use Rattle.gj_compile.specs.declared.refused.Refused.TheVariants as refused
use Rattle.gj_command.specs.Headline.{BuildAnswers, IsToldOf, Leaves}
use Rattle.gj_command.specs.Commands.{IsUnread}
use Rattle.gj_command.specs.FaultText.{line_at, whole_line, whole_name}
use Rattle.gj_command.specs.Told.{Told}
use Rattle.gj_command.specs.declared.outcome.Outcome.{Outcome}
use Rattle.gj_command.specs.declared.outcome.Outcome.TheVariants.{Done}
use Rattle.gj_command.specs.declared.outcome.Outcome.TheVariants as outcome
use Rattle.gj_command.proofs.TopLemmas.{answers_of, leaves}

stay : (answer : Outcome) (files : FilesState) → Leaves answer files files
stay Done files = inl refl
stay (outcome.Fault fault) files = refl
stay outcome.Usage files = refl
stay outcome.ReadFault files = inr refl
stay outcome.WriteFault files = inl refl
stay outcome.TooLong files = refl
stay (outcome.BadScript place) files = refl
stay (outcome.Stuck place) files = refl
stay (outcome.Stopped steps) files = refl
stay (outcome.Ended code) files = refl
stay outcome.NoMemory files = refl
stay outcome.Internal files = refl

-- files that stay are what any answer may leave
pub left_as : (answer : Outcome) (old new : FilesState) → new ≡ old → Leaves answer old new
left_as answer old new same = subst (λ (s : FilesState). Leaves answer old s) (sym same) (stay answer old)

-- a line that is told after nothing
pub told_from : (line : List ℕ) (old mid new : SinkState) → mid ≡ old → Told line mid new → Told line old new
told_from line old mid new same told = subst (λ (s : SinkState). Told line s new) same told

pub is_no_usage : (answer other : Outcome) → answer ≡ other → other ≢ outcome.Usage → answer ≢ outcome.Usage
is_no_usage answer other is differs = subst (λ (a : Outcome). a ≢ outcome.Usage) (sym is) differs

pub built_is_no_usage : (answer : Outcome) (line folder path : List ℕ) (small : Bool) (old new : FilesState) → BuildAnswers answer line folder path small old new → answer ≢ outcome.Usage
built_is_no_usage answer line folder path small old new built named = subst (λ (a : Outcome). BuildAnswers a line folder path small old new) named built

-- what is told of a folder that has no script leaves the files, and is no usage
pub refused_leaves : (refused : Refused) (answer : Outcome) (line folder : List ℕ) (old new : FilesState) → IsToldOf refused answer line → IsRefused refused folder old new → Leaves answer old new × (answer ≢ outcome.Usage)
refused_leaves refusal answer line folder old new told why =
    let built = answers_of refusal answer line folder [] false old new told why in
    (leaves answer line folder [] false old new built, built_is_no_usage answer line folder [] false old new built)

-- what is told of a folder that has no script is no usage
pub told_is_no_usage : (refused : Refused) (answer : Outcome) (line : List ℕ) → IsToldOf refused answer line → answer ≢ outcome.Usage
told_is_no_usage why answer line told named = by why (subst (λ (a : Outcome). IsToldOf why a line) named told)
  where
    by : (r : Refused) → IsToldOf r outcome.Usage line → ⊥
    by refused.ReadFault (is, said) = cc
    by refused.NoMemory (is, said) = cc
    by refused.Internal (is, said) = cc
    by (refused.Fault fault entries) (inl (is, said)) = cc
    by (refused.Fault fault entries) (inr (is, said)) = cc
    by (refused.Beyond fault entries) told = told

-- a script that wasn't read leaves the files
pub unread_leaves : (error : FileError) (answer : Outcome) (path : List ℕ) (limit : ℕ) (old new : FilesState) → IsUnread error answer → Reads (Err error) path limit old new → Leaves answer old new
unread_leaves file_error.Missing answer path limit old new is reads = left_as answer old new reads.0
unread_leaves file_error.TooLong answer path limit old new is reads = left_as answer old new reads.0
unread_leaves file_error.NoMemory answer path limit old new is reads = left_as answer old new reads
unread_leaves file_error.Failed answer path limit old new is reads = subst (λ (a : Outcome). Leaves a old new) (sym is) (inl reads)

-- a fault in a file with a whole name is told by its line
pub told_whole_at : (es : List FileEntry) (fault : Fault) (entry : FileEntry) (name text : List ℕ) (old new : SinkState) → entry ≡ get_or es fault.place.file entry → fault.place.file < length es → name ≡ whole_name entry → text ≡ fault.text
    → Told (line_at name (line_and_column entry.bytes fault.place.offset) text) old new → Told (whole_line es fault) old new
told_whole_at es fault entry name text old new at inside named is told =
    subst (λ (e : FileEntry). Told (line_at (whole_name e) (line_and_column e.bytes fault.place.offset) fault.text) old new) (get_or_read_under es fault.place.file (length es) entry no_entry at inside refl)
    (subst (λ (n : List ℕ). Told (line_at n (line_and_column entry.bytes fault.place.offset) fault.text) old new) named
    (subst (λ (t : List ℕ). Told (line_at name (line_and_column entry.bytes fault.place.offset) t) old new) is told))
  where
    no_entry : FileEntry
    no_entry = record { path = []; name = []; bytes = []; embedded = false; too_long = false }

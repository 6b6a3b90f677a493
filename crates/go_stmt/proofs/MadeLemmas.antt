-- What comes of a package after the bodies of its functions.
use Rattle.std.proofs.Common.{◌≡◌, ◌<◌, ◌+◌, ◌∙◌, ℕ, suc, sym, ap, subst, List, [], ◌∷◌, ◌++◌, map}
use Rattle.std.specs.Prelude.{codes, Option, Ok, Err, Result, IfOk}
use Rattle.gj_base.specs.declared.fault.Refusal.{Refusal}
use Rattle.gj_base.specs.declared.fault.Refusal.TheVariants as refusal
use Rattle.gj_base.specs.declared.place.Place.{Place}
use Rattle.go_syntax.specs.Tree as t
use Rattle.go_type.specs.Tree as ty
use Rattle.go_type.specs.Tree.{Ty}
use Rattle.go_type.specs.Named.{NamedTy}
use Rattle.go_type.specs.Levels.{tree_of}
use Rattle.go_type.specs.Table.{places, names, size}
use Rattle.go_type.specs.declared.types.TypeId.{TypeId}
use Rattle.go_type.specs.declared.table.TypeTable.{TypeTable}
use Rattle.go_typing.specs.Answer.{Flaw}
use Rattle.go_operands.specs.declared.scopes.env.Env.{Env}
use Rattle.go_operands.specs.EnvView.{table_of, env_of}
use Rattle.go_typing.specs.Scopes.{visible}
use Rattle.go_core.specs.CoreTree.{CoreFunc, CoreProgram}
use Rattle.go_core.specs.CoreView.{func_view, method_row_view, package_row_view, program_view}
use Rattle.go_core.specs.SoundProgram.{Sound}
use Rattle.go_core.specs.declared.program.Func.{Func}
use Rattle.go_core.specs.declared.program.Program.{Program}
use Rattle.go_typing.specs.Walk.{Walk}
use Rattle.go_typing.specs.Known.{hidden, outside}
use Rattle.go_typing.specs.Functions.{Between, Functions, functions_from}
use Rattle.go_typing.specs.Checked.{known_in, first_too_far, told, or_generated, count_functions, between_of, error_function, runtime_function, method_at, program_with, program_of}
use Rattle.go_items.specs.Stands.{Stands}
use Rattle.go_walk.specs.WalkView.{walk_outside, walk_of, Keeps}
use Rattle.go_walk.specs.declared.walk.walk.Walk as code
use Rattle.go_body.specs.Plain.{IsPlain}
use Rattle.go_decls.specs.Heads as heads
use Rattle.go_decls.specs.Heads.{heads_from, functions_by}
use Rattle.go_decls.specs.HeadView.{head_view, now_of, AreReady}
use Rattle.go_decls.specs.declared.heads.head.Head.{Head}
use Rattle.go_sound.specs.Grammar.{DeclsOfGrammar}
use Rattle.go_sound.specs.SoundPrograms.{HasMain, ProgramsAreSound}
use Rattle.go_stmt.specs.Checks.{flaws_before, IsProgramOf, Judges, Checks}
use Rattle.go_stmt.specs.Made.{functions_of, AreMade, IsFrameOf}
use Rattle.go_stmt.specs.declared.stmt.made.Frame.{Frame}
use Rattle.go_stmt.proofs.CheckLemmas.{is_outside, is_plain, keeps_own}

-- ---- the program

abbrev both_hidden : ℕ → List CoreFunc
both_hidden n = error_function n ∷ runtime_function (n + 2) ∷ []

-- what is said of a whole program
abbrev WholeOf : TypeTable → List Func → TypeId → Frame → Program → Type 0
WholeOf table fs id frame p =
    (r : Functions) (count : ℕ) → tree_of (places table) id ≡ hidden → names table ≡ r.between.names → map (func_view (places table)) fs ≡ r.funcs ++ error_function r.between.next ∷ runtime_function (r.between.next + 2) ∷ []
    → map (method_row_view (places table)) frame.rows.methods.items ≡ method_at (codes "Error") count ∷ method_at (codes "RuntimeError") (suc count) ∷ []
    → map package_row_view frame.rows.packages.items ≡ record { path = []; imports = []; inits = [] } ∷ [] → program_view p ≡ record (program_with frame.main r count) { types = places table }

pub program_is : (ds : List t.Decl) (env : Env) (next : ℕ) (old new : List Func) (id text : TypeId) (frame : Frame) (table : TypeTable) (p : Program) → table ≡ table_of env → tree_of (places (table_of env)) text ≡ ty.str
    → ((ts : List Ty) → tree_of ts id ≡ hidden → tree_of ts text ≡ ty.str → map (func_view ts) new ≡ map (func_view ts) old ++ error_function next ∷ runtime_function (next + 2) ∷ [])
    → WholeOf table new id frame p → AreMade ds env next old id → IsFrameOf ds id frame → IsProgramOf ds p
program_is ds env next old new id text frame table p same str more whole made fits =
    is ∙ ap (λ (m : ℕ). record (program_with m r count) { types = ts }) fits.main ∙ ap (λ (us : List Ty). record (program_of ds) { types = us }) (sym (ap (λ (q : CoreProgram). q.types) is))
  where
    ts : List Ty
    ts = places (table_of env)

    r : Functions
    r = functions_of ds

    count : ℕ
    count = count_functions ds

    funcs : map (func_view ts) new ≡ r.funcs ++ both_hidden r.between.next
    funcs = more ts made.is_hidden str ∙ ap (λ (fs : List CoreFunc). fs ++ both_hidden next) made.funcs_are ∙ ap (λ (n : ℕ). r.funcs ++ both_hidden n) made.next_is

    is : program_view p ≡ record (program_with frame.main r count) { types = ts }
    is = (subst (λ (u : TypeTable). WholeOf u new id frame p) same whole) r count made.is_hidden made.names_are funcs (fits.methods ts made.is_hidden) fits.packages

-- ---- the functions

abbrev between : List NamedTy → ℕ → Between
between ns n = record { names = ns; next = n }

pub ready_in : (ds : List t.Decl) (e d : Env) (hs : List Head) → d ≡ e → Stands (known_in ds) (env_of e) → AreReady (table_of e) (outside (known_in ds)) hs → AreReady (table_of d) (walk_outside d) hs
ready_in ds e d hs same stands ready =
    subst (λ (x : Env). AreReady (table_of x) (walk_outside x) hs) (sym same) (subst (λ (w : Walk). AreReady (table_of e) w hs) (sym (is_outside (known_in ds) e stands)) ready)

pub plain_in : (ds : List t.Decl) (e d : Env) → d ≡ e → Stands (known_in ds) (env_of e) → IsPlain (visible (env_of d))
plain_in ds e d same stands = subst (λ (x : Env). IsPlain (visible (env_of x))) (sym same) (is_plain (known_in ds) (env_of e) stands)

-- from the environment e before the bodies; v: the walk after them
module _ (ds : List t.Decl) (e : Env) (w v : code.Walk) (hs : List Head) (same : w.env ≡ e) (none : w.next ≡ 0) (stands : Stands (known_in ds) (env_of e))
    (view : (ts : List Ty) → Keeps (table_of e) ts → map (head_view ts) hs ≡ heads_from (first_too_far ds) (outside (known_in ds)) ds)
    (law : (far : Option Place) (w : Walk) (ds : List t.Decl) (k : Between) → functions_by w (heads_from far w ds) k ≡ functions_from far w ds k) (back : (ts : List Ty) → Keeps (table_of v.env) ts → Keeps (table_of w.env) ts) where
  kept : Keeps (table_of e) (places (table_of v.env))
  kept = subst (λ (x : Env). Keeps (table_of x) (places (table_of v.env))) same (back (places (table_of v.env)) (keeps_own (table_of v.env)))

  now_is : now_of w ≡ between_of (known_in ds)
  now_is = ap (λ (x : Env). between (names (table_of x)) w.next) same ∙ ap (between (names (table_of e))) none ∙ ap (λ (ns : List NamedTy). between ns 0) stands.names

  scope_is : walk_outside w.env ≡ outside (known_in ds)
  scope_is = ap walk_outside same ∙ is_outside (known_in ds) e stands

  -- all functions by what is known before each
  pub all_are : functions_by (walk_outside w.env) (map (head_view (places (table_of v.env))) hs) (now_of w) ≡ functions_of ds
  all_are =
      ap (λ (x : Walk). functions_by x (map (head_view (places (table_of v.env))) hs) (now_of w)) scope_is
      ∙ ap (λ (xs : List heads.Head). functions_by (outside (known_in ds)) xs (now_of w)) (view (places (table_of v.env)) kept)
      ∙ ap (functions_by (outside (known_in ds)) (heads_from (first_too_far ds) (outside (known_in ds)) ds)) now_is
      ∙ law (first_too_far ds) (outside (known_in ds)) ds (between_of (known_in ds))

  pub made_of : (fs : List Func) (id : TypeId) → tree_of (places (table_of e)) id ≡ hidden → id.0 < size (table_of e)
      → ((ts : List Ty) → Keeps (table_of v.env) ts → map (func_view ts) fs ≡ (functions_by (walk_outside w.env) (map (head_view ts) hs) (now_of w)).funcs)
      → ((ts : List Ty) → Keeps (table_of v.env) ts → now_of v ≡ (functions_by (walk_outside w.env) (map (head_view ts) hs) (now_of w)).between) → AreMade ds v.env v.next fs id
  made_of fs id is below funcs ends =
      let ts = places (table_of v.env) in
      let last : now_of v ≡ (functions_of ds).between = ends ts (keeps_own (table_of v.env)) ∙ ap (λ (r : Functions). r.between) all_are in
      record {
        is_hidden = kept id below ∙ is;
        names_are = ap (λ (k : Between). k.names) last;
        next_is = ap (λ (k : Between). k.next) last;
        funcs_are = funcs ts (keeps_own (table_of v.env)) ∙ ap (λ (r : Functions). r.funcs) all_are;
      }

  pub told_of : (old new : List Flaw) → old ≡ flaws_before ds → ((ts : List Ty) → Keeps (table_of v.env) ts → new ≡ old ++ (functions_by (walk_outside w.env) (map (head_view ts) hs) (now_of w)).flaws)
      → new ≡ flaws_before ds ++ (functions_of ds).flaws
  told_of old new first told =
      told (places (table_of v.env)) (keeps_own (table_of v.env))
      ∙ ap (λ (fs : List Flaw). fs ++ (functions_by (walk_outside w.env) (map (head_view (places (table_of v.env))) hs) (now_of w)).flaws) first ∙ ap (λ (r : Functions). flaws_before ds ++ r.flaws) all_are

pub starts_at : (w : code.Walk) (e : Env) → ((ts : List Ty) → walk_of ts w ≡ walk_outside e) → w.next ≡ 0
starts_at w e is = ap (λ (x : Walk). x.next) (is [])

-- ---- what a user is told

pub judged : (ds : List t.Decl) (r : Result (Unit {0}) Refusal) (count : ℕ) (fs : List Flaw) → fs ≡ flaws_before ds ++ (functions_of ds).flaws → count ≡ count_functions ds → Judges r (or_generated count fs) → Judges r (told ds)
judged ds r count fs all number is = subst (λ (gs : List Flaw). Judges r (or_generated (count_functions ds) gs)) all (subst (λ (n : ℕ). Judges r (or_generated n fs)) number is)

pub checks_err : (ds : List t.Decl) (r : Refusal) → Judges (Err r) (told ds) → Checks (Err r) ds
checks_err ds (refusal.Fault f) is = is
checks_err ds refusal.NoMemory is = tt

pub sound_of : ProgramsAreSound → (ds : List t.Decl) (r : Result Program Refusal) → Checks r ds → IfOk r (λ p. DeclsOfGrammar ds → HasMain ds → Sound (program_of ds))
sound_of law ds (Ok p) is = λ grammar main. law ds grammar is.0 main
sound_of law ds (Err r) is = tt

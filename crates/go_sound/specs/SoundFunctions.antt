-- Go specification (as of Go 1.17), "Function declarations": functions of whose signatures and bodies nothing is told have a meaning.
use Rattle.std.specs.Prelude.{◌≡◌, ℕ, List, [], ◌++◌, Option}
use Rattle.gj_base.specs.declared.place.Place.{Place}
use Rattle.go_syntax.specs.Tree as t
use Rattle.go_syntax.specs.declared.tree.Name.{Name}
use Rattle.go_type.specs.Named.{NamedTy}
use Rattle.go_core.specs.CoreTree.{CoreProgram}
use Rattle.go_core.specs.SoundNode as sound
use Rattle.go_core.specs.SoundNode.{IsRowOf}
use Rattle.go_core.specs.SoundProgram.{SoundFunc}
use Rattle.go_typing.specs.Walk.{Walk}
use Rattle.go_typing.specs.Signature.{sig_flaws, sig_types}
use Rattle.go_typing.specs.Functions.{Between, around_body, body_of, core_function}
use Rattle.go_sound.specs.Added.{ScopesAreSet}
use Rattle.go_sound.specs.Lost.{NothingUnknown}
use Rattle.go_sound.specs.SoundTyped.{ScopesAreSound}
use Rattle.go_sound.specs.Grammar.{SigOfGrammar, BlockOfGrammar}

-- what the names of the package's scope stand for has a meaning wherever a function stands, so that none is a variable, and is typed
pub record PackageIsReady (p : CoreProgram) (w : Walk) : Type 0 where
  pub scopes : (a : sound.Around) → ScopesAreSound p a w.scopes
  pub types_set : ScopesAreSet w.names w.scopes
  pub all_typed : NothingUnknown w.scopes

-- far: where the first function stands that is one too many; w: the package's scope; k: what is known before the function, with
-- named types of the bodies before it
abbrev pub FunctionsAreSound : Type 0
FunctionsAreSound = (far : Option Place) (p : CoreProgram) (w : Walk) → PackageIsReady p w → (k : Between) (types further : List NamedTy) → k.names ≡ w.names ++ types → (at : Place) (n : Name) (s : t.Sig) (b : t.Block) → SigOfGrammar s → BlockOfGrammar b
    → p.names ≡ (body_of w k s b (around_body far w at n s)).walk.names ++ further → sig_flaws w s ≡ [] → (body_of w k s b (around_body far w at n s)).flaws ≡ [] → (id : ℕ) → (IsRowOf p id → ⊥)
    → SoundFunc p id (core_function at n (sig_types w s) (body_of w k s b (around_body far w at n s)))

use Rattle.std.proofs.Common.{◌≡◌, true, false, sym, subst, rules}
use Rattle.std.specs.Prelude.{Option}
use Rattle.go_type.specs.Levels.{tree_of}
use Rattle.go_type.specs.Table.{places, names, size}
use Rattle.go_type.specs.Tried.{spec_at, IsFound}
use Rattle.go_type.specs.declared.types.MethodSpec.{MethodSpec}
use Rattle.go_type.proofs.FoundLemmas.{none_found, unheld, found_law}
use Rattle.go_type.proofs.TryLemmas.{on_ok}
use Rattle.go_type.proofs.tries.found.Goals as goal

pub returns-then-not-is_held : goal.returns-then-not-is_held
returns-then-not-is_held c =
    let s = c.args.table.now in
    let no : c.is_held.result ≡ false = search rules in
    unheld (size s) (places s) (names s) (tree_of (places s) c.args.t) c.args.indirect c.args.name.now c.args.«package».now (λ h. let yes_ : c.is_held.result ≡ true = c.is_held.ensures.1 h in cc)

pub returns-in-Some : goal.returns-in-Some
returns-in-Some c =
    let s = c.args.table.now in
    let ts = places s in
    let t = tree_of ts c.args.t in
    let hit = c.in-Some.hit in
    let yes_ : c.is_held.result ≡ true = search rules in
    let law = found_law (size s) ts (names s) t c.args.indirect c.args.name.now c.args.«package».now (c.is_held.ensures.0 yes_) c.in-Some.field-0-0 c.in-Some.ensures.before hit c.in-Some.ensures.here c.in-Some.ensures.something c.in-Some.ensures.within in
    on_ok (λ (m : Option MethodSpec). m ≡ spec_at hit c.args.indirect c.args.name.now c.args.«package».now) (IsFound (size s) ts (names s) t c.args.indirect c.args.name.now c.args.«package».now)
    (λ m e. subst (IsFound (size s) ts (names s) t c.args.indirect c.args.name.now c.args.«package».now) (sym e) law) c.spec_at.result c.spec_at.ensures

pub returns-in-None : goal.returns-in-None
returns-in-None c =
    let s = c.args.table.now in
    none_found (size s) (places s) (names s) (tree_of (places s) c.args.t) c.args.indirect c.args.name.now c.args.«package».now c.in-None.ensures.none

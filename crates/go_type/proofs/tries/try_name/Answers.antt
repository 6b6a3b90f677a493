use Rattle.std.proofs.Common.{◌≡◌, ℕ, List, false, ap, sym, ◌∙◌, subst}
use Rattle.std.specs.Prelude.{insert, slice_get}
use Rattle.go_type.specs.Levels.{tree_of}
use Rattle.go_type.specs.Table.{places, names, size}
use Rattle.go_type.specs.Tried.{place_of, is_named, IsFound, TriesName}
use Rattle.go_type.specs.declared.types.MethodSpec.{MethodSpec}
use Rattle.go_type.proofs.TryLemmas.{tries_there, tries_new}
use Rattle.go_type.proofs.tries.try_name.Goals as goal

pub returns-then-is_named : goal.returns-then-is_named
returns-then-is_named c =
    let s = c.args.table.now in
    let e = ap (λ (xs : List MethodSpec). is_named c.args.name.now c.args.«package».now (slice_get xs c.place_of-place.result)) (sym c.as_slice-2.ensures.value) ∙ sym c.is_named.ensures ∙ c.if-is_named.true in
    tries_there (size s) (places s) (names s) (tree_of (places s) c.args.t) c.args.indirect c.args.name.now c.args.«package».now c.args.specs.now.items c.place_of-place.result e c.requires.are

pub returns-in_ok-insert-in-Some : goal.returns-in_ok-insert-in-Some
returns-in_ok-insert-in-Some c =
    let s = c.args.table.now in
    let ts = places s in
    let ns = names s in
    let t = tree_of ts c.args.t in
    let name = c.args.name.now in
    let home = c.args.«package».now in
    let ms = c.args.specs.now.items in
    let m = c.in-Some.spec in
    let place : c.place_of-place.result ≡ place_of name home ms = c.place_of-place.ensures.value ∙ ap (place_of name home) c.as_slice.ensures.value in
    let free : is_named name home (slice_get ms (place_of name home ms)) ≡ false =
    ap (λ (k : ℕ). is_named name home (slice_get ms k)) (sym place) ∙ ap (λ (xs : List MethodSpec). is_named name home (slice_get xs c.place_of-place.result)) (sym c.as_slice-2.ensures.value) ∙ sym c.is_named.ensures ∙ c.if-is_named.false in
    let law = subst (IsFound (size s) ts ns t c.args.indirect name home) c.in-Some.is c.in_ok-spec.ensures in
    let items : c.insert.new.self.items ≡ insert ms (place_of name home ms) m = c.in_ok-insert-in-Some.ensures.items ∙ ap (λ (k : ℕ). insert ms k m) place in
    subst (TriesName (size s) ts ns t c.args.indirect name home ms) (sym items) (tries_new (size s) ts ns t c.args.indirect name home ms m free law c.requires.are)

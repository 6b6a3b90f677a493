-- A walk by its parts, and the uses of one more name.
use Rattle.std.proofs.Common.{◌≡◌, ◌<◌, ℕ, ◌∙◌, refl, sym, ap, List, [], ◌∷◌, ◌++◌, append_assoc, Option, None, Bool, true, false, cond, length}
use Rattle.std.proofs.lemmas.List.{append-nil}
use Rattle.gj_base.specs.declared.place.Place.{Place}
use Rattle.go_syntax.specs.declared.tree.Name.{Name}
use Rattle.go_type.specs.Named.{NamedTy}
use Rattle.go_core.specs.CoreTree.{Var}
use Rattle.go_typing.specs.Env.{Bind, Decl, is_blank}
use Rattle.go_typing.specs.Scopes as scopes
use Rattle.go_typing.specs.Scopes.{Env, visible, innermost, last_scope, last_changed, with_bind, place_in}
use Rattle.go_typing.specs.Walk as go
use Rattle.go_typing.specs.Walk.{declared_place, places_of, bind_of, is_there, with_name}
use Rattle.go_walk.proofs.ScopeLemmas.{inside, declares}

abbrev pub made : List NamedTy → List (List Bind) → ℕ → ℕ → List Var → List Name → List Place → ℕ → go.Walk
made ns ss n l vs ds us lost = record { names = ns; scopes = ss; next = n; next_label = l; vars = vs; declared = ds; used = us; lost = lost }

pub made-same : {ns ms : List NamedTy} {ss rs : List (List Bind)} {us ws : List Place} (n l : ℕ) (vs : List Var) (ds : List Name) (lost : ℕ) → ns ≡ ms → ss ≡ rs → us ≡ ws → made ns ss n l vs ds us lost ≡ made ms rs n l vs ds ws lost
made-same n l vs ds lost a b c = λ j. made (a j) (b j) n l vs ds (c j) lost

-- a name that the innermost scope hasn't
pub names_it : (e f : Env) (ns ms : List NamedTy) (n : Name) (d : Decl) (next label : ℕ) (vs : List Var) (ds : List Name) (us : List Place) (lost : ℕ) → 0 < length e.blocks → is_blank n.text ≡ false
    → is_there n (made ns (visible e) next label vs ds us lost) ≡ None → f ≡ scopes.declared (bind_of n d) e → ms ≡ ns
    → made ms (visible f) next label vs ds us lost ≡ with_name n d (made ns (visible e) next label vs ds us lost)
names_it e f ns ms n d next label vs ds us lost h off free q k =
    let there : cond (is_blank n.text) None (place_in n.text (last_scope (visible e))) ≡ None = free in
    let missing : place_in n.text (innermost e) ≡ None = ap (place_in n.text) (sym (inside e h)) ∙ sym (ap (λ (b : Bool). cond b None (place_in n.text (last_scope (visible e)))) off) ∙ there in
    let added : visible f ≡ last_changed (with_bind (bind_of n d)) (visible e) = ap visible q ∙ declares e (bind_of n d) h missing in
    let w : go.Walk = made ns (visible e) next label vs ds us lost in
    made-same {us = us} {ws = us} next label vs ds lost k added refl
    ∙ sym (ap (λ (b : Bool). cond b w (record w { scopes = last_changed (with_bind (bind_of n d)) w.scopes })) off)

-- whether a name is there is asked of the scopes alone
pub there_still : (n : Name) (ss rs : List (List Bind)) → rs ≡ ss → cond (is_blank n.text) None (place_in n.text (last_scope ss)) ≡ None → cond (is_blank n.text) None (place_in n.text (last_scope rs)) ≡ None
there_still n ss rs e h = ap (λ (qs : List (List Bind)). cond (is_blank n.text) None (place_in n.text (last_scope qs))) e ∙ h

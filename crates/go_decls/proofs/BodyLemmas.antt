-- A body leaves the scopes around it as they were.
use Rattle.std.proofs.Common.{◌≡◌, ◌∙◌, []}
use Rattle.go_typing.specs.Scopes.{without_last}
use Rattle.go_typing.specs.Walk.{Walk}
use Rattle.go_typing.specs.Signature.{all_bound, inside}
use Rattle.go_typing.specs.Functions.{Between, at_start}
use Rattle.go_sound.proofs.GoesOnSteps.{then_on, without_append}
use Rattle.go_sound.proofs.GoesOnBodies.{all_bound_on, function_body_on}
use Rattle.go_decls.specs.Heads.{Head, around_head, body_in, body_by}

pub leaves_scopes : (w : Walk) (k : Between) (h : Head) → without_last (body_by w k h).walk.scopes ≡ w.scopes
leaves_scopes w k h =
    let start = inside (at_start w k) in
    let begun = all_bound w h.params start in
    let on = then_on start begun (body_in h begun).walk (all_bound_on w h.params start) (function_body_on h.body (around_head h) begun) in
    on.outer_kept ∙ without_append w.scopes []

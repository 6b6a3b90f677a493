-- What is wanted of an answer, by whether it is typed.
use Rattle.std.proofs.Common.{◌≡◌, refl, List}
use Rattle.std.specs.Prelude.{true, false}
use Rattle.gj_base.specs.declared.place.Place.{Place}
use Rattle.go_type.specs.Tree.{Ty}
use Rattle.go_type.specs.Named.{NamedTy}
use Rattle.go_typing.specs.Answer.{Answer, value, pending, type_, package_, built_in, blank, does, wrong, untyped_part, is_known}
use Rattle.go_typing.specs.Operand.{single}
use Rattle.go_typing.specs.Wanted.{wanted_operand, wanted, alone_operand, wanted_alone}

pub wanted_known : (ns : List NamedTy) (at : Place) (t : Ty) (a : Answer) → is_known a ≡ true → wanted ns at t a ≡ wanted_operand ns at t (single a)
wanted_known ns at t (value c u v) h = refl
wanted_known ns at t (pending p b) h = refl
wanted_known ns at t (type_ u) h = refl
wanted_known ns at t (package_ path) h = refl
wanted_known ns at t (built_in b) h = refl
wanted_known ns at t blank h = refl
wanted_known ns at t (does s) h = refl
wanted_known ns at t (wrong f fs) h = absurd (cc)
wanted_known ns at t untyped_part h = absurd (cc)

pub wanted_unknown : (ns : List NamedTy) (at : Place) (t : Ty) (a : Answer) → is_known a ≡ false → wanted ns at t a ≡ untyped_part
wanted_unknown ns at t (value c u v) h = absurd (cc)
wanted_unknown ns at t (pending p b) h = absurd (cc)
wanted_unknown ns at t (type_ u) h = absurd (cc)
wanted_unknown ns at t (package_ path) h = absurd (cc)
wanted_unknown ns at t (built_in b) h = absurd (cc)
wanted_unknown ns at t blank h = absurd (cc)
wanted_unknown ns at t (does s) h = absurd (cc)
wanted_unknown ns at t (wrong f fs) h = refl
wanted_unknown ns at t untyped_part h = refl

pub alone_known : (ns : List NamedTy) (at : Place) (a : Answer) → is_known a ≡ true → wanted_alone ns at a ≡ alone_operand ns at (single a)
alone_known ns at (value c u v) h = refl
alone_known ns at (pending p b) h = refl
alone_known ns at (type_ u) h = refl
alone_known ns at (package_ path) h = refl
alone_known ns at (built_in b) h = refl
alone_known ns at blank h = refl
alone_known ns at (does s) h = refl
alone_known ns at (wrong f fs) h = absurd (cc)
alone_known ns at untyped_part h = absurd (cc)

pub alone_unknown : (ns : List NamedTy) (at : Place) (a : Answer) → is_known a ≡ false → wanted_alone ns at a ≡ untyped_part
alone_unknown ns at (value c u v) h = absurd (cc)
alone_unknown ns at (pending p b) h = absurd (cc)
alone_unknown ns at (type_ u) h = absurd (cc)
alone_unknown ns at (package_ path) h = absurd (cc)
alone_unknown ns at (built_in b) h = absurd (cc)
alone_unknown ns at blank h = absurd (cc)
alone_unknown ns at (does s) h = absurd (cc)
alone_unknown ns at (wrong f fs) h = refl
alone_unknown ns at untyped_part h = refl

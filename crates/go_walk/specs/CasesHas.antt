-- Own: whether a set has a constant.
use Rattle.std.specs.Prelude.{Bool, true, false, bytes_eq}
use Rattle.std.specs.List.{list_any}
use Rattle.std.specs.Ordering.{int_eq}
use Rattle.go_const.specs.declared.constant.Const.{Const}
use Rattle.go_const.specs.declared.constant.Const.TheVariants as form
use Rattle.go_walk.specs.declared.cases.seen.ConstSet.{ConstSet}

abbrev pub has_const : Const → ConstSet → Bool
has_const (form.Bool true) s = s.has_true
has_const (form.Bool false) s = s.has_false
has_const (form.Int n) s = list_any (int_eq n) s.numbers.keys
has_const (form.Rune n) s = false
has_const (form.Text t) s = list_any (bytes_eq t) s.texts.keys

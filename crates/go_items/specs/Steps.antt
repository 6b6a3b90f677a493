-- Own: the type of run-time panics as it comes to be (go_typing, `runtime_type`): by its name alone, and then as a string.
use Rattle.std.specs.Prelude.{[], Some, None, codes}
use Rattle.go_type.specs.Tree as ty
use Rattle.go_type.specs.Named.{NamedTy}

abbrev pub no_text : NamedTy
no_text = record { name = codes "runtimeError"; package_ = []; under = None; methods = [] }

abbrev pub named_text : NamedTy
named_text = record { name = codes "runtimeError"; package_ = []; under = Some ty.str; methods = [] }

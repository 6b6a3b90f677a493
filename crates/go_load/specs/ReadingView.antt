-- What a file is, as contracts see it: its tree without boxes and vectors.
use Rattle.go_syntax.specs.View.{file_view}
use Rattle.go_load.specs.Readings as r
use Rattle.go_load.specs.declared.reading.Reading.{Reading}
use Rattle.go_load.specs.declared.reading.Reading.TheVariants.{Long, Unlexed, Unparsed, Parsed}

abbrev pub reading_view : Reading → r.Reading
reading_view Long = r.Long
reading_view (Unlexed fault) = r.Unlexed fault
reading_view (Unparsed fault) = r.Unparsed fault
reading_view (Parsed start constraint file) = r.Parsed start constraint (file_view file)

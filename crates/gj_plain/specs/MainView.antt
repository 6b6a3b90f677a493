-- What a `main` in code stands for.
use Rattle.gj_plain.specs.Plain as p
use Rattle.gj_plain.specs.declared.plain.Main.{Main}

abbrev pub main_view : Main → p.Main
main_view main = record { place = main.place; texts = main.texts.items }

use Rattle.go_slices.proofs.slices.append.first_cells.Goals as goal

pub returns : goal.returns
returns c = record { value = λ ts. c.read_cells.ensures.value ts }

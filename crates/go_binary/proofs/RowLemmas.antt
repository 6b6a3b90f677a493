-- The rows of indexes and slices, by whether each part is typed.
use Rattle.std.proofs.Common.{◌≡◌, ap, List}
use Rattle.std.specs.Prelude.{true, false, ◌&&◌, ◌++◌, Option}
use Rattle.gj_base.specs.declared.place.Place.{Place}
use Rattle.go_type.specs.Named.{NamedTy}
use Rattle.go_typing.specs.Answer.{Answer, untyped_part, is_known, where_known, Part}
use Rattle.go_typing.specs.Operand.{single}
use Rattle.go_typing.specs.Index.{index_single, index_row, slice_single, slice_row, is_known_bound, bound_no_value, edge_of}
use Rattle.go_operands.specs.Parts.{part}

pub known_row : (ns : List NamedTy) (at p q : Place) (a b : Answer) → (is_known a && is_known b) ≡ true → index_row ns at (part p a) (part q b) ≡ index_single ns at p (single a) q (single b)
known_row ns at p q a b h = ap (λ k. where_known k (index_single ns at p (single a) q (single b))) h

pub unknown_row : (ns : List NamedTy) (at p q : Place) (a b : Answer) → (is_known a && is_known b) ≡ false → index_row ns at (part p a) (part q b) ≡ untyped_part
unknown_row ns at p q a b h = ap (λ k. where_known k (index_single ns at p (single a) q (single b))) h

pub known_slice : (ns : List NamedTy) (at p : Place) (a : Answer) (low high most : Option Part) → (is_known a && is_known_bound low && is_known_bound high && is_known_bound most) ≡ true → slice_row ns at (part p a) low high most ≡ slice_single ns at p (single a) (bound_no_value low ++ bound_no_value high ++ bound_no_value most) (edge_of ns low) (edge_of ns high) (edge_of ns most)
known_slice ns at p a low high most h = ap (λ k. where_known k (slice_single ns at p (single a) (bound_no_value low ++ bound_no_value high ++ bound_no_value most) (edge_of ns low) (edge_of ns high) (edge_of ns most))) h

pub unknown_slice : (ns : List NamedTy) (at p : Place) (a : Answer) (low high most : Option Part) → (is_known a && is_known_bound low && is_known_bound high && is_known_bound most) ≡ false → slice_row ns at (part p a) low high most ≡ untyped_part
unknown_slice ns at p a low high most h = ap (λ k. where_known k (slice_single ns at p (single a) (bound_no_value low ++ bound_no_value high ++ bound_no_value most) (edge_of ns low) (edge_of ns high) (edge_of ns most))) h

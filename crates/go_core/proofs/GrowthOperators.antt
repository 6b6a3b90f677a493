-- That memory only grows under each kind of node that looks at its operands and the memory alone.
use Rattle.std.specs.Prelude.{ℕ, zero, suc, ◌+◌, ◌*◌, ℤ, pos, negsuc, List, [], ◌∷◌, length, Bool, true, false, ◌&&◌, nat_lt, nat_le, Option, Some, None, min, take}
use Rattle.gj_base.specs.declared.kind.Kind.{Kind}
use Rattle.gj_base.specs.declared.kind.Op.{Op}
use Rattle.go_type.specs.Tree as ty
use Rattle.go_type.specs.Tree.{Ty}
use Rattle.go_type.specs.Named.{NamedTy}
use Rattle.go_type.specs.Underlying.{underlying}
use Rattle.go_core.specs.Layout.{kind_of, Shape, shape_of, size, weight}
use Rattle.go_core.specs.Memory as cell
use Rattle.go_core.specs.Memory.{Scalar, Value, Memory, MapState, read_cells}
use Rattle.go_core.specs.SameType.{same_type}
use Rattle.go_core.specs.CoreTree.{Constant, truth_constant, whole_constant, text_constant, CoreProgram}
use Rattle.go_core.specs.Equality.{Verdict, equal, different, refused}
use Rattle.go_core.specs.Did.{Did, gives}
use Rattle.go_core.specs.StepNumbers as n
use Rattle.go_core.specs.StepMemory as s
use Rattle.go_core.specs.StepSlices as l
use Rattle.go_core.specs.StepMaps as d
use Rattle.go_core.specs.StepInterfaces as i
use Rattle.go_core.specs.Operator as o
use Rattle.go_core.specs.Operator.{Operator, operated}
use Rattle.go_core.proofs.GrowthLemmas.{same, later, writes, makes, maps, channels, sets_map, DidGrow, if_grow, none_grow, one_grow, two_grow, truth_grow, whole_grow, text_grow, place_grow}

made_text : (m : Memory) (bytes : List ℕ) → DidGrow m (n.made_text m bytes)
made_text m bytes = if_grow m (nat_lt n.most_bytes (length bytes)) _ _ tt (same m)

on_kind : (m : Memory) (t : Ty) (f : Kind → Did) → ((k : Kind) → DidGrow m (f k)) → DidGrow m (n.on_kind t f)
on_kind m (ty.int name) f h = h _
on_kind m _ f h = tt

number_or : (m : Memory) (op : Op) (k : Kind) (x : Option ℤ) → DidGrow m (n.number_or op k m x)
number_or m op k None = tt
number_or m op k (Some x) = same m

binary : (ns : List NamedTy) (op : Op) (t : Ty) (x y : Value) (m : Memory) → DidGrow m (n.binary_step ns op t x y m)
binary ns op t x y m = on_kind m (underlying ns t) _ λ k. whole_grow m x _ λ a. whole_grow m y _ λ b. number_or m op k _

unary : (ns : List NamedTy) (op : Op) (t : Ty) (x : Value) (m : Memory) → DidGrow m (n.unary_step ns op t x m)
unary ns op t x m = on_kind m (underlying ns t) _ λ k. whole_grow m x _ λ a. same m

concat : (x y : Value) (m : Memory) → DidGrow m (n.concat_step x y m)
concat x y m = text_grow m x _ λ a. text_grow m y _ λ b. made_text m _

negates : (x : Value) (m : Memory) → DidGrow m (n.not_step x m)
negates x m = truth_grow m x _ λ b. same m

equals : (negated : Bool) (v : Verdict) (m : Memory) → DidGrow m (n.equal_step negated v m)
equals negated (equal u) m = same m
equals negated (different u) m = same m
equals negated (refused u) m = tt

less : (op : Op) (t : Ty) (x y : Value) (m : Memory) → DidGrow m (n.less_step op t x y m)
less op (ty.int name) x y m = whole_grow m x _ λ a. whole_grow m y _ λ b. same m
less op ty.str x y m = text_grow m x _ λ a. text_grow m y _ λ b. same m
less op _ x y m = tt

made_slice : (m : Memory) (ns : List ℕ) → DidGrow m (n.made_slice m ns)
made_slice m [] = same m
made_slice m (x ∷ xs) = if_grow m (nat_lt n.most_elements (length (x ∷ xs))) _ _ tt (makes m _)

slice_to_text : (ns : List NamedTy) (t : Ty) (x : Value) (m : Memory) → DidGrow m (n.slice_to_text ns t x m)
slice_to_text ns (ty.int name) (cell.slice b k c ∷ []) m = made_text m _
slice_to_text ns (ty.int name) (cell.nil ∷ []) m = made_text m []
slice_to_text ns _ _ m = tt

text_to_slice : (t : Ty) (x : Value) (m : Memory) → DidGrow m (n.text_to_slice t x m)
text_to_slice (ty.int name) x m = text_grow m x _ λ bytes. made_slice m (n.elements_of (kind_of name) bytes)
text_to_slice _ x m = tt

converted : (ns : List NamedTy) (a b : Ty) (x : Value) (m : Memory) → DidGrow m (n.converted ns a b x m)
converted ns (ty.int a) (ty.int b) x m = whole_grow m x _ λ k. same m
converted ns (ty.int a) ty.str x m = whole_grow m x _ λ k. made_text m _
converted ns (ty.slice t) ty.str x m = slice_to_text ns (underlying ns t) x m
converted ns ty.str (ty.slice t) x m = text_to_slice (underlying ns t) x m
converted ns _ _ x m = same m

constant : (c : Constant) (m : Memory) → DidGrow m (s.constant_step c m)
constant (truth_constant b) m = same m
constant (whole_constant k) m = same m
constant (text_constant bytes) m = made_text m bytes

deref : (x : Value) (m : Memory) → DidGrow m (s.deref_step x m)
deref (cell.pointer b ∷ []) m = same m
deref (cell.nil ∷ []) m = tt
deref _ m = tt

index : (m : Memory) (k : ℤ) (len : ℕ) (f : ℕ → Did) → ((j : ℕ) → DidGrow m (f j)) → DidGrow m (s.on_index k len f)
index m (pos k) len f h = if_grow m (nat_lt k len) _ _ (h k) tt
index m (negsuc k) len f h = tt

elem : (ns : List NamedTy) (t : Ty) (x y : Value) (m : Memory) → DidGrow m (s.elem_step ns t x y m)
elem ns (ty.array k t) x y m = place_grow m x _ λ b. whole_grow m y _ λ j. index m j k _ λ z. same m
elem ns _ x y m = tt

slice_elem_at : (z : ℕ) (x : Value) (j : ℤ) (m : Memory) → DidGrow m (s.slice_elem_at z x j m)
slice_elem_at z (cell.slice b len c ∷ []) j m = index m j len _ λ k. same m
slice_elem_at z (cell.nil ∷ []) j m = index m j 0 _ λ k. tt
slice_elem_at z _ j m = tt

slice_elem : (ns : List NamedTy) (t : Ty) (x y : Value) (m : Memory) → DidGrow m (s.slice_elem_step ns t x y m)
slice_elem ns (ty.slice t) x y m = whole_grow m y _ λ j. slice_elem_at _ x j m
slice_elem ns _ x y m = tt

byte_or_none : (m : Memory) (b : Option ℕ) → DidGrow m (s.byte_or_none m b)
byte_or_none m None = tt
byte_or_none m (Some b) = same m

byte_at : (x y : Value) (m : Memory) → DidGrow m (s.byte_at_step x y m)
byte_at x y m = text_grow m x _ λ bytes. whole_grow m y _ λ j. index m j (length bytes) _ λ k. byte_or_none m _

build : (ns : List NamedTy) (t u : Ty) (count : ℕ) (is : List ℕ) (vs : List Value) (m : Memory) → DidGrow m (s.build_step ns t u count is vs m)
build ns t (ty.slice u) count is vs m = if_grow m (nat_lt n.most_elements count) _ _ tt (makes m _)
build ns t _ count is vs m = same m

bounds : (m : Memory) (b : Bool) (vs : List Value) (k : ℤ) (f : ℤ → List Value → Did) → ((j : ℤ) (us : List Value) → DidGrow m (f j us)) → DidGrow m (l.one_or b vs k f)
bounds m false vs k f h = h k vs
bounds m true (x ∷ vs) k f h = whole_grow m x _ λ j. h j vs
bounds m true [] k f h = tt

all_bounds : (m : Memory) (a b c : Bool) (len capacity : ℕ) (vs : List Value) (f : l.Bounds → Did) → ((x : l.Bounds) → DidGrow m (f x)) → DidGrow m (l.on_bounds a b c len capacity vs f)
all_bounds m a b c len capacity vs f h =
    bounds m a vs _ _ λ low rest. bounds m b rest _ _ λ high rest'. bounds m c rest' _ _ λ limit rest''. none_grow m rest'' _ (h _)

ordered : (m : Memory) (capacity : ℕ) (f : ℕ → ℕ → ℕ → Did) → ((x y z : ℕ) → DidGrow m (f x y z)) → (a b c : ℤ) → DidGrow m (l.ordered capacity f a b c)
ordered m capacity f h (pos a) (pos b) (pos c) = if_grow m (nat_le a b && nat_le b c && nat_le c capacity) _ _ (h a b c) tt
ordered m capacity f h _ _ _ = tt

Bounding : Memory → (ℕ → ℕ → (l.Bounds → Did) → Did) → Type 0
Bounding m on = (len capacity : ℕ) (f : l.Bounds → Did) → ((x : l.Bounds) → DidGrow m (f x)) → DidGrow m (on len capacity f)

array_sliced : (ns : List NamedTy) (t : Ty) (on : ℕ → ℕ → (l.Bounds → Did) → Did) (base : ℕ) (m : Memory) → Bounding m on → DidGrow m (l.array_sliced ns t on base m)
unfolding Bounding
array_sliced ns (ty.array k u) on base m h = h k k _ λ b. ordered m k _ (λ x y z. same m) b.low b.high b.limit
array_sliced ns _ on base m h = tt

sliced : (ns : List NamedTy) (t : Ty) (on : ℕ → ℕ → (l.Bounds → Did) → Did) (x : Value) (m : Memory) → Bounding m on → DidGrow m (l.sliced ns t on x m)
unfolding Bounding
sliced ns ty.str on (cell.text bytes ∷ []) m h = h _ _ _ λ b. ordered m (length bytes) _ (λ x y z. made_text m _) b.low b.high b.limit
sliced ns (ty.slice t) on (cell.slice base len capacity ∷ []) m h = h _ _ _ λ b. ordered m capacity _ (λ x y z. same m) b.low b.high b.limit
sliced ns (ty.slice t) on (cell.nil ∷ []) m h = h _ _ _ λ b. ordered m 0 _ (λ x y z. same m) b.low b.high b.limit
sliced ns (ty.pointer t) on (cell.nil ∷ []) m h = tt
sliced ns (ty.pointer t) on (cell.pointer base ∷ []) m h = array_sliced ns (underlying ns t) on base m h
sliced ns _ on x m h = tt

slices : (ns : List NamedTy) (t : Ty) (a b c : Bool) (vs : List Value) (m : Memory) → DidGrow m (l.slice_step ns t a b c vs m)
unfolding Bounding
slices ns t a b c [] m = tt
slices ns t a b c (x ∷ vs) m = sliced ns (underlying ns t) _ x m (λ len capacity f h. all_bounds m a b c len capacity vs f h)

elements : (m : Memory) (z : ℕ) (x : Value) (f : Value → ℕ → Did) → ((y : Value) (k : ℕ) → DidGrow m (f y k)) → DidGrow m (l.on_elements z x m f)
elements m z (cell.text bytes ∷ []) f h = h _ _
elements m z (cell.slice base len capacity ∷ []) f h = h _ _
elements m z (cell.nil ∷ []) f h = h _ _
elements m z _ f h = tt

appended : (sh : Shape) (wanted : ℕ) (x more : Value) (count : ℕ) (m : Memory) → DidGrow m (l.appended sh wanted x more count m)
appended sh wanted (cell.slice base len capacity ∷ []) more count m =
    if_grow m (nat_le (len + count) capacity) _ _ (writes m _ more) (if_grow m (nat_lt n.most_elements (len + count)) _ _ tt (makes m _))
appended sh wanted (cell.nil ∷ []) more zero m = same m
appended sh wanted (cell.nil ∷ []) more (suc k) m = if_grow m (nat_lt n.most_elements (suc k)) _ _ tt (makes m _)
appended sh wanted _ more count m = tt

appends : (ns : List NamedTy) (t : Ty) (wanted : ℕ) (x y : Value) (m : Memory) → DidGrow m (l.append_step ns t wanted x y m)
appends ns (ty.slice t) wanted x y m = elements m (size (shape_of ns t)) y _ λ more count. appended (shape_of ns t) wanted x more count m
appends ns _ wanted x y m = tt

copied : (sh : Shape) (x more : Value) (count : ℕ) (m : Memory) → DidGrow m (l.copied sh x more count m)
copied sh (cell.slice base len capacity ∷ []) more count m = writes m base (take (min len count * size sh) more)
copied sh (cell.nil ∷ []) more count m = same m
copied sh _ more count m = tt

copies : (ns : List NamedTy) (t : Ty) (x y : Value) (m : Memory) → DidGrow m (l.copy_step ns t x y m)
copies ns (ty.slice t) x y m = elements m (size (shape_of ns t)) y _ λ more count. copied (shape_of ns t) x more count m
copies ns _ x y m = tt

sized : (m : Memory) (k : ℤ) (f : ℕ → Did) → ((j : ℕ) → DidGrow m (f j)) → DidGrow m (l.on_size k f)
sized m (pos k) f h = if_grow m (nat_lt n.most_elements k) _ _ tt (h k)
sized m (negsuc k) f h = tt

made_of : (sh : Shape) (len capacity : ℕ) (m : Memory) → DidGrow m (l.made_of sh len capacity m)
made_of sh len capacity m = if_grow m (nat_lt capacity len) _ _ tt (makes m _)

make_slice : (ns : List NamedTy) (t : Ty) (vs : List Value) (m : Memory) → DidGrow m (l.make_slice_step ns t vs m)
make_slice ns (ty.slice t) (x ∷ []) m = whole_grow m x _ λ k. sized m k _ λ len. made_of (shape_of ns t) len len m
make_slice ns (ty.slice t) (x ∷ y ∷ []) m = whole_grow m x _ λ k. whole_grow m y _ λ j. sized m k _ λ len. sized m j _ λ capacity. made_of (shape_of ns t) len capacity m
make_slice ns _ _ m = tt

map_of_count : (k : ℤ) (m : Memory) → DidGrow m (l.map_of_count k m)
map_of_count (pos k) m = maps m _
map_of_count (negsuc k) m = tt

make_map : (vs : List Value) (m : Memory) → DidGrow m (l.make_map_step vs m)
make_map [] m = maps m _
make_map (x ∷ []) m = whole_grow m x _ λ k. map_of_count k m
make_map (x ∷ y ∷ vs) m = tt

make_channel : (vs : List Value) (m : Memory) → DidGrow m (l.make_channel_step vs m)
make_channel [] m = channels m _
make_channel (x ∷ []) m = whole_grow m x _ λ k. sized m k _ λ j. channels m _
make_channel (x ∷ y ∷ vs) m = tt

scalar_length : (x : Value) (m : Memory) → DidGrow m (l.scalar_length x m)
scalar_length (cell.text bytes ∷ []) m = same m
scalar_length (cell.slice base len capacity ∷ []) m = same m
scalar_length (cell.map name ∷ []) m = same m
scalar_length (cell.channel name ∷ []) m = same m
scalar_length (cell.nil ∷ []) m = same m
scalar_length _ m = tt

scalar_capacity : (x : Value) (m : Memory) → DidGrow m (l.scalar_capacity x m)
scalar_capacity (cell.slice base len capacity ∷ []) m = same m
scalar_capacity (cell.channel name ∷ []) m = same m
scalar_capacity (cell.nil ∷ []) m = same m
scalar_capacity _ m = tt

measured : (ns : List NamedTy) (t : Ty) (f : Value → Memory → Did) (x : Value) (m : Memory) → DidGrow m (f x m) → DidGrow m (l.measured ns t f x m)
measured ns (ty.array k t) f x m h = same m
measured ns (ty.pointer t) f x m h = same m
measured ns _ f x m h = h

set_or_not : (m : Memory) (name u : ℕ) (st : Option MapState) → DidGrow m (d.set_or_not m name u st)
set_or_not m name u None = tt
set_or_not m name u (Some st) = sets_map m name st

entry_set : (ns : List NamedTy) (k v : Ty) (key x : Value) (name : ℕ) (st : Option MapState) (m : Memory) → DidGrow m (d.entry_set ns k v key x name st m)
entry_set ns k v key x name None m = tt
entry_set ns k v key x name (Some st) m = set_or_not m name _ _

pub map_set : (ns : List NamedTy) (t : Ty) (x key y : Value) (m : Memory) → DidGrow m (d.map_set_step ns t x key y m)
map_set ns (ty.mapping k v) (cell.map name ∷ []) key y m = entry_set ns k v key y name _ m
map_set ns (ty.mapping k v) (cell.nil ∷ []) key y m = tt
map_set ns _ x key y m = tt

entry_deleted : (ns : List NamedTy) (k v : Ty) (key : Value) (name : ℕ) (st : Option MapState) (m : Memory) → DidGrow m (d.entry_deleted ns k v key name st m)
entry_deleted ns k v key name None m = tt
entry_deleted ns k v key name (Some st) m = sets_map m name _

map_delete : (ns : List NamedTy) (t : Ty) (x key : Value) (m : Memory) → DidGrow m (d.map_delete_step ns t x key m)
map_delete ns (ty.mapping k v) (cell.map name ∷ []) key m = entry_deleted ns k v key name _ m
map_delete ns (ty.mapping k v) (cell.nil ∷ []) key m = same m
map_delete ns _ x key m = tt

map_get : (ns : List NamedTy) (t : Ty) (ok : Bool) (x key : Value) (m : Memory) → DidGrow m (d.map_get_step ns t ok x key m)
map_get ns (ty.mapping k v) ok x key m = same m
map_get ns _ ok x key m = tt

new_map : (m : Memory) (u : ℕ) (st : Option MapState) → DidGrow m (d.new_map_or_not m u st)
new_map m u None = tt
new_map m u (Some st) = maps m st

build_map : (ns : List NamedTy) (t : Ty) (vs : List Value) (m : Memory) → DidGrow m (d.build_map_step ns t vs m)
build_map ns (ty.mapping k v) vs m = new_map m _ _
build_map ns _ vs m = tt

failed : (b : Bool) (sh : Shape) (m : Memory) → DidGrow m (i.failed b sh m)
failed true sh m = same m
failed false sh m = tt

asserted : (p : CoreProgram) (to under : Ty) (ok : Bool) (x : Scalar) (m : Memory) → DidGrow m (i.asserted p to under ok x m)
asserted p to (ty.interface ms) ok (cell.interface t xs) m = if_grow m (i.implements p t ms) (gives (d.with_ok ok (cell.interface t xs ∷ []) true) m 1) (i.failed ok (shape_of p.names to) m) (same m) (failed ok (shape_of p.names to) m)
asserted p to under ok (cell.interface t xs) m = if_grow m (same_type t to) (gives (d.with_ok ok (cell.listed xs) true) m (weight (shape_of p.names to))) (i.failed ok (shape_of p.names to) m) (same m) (failed ok (shape_of p.names to) m)
asserted p to under ok x m = failed ok (shape_of p.names to) m

assertion : (p : CoreProgram) (to : Ty) (ok : Bool) (x : Value) (m : Memory) → DidGrow m (i.assert_step p to ok x m)
assertion p to ok (x ∷ []) m = asserted p to _ ok x m
assertion p to ok _ m = tt

basic : (ns : List NamedTy) (x : Value) (m : Memory) → DidGrow m (i.basic_step ns x m)
basic ns (cell.interface t xs ∷ []) m = same m
basic ns _ m = same m

bound_or_not : (m : Memory) (u : ℕ) (x : Value) (row : Option ℕ) → DidGrow m (i.bound_or_not m u x row)
bound_or_not m u x None = tt
bound_or_not m u x (Some row) = same m

bind_dynamic : (p : CoreProgram) (name package_ : List ℕ) (x : Value) (m : Memory) → DidGrow m (i.bind_dynamic_step p name package_ x m)
bind_dynamic p name package_ (cell.interface t xs ∷ []) m = bound_or_not m _ _ _
bind_dynamic p name package_ (cell.nil ∷ []) m = tt
bind_dynamic p name package_ _ m = tt

gate_at : (base : ℕ) (x : Value) (m : Memory) → DidGrow m (o.gate_at base x m)
gate_at base (cell.pointer g ∷ []) m = same m
gate_at base (cell.nil ∷ []) m =
    let first = cell.pointer (cell.next_base m) ∷ [] in
    later m (cell.with_written m base first) _ (writes m base first) (makes (cell.with_written m base first) (cell.whole (pos 0) ∷ []))
gate_at base _ m = tt

module _ (p : CoreProgram) (wanted : ℕ) where
  pub operators : (op : Operator) (vs : List Value) (m : Memory) → DidGrow m (operated p wanted op vs m)
  operators (o.give_constant c) vs m = none_grow m vs _ (constant c m)
  operators (o.give_zero t) vs m = none_grow m vs _ (same m)
  operators (o.at_global k) vs m = none_grow m vs _ (same m)
  operators o.at_pointer vs m = one_grow m vs _ λ x. deref x m
  operators (o.at_field t k) vs m = one_grow m vs _ λ x. place_grow m x _ λ b. same m
  operators (o.at_elem t) vs m = two_grow m vs _ λ x y. elem p.names _ x y m
  operators (o.at_slice_elem t) vs m = two_grow m vs _ λ x y. slice_elem p.names _ x y m
  operators (o.read_place t) vs m = one_grow m vs _ λ x. place_grow m x _ λ b. same m
  operators o.to_address vs m = one_grow m vs _ λ x. same m
  operators (o.to_unary op t) vs m = one_grow m vs _ λ x. unary p.names op t x m
  operators (o.to_binary op t) vs m = two_grow m vs _ λ x y. binary p.names op t x y m
  operators o.to_concat vs m = two_grow m vs _ λ x y. concat x y m
  operators o.to_not vs m = one_grow m vs _ λ x. negates x m
  operators (o.to_equal negated t) vs m = two_grow m vs _ λ x y. equals negated _ m
  operators (o.to_less op t) vs m = two_grow m vs _ λ x y. less op _ x y m
  operators (o.to_converted a b) vs m = one_grow m vs _ λ x. converted p.names _ _ x m
  operators o.to_byte vs m = two_grow m vs _ λ x y. byte_at x y m
  operators (o.to_slice t a b c) vs m = slices p.names t a b c vs m
  operators (o.to_built t count is) vs m = build p.names t _ count is vs m
  operators (o.to_built_map t) vs m = build_map p.names _ vs m
  operators (o.to_bound k) vs m = one_grow m vs _ λ x. bound_or_not m _ x _
  operators (o.to_bound_dynamic name package_) vs m = one_grow m vs _ λ x. bind_dynamic p name package_ x m
  operators (o.get_entry t ok) vs m = two_grow m vs _ λ x y. map_get p.names _ ok x y m
  operators (o.delete_entry t) vs m = two_grow m vs _ λ x y. map_delete p.names _ x y m
  operators (o.to_len t) vs m = one_grow m vs _ λ x. measured p.names _ l.scalar_length x m (scalar_length x m)
  operators (o.to_cap t) vs m = one_grow m vs _ λ x. measured p.names _ l.scalar_capacity x m (scalar_capacity x m)
  operators (o.to_appended t) vs m = two_grow m vs _ λ x y. appends p.names _ wanted x y m
  operators (o.to_copied t) vs m = two_grow m vs _ λ x y. copies p.names _ x y m
  operators (o.to_new_slice t) vs m = make_slice p.names _ vs m
  operators o.to_new_map vs m = make_map vs m
  operators o.to_new_channel vs m = make_channel vs m
  operators (o.to_new t) vs m = none_grow m vs _ (makes m _)
  operators (o.to_interface t) vs m = one_grow m vs _ λ x. same m
  operators (o.to_asserted t ok) vs m = one_grow m vs _ λ x. assertion p t ok x m
  operators o.to_basic vs m = one_grow m vs _ λ x. basic p.names x m
  operators o.to_gate vs m = one_grow m vs _ λ x. place_grow m x _ λ b. gate_at b _ m

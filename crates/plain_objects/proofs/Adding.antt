-- Marks that are added one after the other.
use Rattle.std.proofs.Common.{ℕ, ◌+◌, ◌==◌, ◌<◌, ◌≡◌, ◌∙◌, Bool, false, List, [], ◌∷◌, ◌++◌, Option, None, Some, length, map, get_or, refl, sym, ap, arith}
use Rattle.std.specs.Prelude.{◌||◌}
use Rattle.std.proofs.Math.Bool.{or-false, or_assoc}
use Rattle.std.specs.List.{cons_option, filter_map, range_with_len}
use Rattle.std.specs.Option.{option_map, option_to_list}
use Rattle.std.proofs.lemmas.List.Folds.{list_any-append}
use Rattle.byte_view.specs.Elements.{Elements}
use Rattle.dev_types.specs.Blocks.{element_of}
use Rattle.dev_types.specs.DataTypes.{is_object_type}
use Rattle.dev_types.specs.declared.values.Value.{Value}
use Rattle.kind_tables.specs.SceneObjects.{Block, element, object_in, objects_in, objects_of}
use Rattle.scene_read.proofs.ListFacts.{filter_map-range_more}
use Rattle.scene_read.proofs.StartFacts.{no_object}
use Rattle.seq_model.specs.Life.{has}
use Rattle.plain_objects.specs.Sweeping.{Adds}

-- a test that nothing passes adds nothing
pub adds_none : (p : ℕ → Bool) (marks : List Bool) → ((k : ℕ) → p k ≡ false) → Adds p marks marks
adds_none p marks none = λ i l. sym (ap (λ t. get_or marks i false || t) (none (i + 1)) ∙ or-false (get_or marks i false))

-- two tests after each other
pub adds_both : (p q r : ℕ → Bool) (first next last : List Bool) → length next ≡ length first → ((k : ℕ) → r k ≡ (p k || q k)) → Adds p first next → Adds q next last → Adds r first last
adds_both p q r first next last long is one two = λ i l.
    let within : i < length next = omega (arith, l, long) in
    two i within ∙ ap (λ t. t || q (i + 1)) (one i l) ∙ or_assoc (get_or first i false) (p (i + 1)) (q (i + 1)) ∙ sym (ap (λ t. get_or first i false || t) (is (i + 1)))

-- the same marks by a test with the same answers
pub adds_same : (p q : ℕ → Bool) (first last : List Bool) → ((k : ℕ) → q k ≡ p k) → Adds p first last → Adds q first last
adds_same p q first last is one = λ i l. one i l ∙ sym (ap (λ t. get_or first i false || t) (is (i + 1)))

-- a number is in a list with one more, or it is not
pub has_first : (k : ℕ) (x : Option ℕ) (xs : List ℕ) → has k (cons_option x xs) ≡ (has k (option_to_list x) || has k xs)
has_first k None xs = refl
has_first k (Some h) xs = ap (λ t. t || has k xs) (sym (or-false (h == k)))

pub has_both : (k : ℕ) (xs ys : List ℕ) → has k (xs ++ ys) ≡ (has k xs || has k ys)
has_both k xs ys = list_any-append (λ j. j == k) xs ys

-- what the elements of an array name
named_by : (g : ℕ → Option ℕ) (is : List ℕ) → map (λ (named : ℕ × ℕ). named.1) (filter_map (λ i. option_map (λ h. (i, h)) (g i)) is) ≡ filter_map g is
named_by g [] = refl
named_by g (i ∷ is) = by (g i) (named_by g is)
  where
    by : (x : Option ℕ) → map (λ (named : ℕ × ℕ). named.1) (filter_map (λ i. option_map (λ h. (i, h)) (g i)) is) ≡ filter_map g is →
        map (λ (named : ℕ × ℕ). named.1) (cons_option (option_map (λ h. (i, h)) x) (filter_map (λ i. option_map (λ h. (i, h)) (g i)) is)) ≡ cons_option x (filter_map g is)
    by None rest = rest
    by (Some h) rest = ap (λ hs. h ∷ hs) rest

pub elements_name : (b : Block) → map (λ named. named.1) (objects_in b) ≡ filter_map (λ i. object_in (element b i)) (range_with_len 0 b.count)
elements_name b = named_by (λ i. object_in (element b i)) (range_with_len 0 b.count)

none_named : (b : Block) (is : List ℕ) → is_object_type b.elem ≡ false → filter_map (λ i. object_in (element b i)) is ≡ []
none_named b [] values = refl
none_named b (i ∷ is) values = let none : object_in (element b i) ≡ None = no_object b.elem _ values in rw none (none_named b is values)

pub values_name_none : (b : Block) → is_object_type b.elem ≡ false → map (λ named. named.1) (objects_in b) ≡ []
values_name_none b values = elements_name b ∙ none_named b (range_with_len 0 b.count) values

-- what the values of parameters name, one after the other
abbrev pub Values : Type 0
Values = List (List ℕ × Value)

pub first_value : (entry : List ℕ × Value) (left all : Values) (marks next last : List Bool) → all ≡ entry ∷ left → length next ≡ length marks →
    Adds (λ k. has k (option_to_list (object_in entry.1))) marks next → Adds (λ k. has k (objects_of left)) next last → Adds (λ k. has k (objects_of all)) marks last
first_value entry left all marks next last is long one rest =
    adds_both (λ k. has k (option_to_list (object_in entry.1))) (λ k. has k (objects_of left)) (λ k. has k (objects_of all)) marks next last long
    (λ k. ap (λ (es : Values). has k (objects_of es)) is ∙ has_first k (object_in entry.1) (objects_of left)) one rest

pub no_value : (all : Values) (marks : List Bool) → all ≡ [] → Adds (λ k. has k (objects_of all)) marks marks
no_value all marks is = adds_none (λ k. has k (objects_of all)) marks (λ k. ap (λ (es : Values). has k (objects_of es)) is)

-- the same with one more
pub one_more_named : (g : ℕ → Option ℕ) (n : ℕ) (first marks next : List Bool) → length marks ≡ length first →
    Adds (λ k. has k (filter_map g (range_with_len 0 n))) first marks → Adds (λ k. has k (option_to_list (g n))) marks next → Adds (λ k. has k (filter_map g (range_with_len 0 (n + 1)))) first next
one_more_named g n first marks next long one more =
    adds_both (λ k. has k (filter_map g (range_with_len 0 n))) (λ k. has k (option_to_list (g n))) (λ k. has k (filter_map g (range_with_len 0 (n + 1)))) first marks next long
    (λ k. ap (has k) (filter_map-range_more g n) ∙ has_both k (filter_map g (range_with_len 0 n)) (option_to_list (g n))) one more

-- a view of an array's elements reads what the array holds
abbrev pub elements_of : Block → Elements
elements_of b = record { ty = b.elem; stride = b.stride; count = b.count; bytes = b.bytes }

pub view_names : (b : Block) (e : Elements) → e ≡ elements_of b →
    map (λ (named : ℕ × ℕ). named.1) (objects_in b) ≡ filter_map (λ i. object_in (element_of e.ty e.stride e.bytes i)) (range_with_len 0 e.count)
view_names b e is = elements_name b ∙ sym (ap (λ (e : Elements). filter_map (λ i. object_in (element_of e.ty e.stride e.bytes i)) (range_with_len 0 e.count)) is)

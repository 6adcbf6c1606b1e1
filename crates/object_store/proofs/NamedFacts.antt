-- The objects that elements name.
use Rattle.std.proofs.Common.{◌≡◌, ◌∙◌, ◌+◌, ◌-◌, ◌<◌, ◌≤◌, ℕ, zero, suc, List, [], ◌∷◌, ◌++◌, Option, Some, None, length, length-append, map, refl, sym, ap, arith}
use Rattle.std.specs.List.{cons_option, filter_map, range_with_len}
use Rattle.std.specs.Option.{option_map, option_to_list}
use Rattle.std.proofs.lemmas.List.{map-id}
use Rattle.std.proofs.lemmas.List.Elements.{filter_map-append}
use Rattle.std.proofs.lemmas.List.FromFn.{map-range_with_len_more}
use Rattle.byte_view.specs.Elements.{Elements, element}
use Rattle.kind_tables.specs.SceneObjects.{object_in}
use Rattle.array_objects.specs.declared.arrays.Array.{Array}
use Rattle.seq_model.specs.Life.{objects_of_elements}
use Rattle.dev_types.specs.Counting.{times}
use Rattle.object_store.specs.Parts.{array_state, named_below, named_in_block}
use Rattle.object_store.proofs.Totals.{times_append, times_least}

range_more : (n : ℕ) → range_with_len 0 (n + 1) ≡ range_with_len 0 n ++ n ∷ []
range_more n =
    sym (map-id (range_with_len 0 (n + 1))) ∙ map-range_with_len_more (λ x. x) 0 n n (omega arith) ∙ ap (λ xs. xs ++ n ∷ []) (map-id (range_with_len 0 n))

one_or_none : {Y : Type 0} (o : Option Y) → cons_option o [] ≡ option_to_list o
one_or_none None = refl
one_or_none (Some y) = refl

pub named_next : (e : Elements) (i : ℕ) → named_below e (i + 1) ≡ named_below e i ++ option_to_list (object_in (element e i))
named_next e i =
    ap (filter_map (λ k. object_in (element e k))) (range_more i)
    ∙ filter_map-append (λ k. object_in (element e k)) (range_with_len 0 i) (i ∷ [])
    ∙ ap (λ xs. named_below e i ++ xs) (one_or_none (object_in (element e i)))

named_grows : (e : Elements) (k i m : ℕ) → times k (named_below e i) ≤ times k (named_below e (i + m))
named_grows e k i zero = let same : i + 0 ≡ i = omega arith in let alike : times k (named_below e (i + 0)) ≡ times k (named_below e i) = ap (λ n. times k (named_below e n)) same in omega (arith, alike)
named_grows e k i (suc m) =
    let next : i + suc m ≡ i + m + 1 = omega arith in
    let alike : times k (named_below e (i + suc m)) ≡ times k (named_below e (i + m)) + times k (option_to_list (object_in (element e (i + m)))) =
    ap (λ n. times k (named_below e n)) next ∙ ap (times k) (named_next e (i + m)) ∙ times_append k (named_below e (i + m)) (option_to_list (object_in (element e (i + m)))) in
    omega (arith, alike, named_grows e k i m)

pub named_before : (e : Elements) (k i n : ℕ) → i < n → times k (named_below e i) + times k (option_to_list (object_in (element e i))) ≤ times k (named_below e n)
named_before e k i n within =
    let grown : times k (named_below e (i + 1)) ≤ times k (named_below e (i + 1 + (n - (i + 1)))) = named_grows e k (i + 1) (n - (i + 1)) in
    let whole : i + 1 + (n - (i + 1)) ≡ n = omega (arith, within) in
    let all : times k (named_below e (i + 1 + (n - (i + 1)))) ≡ times k (named_below e n) = ap (λ n. times k (named_below e n)) whole in
    let next : times k (named_below e (i + 1)) ≡ times k (named_below e i) + times k (option_to_list (object_in (element e i))) =
    ap (times k) (named_next e i) ∙ times_append k (named_below e i) (option_to_list (object_in (element e i))) in
    omega (arith, grown, all, next)

one_at_most : (o : Option ℕ) → length (option_to_list o) ≤ 1
one_at_most None = omega arith
one_at_most (Some h) = omega arith

-- there are no more of them than elements
pub few_named : (e : Elements) (n : ℕ) → length (named_below e n) ≤ n
few_named e zero = omega arith
few_named e (suc n) =
    let next : suc n ≡ n + 1 = omega arith in
    let all : length (named_below e (suc n)) ≡ length (named_below e n) + length (option_to_list (object_in (element e n))) =
    ap (λ n. length (named_below e n)) next ∙ ap length (named_next e n) ∙ length-append (named_below e n) (option_to_list (object_in (element e n))) in
    omega (arith, all, few_named e n, one_at_most (object_in (element e n)))

pub named_short : (e : Elements) (k n : ℕ) → times k (named_below e n) ≤ n
named_short e k n = omega (arith, few_named e n, times_least k (named_below e n))

one_more : (k : ℕ) (found : Option ℕ) (pairs : List (ℕ × ℕ)) (rest : List ℕ) → map (λ (named : ℕ × ℕ). named.1) pairs ≡ rest →
    map (λ (named : ℕ × ℕ). named.1) (cons_option (option_map (λ h. (k, h)) found) pairs) ≡ cons_option found rest
one_more k None pairs rest same = same
one_more k (Some h) pairs rest same = ap (λ hs. h ∷ hs) same

-- what was paired with its index, without the index
unpaired : (f : ℕ → Option ℕ) (ks : List ℕ) → map (λ (named : ℕ × ℕ). named.1) (filter_map (λ k. option_map (λ h. (k, h)) (f k)) ks) ≡ filter_map f ks
unpaired f [] = refl
unpaired f (k ∷ ks) = one_more k (f k) (filter_map (λ k. option_map (λ h. (k, h)) (f k)) ks) (filter_map f ks) (unpaired f ks)

-- the objects that an array names are those that its block names
pub block_names : (array : Option Array) → objects_of_elements (option_map array_state array) ≡ named_in_block (option_map (λ a. a.block) array)
block_names None = refl
block_names (Some a) = unpaired (λ k. object_in (element (record { ty = a.block.ty; stride = a.block.stride; count = a.block.count; bytes = a.block.bytes }) k)) (range_with_len 0 a.block.count)

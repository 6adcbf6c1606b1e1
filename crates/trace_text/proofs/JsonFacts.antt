-- Lists and keys of JSON values, as code holds them.
use Rattle.std.proofs.Common.{◌≡◌, ℕ, ◌+◌, ◌<◌, ◌≤◌, zero, suc, List, [], ◌∷◌, ◌++◌, false, Option, Some, None, map, drop, length, get_or, refl, ap, sym, ◌∙◌, arith, append_assoc, append-nil, add-one, Bor, String, Global, string_bytes, ◌&&◌, ◌||◌}
use Rattle.std.proofs.Math.Seq.{drop-cons}
use Rattle.std.specs.Prelude.{option_map, option_and_then, unwrap_or}
use Rattle.std.specs.List.{list_all, list_any}
use Rattle.std.specs.Map.{keys_of as entry_keys}
use Rattle.std.specs.Str.{bytes_eq}
use Rattle.serde_json.specs.Data.{Data}
use Rattle.serde_json.specs.Find.{as_array, as_object}
use Rattle.serde_json.specs.View.{items_of as data_items, members_view}
use Rattle.serde_json.specs.declared.value.Value.{Value}
use Rattle.trace_text.specs.Json.{elements, list_of, keys_of, each, has_only}

pub elements-data_items : (ds : List Data) → elements (data_items ds) ≡ ds
elements-data_items [] = refl
elements-data_items (d ∷ ds) = ap (λ rest. d ∷ rest) (elements-data_items ds)

pub list_of-array : (d : Data) (ds : List Data) → as_array d ≡ Some (data_items ds) → list_of d ≡ Some ds
list_of-array d ds is = ap (option_map elements) is ∙ ap Some (elements-data_items ds)

list_any-texts : (k : List ℕ) (keys : List (Bor (List ℕ))) → list_any (λ key. bytes_eq k key.now) keys ≡ list_any (bytes_eq k) (map (λ key. key.now) keys)
list_any-texts k [] = refl
list_any-texts k (key ∷ keys) = ap (λ b. bytes_eq k key.now || b) (list_any-texts k keys)

among : (keys : List (Bor (List ℕ))) (es : List (String Global × Value)) →
    list_all (λ k. list_any (λ key. bytes_eq (string_bytes k) key.now) keys) (entry_keys es)
    ≡ list_all (λ k. list_any (bytes_eq k) (map (λ key. key.now) keys)) (keys_of (members_view es))
among keys [] = refl
among keys (e ∷ es) =
    ap (λ b. b && list_all (λ k. list_any (λ key. bytes_eq (string_bytes k) key.now) keys) (entry_keys es)) (list_any-texts (string_bytes e.0) keys)
    ∙ ap (λ b. list_any (bytes_eq (string_bytes e.0)) (map (λ key. key.now) keys) && b) (among keys es)

pub has_only-object : (keys : List (Bor (List ℕ))) (es : List (String Global × Value)) (d : Data) → as_object d ≡ Some (members_view es) →
    list_all (λ k. list_any (λ key. bytes_eq (string_bytes k) key.now) keys) (entry_keys es) ≡ has_only (map (λ key. key.now) keys) d
has_only-object keys es d is =
    among keys es ∙ sym (ap (λ o. unwrap_or (option_map (λ ms. list_all (λ k. list_any (bytes_eq k) (map (λ key. key.now) keys)) (keys_of ms)) o) false) is)

-- one more thing that was found stands before what the rest gives
option_map-push : {A : Type 0} (found : List A) (x : A) (o : Option (List A)) →
    option_map (λ rest. (found ++ x ∷ []) ++ rest) o ≡ option_map (λ rest. found ++ rest) (option_map (λ rest. x ∷ rest) o)
option_map-push found x None = refl
option_map-push found x (Some rest) = ap Some (append_assoc found (x ∷ []) rest)

each-cons : {D A : Type 0} (f : D → Option A) (d : D) (x : A) (ds : List D) → f d ≡ Some x → each f (d ∷ ds) ≡ option_map (λ xs. x ∷ xs) (each f ds)
each-cons f d x ds is = ap (λ o. option_and_then (λ y. option_map (λ ys. y ∷ ys) (each f ds)) o) is

each-none : {D A : Type 0} (f : D → Option A) (d : D) (ds : List D) → f d ≡ None → each f (d ∷ ds) ≡ None
each-none f d ds is = ap (λ o. option_and_then (λ y. option_map (λ ys. y ∷ ys) (each f ds)) o) is

-- what is left of a list begins with the item at hand
pub next_item : {V : Type 0} (vs : List V) (i : ℕ) (e : V) → i < length vs → drop i vs ≡ get_or vs i e ∷ drop (i + 1) vs
next_item vs i e within = drop-cons vs i e within ∙ ap (λ n. get_or vs i e ∷ drop n vs) (sym (add-one i))

pub drop_past : {V : Type 0} (vs : List V) (i : ℕ) → length vs ≤ i → drop i vs ≡ []
drop_past [] zero past = refl
drop_past [] (suc i) past = refl
drop_past (v ∷ vs) zero past = absurd (omega (arith, past))
drop_past (v ∷ vs) (suc i) past = drop_past vs i (omega (arith, past))

-- a loop over values: what was found so far, before what the rest gives, is what all give
pub each-step : {V D A : Type 0} (f : D → Option A) (h : V → D) (vs : List V) (i : ℕ) (e : V) (found new : List A) (x : A) (all : Option (List A)) →
    i < length vs → f (h (get_or vs i e)) ≡ Some x → new ≡ found ++ x ∷ [] → option_map (λ rest. found ++ rest) (each f (map h (drop i vs))) ≡ all →
    option_map (λ rest. new ++ rest) (each f (map h (drop (i + 1) vs))) ≡ all
each-step f h vs i e found new x all within is grown before =
    ap (λ n. option_map (λ rest. n ++ rest) (each f (map h (drop (i + 1) vs)))) grown
    ∙ option_map-push found x (each f (map h (drop (i + 1) vs)))
    ∙ ap (option_map (λ rest. found ++ rest)) (sym (each-cons f (h (get_or vs i e)) x (map h (drop (i + 1) vs)) is))
    ∙ ap (λ ds. option_map (λ rest. found ++ rest) (each f (map h ds))) (sym (next_item vs i e within))
    ∙ before

-- a value that gives nothing
pub each-stops : {V D A : Type 0} (f : D → Option A) (h : V → D) (vs : List V) (i : ℕ) (e : V) (found : List A) (all : Option (List A)) →
    i < length vs → f (h (get_or vs i e)) ≡ None → option_map (λ rest. found ++ rest) (each f (map h (drop i vs))) ≡ all → None ≡ all
each-stops f h vs i e found all within is before =
    ap (option_map (λ rest. found ++ rest)) (sym (each-none f (h (get_or vs i e)) (map h (drop (i + 1) vs)) is))
    ∙ ap (λ ds. option_map (λ rest. found ++ rest) (each f (map h ds))) (sym (next_item vs i e within))
    ∙ before

-- the end of the loop
pub each-ends : {V D A : Type 0} (f : D → Option A) (h : V → D) (vs : List V) (i : ℕ) (found : List A) (all : Option (List A)) →
    length vs ≤ i → option_map (λ rest. found ++ rest) (each f (map h (drop i vs))) ≡ all → Some found ≡ all
each-ends f h vs i found all past before =
    ap Some (sym (append-nil found)) ∙ ap (λ ds. option_map (λ rest. found ++ rest) (each f (map h ds))) (sym (drop_past vs i past)) ∙ before

-- How often an object is named by values, before and after one entry is set or taken away.
use Rattle.std.proofs.Common.{◌≡◌, ℕ, ◌+◌, ◌==◌, List, [], ◌∷◌, ◌++◌, Bool, true, false, Option, Some, None, refl, ap, cond, subst, arith}
use Rattle.std.specs.Prelude.{option_and_then}
use Rattle.std.specs.BTreeMap.{is_at}
use Rattle.std.specs.Map.{lookup, remove_entry, keys_of}
use Rattle.std.specs.Option.{option_to_list}
use Rattle.std.specs.List.{cons_option}
use Rattle.std.specs.List.Sorted.{IsStrictlySortedBy}
use Rattle.std.specs.Ordering.{match_ordering, is_eq, nat_cmp}
use Rattle.std.specs.Cmp.Lexicographic.{slice_cmp}
use Rattle.std.specs.declared.cmp.Ordering.{Ordering}
use Rattle.std.specs.declared.cmp.Ordering.TheVariants.{Less, Equal, Greater}
use Rattle.std.proofs.lemmas.Cmp.{nat_list_cmp_total}
use Rattle.std.proofs.lemmas.List.Sums.{sum_by-append}
use Rattle.std.proofs.lemmas.Map.{lookup-none}
use Rattle.std.proofs.lemmas.Map.Entries.{none_below_head}
use Rattle.dev_types.specs.declared.values.Value.{Value}
use Rattle.kind_tables.specs.SceneObjects.{object_in, objects_of, with_value, without_value}
use Rattle.dev_types.specs.Counting.{times}
use Rattle.param_stage.specs.Params.{Values, ParamMaps, object_under, Accounts}

-- lists in a row
times-append : (xs ys : List ℕ) (h : ℕ) → times h (xs ++ ys) ≡ times h xs + times h ys
times-append xs ys h = sum_by-append (λ x. cond (x == h) 1 0) xs ys

-- one or none in front of a list
times-cons : (o : Option ℕ) (xs : List ℕ) (h : ℕ) → times h (cons_option o xs) ≡ times h (option_to_list o) + times h xs
times-cons None xs h = omega arith
times-cons (Some x) xs h = times-append (x ∷ []) xs h

-- how often a value that may be there names the object
abbrev found : Option Value → ℕ → ℕ
found o h = times h (option_to_list (option_and_then object_in o))

-- how often values name it
abbrev total : Values → ℕ → ℕ
total values h = times h (objects_of values)

total-cons : (name : List ℕ) (v : Value) (values : Values) (h : ℕ) → total ((name, v) ∷ values) h ≡ found (Some v) h + total values h
total-cons name v values h = times-cons (object_in v) (objects_of values) h

-- an entry that is set, by how its name stands to the first of the others
set_step : (name : List ℕ) (v : Value) (first : List ℕ × Value) (values : Values) (h : ℕ) → IsStrictlySortedBy (slice_cmp nat_cmp) (keys_of (first ∷ values)) → (r : Ordering) → slice_cmp nat_cmp name first.0 ≡ r
    → total (with_value name v values) h + found (lookup (is_at (slice_cmp nat_cmp name)) values) h ≡ total values h + found (Some v) h
    → total (match_ordering r ((name, v) ∷ first ∷ values) ((first.0, v) ∷ values) (first ∷ with_value name v values)) h + found (cond (is_eq r) (Some first.1) (lookup (is_at (slice_cmp nat_cmp name)) values)) h ≡ total (first ∷ values) h + found (Some v) h
set_step name v first values h sorted Less is ih =
    let none : lookup (is_at (slice_cmp nat_cmp name)) values ≡ None = lookup-none (is_at (slice_cmp nat_cmp name)) values (none_below_head nat_list_cmp_total name first values sorted is).1 in
    omega (arith, total-cons name v (first ∷ values) h, ap (λ o. found o h) none)
set_step name v first values h sorted Equal is ih = omega (arith, total-cons first.0 v values h, total-cons first.0 first.1 values h)
set_step name v first values h sorted Greater is ih = omega (arith, total-cons first.0 first.1 (with_value name v values) h, total-cons first.0 first.1 values h, ih)

-- an entry that is set names what its value names, and what it named is gone
total-with : (values : Values) (name : List ℕ) (v : Value) (h : ℕ) → IsStrictlySortedBy (slice_cmp nat_cmp) (keys_of values) → total (with_value name v values) h + times h (object_under name values) ≡ total values h + found (Some v) h
unfolding IsStrictlySortedBy
total-with [] name v h sorted = omega (arith, total-cons name v [] h)
total-with (first ∷ values) name v h sorted = set_step name v first values h sorted (slice_cmp nat_cmp name first.0) refl (total-with values name v h sorted.1)

-- an entry that is taken away
take_step : (test : List ℕ → Bool) (first : List ℕ × Value) (values : Values) (h : ℕ) (b : Bool) → total (remove_entry test values) h + found (lookup test values) h ≡ total values h
    → total (cond b values (first ∷ remove_entry test values)) h + found (cond b (Some first.1) (lookup test values)) h ≡ total (first ∷ values) h
take_step test first values h true ih = omega (arith, total-cons first.0 first.1 values h)
take_step test first values h false ih = omega (arith, total-cons first.0 first.1 (remove_entry test values) h, total-cons first.0 first.1 values h, ih)

total-remove_entry : (test : List ℕ → Bool) (values : Values) (h : ℕ) → total (remove_entry test values) h + found (lookup test values) h ≡ total values h
total-remove_entry test [] h = omega arith
total-remove_entry test (first ∷ values) h = take_step test first values h (test first.0) (total-remove_entry test values h)

-- each call accounts for what it tells
pub set_accounts : (old new : ParamMaps) (added gone : List ℕ) (name : List ℕ) (v : Value) (staged : Values) → IsStrictlySortedBy (slice_cmp nat_cmp) (keys_of staged) → staged ≡ old.staged
    → new ≡ record old { staged = with_value name v old.staged } → added ≡ option_to_list (object_in v) → gone ≡ object_under name old.staged → Accounts old new added gone
set_accounts old new added gone name v staged ordered same maps told lost h =
    let sorted : IsStrictlySortedBy (slice_cmp nat_cmp) (keys_of old.staged) = subst (λ (es : Values). IsStrictlySortedBy (slice_cmp nat_cmp) (keys_of es)) same ordered in
    rw (maps, told, lost) (omega (arith, times-append (objects_of (with_value name v old.staged)) (objects_of old.committed) h, times-append (objects_of old.staged) (objects_of old.committed) h, total-with old.staged name v h sorted))

pub unset_accounts : (old new : ParamMaps) (added gone : List ℕ) (name : List ℕ) → new ≡ record old { staged = without_value name old.staged } → added ≡ [] → gone ≡ object_under name old.staged → Accounts old new added gone
unset_accounts old new added gone name maps told lost h =
    rw (maps, told, lost) (omega (arith, times-append (objects_of (without_value name old.staged)) (objects_of old.committed) h, times-append (objects_of old.staged) (objects_of old.committed) h, total-remove_entry (is_at (slice_cmp nat_cmp name)) old.staged h))

pub commit_accounts : (old new : ParamMaps) (added gone : List ℕ) → new ≡ record old { committed = old.staged } → added ≡ objects_of old.staged → gone ≡ objects_of old.committed → Accounts old new added gone
commit_accounts old new added gone maps told lost h = rw (maps, told, lost) (omega (arith, times-append (objects_of old.staged) (objects_of old.staged) h, times-append (objects_of old.staged) (objects_of old.committed) h))

-- What is kept of one object changes: its loans, or what it shows.
use Rattle.std.proofs.Common.{ℕ, zero, suc, ◌+◌, ◌-◌, ◌≡◌, ◌<◌, ◌≤◌, ◌^◌, ◌∙◌, ◌⊎◌, inl, inr, true, false, List, [], ◌∷◌, ◌++◌, Option, Some, length, refl, sym, ap, subst, arith}
use Rattle.std.specs.Prelude.{cond}
use Rattle.std.specs.BTreeMap.{is_at}
use Rattle.std.specs.Prelude.{replicate}
use Rattle.std.specs.Option.{IsSome, is_some, option_and_then, option_map, option_map_or}
use Rattle.std.specs.Ordering.{nat_cmp}
use Rattle.std.proofs.lemmas.Bool.{cases_eq}
use Rattle.handle_table.specs.HandleMaps.{HandleMap}
use Rattle.array_objects.specs.Stores.{Arrays, array_at}
use Rattle.array_objects.specs.declared.arrays.Array.{Array}
use Rattle.ref_counts.specs.CountMaps.{ChangesAt, CountMap, counts_at, named_at, public_at}
use Rattle.seq_model.proofs.Keys.{at_within, key_here, key_is_other}
use Rattle.seq_model.specs.Life.{loan_count, names_of}
use Rattle.dev_types.specs.Counting.{times}
use Rattle.seq_model.specs.State.{ArrayState, Object, ParameterLoan, changed_at}
use Rattle.dev_types.specs.declared.handles.Channel.{Channel}
use Rattle.std.proofs.lemmas.List.{length_push}
use Rattle.object_store.specs.Kept.{AreParts, Stops, loans_at, names_in, stored}
use Rattle.object_store.specs.Moves.{Moves, Reslots}
use Rattle.object_store.specs.Parts.{Part, array_state, at, end_in, holds_at, joined, lend_in, map_in, object_of, unmap_in}
use Rattle.object_store.proofs.Changes.{parts_changed, stored_changed}
use Rattle.object_store.proofs.Keyed.{at_keyed, rises}
use Rattle.object_store.proofs.MoveFacts.{moves_both, moves_unnamed, never, once}
use Rattle.object_store.proofs.Totals.{loans_if, times_append, weigh}

-- one loan, where the array is lent
abbrev lent_once : Option Array → ℕ
lent_once array = option_map_or (λ (_ : ℕ). 1) (option_and_then (λ (a : ArrayState). a.loan) (option_map array_state array)) 0

-- a handle stands as often in a list of it alone as the list is long, and no other does
pub times_many : (h k n : ℕ) → k ≡ h → times k (replicate n h) ≡ n
times_many h k zero same = refl
times_many h k (suc n) same =
    let first : times k (h ∷ replicate n h) ≡ times k (h ∷ []) + times k (replicate n h) = times_append k (h ∷ []) (replicate n h) in
    omega (arith, first, times_many h k n same, once h k same)

pub times_no_other : (h k n : ℕ) → (k ≡ h → ⊥) → times k (replicate n h) ≡ 0
times_no_other h k zero apart = refl
times_no_other h k (suc n) apart =
    let first : times k (h ∷ replicate n h) ≡ times k (h ∷ []) + times k (replicate n h) = times_append k (h ∷ []) (replicate n h) in
    omega (arith, first, times_no_other h k n apart, never h k apart)

-- names of one handle end one by one
replicate_more : (n h : ℕ) → replicate n h ++ h ∷ [] ≡ replicate (n + 1) h
replicate_more zero h = refl
replicate_more (suc n) h =
    let next : suc n + 1 ≡ suc (n + 1) = omega arith in
    ap (λ xs. h ∷ xs) (replicate_more n h) ∙ ap (λ n. replicate n h) (sym next)

pub still_many : (old now : CountMap) (h i n : ℕ) → Moves old now [] (replicate i h) → i < n → n ≤ named_at old h → 1 ≤ named_at now h
still_many old now h i n moves less many =
    let none : times h [] ≡ 0 = refl in
    let so_far : named_at now h + times h (replicate i h) ≡ named_at old h + times h [] = moves.named h in
    omega (arith, none, so_far, times_many h h i refl, less, many)

pub moves_once_less : (old now next : CountMap) (h i : ℕ) → Moves old now [] (replicate i h) → ChangesAt now next h (Some (public_at now h, named_at now h - 1)) → 1 ≤ named_at now h →
    Moves old next [] (replicate (i + 1) h)
moves_once_less old now next h i moves changes named =
    subst (λ gone. Moves old next [] gone) (replicate_more i h) (moves_both old now next [] [] (replicate i h) (h ∷ []) moves (moves_unnamed now next h changes named))

-- an object that names what it named, with other loans
pub weighs_by : (k h : ℕ) (o p : Object) (added gone : List ℕ) → names_of p ≡ names_of o → loan_count p + times h gone ≡ loan_count o + times h added →
    ((k : ℕ) → (k ≡ h → ⊥) → times k gone ≡ times k added) → weigh k h p + times k gone ≡ weigh k h o + times k added
weighs_by k h o p added gone names here others = by (cases_eq k h)
  where
    alike : times k (names_of p) ≡ times k (names_of o)
    alike = ap (times k) names

    by : (k ≡ h) ⊎ (k ≡ h → ⊥) → weigh k h p + times k gone ≡ weigh k h o + times k added
    by (inl same) =
        let test : is_at (nat_cmp k) h ≡ true = ap (λ k. is_at (nat_cmp k) h) same ∙ key_here h in
        let old : loans_if k h o ≡ loan_count o = ap (λ t. cond t (loan_count o) 0) test in
        let new : loans_if k h p ≡ loan_count p = ap (λ t. cond t (loan_count p) 0) test in
        let more : times k added ≡ times h added = ap (λ k. times k added) same in
        let less : times k gone ≡ times h gone = ap (λ k. times k gone) same in
        omega (arith, old, new, more, less, alike, here)
    by (inr apart) =
        let test : is_at (nat_cmp k) h ≡ false = key_is_other k h apart in
        let old : loans_if k h o ≡ 0 = ap (λ t. cond t (loan_count o) 0) test in
        let new : loans_if k h p ≡ 0 = ap (λ t. cond t (loan_count p) 0) test in
        omega (arith, old, new, alike, others k apart)

module _ (slots new : HandleMap Part) (arrays : Arrays) (counts moved : CountMap) (bound : ℕ) (parts : AreParts slots arrays counts bound) (h : ℕ) (f : Part → Part) (r : Reslots slots new h f) where
  object_there : at h (joined arrays slots.entries) ≡ Some (object_of r.part (array_at arrays h))
  object_there = at_keyed (λ h part. object_of part (array_at arrays h)) h slots.entries ∙ ap (option_map (λ part. object_of part (array_at arrays h))) r.there

  pub is_below : slots.next ≡ h → ⊥
  is_below same = omega (arith, same, (at_within h 1 slots.next slots.entries r.part (rises 1 slots.next slots.entries parts.rising) r.there).1)

  -- it has counts, and is named at least as often as it is lent
  pub has_counts : IsSome (counts_at counts h)
  has_counts = parts.counted.there h (ap is_some object_there)

  pub lent_is_named : loan_count (object_of r.part (array_at arrays h)) ≤ named_at counts h
  lent_is_named =
      let lent : loans_at (joined arrays slots.entries) h ≡ loan_count (object_of r.part (array_at arrays h)) = ap (λ x. option_map_or loan_count x 0) object_there in
      let all : named_at counts h ≡ names_in (joined arrays slots.entries) h + loans_at (joined arrays slots.entries) h + holds_at slots.entries h = parts.counted.named h in
      omega (arith, lent, all)

  module _ (holds : (f r.part).holds ≡ r.part.holds) (added gone : List ℕ) (moves : Moves counts moved added gone) where
    pub stored_reslotted : (stopped : Stops) (g : Object → Object) → object_of (f r.part) (array_at arrays h) ≡ g (object_of r.part (array_at arrays h)) →
        stored new arrays moved stopped ≡ record (stored slots arrays counts stopped) { state = changed_at h g (stored slots arrays counts stopped).state }
    stored_reslotted stopped g same =
        stored_changed slots new arrays arrays counts moved bound parts h r.part (f r.part) r.there r.changed (λ k apart. refl) holds added gone moves stopped g same

    parts_reslotted : (most : ℕ) → names_of (object_of (f r.part) (array_at arrays h)) ≡ names_of (object_of r.part (array_at arrays h)) →
        loan_count (object_of (f r.part) (array_at arrays h)) + times h gone ≡ loan_count (object_of r.part (array_at arrays h)) + times h added →
        ((k : ℕ) → (k ≡ h → ⊥) → times k gone ≡ times k added) → times slots.next added ≡ 0 → bound + length added ≤ most → most ≤ 2 ^ 62 → AreParts new arrays moved most
    parts_reslotted most names here others unnamed fits small =
        parts_changed slots new arrays arrays counts moved bound parts h r.part (f r.part) r.there r.changed (λ k apart. refl) holds added gone moves most
        (λ k. weighs_by k h (object_of r.part (array_at arrays h)) (object_of (f r.part) (array_at arrays h)) added gone names here others) unnamed fits small (parts.short h)

-- it has as many loans, one more, or so many fewer
module _ (slots new : HandleMap Part) (arrays : Arrays) (counts moved : CountMap) (bound : ℕ) (parts : AreParts slots arrays counts bound) (h : ℕ) (f : Part → Part) (r : Reslots slots new h f)
    (holds : (f r.part).holds ≡ r.part.holds) (names : names_of (object_of (f r.part) (array_at arrays h)) ≡ names_of (object_of r.part (array_at arrays h))) where
  pub parts_as_lent : loan_count (object_of (f r.part) (array_at arrays h)) ≡ loan_count (object_of r.part (array_at arrays h)) → Moves counts moved [] [] → AreParts new arrays moved bound
  parts_as_lent same moves =
      let none : times h [] ≡ 0 = refl in
      parts_reslotted slots new arrays counts moved bound parts h f r holds [] [] moves bound names (omega (arith, none, same)) (λ k apart. refl) refl (omega arith) parts.small

  pub parts_lent_more : loan_count (object_of (f r.part) (array_at arrays h)) ≡ loan_count (object_of r.part (array_at arrays h)) + 1 → Moves counts moved (h ∷ []) [] →
      bound + 1 ≤ 2 ^ 62 → AreParts new arrays moved (bound + 1)
  parts_lent_more more moves small =
      let none : times h [] ≡ 0 = refl in
      parts_reslotted slots new arrays counts moved bound parts h f r holds (h ∷ []) [] moves (bound + 1) names (omega (arith, none, more, once h h refl)) (λ k apart. sym (never h k apart))
      (never h slots.next (is_below slots new arrays counts moved bound parts h f r)) (omega arith) small

  pub parts_lent_less : (n : ℕ) → n + loan_count (object_of (f r.part) (array_at arrays h)) ≡ loan_count (object_of r.part (array_at arrays h)) → Moves counts moved [] (replicate n h) →
      AreParts new arrays moved bound
  parts_lent_less n less moves =
      let none : times h [] ≡ 0 = refl in
      parts_reslotted slots new arrays counts moved bound parts h f r holds [] (replicate n h) moves bound names (omega (arith, none, less, times_many h h n refl))
      (λ k apart. let nothing : times k [] ≡ 0 = refl in omega (arith, nothing, times_no_other h k n apart)) refl (omega arith) parts.small

-- how many loans there are with one more
pub channel_more : (channel : Channel) (number : ℕ) (part : Part) (array : Option Array) → loan_count (object_of (map_in channel number part) array) ≡ loan_count (object_of part array) + 1
channel_more channel number part array =
    let more : length (part.channels ++ (channel, number) ∷ []) ≡ length part.channels + 1 = length_push part.channels (channel, number) in
    let old : loan_count (object_of part array) ≡ lent_once array + length part.channels + length part.loans = refl in
    let new : loan_count (object_of (map_in channel number part) array) ≡ lent_once array + length (part.channels ++ (channel, number) ∷ []) + length part.loans = refl in
    omega (arith, more, old, new)

pub loan_more : (loan : ParameterLoan) (part : Part) (array : Option Array) → loan_count (object_of (lend_in loan part) array) ≡ loan_count (object_of part array) + 1
loan_more loan part array =
    let more : length (part.loans ++ loan ∷ []) ≡ length part.loans + 1 = length_push part.loans loan in
    let old : loan_count (object_of part array) ≡ lent_once array + length part.channels + length part.loans = refl in
    let new : loan_count (object_of (lend_in loan part) array) ≡ lent_once array + length part.channels + length (part.loans ++ loan ∷ []) = refl in
    omega (arith, more, old, new)

-- and with fewer
pub channels_less : (n number : ℕ) (part : Part) (array : Option Array) → n + length (unmap_in number part).channels ≡ length part.channels →
    n + loan_count (object_of (unmap_in number part) array) ≡ loan_count (object_of part array)
channels_less n number part array less =
    let old : loan_count (object_of part array) ≡ lent_once array + length part.channels + length part.loans = refl in
    let new : loan_count (object_of (unmap_in number part) array) ≡ lent_once array + length (unmap_in number part).channels + length part.loans = refl in
    omega (arith, less, old, new)

pub loans_less : (n number : ℕ) (part : Part) (array : Option Array) → n + length (end_in number part).loans ≡ length part.loans →
    n + loan_count (object_of (end_in number part) array) ≡ loan_count (object_of part array)
loans_less n number part array less =
    let old : loan_count (object_of part array) ≡ lent_once array + length part.channels + length part.loans = refl in
    let new : loan_count (object_of (end_in number part) array) ≡ lent_once array + length part.channels + length (end_in number part).loans = refl in
    omega (arith, less, old, new)

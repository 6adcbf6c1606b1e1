-- Changes of one object stand beside a new object, and beside each other.
use Rattle.std.proofs.Common.{ℕ, ◌-◌, ◌≡◌, ◌∙◌, Bool, true, false, List, [], ◌∷◌, ◌++◌, Option, Some, None, refl, sym, ap, subst, arith}
use Rattle.std.specs.Prelude.{cond}
use Rattle.std.specs.BTreeMap.{is_at}
use Rattle.std.specs.Map.{set_value}
use Rattle.std.specs.Option.{IsSome, is_some, option_map, unwrap_or}
use Rattle.std.specs.Ordering.{nat_cmp}
use Rattle.handle_table.specs.HandleMaps.{HandleMap, RiseWithin}
use Rattle.ref_counts.specs.CountMaps.{CountMap, public_at}
use Rattle.array_objects.specs.Stores.{Arrays}
use Rattle.seq_model.proofs.Keys.{at_changed, key_here}
use Rattle.seq_model.specs.State.{Object, State, changed_at, object_at, with_object}
use Rattle.object_store.specs.Kept.{Stops, Stored, number_at, stored}
use Rattle.object_store.specs.Parts.{Part, at}
use Rattle.object_store.proofs.Births.{objects_beyond, parts_beyond}
use Rattle.object_store.proofs.Counted.{is_some_by, not_some}
use Rattle.object_store.proofs.Keyed.{at_keyed}
use Rattle.object_store.proofs.StagedArrays.{set_before}
use Rattle.object_store.proofs.Totals.{at_last, at_more}

-- what is written twice is written as the second time
set_twice : {X : Type 0} (h : ℕ) (es : List (ℕ × X)) (v w : X) → set_value (is_at (nat_cmp h)) (set_value (is_at (nat_cmp h)) es v) w ≡ set_value (is_at (nat_cmp h)) es w
set_twice h [] v w = refl
set_twice {X} h (e ∷ es) v w = by (is_at (nat_cmp h) e.0) refl (set_twice h es v w)
  where
    by : (t : Bool) → is_at (nat_cmp h) e.0 ≡ t → set_value (is_at (nat_cmp h)) (set_value (is_at (nat_cmp h)) es v) w ≡ set_value (is_at (nat_cmp h)) es w →
        set_value (is_at (nat_cmp h)) (cond t ((e.0, v) ∷ es) (e ∷ set_value (is_at (nat_cmp h)) es v)) w ≡ cond t ((e.0, w) ∷ es) (e ∷ set_value (is_at (nat_cmp h)) es w)
    by true is rest = ap (λ t. cond t ((e.0, w) ∷ es) ((e.0, v) ∷ set_value (is_at (nat_cmp h)) es w)) is
    by false is rest =
        ap (λ t. cond t ((e.0, w) ∷ set_value (is_at (nat_cmp h)) es v) (e ∷ set_value (is_at (nat_cmp h)) (set_value (is_at (nat_cmp h)) es v) w)) is ∙ ap (λ rest. e ∷ rest) rest

-- the last of a map
set_last : {X : Type 0} (h : ℕ) (es : List (ℕ × X)) (v w : X) → at h es ≡ None → set_value (is_at (nat_cmp h)) (es ++ (h, v) ∷ []) w ≡ es ++ (h, w) ∷ []
set_last h [] v w none = ap (λ t. cond t ((h, w) ∷ []) ((h, v) ∷ [])) (key_here h)
set_last {X} h (e ∷ es) v w none = by (is_at (nat_cmp h) e.0) none (λ none. set_last h es v w none)
  where
    by : (t : Bool) → cond t (Some e.1) (at h es) ≡ None → (at h es ≡ None → set_value (is_at (nat_cmp h)) (es ++ (h, v) ∷ []) w ≡ es ++ (h, w) ∷ []) →
        cond t ((e.0, w) ∷ (es ++ (h, v) ∷ [])) (e ∷ set_value (is_at (nat_cmp h)) (es ++ (h, v) ∷ []) w) ≡ e ∷ (es ++ (h, w) ∷ [])
    by true none rest = absurd cc
    by false none rest = ap (λ rest. e ∷ rest) (rest none)

changed_objects : (h : ℕ) (f : Object → Object) (s : State) (o : Object) → object_at s h ≡ Some o → changed_at h f s ≡ record s { objects = set_value (is_at (nat_cmp h)) s.objects (f o) }
changed_objects h f s o found = ap (λ x. record s { objects = unwrap_or (option_map (λ o. set_value (is_at (nat_cmp h)) s.objects (f o)) x) s.objects }) found

changed_there : (h : ℕ) (f : Object → Object) (s : State) (o : Object) → object_at s h ≡ Some o → object_at (changed_at h f s) h ≡ Some (f o)
changed_there h f s o found = ap (λ (s : State). object_at s h) (changed_objects h f s o found) ∙ at_changed h s.objects o (f o) found

-- a change beside a new object
changed_with : (h : ℕ) (f : Object → Object) (s : State) (o new : Object) → object_at s h ≡ Some o → (h ≡ s.next → ⊥) → changed_at h f (with_object new s) ≡ with_object new (changed_at h f s)
changed_with h f s o new found apart =
    changed_objects h f (with_object new s) o (at_more h s.next s.objects new apart ∙ found)
    ∙ ap (λ (objects : List (ℕ × Object)). record (with_object new s) { objects = objects }) (set_before h s.next s.objects new (f o) apart)
    ∙ sym (ap (with_object new) (changed_objects h f s o found))

changed_twice : (h : ℕ) (f g : Object → Object) (s : State) (o : Object) → object_at s h ≡ Some o → f (g o) ≡ g (f o) → changed_at h f (changed_at h g s) ≡ changed_at h g (changed_at h f s)
changed_twice h f g s o found same = both f g ∙ ap (λ (o : Object). record s { objects = set_value (is_at (nat_cmp h)) s.objects o }) same ∙ sym (both g f)
  where
    both : (f g : Object → Object) → changed_at h f (changed_at h g s) ≡ record s { objects = set_value (is_at (nat_cmp h)) s.objects (f (g o)) }
    both f g =
        changed_objects h f (changed_at h g s) (g o) (changed_there h g s o found)
        ∙ ap (λ (s : State). record s { objects = set_value (is_at (nat_cmp h)) s.objects (f (g o)) }) (changed_objects h g s o found)
        ∙ ap (λ (objects : List (ℕ × Object)). record s { objects = objects }) (set_twice h s.objects (g o) (f (g o)))

-- two changes after a birth are the birth after the other two
pub changes_before : (h : ℕ) (f g : Object → Object) (s : State) (new : Object) → IsSome (object_at s h) → at s.next s.objects ≡ None → ((o : Object) → f (g o) ≡ g (f o)) →
    changed_at h f (changed_at h g (with_object new s)) ≡ with_object new (changed_at h g (changed_at h f s))
changes_before h f g s new some none same = by (object_at s h) refl some
  where
    by : (x : Option Object) → object_at s h ≡ x → IsSome x → changed_at h f (changed_at h g (with_object new s)) ≡ with_object new (changed_at h g (changed_at h f s))
    by None is some = absurd cc
    by (Some o) found some =
        let apart : h ≡ s.next → ⊥ = λ e. not_some (at s.next s.objects) none (is_some_by (at s.next s.objects) o (sym (ap (λ k. at k s.objects) e) ∙ found)) in
        ap (changed_at h f) (changed_with h g s o new found apart) ∙ changed_with h f (changed_at h g s) (g o) new (changed_there h g s o found) apart
        ∙ ap (with_object new) (changed_twice h f g s o found (same o))

pub still_there : (h : ℕ) (g : Object → Object) (s : State) (new : Object) → IsSome (object_at s h) → at s.next s.objects ≡ None → IsSome (object_at (changed_at h g (with_object new s)) h)
still_there h g s new some none = by (object_at s h) refl some
  where
    by : (x : Option Object) → object_at s h ≡ x → IsSome x → IsSome (object_at (changed_at h g (with_object new s)) h)
    by None is some = absurd cc
    by (Some o) found some =
        let apart : h ≡ s.next → ⊥ = λ e. not_some (at s.next s.objects) none (is_some_by (at s.next s.objects) o (sym (ap (λ k. at k s.objects) e) ∙ found)) in
        ap is_some (changed_there h g (with_object new s) o (at_more h s.next s.objects new apart ∙ found))

-- the one reference of a new object goes
pub one_reference : (h : ℕ) (public : List (ℕ × ℕ)) → at h public ≡ None → number_at (public ++ (h, 1) ∷ []) h ≡ 1
one_reference h public none = ap (λ x. unwrap_or x 0) (at_last h public 1 none)

pub no_reference : (h n : ℕ) (public : List (ℕ × ℕ)) → at h public ≡ None → n ≡ h →
    set_value (is_at (nat_cmp n)) (public ++ (h, 1) ∷ []) (number_at (public ++ (h, 1) ∷ []) n - 1) ≡ public ++ (h, 0) ∷ []
no_reference h n public none same =
    ap (λ n. set_value (is_at (nat_cmp n)) (public ++ (h, 1) ∷ []) (number_at (public ++ (h, 1) ∷ []) n - 1)) same
    ∙ ap (λ m. set_value (is_at (nat_cmp h)) (public ++ (h, 1) ∷ []) (m - 1)) (one_reference h public none) ∙ set_last h public 1 0 none

-- nothing stands at the next handle of a store
pub no_next_object : (s : Stored) (slots : HandleMap Part) (arrays : Arrays) (counts : CountMap) (stopped : Stops) → stored slots arrays counts stopped ≡ s → RiseWithin 1 slots.next slots.entries →
    at s.state.next s.state.objects ≡ None
no_next_object s slots arrays counts stopped same rising = subst (λ (s : Stored). at s.state.next s.state.objects ≡ None) same (objects_beyond slots arrays slots.next rising (omega arith))

pub no_next_public : (s : Stored) (slots : HandleMap Part) (arrays : Arrays) (counts : CountMap) (stopped : Stops) → stored slots arrays counts stopped ≡ s → RiseWithin 1 slots.next slots.entries →
    at s.state.next s.public ≡ None
no_next_public s slots arrays counts stopped same rising =
    subst (λ (s : Stored). at s.state.next s.public ≡ None) same
    (at_keyed (λ k (p : Part). public_at counts k) slots.next slots.entries ∙ ap (option_map (λ (p : Part). public_at counts slots.next)) (parts_beyond slots slots.next rising (omega arith)))

-- Objects die one after another, and the dead are kept.
use Rattle.std.proofs.Common.{ℕ, ◌+◌, ◌≡◌, ◌≤◌, ◌∙◌, not, Bool, true, false, List, [], ◌∷◌, All, Option, Some, None, length, refl, sym, ap, subst, arith}
use Rattle.std.specs.Prelude.{cond}
use Rattle.std.specs.BTreeMap.{is_at}
use Rattle.std.specs.List.{cons_option, filter}
use Rattle.std.specs.List.Sorted.{IsNonDecreasingBy, IsPermutation}
use Rattle.std.specs.Map.{keys_of, remove_entry}
use Rattle.std.specs.Option.{IsSome, is_some, option_and_then, option_map, option_to_list}
use Rattle.std.specs.Ordering.{nat_cmp}
use Rattle.std.proofs.lemmas.List.Elements.{All-head, All-tail}
use Rattle.std.proofs.lemmas.List.Sorted.{IsPermutation-refl, IsPermutation-sym, IsPermutation-trans}
use Rattle.std.proofs.lemmas.Map.Entries.{option_filter}
use Rattle.dev_types.specs.declared.handles.Origin.{Origin}
use Rattle.seq_model.proofs.Keys.{RisesWithin, all_from_at, at_filter, rises_filtered}
use Rattle.seq_model.specs.Life.{has}
use Rattle.seq_model.specs.State.{Object}
use Rattle.seq_model.specs.Told.{gone}
use Rattle.object_store.specs.Ends.{AreDying, Ended, Ends, ended, ended_of}
use Rattle.object_store.specs.Kept.{IsUnheld, Stored, without}
use Rattle.object_store.specs.Parts.{at, memory_in}
use Rattle.object_store.proofs.Counted.{is_some_by}
use Rattle.object_store.proofs.DeadSteps.{gone_more, has_key, longer, one_fewer, ordered_dead, with_front}
use Rattle.object_store.proofs.Lefts.{left_itself, left_next}

filter_none : {X : Type 0} (p : X → Bool) (xs : List X) → All (λ x. p x ≡ false) xs → filter p xs ≡ []
filter_none p [] fails = refl
filter_none {X} p (x ∷ xs) fails =
    ap (λ t. cond t (x ∷ filter p xs) (filter p xs)) (All-head (λ (y : X). p y ≡ false) x xs fails) ∙ filter_none p xs (All-tail (λ (y : X). p y ≡ false) x xs fails)

-- what is left of an object with this memory
abbrev ended_with : ℕ → Option (List ℕ × Origin) → Option Ended
ended_with h memory = option_map (λ m. (h, m)) memory

module _ (old : Stored) (high : ℕ) (up : RisesWithin 1 high (keys_of old.state.objects)) where
  pub none_gone : gone old.state old.state ≡ []
  none_gone =
      filter_none (λ (e : ℕ × Object). not (has e.0 (keys_of old.state.objects))) old.state.objects
      (all_from_at (λ (e : ℕ × Object). not (has e.0 (keys_of old.state.objects)) ≡ false) 1 high old.state.objects up
      (λ h o there. ap not (has_key h old.state.objects ∙ is_some_by (at h old.state.objects) o there)))

  -- nothing died yet
  pub dying_starts : (dead : Ends) → dead.list ≡ [] → length (ended old.state.objects) ≤ dead.room → AreDying old old dead dead
  dying_starts dead none fits = record {
    left = left_itself old high up;
    moved = subst (λ xs. IsPermutation (ended xs) dead.list) (sym none_gone) (subst (IsPermutation []) (sym none) (IsPermutation-refl []));
    fits = let empty : length dead.list ≡ 0 = ap length none in omega (arith, empty, fits);
    room = refl;
  }

  module _ (now : Stored) (before dead : Ends) (dying : AreDying old now before dead) where
    pub now_up : RisesWithin 1 high (keys_of now.state.objects)
    now_up = subst (λ es. RisesWithin 1 high (keys_of es)) (sym dying.left.kept) (rises_filtered (λ (e : ℕ × Object). is_some (at e.0 now.state.objects)) 1 high old.state.objects up)

    pub was_there : (h : ℕ) (o : Object) → at h now.state.objects ≡ Some o → at h old.state.objects ≡ Some o
    was_there h o there = by (at h old.state.objects) refl
      where
        kept : at h now.state.objects ≡ option_filter (λ o. is_some (at h now.state.objects)) (at h old.state.objects)
        kept = ap (at h) dying.left.kept ∙ at_filter (λ (e : ℕ × Object). is_some (at e.0 now.state.objects)) h 1 high old.state.objects up

        by : (x : Option Object) → at h old.state.objects ≡ x → at h old.state.objects ≡ Some o
        by None none = let wrong : Some o ≡ None = sym there ∙ kept ∙ ap (option_filter (λ o. is_some (at h now.state.objects))) none in absurd cc
        by (Some p) is =
            let passes : is_some (at h now.state.objects) ≡ true = is_some_by (at h now.state.objects) o there in
            let same : at h now.state.objects ≡ Some p = kept ∙ ap (option_filter (λ o. is_some (at h now.state.objects))) is ∙ ap (λ t. cond t (Some p) None) passes in
            is ∙ sym same ∙ there

    -- one more dies
    dying_with : (h : ℕ) (o : Object) → IsUnheld now h → at h now.state.objects ≡ Some o →
        AreDying old (without h now) before (record dead { list = cons_option (ended_of (h, o)) dead.list })
    dying_with h o unheld there = record {
      left = left_next old now high up dying.left h unheld;
      moved = IsPermutation-trans (ended (gone old.state (without h now).state)) (cons_option (ended_of (h, o)) (ended (gone old.state now.state))) (cons_option (ended_of (h, o)) dead.list)
          (IsPermutation-sym (cons_option (ended_of (h, o)) (ended (gone old.state now.state))) (ended (gone old.state (without h now).state))
          (gone_more old.state now.state high up h o (remove_entry (is_at (nat_cmp h)) now.state.objects) now_up refl (was_there h o there) unheld.there))
          (with_front ended_of (ended_of (h, o)) (ended (gone old.state now.state)) dead.list dying.moved);
      fits = omega (arith, dying.fits, longer (ended_of (h, o)) dead.list, one_fewer ended_of h now.state.objects o there);
      room = dying.room;
    }

    pub object_there : (x : Option Object) → IsSome x → (o : Object) × (x ≡ Some o)
    object_there (Some o) some = (o, refl)
    object_there None some = absurd cc

    pub dying_next : (h : ℕ) (memory : Option (List ℕ × Origin)) → IsUnheld now h → memory ≡ memory_in (option_and_then (λ o. o.array) (at h now.state.objects)) →
        AreDying old (without h now) before (record dead { list = cons_option (ended_with h memory) dead.list })
    dying_next h memory unheld is =
        let one : (o : Object) × (at h now.state.objects ≡ Some o) = object_there (at h now.state.objects) unheld.there in
        let same : memory_in one.0.array ≡ memory = sym (is ∙ ap (λ x. memory_in (option_and_then (λ o. o.array) x)) one.1) in
        subst (λ m. AreDying old (without h now) before (record dead { list = cons_option (ended_with h m) dead.list })) same (dying_with h one.0 unheld one.1)

    -- so there is room for it
    pub dying_fits : (h : ℕ) (memory : Option (List ℕ × Origin)) → IsUnheld now h → memory ≡ memory_in (option_and_then (λ o. o.array) (at h now.state.objects)) →
        length (option_to_list (ended_with h memory)) + length dead.list ≤ dead.room
    dying_fits h memory unheld is =
        let next : AreDying old (without h now) before (record dead { list = cons_option (ended_with h memory) dead.list }) = dying_next h memory unheld is in
        omega (arith, next.fits, longer (ended_with h memory) dead.list)

    -- in their order the dead are those that are gone
    pub dying_ends : (list : List Ended) → IsPermutation dead.list list → IsNonDecreasingBy (λ (e : Ended). e.0) list → list ≡ ended (gone old.state now.state)
    dying_ends list moved sorted =
        ordered_dead old.state now.state high up list (IsPermutation-trans (ended (gone old.state now.state)) dead.list list dying.moved moved) sorted

-- all is told
pub all_told : (now before : Ends) → now.list ≡ [] → now.room ≡ before.room → now ≡ record before { list = [] }
all_told now before none same = λ i. record { list = none i; room = same i }

-- Objects die one after another, and their handles are kept.
use Rattle.std.proofs.Common.{ℕ, ◌+◌, ◌≡◌, ◌<◌, ◌≤◌, ◌∙◌, not, List, [], ◌∷◌, ◌++◌, Some, get_or, length, map, refl, sym, ap, subst, arith}
use Rattle.std.specs.List.{filter_map}
use Rattle.std.specs.List.Sorted.{IsNonDecreasingBy, IsPermutation}
use Rattle.std.specs.Map.{keys_of}
use Rattle.std.specs.Option.{is_some}
use Rattle.std.proofs.lemmas.List.{get_or-map, length-append, length-map}
use Rattle.std.proofs.lemmas.List.Sorted.{IsPermutation-map, IsPermutation-refl, IsPermutation-sym, IsPermutation-to_front, IsPermutation-trans, IsPermutation-cons}
use Rattle.seq_model.proofs.Keys.{RisesWithin, rises_filtered}
use Rattle.seq_model.specs.Life.{has}
use Rattle.seq_model.specs.State.{Object}
use Rattle.seq_model.specs.Told.{gone}
use Rattle.object_store.specs.Ends.{AreDying, AreLeaving, Ends}
use Rattle.object_store.specs.Kept.{IsUnheld, Stored, without}
use Rattle.object_store.specs.Parts.{at}
use Rattle.object_store.proofs.DeadOrder.{sorted_is}
use Rattle.object_store.proofs.DeadSteps.{has_key, one_more}
use Rattle.object_store.proofs.Dying.{none_gone, now_up, object_there, was_there}
use Rattle.object_store.proofs.Lefts.{one_less}
use Rattle.object_store.proofs.Removed.{at_removed, gone as gone_at}

-- the keys are what a map to them collects
keys_are : {X : Type 0} (es : List (ℕ × X)) → filter_map (λ (e : ℕ × X). Some e.0) es ≡ keys_of es
keys_are [] = refl
keys_are (e ∷ es) = ap (λ ks. e.0 ∷ ks) (keys_are es)

-- a key with itself
abbrev doubled : ℕ → ℕ × ℕ
doubled k = (k, k)

keys_doubled : (ks : List ℕ) → keys_of (map doubled ks) ≡ ks
keys_doubled [] = refl
keys_doubled (k ∷ ks) = ap (λ rest. k ∷ rest) (keys_doubled ks)

doubled_in_order : (ks : List ℕ) → IsNonDecreasingBy (λ (k : ℕ). k) ks → IsNonDecreasingBy (λ (e : ℕ × ℕ). e.0) (map doubled ks)
doubled_in_order ks up = λ i j d less within.
    let inside : j < length ks = subst (λ n. j < n) (length-map ks doubled) within in
    let first : get_or (map doubled ks) i d ≡ doubled (get_or ks i d.0) = get_or-map doubled ks i d.0 d (omega (arith, less, inside)) in
    let second : get_or (map doubled ks) j d ≡ doubled (get_or ks j d.0) = get_or-map doubled ks j d.0 d inside in
    omega (arith, ap (λ (e : ℕ × ℕ). e.0) first, ap (λ (e : ℕ × ℕ). e.0) second, up i j d.0 less inside)

-- keys that rise, in another order in which they do not fall, are themselves
pub sorted_keys_are : (low high : ℕ) (ks handles : List ℕ) → RisesWithin low high ks → IsPermutation ks handles → IsNonDecreasingBy (λ (k : ℕ). k) handles → handles ≡ ks
sorted_keys_are low high ks handles up moved sorted =
    sym (keys_doubled handles)
    ∙ ap keys_of (sorted_is low high (map doubled ks) (map doubled handles) (subst (RisesWithin low high) (sym (keys_doubled ks)) up) (IsPermutation-map doubled ks handles moved) (doubled_in_order handles sorted))
    ∙ keys_doubled ks

module _ (old : Stored) (high : ℕ) (up : RisesWithin 1 high (keys_of old.state.objects)) where
  -- nothing died yet
  pub leaving_starts : (handles : List ℕ) (room : ℕ) → handles ≡ [] → length old.state.objects ≤ room → AreLeaving old old handles room
  leaving_starts handles room none fits = record {
    moved = subst (λ xs. IsPermutation (keys_of xs) handles) (sym (none_gone old high up)) (subst (IsPermutation []) (sym none) (IsPermutation-refl []));
    fits = let empty : length handles ≡ 0 = ap length none in omega (arith, empty, fits);
  }

  module _ (now : Stored) (before dead : Ends) (dying : AreDying old now before dead) (handles : List ℕ) (room : ℕ) (leaving : AreLeaving old now handles room) where
    -- there is room for one more that dies
    pub leaving_fits : (h : ℕ) → IsUnheld now h → length handles < room
    leaving_fits h unheld = omega (arith, leaving.fits, one_less h now.state.objects unheld.there)

    one_leaves : (h : ℕ) (o : Object) → IsUnheld now h → at h now.state.objects ≡ Some o → IsPermutation (h ∷ keys_of (gone old.state now.state)) (keys_of (gone old.state (without h now).state))
    one_leaves h o unheld there =
        subst (λ ks. IsPermutation (h ∷ ks) (keys_of (gone old.state (without h now).state))) (keys_are (gone old.state now.state))
        (subst (λ ks. IsPermutation (h ∷ filter_map (λ (e : ℕ × Object). Some e.0) (gone old.state now.state)) ks) (keys_are (gone old.state (without h now).state))
        (one_more (λ (e : ℕ × Object). Some e.0) (λ k. not (has k (keys_of now.state.objects))) (λ k. not (has k (keys_of (without h now).state.objects))) h 1 high old.state.objects o
        (λ k apart. ap not (has_key k now.state.objects ∙ sym (has_key k (without h now).state.objects ∙ ap is_some (at_removed h k now.state.objects apart))))
        (ap not (has_key h now.state.objects ∙ unheld.there)) (ap not (has_key h (without h now).state.objects ∙ ap is_some (gone_at h 1 high now.state.objects (now_up old high up now before dead dying))))
        up (was_there old high up now before dead dying h o there)))

    -- one more dies
    pub leaving_next : (h : ℕ) → IsUnheld now h → AreLeaving old (without h now) (handles ++ h ∷ []) room
    leaving_next h unheld =
        let one : (o : Object) × (at h now.state.objects ≡ Some o) = object_there old high up now before dead dying (at h now.state.objects) unheld.there in
        record {
          moved = IsPermutation-trans (keys_of (gone old.state (without h now).state)) (h ∷ keys_of (gone old.state now.state)) (handles ++ h ∷ [])
              (IsPermutation-sym (h ∷ keys_of (gone old.state now.state)) (keys_of (gone old.state (without h now).state)) (one_leaves h one.0 unheld one.1))
              (IsPermutation-trans (h ∷ keys_of (gone old.state now.state)) (h ∷ handles) (handles ++ h ∷ []) (IsPermutation-cons h (keys_of (gone old.state now.state)) handles leaving.moved)
              (IsPermutation-sym (handles ++ h ∷ []) (h ∷ handles) (IsPermutation-to_front handles h)));
          fits = let longer : length (handles ++ h ∷ []) ≡ length handles + 1 = length-append handles (h ∷ []) in omega (arith, longer, leaving.fits, one_less h now.state.objects unheld.there);
        }

    -- in their order they are the handles of all that are gone
    pub leaving_ends : (list : List ℕ) → IsPermutation handles list → IsNonDecreasingBy (λ (k : ℕ). k) list → list ≡ keys_of (gone old.state now.state)
    leaving_ends list moved sorted =
        sorted_keys_are 1 high (keys_of (gone old.state now.state)) list (rises_filtered (λ (e : ℕ × Object). not (has e.0 (keys_of now.state.objects))) 1 high old.state.objects up)
        (IsPermutation-trans (keys_of (gone old.state now.state)) handles list leaving.moved moved) sorted

-- Objects that nothing holds are taken away, one after another, until each is held.
use Rattle.std.proofs.Common.{ℕ, ◌≡◌, ◌<◌, ◌∙◌, ◌⊎◌, inl, inr, nat_lt, Bool, true, false, List, [], ◌∷◌, All, Option, Some, None, length, refl, sym, ap, subst, arith}
use Rattle.std.specs.Prelude.{cond, ◌||◌}
use Rattle.std.specs.BTreeMap.{is_at}
use Rattle.std.specs.List.{filter}
use Rattle.std.specs.Map.{keys_of, remove_entry}
use Rattle.std.specs.Option.{IsSome, is_some, option_map_or, unwrap_or}
use Rattle.std.specs.Ordering.{nat_cmp}
use Rattle.std.proofs.lemmas.Bool.{cases_eq}
use Rattle.std.proofs.lemmas.List.Elements.{All-head, All-tail}
use Rattle.std.proofs.lemmas.Map.Entries.{option_filter}
use Rattle.handle_table.specs.HandleMaps.{HandleMap, RiseWithin}
use Rattle.ref_counts.specs.CountMaps.{CountMap}
use Rattle.array_objects.specs.Stores.{Arrays, array_at}
use Rattle.seq_model.proofs.Keys.{RisesWithin, all_from_at, at_filter, rises_filtered}
use Rattle.seq_model.specs.Soundness.{IsRanked}
use Rattle.seq_model.specs.Life.{is_root, live, loan_count}
use Rattle.seq_model.specs.State.{Object}
use Rattle.object_store.specs.Gathers.{IsLeft, buried, root_in}
use Rattle.object_store.specs.Kept.{IsSettled, IsUnheld, Stops, Stored, loans_at, number_at, stored, without}
use Rattle.object_store.specs.Parts.{Part, at, object_of}
use Rattle.object_store.proofs.Counted.{is_some_by, not_some}
use Rattle.object_store.proofs.Gathered.{gathered_are_live}
use Rattle.object_store.proofs.Keyed.{keys_keyed, rises, same_by_looks}
use Rattle.object_store.proofs.Removed.{at_removed, gone, rises_removed}

filter_all : {X : Type 0} (p : X → Bool) (xs : List X) → All (λ x. p x ≡ true) xs → filter p xs ≡ xs
filter_all p [] passes = refl
filter_all {X} p (x ∷ xs) passes =
    ap (λ t. cond t (x ∷ filter p xs) (filter p xs)) (All-head (λ (y : X). p y ≡ true) x xs passes) ∙ ap (λ ys. x ∷ ys) (filter_all p xs (All-tail (λ (y : X). p y ≡ true) x xs passes))

-- nothing was taken away yet
pub left_itself : (s : Stored) (high : ℕ) → RisesWithin 1 high (keys_of s.state.objects) → IsLeft s s
left_itself s high up = record {
  kept = sym (filter_all (λ (e : ℕ × Object). is_some (at e.0 s.state.objects)) s.state.objects
      (all_from_at (λ (e : ℕ × Object). is_some (at e.0 s.state.objects) ≡ true) 1 high s.state.objects up (λ h o there. is_some_by (at h s.state.objects) o there)));
  roots = λ h o there is. is_some_by (at h s.state.objects) o there;
  public = λ h some. refl;
  holds = λ h some. refl;
  next = refl;
  stopped = refl;
  ready = refl;
  places = refl;
}

no_root : (p l k : ℕ) → p ≡ 0 → l ≡ 0 → k ≡ 0 → (nat_lt 0 p || nat_lt 0 l || nat_lt 0 k) ≡ false
no_root p l k no_public no_loans no_holds =
    ap (λ p. nat_lt 0 p || nat_lt 0 l || nat_lt 0 k) no_public ∙ ap (λ l. nat_lt 0 0 || nat_lt 0 l || nat_lt 0 k) no_loans ∙ ap (λ k. nat_lt 0 0 || nat_lt 0 0 || nat_lt 0 k) no_holds

module _ (old now : Stored) (high : ℕ) (up : RisesWithin 1 high (keys_of old.state.objects)) (left : IsLeft old now) where
  now_up : RisesWithin 1 high (keys_of now.state.objects)
  now_up = subst (λ es. RisesWithin 1 high (keys_of es)) (sym left.kept) (rises_filtered (λ (e : ℕ × Object). is_some (at e.0 now.state.objects)) 1 high old.state.objects up)

  left_at : (h : ℕ) → at h now.state.objects ≡ option_filter (λ o. is_some (at h now.state.objects)) (at h old.state.objects)
  left_at h = ap (at h) left.kept ∙ at_filter (λ (e : ℕ × Object). is_some (at e.0 now.state.objects)) h 1 high old.state.objects up

  was : (h : ℕ) (o : Object) → at h old.state.objects ≡ Some o → IsSome (at h now.state.objects) → at h now.state.objects ≡ Some o
  was h o there some = left_at h ∙ ap (option_filter (λ o. is_some (at h now.state.objects))) there ∙ ap (λ t. cond t (Some o) None) some

  rootless : (h : ℕ) (o : Object) → number_at old.public h ≡ 0 → loan_count o ≡ 0 → number_at old.holds h ≡ 0 → root_in old (h, o) ≡ true → ⊥
  unfolding is_root
  rootless h o no_public no_loans no_holds is =
      let wrong : true ≡ false = sym is ∙ no_root (number_at old.public h) (loan_count o) (number_at old.holds h) no_public no_loans no_holds in cc

  -- one more is taken away
  pub left_next : (h : ℕ) → IsUnheld now h → IsLeft old (without h now)
  left_next h unheld = record {
    kept = same_by_looks 1 high (remove_entry (is_at (nat_cmp h)) now.state.objects) (filter (λ e. is_some (at e.0 (remove_entry (is_at (nat_cmp h)) now.state.objects))) old.state.objects) (rises_removed (is_at (nat_cmp h)) 1 high now.state.objects now_up)
        (rises_filtered (λ (e : ℕ × Object). is_some (at e.0 (remove_entry (is_at (nat_cmp h)) now.state.objects))) 1 high old.state.objects up)
        (λ k. looks k (cases_eq k h) ∙ sym (at_filter (λ (e : ℕ × Object). is_some (at e.0 (remove_entry (is_at (nat_cmp h)) now.state.objects))) k 1 high old.state.objects up));
    roots = λ k o there is. roots k o there is (cases_eq k h);
    public = λ k some. public k some (cases_eq k h);
    holds = λ k some. holds k some (cases_eq k h);
    next = left.next;
    stopped = left.stopped;
    ready = left.ready;
    places = left.places;
  }
    where
      gone_here : at h (remove_entry (is_at (nat_cmp h)) now.state.objects) ≡ None
      gone_here = gone h 1 high now.state.objects now_up

      filtered_out : (x : Option Object) → option_filter (λ (o : Object). false) x ≡ None
      filtered_out None = refl
      filtered_out (Some o) = refl

      looks : (k : ℕ) → (k ≡ h) ⊎ (k ≡ h → ⊥) → at k (remove_entry (is_at (nat_cmp h)) now.state.objects)
          ≡ option_filter (λ o. is_some (at k (remove_entry (is_at (nat_cmp h)) now.state.objects))) (at k old.state.objects)
      looks k (inl same) =
          let none : at k (remove_entry (is_at (nat_cmp h)) now.state.objects) ≡ None = ap (λ k. at k (remove_entry (is_at (nat_cmp h)) now.state.objects)) same ∙ gone_here in
          none ∙ sym (ap (λ x. option_filter (λ (o : Object). is_some x) (at k old.state.objects)) none ∙ filtered_out (at k old.state.objects))
      looks k (inr apart) =
          let kept : at k (remove_entry (is_at (nat_cmp h)) now.state.objects) ≡ at k now.state.objects = at_removed h k now.state.objects apart in
          kept ∙ left_at k ∙ sym (ap (λ x. option_filter (λ (o : Object). is_some x) (at k old.state.objects)) kept)

      roots : (k : ℕ) (o : Object) → at k old.state.objects ≡ Some o → root_in old (k, o) ≡ true → (k ≡ h) ⊎ (k ≡ h → ⊥) → IsSome (at k (remove_entry (is_at (nat_cmp h)) now.state.objects))
      roots k o there is (inl same) =
          let there_at : at h old.state.objects ≡ Some o = sym (ap (λ k. at k old.state.objects) same) ∙ there in
          let now_ : at h now.state.objects ≡ Some o = was h o there_at unheld.there in
          let unlent : loans_at now.state.objects h ≡ loan_count o = ap (λ x. option_map_or loan_count x 0) now_ in
          let at_h : root_in old (h, o) ≡ true = sym (ap (λ k. root_in old (k, o)) same) ∙ is in
          absurd (rootless h o (sym (left.public h unheld.there) ∙ unheld.public) (omega (arith, unlent, unheld.held)) (omega (arith, left.holds h unheld.there, unheld.held)) at_h)
      roots k o there is (inr apart) = ap is_some (at_removed h k now.state.objects apart) ∙ left.roots k o there is

      public : (k : ℕ) → IsSome (at k (remove_entry (is_at (nat_cmp h)) now.state.objects)) → (k ≡ h) ⊎ (k ≡ h → ⊥) → number_at (remove_entry (is_at (nat_cmp h)) now.public) k ≡ number_at old.public k
      public k some (inl same) = absurd (not_some (at k (remove_entry (is_at (nat_cmp h)) now.state.objects)) (ap (λ k. at k (remove_entry (is_at (nat_cmp h)) now.state.objects)) same ∙ gone_here) some)
      public k some (inr apart) = ap (λ x. unwrap_or x 0) (at_removed h k now.public apart) ∙ left.public k (sym (ap is_some (at_removed h k now.state.objects apart)) ∙ some)

      holds : (k : ℕ) → IsSome (at k (remove_entry (is_at (nat_cmp h)) now.state.objects)) → (k ≡ h) ⊎ (k ≡ h → ⊥) → number_at (remove_entry (is_at (nat_cmp h)) now.holds) k ≡ number_at old.holds k
      holds k some (inl same) = absurd (not_some (at k (remove_entry (is_at (nat_cmp h)) now.state.objects)) (ap (λ k. at k (remove_entry (is_at (nat_cmp h)) now.state.objects)) same ∙ gone_here) some)
      holds k some (inr apart) = ap (λ x. unwrap_or x 0) (at_removed h k now.holds apart) ∙ left.holds k (sym (ap is_some (at_removed h k now.state.objects apart)) ∙ some)

  -- none is left that nothing holds
  pub left_ends : IsSettled now → IsRanked old.state.objects → now.state ≡ buried old
  left_ends settled ranked = λ i. record { objects = live_ i; stopped = left.stopped i; next = left.next i }
    where
      live_ : now.state.objects ≡ live (root_in old) old.state.objects
      live_ = gathered_are_live old.state.objects now.state.objects (number_at old.public) (number_at old.holds) 1 high up ranked (record {
        kept = left.kept;
        roots = left.roots;
        closed = settled.closed;
        held = λ h o there.
            let some : IsSome (at h now.state.objects) = is_some_by (at h now.state.objects) o there in
            omega (arith, settled.held h o there, left.public h some, left.holds h some);
      })

pub one_less : {X : Type 0} (h : ℕ) (es : List (ℕ × X)) → IsSome (at h es) → length (remove_entry (is_at (nat_cmp h)) es) < length es
one_less h [] some = absurd cc
one_less h (e ∷ es) some = by (is_at (nat_cmp h) e.0) refl (λ later. one_less h es later)
  where
    by : (t : Bool) → is_at (nat_cmp h) e.0 ≡ t → (IsSome (at h es) → length (remove_entry (is_at (nat_cmp h)) es) < length es) → length (cond t es (e ∷ remove_entry (is_at (nat_cmp h)) es)) < length (e ∷ es)
    by true is rest = omega arith
    by false is rest =
        let later : IsSome (at h es) = sym (ap (λ t. is_some (cond t (Some e.1) (at h es))) is) ∙ some in
        omega (arith, rest later)

-- the keys of a store's objects rise
pub store_rises : (s : Stored) (slots : HandleMap Part) (arrays : Arrays) (counts : CountMap) (stopped : Stops) → stored slots arrays counts stopped ≡ s → RiseWithin 1 slots.next slots.entries →
    RisesWithin 1 slots.next (keys_of s.state.objects)
store_rises s slots arrays counts stopped is rising =
    subst (λ (s : Stored). RisesWithin 1 slots.next (keys_of s.state.objects)) is
    (subst (λ ks. RisesWithin 1 slots.next ks) (sym (keys_keyed (λ h part. object_of part (array_at arrays h)) slots.entries)) (rises 1 slots.next slots.entries rising))

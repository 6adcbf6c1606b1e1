-- The objects in turn, by their handles: those below a handle are changed, the others not yet.
use Rattle.std.proofs.Common.{ℕ, length, ◌+◌, ◌≡◌, ◌≤◌, ◌∙◌, Bool, true, false, List, [], ◌∷◌, Option, None, Some, map, refl, sym, ap, ltb, cond, arith}
use Rattle.std.specs.BTreeMap.{is_at}
use Rattle.std.specs.Map.{keys_of, set_value}
use Rattle.std.specs.Option.{option_map, unwrap_or}
use Rattle.std.specs.Ordering.{nat_cmp}
use Rattle.std.proofs.lemmas.Bool.Decides.{nat_tests}
use Rattle.handle_table.specs.HandleMaps.{RiseWithin}
use Rattle.seq_model.proofs.Keys.{RisesWithin, at, key_is, rises_up}
use Rattle.seq_model.specs.State.{State}

-- handles that rise, in the words of both crates
pub rises : {X : Type 0} (low high : ℕ) (es : List (ℕ × X)) → RiseWithin low high es → RisesWithin low high (keys_of es)
rises low high [] up = up
rises low high (e ∷ es) up = (up.0, rises (e.0 + 1) high es up.1)

-- there are no more objects than handles
pub few_entries : {X : Type 0} (low high : ℕ) (es : List (ℕ × X)) → RiseWithin low high es → length es + low ≤ high
few_entries low high [] up = omega (arith, up)
few_entries low high (e ∷ es) up = omega (arith, up.0, few_entries (e.0 + 1) high es up.1)

-- another key is below a handle, or below the next one as well
same_test : (h k : ℕ) → is_at (nat_cmp h) k ≡ false → ltb k h ≡ ltb k (h + 1)
same_test h k other = grind (arith, nat_tests)

module _ {X : Type 0} (f : X → X) where
  -- the values below a handle are changed
  abbrev pub changed_below : ℕ → List (ℕ × X) → List (ℕ × X)
  changed_below h es = map (λ e. (e.0, cond (ltb e.0 h) (f e.1) e.1)) es

  -- the value at a handle is changed, if it is there
  abbrev pub changed_in : ℕ → List (ℕ × X) → List (ℕ × X)
  changed_in h es = unwrap_or (option_map (λ v. set_value (is_at (nat_cmp h)) es (f v)) (at h es)) es

  pub none_below : (low h high : ℕ) (es : List (ℕ × X)) → h ≤ low → RisesWithin low high (keys_of es) → changed_below h es ≡ es
  none_below low h high [] less up = refl
  none_below low h high (e ∷ es) less up =
      let not_below : ltb e.0 h ≡ false = grind (arith, nat_tests, up.0) in
      ap (λ t. (e.0, cond t (f e.1) e.1) ∷ changed_below h es) not_below ∙ ap (λ rest. e ∷ rest) (none_below (e.0 + 1) h high es (omega (arith, up.0)) up.1)

  pub all_below : (low high : ℕ) (es : List (ℕ × X)) → RisesWithin low high (keys_of es) → changed_below high es ≡ map (λ e. (e.0, f e.1)) es
  all_below low high [] up = refl
  all_below low high (e ∷ es) up =
      let more : e.0 + 1 ≤ high = rises_up (e.0 + 1) high (keys_of es) up.1 in
      let is_below : ltb e.0 high ≡ true = grind (arith, nat_tests) in
      ap (λ t. (e.0, cond t (f e.1) e.1) ∷ changed_below high es) is_below ∙ ap (λ rest. (e.0, f e.1) ∷ rest) (all_below (e.0 + 1) high es up.1)

  later : (h : ℕ) (e : ℕ × X) (es : List (ℕ × X)) → is_at (nat_cmp h) e.0 ≡ false → changed_in h (e ∷ es) ≡ e ∷ changed_in h es
  later h e es other = by (at h es) refl
    where
      by : (o : Option X) → at h es ≡ o → changed_in h (e ∷ es) ≡ e ∷ changed_in h es
      by None is = rw (other, is) refl
      by (Some v) is = rw (other, is) refl

  here : (h : ℕ) (e : ℕ × X) (es : List (ℕ × X)) → is_at (nat_cmp h) e.0 ≡ true → changed_in h (e ∷ es) ≡ (e.0, f e.1) ∷ es
  here h e es same = rw same refl

  pub one_more : (low h high : ℕ) (es : List (ℕ × X)) → RisesWithin low high (keys_of es) → changed_in h (changed_below h es) ≡ changed_below (h + 1) es
  one_more low h high [] up = refl
  one_more low h high (e ∷ es) up = by (is_at (nat_cmp h) e.0) refl (one_more (e.0 + 1) h high es up.1)
    where
      by : (t : Bool) → is_at (nat_cmp h) e.0 ≡ t → changed_in h (changed_below h es) ≡ changed_below (h + 1) es →
          changed_in h (changed_below h (e ∷ es)) ≡ changed_below (h + 1) (e ∷ es)
      by true is rest =
          let same : h ≡ e.0 = key_is h e.0 is in
          let not_yet : ltb e.0 h ≡ false = grind (arith, nat_tests) in
          let now : ltb e.0 (h + 1) ≡ true = grind (arith, nat_tests) in
          let behind : changed_below h es ≡ changed_below (h + 1) es =
          none_below (e.0 + 1) h high es (omega arith) up.1 ∙ sym (none_below (e.0 + 1) (h + 1) high es (omega arith) up.1) in
          here h (e.0, cond (ltb e.0 h) (f e.1) e.1) (changed_below h es) is
          ∙ ap (λ t. (e.0, f (cond t (f e.1) e.1)) ∷ changed_below h es) not_yet
          ∙ ap (λ rest. (e.0, f e.1) ∷ rest) behind
          ∙ ap (λ t. (e.0, cond t (f e.1) e.1) ∷ changed_below (h + 1) es) (sym now)
      by false is rest =
          let apart : ltb e.0 h ≡ ltb e.0 (h + 1) = same_test h e.0 is in
          later h (e.0, cond (ltb e.0 h) (f e.1) e.1) (changed_below h es) is
          ∙ ap (λ t. (e.0, cond t (f e.1) e.1) ∷ changed_in h (changed_below h es)) apart
          ∙ ap (λ rest. (e.0, cond (ltb e.0 (h + 1)) (f e.1) e.1) ∷ rest) rest

-- states with the same parts are the same
pub same_state : (s t : State) → s.objects ≡ t.objects → s.stopped ≡ t.stopped → s.next ≡ t.next → s ≡ t
same_state s t objects stopped next =
    ap (λ es. record { objects = es; stopped = s.stopped; next = s.next }) objects
    ∙ ap (λ us. record { objects = t.objects; stopped = us; next = s.next }) stopped
    ∙ ap (λ n. record { objects = t.objects; stopped = t.stopped; next = n }) next

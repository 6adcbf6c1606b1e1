-- What is taken away handle by handle, and what is told of it.
use Rattle.std.proofs.Common.{ℕ, ◌+◌, ◌==◌, ◌≡◌, ◌≤◌, ◌∙◌, Bool, true, false, not, List, [], ◌∷◌, ◌++◌, Option, None, Some, cond, leb, length, refl, sym, ap, arith}
use Rattle.std.specs.Prelude.{◌||◌}
use Rattle.std.proofs.Math.Bool.{or-false, or-true}
use Rattle.std.specs.BTreeMap.{is_at}
use Rattle.std.specs.List.{filter, filter_map}
use Rattle.std.specs.Map.{keys_of, remove_entry}
use Rattle.std.specs.Option.{is_some, option_map, option_to_list}
use Rattle.std.specs.Ordering.{nat_cmp}
use Rattle.std.proofs.lemmas.Bool.Decides.{nat_tests}
use Rattle.std.proofs.lemmas.List.{append_assoc}
use Rattle.std.proofs.lemmas.List.Elements.{filter-append, filter_map-append}
use Rattle.std.proofs.lemmas.Map.Entries.{option_filter}
use Rattle.dev_types.specs.declared.notices.Notice.{Notice}
use Rattle.handle_table.specs.HandleMaps.{RiseWithin}
use Rattle.seq_model.proofs.Keys.{RisesWithin, all_from_at, at, at_filter, key_is, rises_up}
use Rattle.seq_model.specs.Life.{has}
use Rattle.seq_model.specs.State.{Object}
use Rattle.seq_model.specs.Told.{end_of_object}
use Rattle.plain_objects.proofs.Ended.{rises}
use Rattle.plain_objects.proofs.Rounds.{same_filter}
use Rattle.plain_objects.proofs.Turns.{from, from_next, here, same_test}
use Rattle.plain_objects.specs.Sweeping.{ends_of_unmarked, entry_at, is_marked, marked}

module _ (marks : List Bool) where
  -- the marked objects, and those from a handle on
  abbrev pub stays : ℕ → ℕ × Object → Bool
  stays h e = is_marked marks e.0 || leb h e.0

  abbrev pub kept : ℕ → List (ℕ × Object) → List (ℕ × Object)
  kept h es = filter (stays h) es

  pub kept_first : (low h high : ℕ) (es : List (ℕ × Object)) → h ≤ low → RisesWithin low high (keys_of es) → kept h es ≡ es
  kept_first low h high [] less up = refl
  kept_first low h high (e ∷ es) less up =
      let is_from : leb h e.0 ≡ true = grind (arith, nat_tests, up.0) in
      ap (λ t. cond (is_marked marks e.0 || t) (e ∷ kept h es) (kept h es)) is_from
      ∙ ap (λ t. cond t (e ∷ kept h es) (kept h es)) (or-true (is_marked marks e.0))
      ∙ ap (λ rest. e ∷ rest) (kept_first (e.0 + 1) h high es (omega (arith, up.0)) up.1)

  pub kept_last : (low h high : ℕ) (es : List (ℕ × Object)) → high ≤ h → RisesWithin low high (keys_of es) → kept h es ≡ marked marks es
  kept_last low h high [] over up = refl
  kept_last low h high (e ∷ es) over up =
      let more : e.0 + 1 ≤ high = rises_up (e.0 + 1) high (keys_of es) up.1 in
      let is_below : leb h e.0 ≡ false = grind (arith, nat_tests) in
      ap (λ t. cond (is_marked marks e.0 || t) (e ∷ kept h es) (kept h es)) is_below
      ∙ ap (λ t. cond t (e ∷ kept h es) (kept h es)) (or-false (is_marked marks e.0))
      ∙ ap (λ rest. cond (is_marked marks e.0) (e ∷ rest) rest) (kept_last (e.0 + 1) h high es over up.1)

  -- a marked handle changes nothing
  pub kept_marked : (h : ℕ) (es : List (ℕ × Object)) → is_marked marks h ≡ true → kept h es ≡ kept (h + 1) es
  kept_marked h [] is = refl
  kept_marked h (e ∷ es) is =
      ap (λ t. cond t (e ∷ kept h es) (kept h es)) (by (is_at (nat_cmp h) e.0) refl) ∙ ap (λ rest. cond (stays (h + 1) e) (e ∷ rest) rest) (kept_marked h es is)
    where
      by : (t : Bool) → is_at (nat_cmp h) e.0 ≡ t → stays h e ≡ stays (h + 1) e
      by true here =
          let mark : is_marked marks e.0 ≡ true = sym (ap (is_marked marks) (key_is h e.0 here)) ∙ is in
          ap (λ t. t || leb h e.0) mark ∙ sym (ap (λ t. t || leb (h + 1) e.0) mark)
      by false other = ap (λ t. is_marked marks e.0 || t) (same_test h e.0 other)

  -- an unmarked one goes
  pub kept_unmarked : (low h high : ℕ) (es : List (ℕ × Object)) → RisesWithin low high (keys_of es) → is_marked marks h ≡ false →
      remove_entry (is_at (nat_cmp h)) (kept h es) ≡ kept (h + 1) es
  kept_unmarked low h high [] up is = refl
  kept_unmarked low h high (e ∷ es) up is = by (is_at (nat_cmp h) e.0) refl (kept_unmarked (e.0 + 1) h high es up.1 is)
    where
      by : (t : Bool) → is_at (nat_cmp h) e.0 ≡ t → remove_entry (is_at (nat_cmp h)) (kept h es) ≡ kept (h + 1) es →
          remove_entry (is_at (nat_cmp h)) (kept h (e ∷ es)) ≡ kept (h + 1) (e ∷ es)
      by true here rest =
          let same : h ≡ e.0 = key_is h e.0 here in
          let mark : is_marked marks e.0 ≡ false = sym (ap (is_marked marks) same) ∙ is in
          let now : leb h e.0 ≡ true = grind (arith, nat_tests) in
          let not_next : leb (h + 1) e.0 ≡ false = grind (arith, nat_tests) in
          let stay : stays h e ≡ true = ap (λ t. is_marked marks e.0 || t) now ∙ or-true (is_marked marks e.0) in
          let go : stays (h + 1) e ≡ false = ap (λ t. is_marked marks e.0 || t) not_next ∙ or-false (is_marked marks e.0) ∙ mark in
          let all : kept h es ≡ es = kept_first (e.0 + 1) h high es (omega arith) up.1 in
          let next : kept (h + 1) es ≡ es = kept_first (e.0 + 1) (h + 1) high es (omega arith) up.1 in
          ap (λ t. remove_entry (is_at (nat_cmp h)) (cond t (e ∷ kept h es) (kept h es))) stay
          ∙ ap (λ t. cond t (kept h es) (e ∷ remove_entry (is_at (nat_cmp h)) (kept h es))) here
          ∙ all ∙ sym next ∙ sym (ap (λ t. cond t (e ∷ kept (h + 1) es) (kept (h + 1) es)) go)
      by false other rest =
          let tests : stays h e ≡ stays (h + 1) e = ap (λ t. is_marked marks e.0 || t) (same_test h e.0 other) in
          ap (λ t. remove_entry (is_at (nat_cmp h)) (cond t (e ∷ kept h es) (kept h es))) tests ∙ either (stays (h + 1) e)
        where
          either : (u : Bool) → remove_entry (is_at (nat_cmp h)) (cond u (e ∷ kept h es) (kept h es)) ≡ cond u (e ∷ kept (h + 1) es) (kept (h + 1) es)
          either true = ap (λ t. cond t (kept h es) (e ∷ remove_entry (is_at (nat_cmp h)) (kept h es))) other ∙ ap (λ rest. e ∷ rest) rest
          either false = rest

  pub kept_next : (h high : ℕ) (es : List (ℕ × Object)) → RisesWithin 1 high (keys_of es) →
      cond (is_marked marks h) (kept h es) (remove_entry (is_at (nat_cmp h)) (kept h es)) ≡ kept (h + 1) es
  kept_next h high es up = by (is_marked marks h) refl
    where
      by : (t : Bool) → is_marked marks h ≡ t → cond t (kept h es) (remove_entry (is_at (nat_cmp h)) (kept h es)) ≡ kept (h + 1) es
      by true is = kept_marked h es is
      by false is = kept_unmarked 1 h high es up is

  -- what stands at a handle is not gone before its turn
  pub still_there : (h high : ℕ) (es : List (ℕ × Object)) → RisesWithin 1 high (keys_of es) → entry_at h (kept h es) ≡ here h es
  still_there h high es up = ap (λ x. option_to_list (option_map (λ v. (h, v)) x)) (at_filter (stays h) h 1 high es up ∙ by (at h es))
    where
      by : (x : Option Object) → option_filter (λ v. stays h (h, v)) x ≡ x
      by None = refl
      by (Some v) =
          let now : leb h h ≡ true = grind (arith, nat_tests) in
          let stay : stays h (h, v) ≡ true = ap (λ t. is_marked marks h || t) now ∙ or-true (is_marked marks h) in
          ap (λ t. cond t (Some v) None) stay

  -- the ends, one after the other
  ends_both : (es fs : List (ℕ × Object)) → ends_of_unmarked marks (es ++ fs) ≡ ends_of_unmarked marks es ++ ends_of_unmarked marks fs
  ends_both es fs =
      ap (filter_map end_of_object) (filter-append (λ (e : ℕ × Object). not (is_marked marks e.0)) es fs)
      ∙ filter_map-append end_of_object (filter (λ (e : ℕ × Object). not (is_marked marks e.0)) es) (filter (λ (e : ℕ × Object). not (is_marked marks e.0)) fs)

  pub told_next : (h high : ℕ) (es : List (ℕ × Object)) (before after : List Notice) → RisesWithin 1 high (keys_of es) → after ≡ before ++ ends_of_unmarked marks (entry_at h (kept h es)) →
      after ++ ends_of_unmarked marks (from (h + 1) es) ≡ before ++ ends_of_unmarked marks (from h es)
  told_next h high es before after up is =
      ap (λ ns. ns ++ ends_of_unmarked marks (from (h + 1) es)) (is ∙ ap (λ fs. before ++ ends_of_unmarked marks fs) (still_there h high es up))
      ∙ append_assoc before (ends_of_unmarked marks (here h es)) (ends_of_unmarked marks (from (h + 1) es))
      ∙ sym (ap (λ ns. before ++ ns) (ap (ends_of_unmarked marks) (from_next 1 h high es up) ∙ ends_both (here h es) (from (h + 1) es)))

-- one entry less, or as many
pub one_less : {X : Type 0} (h : ℕ) (es : List (ℕ × X)) (v : X) → at h es ≡ Some v → length (remove_entry (is_at (nat_cmp h)) es) + 1 ≡ length es
one_less h [] v found = absurd cc
one_less {X} h (e ∷ es) v found = by (is_at (nat_cmp h) e.0) refl (λ x. one_less h es v x)
  where
    by : (t : Bool) → is_at (nat_cmp h) e.0 ≡ t → (at h es ≡ Some v → length (remove_entry (is_at (nat_cmp h)) es) + 1 ≡ length es) →
        length (cond t es (e ∷ remove_entry (is_at (nat_cmp h)) es)) + 1 ≡ length (e ∷ es)
    by true is rest = omega arith
    by false is rest = let there : at h es ≡ Some v = rw is at found in omega (arith, rest there)

pub none_less : {X : Type 0} (h : ℕ) (es : List (ℕ × X)) → at h es ≡ None → remove_entry (is_at (nat_cmp h)) es ≡ es
none_less h [] none = refl
none_less {X} h (e ∷ es) none = by (is_at (nat_cmp h) e.0) refl (λ x. none_less h es x)
  where
    by : (t : Bool) → is_at (nat_cmp h) e.0 ≡ t → (at h es ≡ None → remove_entry (is_at (nat_cmp h)) es ≡ es) → cond t es (e ∷ remove_entry (is_at (nat_cmp h)) es) ≡ e ∷ es
    by true is rest = let some : Some e.1 ≡ None = rw is at none in absurd cc
    by false is rest = let there : at h es ≡ None = rw is at none in ap (λ fs. e ∷ fs) (rest there)

-- a key is in a map where something stands at it
has_key : {X : Type 0} (h : ℕ) (es : List (ℕ × X)) → has h (keys_of es) ≡ is_some (at h es)
has_key h [] = refl
has_key {X} h (e ∷ es) = by (is_at (nat_cmp h) e.0) refl (has_key h es)
  where
    by : (t : Bool) → is_at (nat_cmp h) e.0 ≡ t → has h (keys_of es) ≡ is_some (at h es) → ((e.0 == h) || has h (keys_of es)) ≡ is_some (cond t (Some e.1) (at h es))
    by true is rest = let same : (e.0 == h) ≡ true = grind (arith, nat_tests) in ap (λ t. t || has h (keys_of es)) same
    by false is rest = let other : (e.0 == h) ≡ false = grind (arith, nat_tests) in ap (λ t. t || has h (keys_of es)) other ∙ rest

-- what is gone is what was not marked
pub gone_are_unmarked : (marks : List Bool) (high : ℕ) (es : List (ℕ × Object)) → RiseWithin 1 high es →
    filter (λ e. not (has e.0 (keys_of (marked marks es)))) es ≡ filter (λ e. not (is_marked marks e.0)) es
gone_are_unmarked marks high es up =
    same_filter (λ (e : ℕ × Object). not (has e.0 (keys_of (marked marks es)))) (λ (e : ℕ × Object). not (is_marked marks e.0)) es
    (all_from_at (λ (e : ℕ × Object). not (has e.0 (keys_of (marked marks es))) ≡ not (is_marked marks e.0)) 1 high es (rises 1 high es up) of)
  where
    some : (t : Bool) (o : Object) → is_some (cond t (Some o) None) ≡ t
    some true o = refl
    some false o = refl

    of : (h : ℕ) (o : Object) → at h es ≡ Some o → not (has h (keys_of (marked marks es))) ≡ not (is_marked marks h)
    of h o found =
        ap not
        (has_key h (marked marks es)
        ∙ ap is_some (at_filter (λ (e : ℕ × Object). is_marked marks e.0) h 1 high es (rises 1 high es up) ∙ ap (option_filter (λ (v : Object). is_marked marks h)) found)
        ∙ some (is_marked marks h) o)

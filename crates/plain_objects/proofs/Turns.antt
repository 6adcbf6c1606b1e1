-- The entries of a map by handles in turn: those from a handle on, and the one that stands there.
use Rattle.std.proofs.Common.{ℕ, ◌+◌, ◌==◌, ◌≡◌, ◌<◌, ◌≤◌, ◌∙◌, Bool, true, false, List, [], ◌∷◌, ◌++◌, Option, None, Some, leb, cond, length, refl, subst, sym, ap, arith}
use Rattle.std.specs.Prelude.{◌||◌}
use Rattle.std.specs.BTreeMap.{is_at}
use Rattle.std.specs.List.{filter, filter_map, find, list_any}
use Rattle.std.specs.Map.{keys_of, lookup}
use Rattle.std.specs.Option.{option_map, option_map_or, option_to_list, unwrap_or}
use Rattle.std.specs.Ordering.{nat_cmp}
use Rattle.std.proofs.lemmas.Bool.Decides.{nat_tests}
use Rattle.std.proofs.lemmas.List.Elements.{filter-append, filter_map-append}
use Rattle.std.proofs.lemmas.List.Folds.{list_any-append}
use Rattle.handle_table.specs.HandleMaps.{RiseWithin}
use Rattle.seq_model.proofs.Keys.{RisesWithin, at, key_is, nothing_outside, rises_up}
use Rattle.seq_model.specs.Life.{has, is_named_by, names_of}
use Rattle.seq_model.specs.State.{Object, ticket_in}
use Rattle.seq_model.specs.Steps.{is_reached_by}
use Rattle.plain_objects.proofs.Adding.{adds_both, adds_none}
use Rattle.plain_objects.proofs.Ended.{rises}
use Rattle.plain_objects.specs.Sweeping.{Adds, is_marked, marked}

-- another key is from a handle on, or from the next one on as well
pub same_test : (h k : ℕ) → is_at (nat_cmp h) k ≡ false → leb h k ≡ leb (h + 1) k
same_test h k other = grind (arith, nat_tests)

module _ {X : Type 0} where
  abbrev pub from : ℕ → List (ℕ × X) → List (ℕ × X)
  from h es = filter (λ e. leb h e.0) es

  abbrev pub here : ℕ → List (ℕ × X) → List (ℕ × X)
  here h es = option_to_list (option_map (λ v. (h, v)) (at h es))

  pub from_first : (low h high : ℕ) (es : List (ℕ × X)) → h ≤ low → RisesWithin low high (keys_of es) → from h es ≡ es
  from_first low h high [] less up = refl
  from_first low h high (e ∷ es) less up =
      let is_from : leb h e.0 ≡ true = grind (arith, nat_tests, up.0) in
      ap (λ t. cond t (e ∷ from h es) (from h es)) is_from ∙ ap (λ rest. e ∷ rest) (from_first (e.0 + 1) h high es (omega (arith, up.0)) up.1)

  pub from_last : (low h high : ℕ) (es : List (ℕ × X)) → high ≤ h → RisesWithin low high (keys_of es) → from h es ≡ []
  from_last low h high [] over up = refl
  from_last low h high (e ∷ es) over up =
      let more : e.0 + 1 ≤ high = rises_up (e.0 + 1) high (keys_of es) up.1 in
      let is_below : leb h e.0 ≡ false = grind (arith, nat_tests) in
      ap (λ t. cond t (e ∷ from h es) (from h es)) is_below ∙ from_last (e.0 + 1) h high es over up.1

  pub from_next : (low h high : ℕ) (es : List (ℕ × X)) → RisesWithin low high (keys_of es) → from h es ≡ here h es ++ from (h + 1) es
  from_next low h high [] up = refl
  from_next low h high (e ∷ es) up = by (is_at (nat_cmp h) e.0) refl (from_next (e.0 + 1) h high es up.1)
    where
      by : (t : Bool) → is_at (nat_cmp h) e.0 ≡ t → from h es ≡ here h es ++ from (h + 1) es → from h (e ∷ es) ≡ here h (e ∷ es) ++ from (h + 1) (e ∷ es)
      by true is rest =
          let same : h ≡ e.0 = key_is h e.0 is in
          let now : leb h e.0 ≡ true = grind (arith, nat_tests) in
          let not_next : leb (h + 1) e.0 ≡ false = grind (arith, nat_tests) in
          let all : from h es ≡ es = from_first (e.0 + 1) h high es (omega arith) up.1 in
          let next : from (h + 1) es ≡ es = from_first (e.0 + 1) (h + 1) high es (omega arith) up.1 in
          ap (λ t. cond t (e ∷ from h es) (from h es)) now
          ∙ ap (λ rest. e ∷ rest) (all ∙ sym next)
          ∙ ap (λ (k : ℕ). (k, e.1) ∷ from (h + 1) es) (sym same)
          ∙ sym (ap (λ t. option_to_list (option_map (λ v. (h, v)) (cond t (Some e.1) (at h es))) ++ from (h + 1) (e ∷ es)) is ∙ ap (λ t. (h, e.1) ∷ cond t (e ∷ from (h + 1) es) (from (h + 1) es)) not_next)
      by false is rest =
          let apart : leb h e.0 ≡ leb (h + 1) e.0 = same_test h e.0 is in
          ap (λ t. cond t (e ∷ from h es) (from h es)) apart ∙ either (leb (h + 1) e.0) refl
          ∙ sym (ap (λ t. option_to_list (option_map (λ v. (h, v)) (cond t (Some e.1) (at h es))) ++ from (h + 1) (e ∷ es)) is)
        where
          either : (u : Bool) → leb (h + 1) e.0 ≡ u → cond u (e ∷ from h es) (from h es) ≡ here h es ++ cond u (e ∷ from (h + 1) es) (from (h + 1) es)
          either false lower = rest
          either true higher =
              let over : h < e.0 = grind (arith, nat_tests) in
              let none : at h es ≡ None = nothing_outside h (e.0 + 1) high es up.1 (λ low _. omega (arith, low, over)) in
              let nothing : here h es ≡ [] = ap (λ x. option_to_list (option_map (λ v. (h, v)) x)) none in
              ap (λ rest. e ∷ rest) (rest ∙ ap (λ first. first ++ from (h + 1) es) nothing) ∙ sym (ap (λ first. first ++ e ∷ from (h + 1) es) nothing)

-- a test of numbers by entries, which falls into those of its parts
pub record IsAny (any : List (ℕ × Object) → ℕ → Bool) : Type 0 where
  pub none : (k : ℕ) → any [] k ≡ false
  pub both : (k : ℕ) (es fs : List (ℕ × Object)) → any (es ++ fs) k ≡ (any es k || any fs k)

-- marks that are added by the entries in turn
pub any_first : (any : List (ℕ × Object) → ℕ → Bool) (next : ℕ) (es : List (ℕ × Object)) (marks last : List Bool) → RiseWithin 1 next es →
    Adds (any (from 1 es)) marks last → Adds (any es) marks last
any_first any next es marks last up adds = subst (λ fs. Adds (any fs) marks last) (from_first 1 1 next es (omega arith) (rises 1 next es up)) adds

pub any_next : (any : List (ℕ × Object) → ℕ → Bool) (is : IsAny any) (h next : ℕ) (es : List (ℕ × Object)) (marks more last : List Bool) → RiseWithin 1 next es → length more ≡ length marks →
    Adds (any (here h es)) marks more → Adds (any (from (h + 1) es)) more last → Adds (any (from h es)) marks last
any_next any is h next es marks more last up long one rest =
    adds_both (any (here h es)) (any (from (h + 1) es)) (any (from h es)) marks more last long
    (λ k. ap (λ fs. any fs k) (from_next 1 h next es (rises 1 next es up)) ∙ is.both k (here h es) (from (h + 1) es)) one rest

pub any_last : (any : List (ℕ × Object) → ℕ → Bool) (is : IsAny any) (h next : ℕ) (es : List (ℕ × Object)) (marks : List Bool) → RiseWithin 1 next es → next ≤ h → Adds (any (from h es)) marks marks
any_last any is h next es marks up over =
    adds_none (any (from h es)) marks (λ k. ap (λ fs. any fs k) (from_last 1 h next es over (rises 1 next es up)) ∙ is.none k)

-- what marked objects name, and what the flights of frames reached, are such tests
pub named_is_any : (marks : List Bool) → IsAny (λ es. is_named_by (marked marks es))
named_is_any marks = record {
  none = λ k. refl;
  both = λ k es fs. ap (λ gs. is_named_by gs k) (filter-append (λ (e : ℕ × Object). is_marked marks e.0) es fs) ∙ list_any-append (λ (e : ℕ × Object). has k (names_of e.1)) (marked marks es) (marked marks fs);
}

pub flying_is_any : (reached : List (ℕ × List ℕ)) → IsAny (λ es k. list_any (λ t. is_reached_by reached t k) (filter_map (λ entry. ticket_in entry.1.phase) es))
flying_is_any reached = record {
  none = λ k. refl;
  both = λ k es fs. ap (list_any (λ t. is_reached_by reached t k)) (filter_map-append (λ (e : ℕ × Object). ticket_in e.1.phase) es fs)
      ∙ list_any-append (λ t. is_reached_by reached t k) (filter_map (λ (e : ℕ × Object). ticket_in e.1.phase) es) (filter_map (λ (e : ℕ × Object). ticket_in e.1.phase) fs);
}

-- what a flight reached, found by its ticket
pub found_reach : (t : ℕ) (reached : List (ℕ × List ℕ)) → lookup (is_at (nat_cmp t)) reached ≡ option_map (λ r. r.1) (find (λ r. r.0 == t) reached)
found_reach t [] = refl
found_reach t (r ∷ rest) = by (r.0 == t) refl (found_reach t rest)
  where
    by : (u : Bool) → (r.0 == t) ≡ u → lookup (is_at (nat_cmp t)) rest ≡ option_map (λ (r : ℕ × List ℕ). r.1) (find (λ r. r.0 == t) rest) →
        lookup (is_at (nat_cmp t)) (r ∷ rest) ≡ option_map (λ (r : ℕ × List ℕ). r.1) (cond u (Some r) (find (λ r. r.0 == t) rest))
    by true is later = let here : is_at (nat_cmp t) r.0 ≡ true = grind (arith, nat_tests) in rw here refl
    by false is later = let other : is_at (nat_cmp t) r.0 ≡ false = grind (arith, nat_tests) in rw other later

pub reached_by_found : (t k : ℕ) (reached : List (ℕ × List ℕ)) (found : Option (ℕ × List ℕ)) → found ≡ find (λ r. r.0 == t) reached →
    is_reached_by reached t k ≡ has k (option_map_or (λ r. r.1) found [])
unfolding is_reached_by
reached_by_found t k reached found is =
    ap (λ x. has k (unwrap_or x [])) (found_reach t reached ∙ sym (ap (option_map (λ (r : ℕ × List ℕ). r.1)) is)) ∙ by found
  where
    by : (found : Option (ℕ × List ℕ)) → has k (unwrap_or (option_map (λ r. r.1) found) []) ≡ has k (option_map_or (λ r. r.1) found [])
    by None = refl
    by (Some r) = refl

-- What is marked first, and what one more round marks.
use Rattle.std.proofs.Common.{ℕ, zero, suc, ◌+◌, ◌-◌, ◌*◌, ◌≡◌, ◌<◌, ◌≤◌, ◌∙◌, Bool, true, false, List, [], ◌∷◌, All, None, Some, cond, length, get_or, refl, subst, sym, ap, arith}
use Rattle.std.specs.Prelude.{◌||◌, nat_lt}
use Rattle.std.specs.List.{filter}
use Rattle.std.specs.Option.{option_map_or}
use Rattle.std.proofs.lemmas.List.Elements.{All-head, All-tail}
use Rattle.std.proofs.lemmas.Map.Entries.{option_filter}
use Rattle.handle_table.specs.HandleMaps.{RiseWithin}
use Rattle.seq_model.proofs.Growths.{grown_is, grown_rises, keeps, still_in}
use Rattle.seq_model.proofs.Keys.{all_from_at, at, at_filter, at_within, one_that_passes, some_passes}
use Rattle.seq_model.specs.Life.{grown, has, is_named_by, is_root, live, loan_count, names_of, roots_and_named}
use Rattle.seq_model.specs.State.{Object, State, object_at}
use Rattle.plain_objects.proofs.Ended.{rises}
use Rattle.plain_objects.specs.Sweeping.{Adds, is_marked, marked}

-- two tests that agree at each entry keep the same entries
pub same_filter : {X : Type 0} (p q : X → Bool) (xs : List X) → All (λ x. p x ≡ q x) xs → filter p xs ≡ filter q xs
same_filter p q [] same = refl
same_filter {X} p q (x ∷ xs) same =
    ap (λ t. cond t (x ∷ filter p xs) (filter p xs)) (All-head (λ (y : X). p y ≡ q y) x xs same)
    ∙ ap (λ ys. cond (q x) (x ∷ ys) ys) (same_filter p q xs (All-tail (λ (y : X). p y ≡ q y) x xs same))

-- marks that show a test at each object
pub marked_by : (p : ℕ × Object → Bool) (next : ℕ) (es : List (ℕ × Object)) (marks : List Bool) → RiseWithin 1 next es → length marks + 1 ≡ next →
    ((i h : ℕ) (o : Object) → h ≡ i + 1 → i < length marks → at h es ≡ Some o → get_or marks i false ≡ p (h, o)) → marked marks es ≡ filter p es
marked_by p next es marks up long each =
    same_filter (λ e. is_marked marks e.0) p es (all_from_at (λ (e : ℕ × Object). is_marked marks e.0 ≡ p e) 1 next es (rises 1 next es up) of)
  where
    of : (h : ℕ) (o : Object) → at h es ≡ Some o → is_marked marks h ≡ p (h, o)
    of zero o found = let within : (1 ≤ 0) × (0 < next) = at_within 0 1 next es o (rises 1 next es up) found in absurd (omega (arith, within.0))
    of (suc i) o found =
        let within : (1 ≤ suc i) × (suc i < next) = at_within (suc i) 1 next es o (rises 1 next es up) found in
        each i (suc i) o (omega arith) (omega (arith, within.1, long)) found

-- the roots
pub roots_marked : (public : ℕ → ℕ) (reached : ℕ → Bool) (s : State) (first marks : List Bool) → RiseWithin 1 s.next s.objects → length first + 1 ≡ s.next → length marks ≡ length first →
    ((i : ℕ) → i < length first → get_or first i false ≡ (nat_lt 0 (public (i + 1)) || option_map_or (λ o. nat_lt 0 (loan_count o)) (object_at s (i + 1)) false)) →
    Adds reached first marks → marked marks s.objects ≡ filter (is_root public reached) s.objects
unfolding is_root
roots_marked public reached s first marks up long same kept adds =
    marked_by (is_root public reached) s.next s.objects marks up (omega (arith, long, same)) each
  where
    each : (i h : ℕ) (o : Object) → h ≡ i + 1 → i < length marks → at h s.objects ≡ Some o → get_or marks i false ≡ is_root public reached (h, o)
    each i h o is l found =
        let within : i < length first = omega (arith, l, same) in
        let here : at (i + 1) s.objects ≡ Some o = subst (λ k. at k s.objects ≡ Some o) is found in
        adds i within ∙ ap (λ t. t || reached (i + 1)) (kept i within)
        ∙ ap (λ x. (nat_lt 0 (public (i + 1)) || option_map_or (λ o. nat_lt 0 (loan_count o)) x false) || reached (i + 1)) here
        ∙ ap (λ k. (nat_lt 0 (public k) || nat_lt 0 (loan_count o)) || reached k) (sym is)

-- one more round
module _ (root : ℕ × Object → Bool) (next : ℕ) (es : List (ℕ × Object)) (up : RiseWithin 1 next es) where
  agree : {X : Type 0} (s t : Bool) (o : X) → cond s (Some o) None ≡ cond t (Some o) None → s ≡ t
  agree true true o same = refl
  agree false false o same = refl
  agree true false o same = absurd cc
  agree false true o same = absurd cc

  -- what is marked is grown, object by object
  is_grown : (n h : ℕ) (o : Object) (marks : List Bool) → marked marks es ≡ grown root es n → at h es ≡ Some o → is_marked marks h ≡ keeps root es n (h, o)
  is_grown n h o marks are found =
      let by_marks : at h (marked marks es) ≡ cond (is_marked marks h) (Some o) None =
      at_filter (λ (e : ℕ × Object). is_marked marks e.0) h 1 next es (rises 1 next es up) ∙ ap (option_filter (λ (v : Object). is_marked marks h)) found in
      let by_growth : at h (filter (keeps root es n) es) ≡ cond (keeps root es n (h, o)) (Some o) None =
      at_filter (keeps root es n) h 1 next es (rises 1 next es up) ∙ ap (option_filter (λ v. keeps root es n (h, v))) found in
      agree (is_marked marks h) (keeps root es n (h, o)) o (sym by_marks ∙ ap (at h) (are ∙ grown_is root es n) ∙ by_growth)

  -- what was named stays named
  still_named : (m h : ℕ) → is_named_by (grown root es m) h ≡ true → is_named_by (grown root es (suc m)) h ≡ true
  still_named m h named =
      let one : (k : ℕ) × (p : Object) × (at k (grown root es m) ≡ Some p) × (has h (names_of p) ≡ true) =
      one_that_passes (λ (e : ℕ × Object). has h (names_of e.1)) 1 next (grown root es m) (grown_rises root 1 next es m (rises 1 next es up)) named in
      some_passes (λ (e : ℕ × Object). has h (names_of e.1)) one.0 (grown root es (suc m)) one.1 (still_in root 1 next es (rises 1 next es up) m one.0 one.1 one.2) one.3

  either : (r s t : Bool) → (s ≡ true → t ≡ true) → ((r || s) || t) ≡ (r || t)
  either true s t more = refl
  either false true t more = sym (more refl)
  either false false t more = refl

  keeps_more : (n h : ℕ) (o : Object) → (keeps root es n (h, o) || is_named_by (grown root es n) h) ≡ keeps root es (suc n) (h, o)
  keeps_more zero h o = refl
  keeps_more (suc m) h o = either (root (h, o)) (is_named_by (grown root es m) h) (is_named_by (grown root es (suc m)) h) (still_named m h)

  pub one_round : (n : ℕ) (marks more : List Bool) → length marks + 1 ≡ next → length more ≡ length marks → marked marks es ≡ grown root es n → Adds (is_named_by (marked marks es)) marks more →
      marked more es ≡ grown root es (suc n)
  one_round n marks more long same are adds =
      marked_by (keeps root es (suc n)) next es more up (omega (arith, long, same)) each ∙ sym (grown_is root es (suc n))
    where
      each : (i h : ℕ) (o : Object) → h ≡ i + 1 → i < length more → at h es ≡ Some o → get_or more i false ≡ keeps root es (suc n) (h, o)
      each i h o is l found =
          let within : i < length marks = omega (arith, l, same) in
          let mark : get_or marks i false ≡ is_marked marks h = mark_of is in
          adds i within ∙ ap (λ t. t || is_named_by (marked marks es) (i + 1)) (mark ∙ is_grown n h o marks are found)
          ∙ ap (λ fs. keeps root es n (h, o) || is_named_by fs (i + 1)) are
          ∙ ap (λ k. keeps root es n (h, o) || is_named_by (grown root es n) k) (sym is)
          ∙ keeps_more n h o
        where
          mark_of : h ≡ i + 1 → get_or marks i false ≡ is_marked marks h
          mark_of is = let at_suc : suc i ≡ h = omega (arith, is) in ap (is_marked marks) at_suc

  -- two rounds more
  pub two_rounds : (n : ℕ) (marks more most : List Bool) → length marks + 1 ≡ next → length more ≡ length marks → length most ≡ length more → marked marks es ≡ grown root es (2 * n) →
      Adds (is_named_by (marked marks es)) marks more → Adds (is_named_by (marked more es)) more most → marked most es ≡ grown root es (2 * (n + 1))
  two_rounds n marks more most long same again are one two =
      let deeper : suc (suc (2 * n)) ≡ 2 * (n + 1) = omega arith in
      one_round (suc (2 * n)) more most (omega (arith, long, same)) again (one_round (2 * n) marks more long same are one) two ∙ ap (grown root es) deeper

  pub ten_rounds : (n : ℕ) (marks : List Bool) → n ≡ 5 → marked marks es ≡ grown root es (2 * n) → marked marks es ≡ live root es
  unfolding live
  ten_rounds n marks is are = are ∙ ap (λ k. grown root es (2 * k)) is

  -- once a round adds nothing, no later one does
  settled : (n m : ℕ) → grown root es n ≡ grown root es (suc n) → grown root es (m + n) ≡ grown root es n
  unfolding grown
  settled n zero same = let none : 0 + n ≡ n = omega arith in ap (grown root es) none
  settled n (suc m) same =
      let next : suc m + n ≡ suc (m + n) = omega arith in ap (grown root es) next ∙ ap (roots_and_named root es) (settled n m same) ∙ sym same

  pub last_round : (n : ℕ) (marks more : List Bool) → n ≤ 5 → length marks + 1 ≡ next → length more ≡ length marks → marked marks es ≡ grown root es (2 * n) → Adds (is_named_by (marked marks es)) marks more →
      marks ≡ more → marked marks es ≡ live root es
  unfolding live
  last_round n marks more few long same are adds settles =
      let again : grown root es (2 * n) ≡ grown root es (suc (2 * n)) = sym are ∙ ap (λ ms. marked ms es) settles ∙ one_round (2 * n) marks more long same are adds in
      let sum : 10 - 2 * n + 2 * n ≡ 10 = omega (arith, few) in
      are ∙ sym (settled (2 * n) (10 - 2 * n) again) ∙ ap (grown root es) sum

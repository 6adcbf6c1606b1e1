-- How the live objects grow from the roots, over any map of objects by rising handles.
use Rattle.std.proofs.Common.{ℕ, zero, suc, ◌+◌, ◌-◌, ◌≡◌, ◌≤◌, ◌∙◌, ◌⊎◌, inl, inr, Bool, true, List, [], ◌∷◌, All, Option, Some, None, refl, sym, ap, subst, arith}
use Rattle.std.specs.Prelude.{cond, ◌||◌}
use Rattle.std.specs.List.{filter}
use Rattle.std.specs.Map.{keys_of}
use Rattle.std.proofs.lemmas.Bool.{or_cases, or_left, or_right}
use Rattle.std.proofs.lemmas.List.Elements.{All-head, All-tail}
use Rattle.std.proofs.lemmas.Map.Entries.{option_filter}
use Rattle.seq_model.proofs.Came.{filtered}
use Rattle.seq_model.proofs.Handles.{lives, live_keeps}
use Rattle.seq_model.proofs.Keys.{RisesWithin, all_from_at, at, at_filter, one_that_passes, rises_filtered, some_passes}
use Rattle.seq_model.specs.Life.{grown, has, is_named_by, live, names_of}
use Rattle.seq_model.specs.State.{Object}

abbrev pub Objects : Type 0
Objects = List (ℕ × Object)

-- what passes a test stays in a filter
pub stays_in : {X : Type 0} (p : X → Bool) (x : Option X) (v : X) → x ≡ Some v → p v ≡ true → option_filter p x ≡ Some v
stays_in {X} p x v is passes = ap (option_filter p) is ∙ ap (λ t. cond t (Some v) None) passes

-- the test by which objects are kept at each depth
abbrev pub keeps : (ℕ × Object → Bool) → Objects → ℕ → ℕ × Object → Bool
keeps root objects zero entry = root entry
keeps root objects (suc n) entry = root entry || is_named_by (grown root objects n) entry.0

pub grown_is : (root : ℕ × Object → Bool) (objects : Objects) (n : ℕ) → grown root objects n ≡ filter (keeps root objects n) objects
unfolding grown
grown_is root objects zero = refl
grown_is root objects (suc n) = refl

pub grown_rises : (root : ℕ × Object → Bool) (low high : ℕ) (objects : Objects) (n : ℕ) → RisesWithin low high (keys_of objects) → RisesWithin low high (keys_of (grown root objects n))
grown_rises root low high objects n rising = subst (λ es. RisesWithin low high (keys_of es)) (sym (grown_is root objects n)) (rises_filtered (keeps root objects n) low high objects rising)

module _ (root : ℕ × Object → Bool) (low high : ℕ) (objects : Objects) (rising : RisesWithin low high (keys_of objects)) where
  -- an object that is in, and one that is put in
  pub is_in : (n h : ℕ) (o : Object) → at h (grown root objects n) ≡ Some o → (at h objects ≡ Some o) × (keeps root objects n (h, o) ≡ true)
  is_in n h o found =
      filtered (λ v. keeps root objects n (h, v)) (at h objects) o
      (sym (at_filter (keeps root objects n) h low high objects rising) ∙ ap (at h) (sym (grown_is root objects n)) ∙ found)

  pub put_in : (n h : ℕ) (o : Object) → at h objects ≡ Some o → keeps root objects n (h, o) ≡ true → at h (grown root objects n) ≡ Some o
  put_in n h o there passes =
      ap (at h) (grown_is root objects n) ∙ at_filter (keeps root objects n) h low high objects rising ∙ stays_in (λ v. keeps root objects n (h, v)) (at h objects) o there passes

  pub root_is_in : (n h : ℕ) (o : Object) → at h objects ≡ Some o → root (h, o) ≡ true → at h (grown root objects n) ≡ Some o
  root_is_in zero h o there is = put_in zero h o there is
  root_is_in (suc n) h o there is = put_in (suc n) h o there (or_left (root (h, o)) (is_named_by (grown root objects n) h) is)

  pub named_is_in : (n h k : ℕ) (o p : Object) → at k (grown root objects n) ≡ Some p → has h (names_of p) ≡ true → at h objects ≡ Some o → at h (grown root objects (suc n)) ≡ Some o
  named_is_in n h k o p holder names there =
      put_in (suc n) h o there
      (or_right (root (h, o)) (is_named_by (grown root objects n) h) (some_passes (λ entry. has h (names_of entry.1)) k (grown root objects n) p holder names))

  -- why an object is in
  pub why_in : (n h : ℕ) (o : Object) → at h (grown root objects (suc n)) ≡ Some o →
      (root (h, o) ≡ true) ⊎ ((k : ℕ) × (p : Object) × (at k (grown root objects n) ≡ Some p) × (has h (names_of p) ≡ true))
  why_in n h o found = by (or_cases (root (h, o)) (is_named_by (grown root objects n) h) (is_in (suc n) h o found).1)
    where
      by : (root (h, o) ≡ true) ⊎ (is_named_by (grown root objects n) h ≡ true) →
          (root (h, o) ≡ true) ⊎ ((k : ℕ) × (p : Object) × (at k (grown root objects n) ≡ Some p) × (has h (names_of p) ≡ true))
      by (inl is) = inl is
      by (inr named) = inr (one_that_passes (λ entry. has h (names_of entry.1)) low high (grown root objects n) (grown_rises root low high objects n rising) named)

  -- one step deeper all stay in
  pub still_in : (n h : ℕ) (o : Object) → at h (grown root objects n) ≡ Some o → at h (grown root objects (suc n)) ≡ Some o
  still_in zero h o found = let now : (at h objects ≡ Some o) × (root (h, o) ≡ true) = is_in zero h o found in root_is_in (suc zero) h o now.0 now.1
  still_in (suc n) h o found = by (λ k p. still_in n k p) (why_in n h o found)
    where
      there : at h objects ≡ Some o
      there = (is_in (suc n) h o found).0

      by : ((k : ℕ) (p : Object) → at k (grown root objects n) ≡ Some p → at k (grown root objects (suc n)) ≡ Some p) →
          (root (h, o) ≡ true) ⊎ ((k : ℕ) × (p : Object) × (at k (grown root objects n) ≡ Some p) × (has h (names_of p) ≡ true)) → at h (grown root objects (suc (suc n))) ≡ Some o
      by deeper (inl is) = root_is_in (suc (suc n)) h o there is
      by deeper (inr (k, p, holder, names)) = named_is_in (suc n) h k o p (deeper k p holder) names there

  pub in_deeper : (n more h : ℕ) (o : Object) → at h (grown root objects n) ≡ Some o → at h (grown root objects (more + n)) ≡ Some o
  in_deeper n zero h o found = let same : 0 + n ≡ n = omega arith in subst (λ m. at h (grown root objects m) ≡ Some o) (sym same) found
  in_deeper n (suc more) h o found =
      let next : suc more + n ≡ suc (more + n) = omega arith in
      subst (λ m. at h (grown root objects m) ≡ Some o) (sym next) (still_in (more + n) h o (in_deeper n more h o found))

  pub in_within : (n m h : ℕ) (o : Object) → n ≤ m → at h (grown root objects n) ≡ Some o → at h (grown root objects m) ≡ Some o
  in_within n m h o less found =
      let sum : m - n + n ≡ m = omega (arith, less) in
      subst (λ m. at h (grown root objects m) ≡ Some o) sum (in_deeper n (m - n) h o found)

  -- what lives, and why
  pub lives_at : (h : ℕ) (o : Object) → at h (live root objects) ≡ Some o → at h (grown root objects 10) ≡ Some o
  unfolding live
  lives_at h o found = found

  pub lives_from : (h : ℕ) (o : Object) → at h (grown root objects 10) ≡ Some o → at h (live root objects) ≡ Some o
  unfolding live
  lives_from h o found = found

  -- the live objects rise
  pub live_rises : RisesWithin low high (keys_of (live root objects))
  live_rises = subst (λ es. RisesWithin low high (keys_of es)) (sym (live_keeps root objects)) (rises_filtered (lives root objects) low high objects rising)

  put_among : (n h : ℕ) (o : Object) → at h (live root objects) ≡ Some o → keeps root (live root objects) n (h, o) ≡ true → at h (grown root (live root objects) n) ≡ Some o
  put_among n h o there passes =
      ap (at h) (grown_is root (live root objects) n) ∙ at_filter (keeps root (live root objects) n) h low high (live root objects) live_rises
      ∙ stays_in (λ v. keeps root (live root objects) n (h, v)) (at h (live root objects)) o there passes

  -- the live objects grow among themselves as they did among all
  pub again_in : (n h : ℕ) (o : Object) → n ≤ 10 → at h (grown root objects n) ≡ Some o → at h (grown root (live root objects) n) ≡ Some o
  again_in zero h o few found = put_among zero h o (lives_from h o (in_within zero 10 h o few found)) (is_in zero h o found).1
  again_in (suc n) h o few found = by (λ k p. again_in n k p (omega (arith, few))) (why_in n h o found)
    where
      alive : at h (live root objects) ≡ Some o
      alive = lives_from h o (in_within (suc n) 10 h o few found)

      by : ((k : ℕ) (p : Object) → at k (grown root objects n) ≡ Some p → at k (grown root (live root objects) n) ≡ Some p) →
          (root (h, o) ≡ true) ⊎ ((k : ℕ) × (p : Object) × (at k (grown root objects n) ≡ Some p) × (has h (names_of p) ≡ true)) → at h (grown root (live root objects) (suc n)) ≡ Some o
      by shallower (inl is) = put_among (suc n) h o alive (or_left (root (h, o)) (is_named_by (grown root (live root objects) n) h) is)
      by shallower (inr (k, p, holder, names)) =
          put_among (suc n) h o alive
          (or_right (root (h, o)) (is_named_by (grown root (live root objects) n) h)
          (some_passes (λ entry. has h (names_of entry.1)) k (grown root (live root objects) n) p (shallower k p holder) names))

-- a filter that all pass changes nothing
all_pass : {X : Type 0} (p : X → Bool) (xs : List X) → All (λ x. p x ≡ true) xs → filter p xs ≡ xs
all_pass p [] passes = refl
all_pass {X} p (x ∷ xs) passes =
    ap (λ t. cond t (x ∷ filter p xs) (filter p xs)) (All-head (λ (y : X). p y ≡ true) x xs passes) ∙ ap (λ ys. x ∷ ys) (all_pass p xs (All-tail (λ (y : X). p y ≡ true) x xs passes))

-- those that live live without the others
pub live_twice : (root : ℕ × Object → Bool) (low high : ℕ) (objects : Objects) → RisesWithin low high (keys_of objects) → live root (live root objects) ≡ live root objects
live_twice root low high objects rising = live_keeps root (live root objects) ∙ all_pass (lives root (live root objects)) (live root objects) all
  where
    live_rising : RisesWithin low high (keys_of (live root objects))
    live_rising = live_rises root low high objects rising

    each : (h : ℕ) (o : Object) → at h (live root objects) ≡ Some o → lives root (live root objects) (h, o) ≡ true
    each h o found =
        (is_in root low high (live root objects) live_rising 10 h o
        (again_in root low high objects rising 10 h o (omega arith) (lives_at root low high objects rising h o found))).1

    all : All (λ entry. lives root (live root objects) entry ≡ true) (live root objects)
    all = all_from_at (λ (entry : ℕ × Object). lives root (live root objects) entry ≡ true) low high (live root objects) live_rising each

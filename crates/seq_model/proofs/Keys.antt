-- Maps by numbers whose keys rise.
use Rattle.std.proofs.Common.{ℕ, ◌+◌, ◌≡◌, ◌<◌, ◌≤◌, ◌∙◌, Bool, true, false, List, [], ◌∷◌, ◌++◌, All, Option, Some, None, map, refl, sym, ap, arith}
use Rattle.std.specs.Prelude.{cond, ◌||◌}
use Rattle.std.specs.BTreeMap.{is_at}
use Rattle.std.specs.List.{filter, list_any}
use Rattle.std.specs.Map.{keys_of, lookup, set_value}
use Rattle.std.specs.Option.{option_map, option_or}
use Rattle.std.specs.Ordering.{nat_cmp}
use Rattle.std.proofs.lemmas.Bool.{or_left, or_right}
use Rattle.std.proofs.lemmas.Bool.Decides.{nat_tests}
use Rattle.std.proofs.lemmas.List.Elements.{All-nil, All-cons, All-weaker}
use Rattle.std.proofs.lemmas.Map.Entries.{option_filter}

-- the value at a key
abbrev pub at : {X : Type 0} → ℕ → List (ℕ × X) → Option X
at h es = lookup (is_at (nat_cmp h)) es

pub key_here : (h : ℕ) → is_at (nat_cmp h) h ≡ true
key_here h = grind (arith, nat_tests)

pub key_is : (h k : ℕ) → is_at (nat_cmp h) k ≡ true → h ≡ k
key_is h k e = grind (arith, nat_tests)

pub key_is_other : (h k : ℕ) → (h ≡ k → ⊥) → is_at (nat_cmp h) k ≡ false
key_is_other h k e = grind (arith, nat_tests)

-- the keys rise, from low on, and below high
abbrev pub RisesWithin : ℕ → ℕ → List ℕ → Type 0
RisesWithin low high [] = low ≤ high
RisesWithin low high (k ∷ ks) = (low ≤ k) × RisesWithin (k + 1) high ks

pub rises_from_lower : (low lower high : ℕ) (ks : List ℕ) → lower ≤ low → RisesWithin low high ks → RisesWithin lower high ks
rises_from_lower low lower high [] less rises = omega arith
rises_from_lower low lower high (k ∷ ks) less rises = (omega (arith, rises.0), rises.1)

pub rises_to_higher : (low high higher : ℕ) (ks : List ℕ) → high ≤ higher → RisesWithin low high ks → RisesWithin low higher ks
rises_to_higher low high higher [] more rises = omega arith
rises_to_higher low high higher (k ∷ ks) more rises = (rises.0, rises_to_higher (k + 1) high higher ks more rises.1)

pub rises_with_next : (low high : ℕ) (ks : List ℕ) → RisesWithin low high ks → RisesWithin low (high + 1) (ks ++ high ∷ [])
rises_with_next low high [] rises = (rises, omega arith)
rises_with_next low high (k ∷ ks) rises = (rises.0, rises_with_next (k + 1) high ks rises.1)

pub rises_up : (low high : ℕ) (ks : List ℕ) → RisesWithin low high ks → low ≤ high
rises_up low high [] rises = rises
rises_up low high (k ∷ ks) rises = let up : k + 1 ≤ high = rises_up (k + 1) high ks rises.1 in omega (arith, rises.0)

pub rises_filtered : {X : Type 0} (p : ℕ × X → Bool) (low high : ℕ) (es : List (ℕ × X)) → RisesWithin low high (keys_of es) → RisesWithin low high (keys_of (filter p es))
rises_filtered p low high [] rises = rises
rises_filtered p low high (e ∷ es) rises =
    by (p e) (rises_filtered p (e.0 + 1) high es rises.1)
  where
    by : (q : Bool) → RisesWithin (e.0 + 1) high (keys_of (filter p es)) → RisesWithin low high (keys_of (cond q (e ∷ filter p es) (filter p es)))
    by true rest = (rises.0, rest)
    by false rest = rises_from_lower (e.0 + 1) low high (keys_of (filter p es)) (omega (arith, rises.0)) rest

-- what stands at a key stands within
pub at_within : {X : Type 0} (h low high : ℕ) (es : List (ℕ × X)) (v : X) → RisesWithin low high (keys_of es) → at h es ≡ Some v → (low ≤ h) × (h < high)
at_within h low high [] v rises found = absurd cc
at_within h low high (e ∷ es) v rises found = by (is_at (nat_cmp h) e.0) refl (λ x. at_within h (e.0 + 1) high es v rises.1 x)
  where
    by : (t : Bool) → is_at (nat_cmp h) e.0 ≡ t → (at h es ≡ Some v → (e.0 + 1 ≤ h) × (h < high)) → (low ≤ h) × (h < high)
    by true is rest =
        let same : h ≡ e.0 = key_is h e.0 is in
        let up : e.0 + 1 ≤ high = rises_up (e.0 + 1) high (keys_of es) rises.1 in
        (omega (arith, rises.0), omega arith)
    by false is rest =
        let there : at h es ≡ Some v = rw is at found in
        let within : (e.0 + 1 ≤ h) × (h < high) = rest there in
        (omega (arith, rises.0, within.0), within.1)

-- below the lowest and from the highest on nothing stands
pub nothing_outside : {X : Type 0} (h low high : ℕ) (es : List (ℕ × X)) → RisesWithin low high (keys_of es) → (low ≤ h → h < high → ⊥) → at h es ≡ None
nothing_outside h low high es rises outside = by (at h es) refl
  where
    by : (o : Option _) → at h es ≡ o → o ≡ None
    by None is = refl
    by (Some v) is = let within : (low ≤ h) × (h < high) = at_within h low high es v rises is in absurd (outside within.0 within.1)

pub at_filter : {X : Type 0} (p : ℕ × X → Bool) (h low high : ℕ) (es : List (ℕ × X)) → RisesWithin low high (keys_of es) →
    at h (filter p es) ≡ option_filter (λ v. p (h, v)) (at h es)
at_filter p h low high [] rises = refl
at_filter {X} p h low high (e ∷ es) rises =
    by (is_at (nat_cmp h) e.0) refl (p e) refl (at_filter p h (e.0 + 1) high es rises.1)
  where
    by : (t : Bool) → is_at (nat_cmp h) e.0 ≡ t → (q : Bool) → p e ≡ q → at h (filter p es) ≡ option_filter (λ v. p (h, v)) (at h es) →
        at h (cond q (e ∷ filter p es) (filter p es)) ≡ option_filter (λ v. p (h, v)) (cond t (Some e.1) (at h es))
    by true is true passes rest =
        let same : p (h, e.1) ≡ true = ap (λ k. p (k, e.1)) (key_is h e.0 is) ∙ passes in
        rw is (rw same refl)
    by true is false passes rest =
        let same : p (h, e.1) ≡ false = ap (λ k. p (k, e.1)) (key_is h e.0 is) ∙ passes in
        let key : h ≡ e.0 = key_is h e.0 is in
        let none : at h es ≡ None = nothing_outside h (e.0 + 1) high es rises.1 (λ low _. omega (arith, low)) in
        rest ∙ ap (option_filter (λ v. p (h, v))) none ∙ (rw same refl)
    by false is true passes rest = rw is rest
    by false is false passes rest = rest

pub at_append : {X : Type 0} (h : ℕ) (es fs : List (ℕ × X)) → at h (es ++ fs) ≡ option_or (at h es) (at h fs)
at_append h [] fs = refl
at_append h (e ∷ es) fs = by (is_at (nat_cmp h) e.0) (at_append h es fs)
  where
    by : (t : Bool) → at h (es ++ fs) ≡ option_or (at h es) (at h fs) → cond t (Some e.1) (at h (es ++ fs)) ≡ option_or (cond t (Some e.1) (at h es)) (at h fs)
    by true rest = refl
    by false rest = rest

pub at_map : {X Y : Type 0} (f : X → Y) (h : ℕ) (es : List (ℕ × X)) → at h (map (λ e. (e.0, f e.1)) es) ≡ option_map f (at h es)
at_map f h [] = refl
at_map f h (e ∷ es) = by (is_at (nat_cmp h) e.0) (at_map f h es)
  where
    by : (t : Bool) → at h (map (λ e. (e.0, f e.1)) es) ≡ option_map f (at h es) →
        cond t (Some (f e.1)) (at h (map (λ e. (e.0, f e.1)) es)) ≡ option_map f (cond t (Some e.1) (at h es))
    by true rest = refl
    by false rest = rest

-- a value that was changed, and the others
pub at_changed : {X : Type 0} (h : ℕ) (es : List (ℕ × X)) (v w : X) → at h es ≡ Some v → at h (set_value (is_at (nat_cmp h)) es w) ≡ Some w
at_changed h [] v w found = absurd cc
at_changed h (e ∷ es) v w found = by (is_at (nat_cmp h) e.0) refl (λ x. at_changed h es v w x)
  where
    by : (t : Bool) → is_at (nat_cmp h) e.0 ≡ t → (at h es ≡ Some v → at h (set_value (is_at (nat_cmp h)) es w) ≡ Some w) →
        at h (cond t ((e.0, w) ∷ es) (e ∷ set_value (is_at (nat_cmp h)) es w)) ≡ Some w
    by true is rest = rw is refl
    by false is rest = let there : at h es ≡ Some v = rw is at found in rw is (rest there)

pub at_unchanged : {X : Type 0} (h k : ℕ) (es : List (ℕ × X)) (w : X) → (k ≡ h → ⊥) → at k (set_value (is_at (nat_cmp h)) es w) ≡ at k es
at_unchanged h k [] w apart = refl
at_unchanged h k (e ∷ es) w apart = by (is_at (nat_cmp h) e.0) refl (at_unchanged h k es w apart)
  where
    by : (t : Bool) → is_at (nat_cmp h) e.0 ≡ t → at k (set_value (is_at (nat_cmp h)) es w) ≡ at k es →
        at k (cond t ((e.0, w) ∷ es) (e ∷ set_value (is_at (nat_cmp h)) es w)) ≡ at k (e ∷ es)
    by true is rest =
        let same : h ≡ e.0 = key_is h e.0 is in
        let other : is_at (nat_cmp k) e.0 ≡ false = key_is_other k e.0 (λ x. apart (x ∙ sym same)) in
        rw other refl
    by false is rest = ap (λ o. cond (is_at (nat_cmp k) e.0) (Some e.1) o) rest

-- behind an entry only higher keys stand
pub at_tail : {X : Type 0} (h high : ℕ) (e : ℕ × X) (es : List (ℕ × X)) (v : X) → RisesWithin (e.0 + 1) high (keys_of es) → at h es ≡ Some v → at h (e ∷ es) ≡ Some v
at_tail h high e es v rises found =
    let within : (e.0 + 1 ≤ h) × (h < high) = at_within h (e.0 + 1) high es v rises found in
    let other : is_at (nat_cmp h) e.0 ≡ false = key_is_other h e.0 (λ x. omega (arith, within.0, x)) in
    rw other found

-- each entry stands at its key
pub entries_are_at : {X : Type 0} (low high : ℕ) (es : List (ℕ × X)) → RisesWithin low high (keys_of es) → All (λ e. at e.0 es ≡ Some e.1) es
entries_are_at {X} low high [] rises = All-nil (λ (e : ℕ × X). at e.0 [] ≡ Some e.1)
entries_are_at {X} low high (e ∷ es) rises =
    All-cons (λ (x : ℕ × X). at x.0 (e ∷ es) ≡ Some x.1) e es (ap (λ t. cond t (Some e.1) (at e.0 es)) (key_here e.0))
    (All-weaker (λ (x : ℕ × X). at x.0 es ≡ Some x.1) (λ (x : ℕ × X). at x.0 (e ∷ es) ≡ Some x.1) (λ x here. at_tail x.0 high e es x.1 rises.1 here) es (entries_are_at (e.0 + 1) high es rises.1))

-- what holds at each key holds of each entry
pub all_from_at : {X : Type 0} (P : ℕ × X → Type 0) (low high : ℕ) (es : List (ℕ × X)) → RisesWithin low high (keys_of es) → ((h : ℕ) (v : X) → at h es ≡ Some v → P (h, v)) → All P es
all_from_at {X} P low high es rises each =
    All-weaker (λ (e : ℕ × X). at e.0 es ≡ Some e.1) P (λ e here. each e.0 e.1 here) es (entries_are_at low high es rises)

-- a test that some entry passes, and one that passes it
pub some_passes : {X : Type 0} (p : ℕ × X → Bool) (h : ℕ) (es : List (ℕ × X)) (v : X) → at h es ≡ Some v → p (h, v) ≡ true → list_any p es ≡ true
some_passes p h [] v found passes = absurd cc
some_passes {X} p h (e ∷ es) v found passes = by (is_at (nat_cmp h) e.0) refl (λ x. some_passes p h es v x passes)
  where
    by : (t : Bool) → is_at (nat_cmp h) e.0 ≡ t → (at h es ≡ Some v → list_any p es ≡ true) → (p e || list_any p es) ≡ true
    by true is rest =
        let value : Some e.1 ≡ Some v = rw is at found in
        let same : e.1 ≡ v = cc in
        or_left (p e) (list_any p es) (sym (ap (λ k. p (k, e.1)) (key_is h e.0 is)) ∙ ap (λ (x : X). p (h, x)) same ∙ passes)
    by false is rest = let there : at h es ≡ Some v = rw is at found in or_right (p e) (list_any p es) (rest there)

pub one_that_passes : {X : Type 0} (p : ℕ × X → Bool) (low high : ℕ) (es : List (ℕ × X)) → RisesWithin low high (keys_of es) → list_any p es ≡ true →
    (h : ℕ) × (v : X) × (at h es ≡ Some v) × (p (h, v) ≡ true)
one_that_passes p low high [] rises passes = absurd cc
one_that_passes {X} p low high (e ∷ es) rises passes =
    by (p e) refl (λ x. one_that_passes p (e.0 + 1) high es rises.1 x)
  where
    by : (t : Bool) → p e ≡ t → (list_any p es ≡ true → (h : ℕ) × (v : X) × (at h es ≡ Some v) × (p (h, v) ≡ true)) →
        (h : ℕ) × (v : X) × (at h (e ∷ es) ≡ Some v) × (p (h, v) ≡ true)
    by true is rest = (e.0, e.1, ap (λ t. cond t (Some e.1) (at e.0 es)) (key_here e.0), is)
    by false is rest =
        let later : list_any p es ≡ true = rw is at passes in
        let one : (h : ℕ) × (v : X) × (at h es ≡ Some v) × (p (h, v) ≡ true) = rest later in
        (one.0, one.1, at_tail one.0 high e es one.1 rises.1 one.2, one.3)

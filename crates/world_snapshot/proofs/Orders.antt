-- The primitive at a place, where the places rise.
use Rattle.std.proofs.Common.{◌≡◌, ℕ, zero, suc, ◌+◌, ◌-◌, ◌<◌, ◌≤◌, Bool, true, false, List, [], ◌∷◌, Some, None, arith, refl, ap, sym, ◌∙◌, length, get_or, lt_of_not-le}
use Rattle.std.specs.List.{find}
use Rattle.std.proofs.lemmas.List.{get_or_default}
use Rattle.std.proofs.lemmas.Bool.Decides.{nat_tests}
use mathlib.Core.Logic.{dite}
use native.Mathlib.Decide.{dec_le}
use Rattle.fx_math.specs.declared.scene.Place.{Place}
use Rattle.fx_math.specs.declared.scene.Primitive.{Primitive}
use Rattle.picture_model.proofs.HitOrder.{is_lower-trans}
use Rattle.picture_model.specs.Hits.{is_lower}
use Rattle.picture_model.specs.Shading.{is_same_place, primitive_at}
use Rattle.world_snapshot.specs.Rising.{AreLower, AreNotLower, AreRising}

-- ---- places
-- a lower place is another one
lower_apart : (a b : Place) → is_lower a b ≡ true → is_same_place a b ≡ false
unfolding is_lower is_same_place
lower_apart a b l = grind (arith, nat_tests)

-- what is lower than a place is lower than the same one
lower_same : (a b c : Place) → is_lower a b ≡ true → is_same_place b c ≡ true → is_lower a c ≡ true
unfolding is_lower is_same_place
lower_same a b c l s = grind (arith, nat_tests)

-- ---- lists
find_none : {X : Type 0} (test : X → Bool) (xs : List X) → ((i : ℕ) (d : X) → i < length xs → test (get_or xs i d) ≡ false) → find test xs ≡ None
find_none test [] none = refl
find_none test (x ∷ xs) none = rw (none 0 x (omega arith)) (find_none test xs (λ i d l. none (suc i) d (omega arith)))

find_at : {X : Type 0} (test : X → Bool) (xs : List X) (i : ℕ) (d : X) → i < length xs → ((k : ℕ) (d : X) → k < i → test (get_or xs k d) ≡ false) → test (get_or xs i d) ≡ true →
    find test xs ≡ Some (get_or xs i d)
find_at test [] i d l none is = absurd (omega arith)
find_at test (x ∷ xs) zero d l none is = rw is refl
find_at test (x ∷ xs) (suc i) d l none is = rw (none 0 d (omega arith)) (find_at test xs i d (omega arith) (λ k e m. none (suc k) e (omega arith)) is)

-- ---- primitives
-- a test is false where it would be wrong
false_by : (b : Bool) → (b ≡ true → ⊥) → b ≡ false
false_by true wrong = absurd (wrong refl)
false_by false wrong = refl

-- the primitive with a number, whatever stands behind the last
same_at : (ps : List Primitive) (i m : ℕ) (d x : Primitive) → i ≡ m → m < length ps → x ≡ get_or ps m x → get_or ps i d ≡ x
same_at ps i m d x i_is within is = ap (λ k. get_or ps k d) i_is ∙ get_or_default ps m d x within ∙ sym is

-- one more primitive stands higher than those before it
pub rising_more : (ps : List Primitive) (n : ℕ) (a b : Primitive) → 1 ≤ n → n < length ps → a ≡ get_or ps (n - 1) a → b ≡ get_or ps n b →
    is_lower a.place b.place ≡ true → AreRising ps n → AreRising ps (n + 1)
rising_more ps n a b some within a_is b_is next rising i j d l m = dite (dec_le n j)
    (λ le. last le)
    (λ apart. rising i j d l (lt_of_not-le apart))
  where
    last : n ≤ j → is_lower (get_or ps i d).place (get_or ps j d).place ≡ true
    last le =
        let at_j : get_or ps j d ≡ b = same_at ps j n d b (omega (arith, le, m)) within b_is in
        let at_a : get_or ps (n - 1) d ≡ a = same_at ps (n - 1) (n - 1) d a refl (omega (arith, within, some)) a_is in
        dite (dec_le (n - 1) i)
        (λ top. (λ k. is_lower (same_at ps i (n - 1) d a (omega (arith, top, l, m)) (omega (arith, within, some)) a_is k).place (at_j k).place) ∙ next)
        (λ low. ap (λ (p : Primitive). is_lower (get_or ps i d).place p.place) at_j
        ∙ is_lower-trans (get_or ps i d).place a.place b.place
        (ap (λ (p : Primitive). is_lower (get_or ps i d).place p.place) (sym at_a) ∙ rising i (n - 1) d (lt_of_not-le low) (omega (arith, some))) next)

-- what stands up to a lower primitive is lower
pub lower_more : (ps : List Primitive) (place : Place) (m : ℕ) (x : Primitive) → AreRising ps (length ps) → m < length ps → x ≡ get_or ps m x → is_lower x.place place ≡ true →
    AreLower ps (m + 1) place
lower_more ps place m x rising within is lower i d l = dite (dec_le m i)
    (λ le. ap (λ (p : Primitive). is_lower p.place place) (same_at ps i m d x (omega (arith, le, l)) within is) ∙ lower)
    (λ apart.
    is_lower-trans (get_or ps i d).place x.place place
    (ap (λ (p : Primitive). is_lower (get_or ps i d).place p.place) (sym (same_at ps m m d x refl within is)) ∙ rising i m d (lt_of_not-le apart) within) lower)

-- what stands from one on that is not lower is not
pub not_lower_more : (ps : List Primitive) (place : Place) (m : ℕ) (x : Primitive) → AreRising ps (length ps) → m < length ps → x ≡ get_or ps m x → is_lower x.place place ≡ false →
    AreNotLower ps m place
not_lower_more ps place m x rising within is higher i d le l = dite (dec_le i m)
    (λ ge. ap (λ (p : Primitive). is_lower p.place place) (same_at ps i m d x (omega (arith, le, ge)) within is) ∙ higher)
    (λ apart.
    false_by (is_lower (get_or ps i d).place place) (λ lower.
    let below : is_lower x.place (get_or ps i d).place ≡ true =
    ap (λ (p : Primitive). is_lower p.place (get_or ps i d).place) (sym (same_at ps m m d x refl within is)) ∙ rising m i d (lt_of_not-le apart) l in
    let wrong : is_lower x.place place ≡ true = is_lower-trans x.place (get_or ps i d).place place below lower in
    let no : true ≡ false = sym wrong ∙ higher in cc))

-- the primitive at a place stands behind those with lower places
pub found_at : (ps : List Primitive) (place : Place) (n : ℕ) (x : Primitive) → n < length ps → x ≡ get_or ps n x → AreLower ps n place → is_same_place x.place place ≡ true →
    primitive_at ps place ≡ Some x
found_at ps place n x within is lower same =
    find_at (λ p. is_same_place p.place place) ps n x within (λ k d l. lower_apart (get_or ps k d).place place (lower k d l))
    (ap (λ (p : Primitive). is_same_place p.place place) (sym is) ∙ same)
    ∙ ap Some (sym is)

-- where that is another one there is none
pub found_none : (ps : List Primitive) (place : Place) (n : ℕ) (x : Primitive) → AreRising ps (length ps) → n < length ps → x ≡ get_or ps n x →
    AreLower ps n place → AreNotLower ps n place → is_same_place x.place place ≡ false → primitive_at ps place ≡ None
found_none ps place n x rising within is lower higher other = find_none (λ p. is_same_place p.place place) ps (λ i d l. dite (dec_le n i)
    (λ le. dite (dec_le i n)
    (λ ge. ap (λ (p : Primitive). is_same_place p.place place) (same_at ps i n d x (omega (arith, le, ge)) within is) ∙ other)
    (λ apart.
    false_by (is_same_place (get_or ps i d).place place) (λ same.
    let wrong : is_lower (get_or ps n d).place place ≡ true = lower_same (get_or ps n d).place (get_or ps i d).place place (rising n i d (lt_of_not-le apart) l) same in
    let not : is_lower (get_or ps n d).place place ≡ false = higher n d (omega arith) within in
    let no : true ≡ false = sym wrong ∙ not in cc)))
    (λ apart. lower_apart (get_or ps i d).place place (lower i d (lt_of_not-le apart))))

-- nor where all have lower places
pub found_nowhere : (ps : List Primitive) (place : Place) (n : ℕ) → length ps ≤ n → AreLower ps n place → primitive_at ps place ≡ None
found_nowhere ps place n all lower = find_none (λ p. is_same_place p.place place) ps (λ i d l. lower_apart (get_or ps i d).place place (lower i d (omega (arith, l, all))))

-- How a flight ends, and what it leaves.
use Rattle.std.proofs.Common.{◌≡◌, ◌==◌, ◌&&◌, not, ℕ, zero, suc, ◌+◌, ◌<◌, Bool, cond, List, [], ◌∷◌, ◌++◌, length, get_or, set, take, drop, map, Some, if◌then◌else◌, arith, refl, sym, ap, subst, ◌∙◌, inl, inr}
use Rattle.std.proofs.lemmas.Bool.{cases_eq}
use Rattle.std.proofs.lemmas.List.{drop-drop, drop-set-lt, get_or-drop, get_or-set_other, get_or-set_same, get_or-take, length-take-le}
use Rattle.std.proofs.lemmas.List.Sums.{sum_by-cons}
use Rattle.std.proofs.lemmas.Option.{slice_get-get_or}
use Rattle.std.specs.List.{count_by, remove}
use Rattle.frame_future.specs.declared.phase.Ended.{Ended}
use Rattle.frame_future.specs.Ends.{AreAlike, Ends, EndsAt, IsAlike, IsLast, StayOpen, StaysOpen}
use Rattle.frame_future.specs.Flights.{Flying, awaited, is_stopped, looked_at, HasEnded}
use Rattle.frame_future.specs.Future.{Finished, Future, finished, is_flight_of, IsKept, Rising}

abbrev future : List Flying → List Finished → Future
future flights pictures = record { flights = flights; pictures = pictures }

-- where the rests are the same, so are their first elements
pub same_at : (xs ys : List Flying) (i : ℕ) (d : Flying) → drop i xs ≡ drop i ys → get_or xs i d ≡ get_or ys i d
same_at xs ys i d same =
    let e : i + 0 ≡ i = omega arith in
    ap (λ k. get_or xs k d) (sym e) ∙ sym (get_or-drop i xs 0 d) ∙ ap (λ zs. get_or zs 0 d) same ∙ get_or-drop i ys 0 d ∙ ap (λ k. get_or ys k d) e

-- the flight at a place was the last that was looked at
pub ends_at : (after : ℕ) (old now : List Flying) (place : ℕ) (f g : Flying) → place < length old → length now ≡ length old → drop place now ≡ drop place old
    → f ≡ get_or now place f → StayOpen after place old now → IsLast after f g → EndsAt after old (set now place g) place
ends_at after old now place f g within count same here stay last = record {
  last = f;
  now = g;
  within = within;
  there = here ∙ same_at now old place f same;
  here = sym (get_or-set_same now place g g (omega (arith, within, count)));
  ends = last;
  earlier = λ k d l. subst (λ h. StaysOpen after (get_or old k d) h) (sym (get_or-set_other now place k g d (λ e. omega (arith, e, l)))) (stay k d l);
  behind = drop-set-lt (place + 1) now place g (omega arith) ∙ sym (drop-drop 1 place now) ∙ ap (drop 1) same ∙ drop-drop 1 place old;
}

-- flights that are alike, with one that is alike set
pub alike_set : (old now : List Flying) (place : ℕ) (f g : Flying) → place < length now → f ≡ get_or old place f → length now ≡ length old → IsAlike f g → AreAlike old now
    → AreAlike old (set now place g)
alike_set old now place f g within here count alike all k d l = elim (cases_eq k place) [
  | inl same ↦
      let there : place < length old = omega (arith, within, count) in
      let both : Some (get_or old place d) ≡ Some f = sym (slice_get-get_or old place d there) ∙ slice_get-get_or old place f there ∙ ap Some (sym here) in
      let at : get_or old place d ≡ f = cc in
      subst (λ n. IsAlike (get_or old n d) (get_or (set now place g) n d)) (sym same)
      (subst (λ h. IsAlike (get_or old place d) h) (sym (get_or-set_same now place g d within)) (subst (λ h. IsAlike h g) (sym at) alike))
  | inr apart ↦ subst (λ h. IsAlike (get_or old k d) h) (sym (get_or-set_other now place k g d apart)) (all k d l)
]

-- they count as much, and have the same tickets
pub counts : (p : Flying → Bool) (old now : List Flying) → length now ≡ length old → ((k : ℕ) (d : Flying) → k < length old → p (get_or now k d) ≡ p (get_or old k d))
    → count_by p now ≡ count_by p old
counts p [] [] count same = refl
counts p [] (g ∷ now) count same = absurd (omega (arith, count))
counts p (f ∷ old) [] count same = absurd (omega (arith, count))
counts p (f ∷ old) (g ∷ now) count same =
    let first : p g ≡ p f = same 0 f (omega arith) in
    let rest = counts p old now (omega (arith, count)) (λ k d l. same (suc k) d (omega (arith, l))) in
    sum_by-cons (λ h. cond (p h) 1 0) g now ∙ (λ i. cond (first i) 1 0 + rest i) ∙ sym (sum_by-cons (λ h. cond (p h) 1 0) f old)

tickets : (old now : List Flying) → length now ≡ length old → ((k : ℕ) (d : Flying) → k < length old → (get_or now k d).ticket ≡ (get_or old k d).ticket)
    → map (λ (h : Flying). h.ticket) now ≡ map (λ (h : Flying). h.ticket) old
tickets [] [] count same = refl
tickets [] (g ∷ now) count same = absurd (omega (arith, count))
tickets (f ∷ old) [] count same = absurd (omega (arith, count))
tickets (f ∷ old) (g ∷ now) count same =
    let first : g.ticket ≡ f.ticket = same 0 f (omega arith) in
    let rest = tickets old now (omega (arith, count)) (λ k d l. same (suc k) d (omega (arith, l))) in
    (λ i. first i ∷ rest i)

pub kept-alike : (old now : List Flying) (pictures : List Finished) → length now ≡ length old → AreAlike old now → IsKept (future old pictures) → IsKept (future now pictures)
kept-alike old now pictures count alike kept = record {
  rising = subst Rising (sym (tickets old now count (λ k d l. (alike k d l).ticket))) kept.rising;
  single = λ frame.
      let same = counts (is_flight_of frame) old now count (λ k d l i. ((alike k d l).frame i == frame) && not ((alike k d l).stop i)) in
      let was = kept.single frame in
      omega (arith, same, was);
}

-- the flight that is taken out is the one that was looked at last
pub is_now : (after : ℕ) (old now : List Flying) (place : ℕ) (flight : Flying) → length now ≡ length old → (e : EndsAt after old now place) → flight ≡ get_or now place flight
    → flight ≡ looked_at (awaited e.last) e.last
is_now after old now place flight count e here =
    let within : place < length now = omega (arith, e.within, count) in
    let both : Some flight ≡ Some e.now = ap Some here ∙ sym (slice_get-get_or now place flight within) ∙ slice_get-get_or now place e.now within ∙ ap Some (sym e.here) in
    let same : flight ≡ e.now = cc in
    same ∙ e.ends.looked

-- what it leaves
pub ends : (after : ℕ) (old : Future) (now : List Flying) (place : ℕ) (flight : Flying) (pictures : List Finished) (ended : Ended) → length now ≡ length old.flights
    → EndsAt after old.flights now place → flight ≡ get_or now place flight → ended.ticket ≡ flight.ticket → ended.left ≡ is_stopped flight
    → pictures ≡ (if is_stopped flight then old.pictures else old.pictures ++ finished flight ∷ [])
    → Ends after old (future (remove now place) pictures) ended
ends after old now place flight pictures ended count e here ticket left shown =
    let same = is_now after old.flights now place flight count e here in
    let next : suc place ≡ place + 1 = omega arith in
    record {
      place = place;
      looked = take place now;
      last = e.last;
      there = slice_get-get_or old.flights place e.last e.within ∙ ap Some (sym e.there);
      above = e.ends.above;
      earlier = λ k d l. subst (λ h. StaysOpen after (get_or old.flights k d) h) (sym (get_or-take place now k d l)) (e.earlier k d l);
      count = length-take-le place now (omega (arith, e.within, count));
      shown = subst HasEnded e.ends.looked e.ends.shown;
      rises = e.ends.rises;
      alone = e.ends.alone;
      ticket = ticket ∙ ap (λ (h : Flying). h.ticket) same;
      left = left ∙ ap is_stopped same;
      flights = ap (λ n. take place now ++ drop n now) next ∙ ap (λ zs. take place now ++ zs) e.behind;
      pictures = shown ∙ ap (λ h. if is_stopped h then old.pictures else old.pictures ++ finished h ∷ []) same;
    }

pub length-remove : (xs : List Flying) (i : ℕ) → i < length xs → length (remove xs i) + 1 ≡ length xs
length-remove [] i within = absurd (omega (arith, within))
length-remove (x ∷ xs) zero within = omega arith
length-remove (x ∷ xs) (suc i) within = let rest = length-remove xs i (omega (arith, within)) in omega (arith, rest)

-- What always holds of frames, through each change.
use Rattle.std.proofs.Common.{◌≡◌, ◌==◌, ℕ, zero, suc, ◌<◌, ◌≤◌, Bool, true, false, not, cond, ◌&&◌, List, [], ◌∷◌, ◌++◌, length, get_or, set, map, None, arith, refl, sym, ap, subst, ◌∙◌, inl, inr}
use Rattle.std.proofs.lemmas.List.{map-append}
use Rattle.std.proofs.lemmas.List.Sums.{sum_by-set, sum_by_push, sum_by-remove}
use Rattle.std.proofs.Math.Seq.{map-set_same}
use Rattle.std.specs.List.{AllByRecursion, count_by, filter, find, remove}
use Rattle.frame_future.specs.Flights.{Flying, is_stopped}
use Rattle.frame_future.specs.Future.{Finished, Future, finished, is_flight_of, is_picture_of, nothing, IsKept, Rising}
use Rattle.frame_future.proofs.Lists.{count-filter, count-without, count_none, either, rising-push, rising-remove}

abbrev future : List Flying → List Finished → Future
future flights pictures = record { flights = flights; pictures = pictures }

-- one for what passes
abbrev one_if : Bool → ℕ
one_if b = cond b 1 0

-- a flight is replaced by one of the same ticket that is the frame's only where it was
pub kept-flight : (flights : List Flying) (pictures : List Finished) (i : ℕ) (f g : Flying) → i < length flights → f ≡ get_or flights i f → g.ticket ≡ f.ticket
    → ((frame : ℕ) → one_if (is_flight_of frame g) ≤ one_if (is_flight_of frame f)) → IsKept (future flights pictures) → IsKept (future (set flights i g) pictures)
kept-flight flights pictures i f g within here ticket fewer kept = record {
  rising = subst Rising (sym (map-set_same (λ (h : Flying). h.ticket) flights i g f (ticket ∙ ap (λ (h : Flying). h.ticket) here))) kept.rising;
  single = λ frame.
      let changed = sum_by-set (λ h. one_if (is_flight_of frame h)) flights i g f within in
      let old = ap (λ h. one_if (is_flight_of frame h)) here in
      let less = fewer frame in
      let was = kept.single frame in
      omega (arith, changed, old, less, was);
}

-- pictures are taken away
pub kept-fewer : (flights : List Flying) (pictures : List Finished) (q : Finished → Bool) → IsKept (future flights pictures) → IsKept (future flights (filter q pictures))
kept-fewer flights pictures q kept = record {
  rising = kept.rising;
  single = λ frame. let less = count-filter (is_picture_of frame) q pictures in let was = kept.single frame in omega (arith, less, was);
}

-- a picture is replaced by one of the same frame
pub kept-picture : (flights : List Flying) (pictures : List Finished) (i : ℕ) (p q : Finished) → i < length pictures → p ≡ get_or pictures i p → q.frame ≡ p.frame
    → IsKept (future flights pictures) → IsKept (future flights (set pictures i q))
kept-picture flights pictures i p q within here frame kept = record {
  rising = kept.rising;
  single = λ f.
      let changed = sum_by-set (λ h. one_if (is_picture_of f h)) pictures i q p within in
      let old = ap (λ h. one_if (is_picture_of f h)) here in
      let same : one_if (is_picture_of f q) ≡ one_if (is_picture_of f p) = ap (λ n. one_if (n == f)) frame in
      let was = kept.single f in
      omega (arith, changed, old, same, was);
}

-- a flight begins of a frame that is not in flight, and whose picture is taken away
pub kept-begin : (flights : List Flying) (pictures : List Finished) (f : Flying) → find (is_flight_of f.frame) flights ≡ None
    → AllByRecursion (λ t. t < f.ticket) (map (λ h. h.ticket) flights) → IsKept (future flights pictures)
    → IsKept (future (flights ++ f ∷ []) (filter (λ p. not (is_picture_of f.frame p)) pictures))
kept-begin flights pictures f none later kept = record {
  rising = subst Rising (sym (map-append (λ (h : Flying). h.ticket) flights (f ∷ []))) (rising-push (map (λ h. h.ticket) flights) f.ticket kept.rising later);
  single = λ frame.
      let more = sum_by_push (λ h. one_if (is_flight_of frame h)) flights f in
      let less = count-filter (is_picture_of frame) (λ p. not (is_picture_of f.frame p)) pictures in
      let was = kept.single frame in
      elim (either (f.frame == frame)) [
        | inl same ↦
            let frames : f.frame ≡ frame = grind (arith, same) in
            let flown : count_by (is_flight_of frame) flights ≡ 0 = subst (λ n. count_by (is_flight_of n) flights ≡ 0) frames (count_none (is_flight_of f.frame) flights none) in
            let gone : count_by (is_picture_of frame) (filter (λ p. not (is_picture_of f.frame p)) pictures) ≡ 0 = subst (λ n. count_by (is_picture_of n) (filter (λ p. not (is_picture_of f.frame p)) pictures) ≡ 0) frames (count-without (is_picture_of f.frame) pictures) in
            let one : one_if (is_flight_of frame f) ≤ 1 = at_most (is_flight_of frame f) in
            omega (arith, more, flown, gone, one)
        | inr apart ↦
            let none_more : one_if (is_flight_of frame f) ≡ 0 = ap (λ b. one_if (b && not (is_stopped f))) apart in
            omega (arith, more, less, was, none_more)
      ];
}
  where
    at_most : (b : Bool) → one_if b ≤ 1
    at_most true = omega arith
    at_most false = omega arith

map-remove : (flights : List Flying) (i : ℕ) → remove (map (λ h. h.ticket) flights) i ≡ map (λ (h : Flying). h.ticket) (remove flights i)
map-remove [] zero = refl
map-remove [] (suc i) = refl
map-remove (f ∷ flights) zero = refl
map-remove (f ∷ flights) (suc i) = ap (λ ts. f.ticket ∷ ts) (map-remove flights i)

-- a flight leaves
pub kept-left : (flights : List Flying) (pictures : List Finished) (i : ℕ) (f : Flying) → i < length flights → IsKept (future flights pictures)
    → IsKept (future (remove flights i) pictures)
kept-left flights pictures i f within kept = record {
  rising = subst Rising (map-remove flights i) (rising-remove (map (λ h. h.ticket) flights) i kept.rising);
  single = λ frame.
      let fewer = sum_by-remove (λ h. one_if (is_flight_of frame h)) flights i f within in
      let was = kept.single frame in
      omega (arith, fewer, was);
}

-- a flight ends, and its picture is there
pub kept-end : (flights : List Flying) (pictures : List Finished) (i : ℕ) (f : Flying) → i < length flights → f ≡ get_or flights i f → is_stopped f ≡ false
    → IsKept (future flights pictures) → IsKept (future (remove flights i) (pictures ++ finished f ∷ []))
kept-end flights pictures i f within here going kept = record {
  rising = (kept-left flights pictures i f within kept).rising;
  single = λ frame.
      let fewer = sum_by-remove (λ h. one_if (is_flight_of frame h)) flights i f within in
      let more = sum_by_push (λ h. one_if (is_picture_of frame h)) pictures (finished f) in
      let old = ap (λ h. one_if (is_flight_of frame h)) here in
      let same : one_if (is_flight_of frame f) ≡ one_if (f.frame == frame) = ap (λ b. one_if ((f.frame == frame) && not b)) going ∙ ap one_if (and_true (f.frame == frame)) in
      let was = kept.single frame in
      omega (arith, fewer, more, old, same, was);
}
  where
    and_true : (b : Bool) → (b && true) ≡ b
    and_true true = refl
    and_true false = refl

pub kept_nothing : IsKept nothing
kept_nothing = record { rising = tt; single = λ frame. omega arith }

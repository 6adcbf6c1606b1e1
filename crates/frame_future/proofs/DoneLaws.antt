-- What a flight leaves that ends and was not stopped.
use Rattle.std.proofs.Common.{◌≡◌, ◌==◌, ℕ, ◌+◌, ◌<◌, Bool, true, false, not, cond, ◌&&◌, [], ◌∷◌, ◌++◌, length, get_or, take, drop, Some, None, if◌then◌else◌, arith, sym, ap, subst, ◌∙◌, inl, inr}
use Rattle.std.proofs.lemmas.List.{get_or-take, length-take-le}
use Rattle.std.proofs.lemmas.List.Folds.{find-append}
use Rattle.std.proofs.lemmas.List.Sums.{sum_by-append, sum_by-drop_more, sum_by-take-drop}
use Rattle.std.proofs.lemmas.Option.{get_or_from_slice_get, slice_get_within}
use Rattle.std.specs.List.{count_by, find}
use Rattle.std.specs.Option.{option_or}
use Rattle.picture_model.proofs.Spheres.{le_or_below}
use Rattle.frame_future.specs.declared.phase.Ended.{Ended}
use Rattle.frame_future.specs.Ends.{Ends, StaysOpen}
use Rattle.frame_future.specs.Flights.{Flying, is_stopped}
use Rattle.frame_future.specs.Future.{Future, finished, is_flight_of, is_picture_of, IsDone, IsKept}
use Rattle.frame_future.proofs.Endings.{counts}
use Rattle.frame_future.proofs.Finds.{phase_done, same_number}
use Rattle.frame_future.proofs.Lists.{none_counted}

abbrev one_if : Bool → ℕ
one_if b = cond b 1 0

-- a flight that stays open is its frame's as before
stays_of : (after frame : ℕ) (f g : Flying) → StaysOpen after f g → is_flight_of frame g ≡ is_flight_of frame f
stays_of after frame f g stays = elim (le_or_below after f.ticket) [
  | inl lt ↦ ap (is_flight_of frame) (stays.looked lt)
  | inr le ↦ ap (is_flight_of frame) (stays.below le)
]

pub ended_done : (after : ℕ) (old new : Future) (e : Ended) → IsKept old → (ends : Ends after old new e) → e.left ≡ false → IsDone new ends.last
ended_done after old new e kept ends left =
    let last : Flying = ends.last in
    let frame : ℕ = last.frame in
    let p : Flying → Bool = is_flight_of frame in
    let going : is_stopped last ≡ false = sym ends.left ∙ left in
    let same : (frame == frame) ≡ true = same_number frame in
    let flies : p last ≡ true = (λ i. same i && not (going i)) in
    let within : ends.place < length old.flights = slice_get_within old.flights ends.place last ends.there in
    let at : get_or old.flights ends.place last ≡ last = get_or_from_slice_get old.flights ends.place last last ends.there in
    let one : one_if (p (get_or old.flights ends.place last)) ≡ 1 = ap (λ h. one_if (p h)) at ∙ ap one_if flies in
    let whole = sum_by-take-drop (λ h. one_if (p h)) old.flights ends.place in
    let rest = sum_by-drop_more (λ h. one_if (p h)) old.flights ends.place last within in
    let most = kept.single frame in
    let long : length (take ends.place old.flights) ≡ ends.place = length-take-le ends.place old.flights (omega (arith, within)) in
    let before : count_by p ends.looked ≡ count_by p (take ends.place old.flights) = counts p (take ends.place old.flights) ends.looked (ends.count ∙ sym long) (λ k d l.
    stays_of after frame (get_or (take ends.place old.flights) k d) (get_or ends.looked k d)
    (subst (λ h. StaysOpen after h (get_or ends.looked k d)) (sym (get_or-take ends.place old.flights k d (omega (arith, l, long)))) (ends.earlier k d (omega (arith, l, long))))) in
    let now : count_by p new.flights ≡ count_by p ends.looked + count_by p (drop (ends.place + 1) old.flights) = ap (count_by p) ends.flights ∙ sum_by-append (λ h. one_if (p h)) ends.looked (drop (ends.place + 1) old.flights) in
    let none : find p new.flights ≡ None = none_counted p new.flights (omega (arith, one, whole, rest, most, before, now)) in
    let gone : find (is_picture_of frame) old.pictures ≡ None = none_counted (is_picture_of frame) old.pictures (omega (arith, one, whole, rest, most)) in
    let pictures : new.pictures ≡ old.pictures ++ finished last ∷ [] = ends.pictures ∙ ap (λ (b : Bool). if b then old.pictures else old.pictures ++ finished last ∷ []) going in
    let shown : find (is_picture_of frame) new.pictures ≡ Some (finished last) =
    ap (find (is_picture_of frame)) pictures ∙ find-append (is_picture_of frame) old.pictures (finished last ∷ [])
    ∙ ap (λ o. option_or o (find (is_picture_of frame) (finished last ∷ []))) gone ∙ ap (λ b. cond b (Some (finished last)) None) same in
    record { phase = phase_done new frame (finished last) none shown; picture = shown }

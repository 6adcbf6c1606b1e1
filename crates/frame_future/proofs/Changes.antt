-- Frames with one flight or picture changed, as the code changes it in its place.
use Rattle.std.proofs.Common.{◌≡◌, ◌==◌, ℕ, ◌+◌, ◌<◌, ◌≤◌, Bool, true, false, not, cond, ◌&&◌, List, length, get_or, set, Option, Some, None, Result, Ok, Err, OnOk, OnErr, arith, refl, sym, ap, subst, ◌∙◌}
use Rattle.std.proofs.Math.ListN.{length-set}
use Rattle.std.proofs.lemmas.List.Sums.{sum_by-set, get_or-le-sum_by}
use Rattle.std.specs.List.{count_by, position}
use Rattle.dev_types.specs.declared.handles.Channel.{Channel}
use Rattle.frame_future.specs.Flights.{Flying, is_stopped}
use Rattle.frame_future.specs.Future.{Finished, Future, flight_of, is_flight_of, is_picture_of, lent_as, phase_of, replaced, without_picture, with_flight_of, with_picture, IsDiscarded, IsKept, IsStop}
use Rattle.frame_future.specs.declared.phase.Phase.TheVariants as phase
use Rattle.frame_future.proofs.Finds.{flight_here, picture_here, phase_empty}
use Rattle.frame_future.proofs.Kept.{kept-flight, kept-picture}
use Rattle.frame_future.proofs.Lists.{count-without, none_counted}

abbrev future : List Flying → List Finished → Future
future flights pictures = record { flights = flights; pictures = pictures }

abbrev one_if : Bool → ℕ
one_if b = cond b 1 0

-- what is kept where a flight changes
pub flight_kept : (inside s : Future) (capacity : ℕ) (p : Flying → Bool) (place : ℕ) (f g : Flying) → inside ≡ s → position p s.flights ≡ Some place
    → f ≡ get_or inside.flights place f → g.ticket ≡ f.ticket → ((frame : ℕ) → one_if (is_flight_of frame g) ≤ one_if (is_flight_of frame f))
    → IsKept inside × (length inside.flights + length inside.pictures ≤ capacity)
    → IsKept (future (set inside.flights place g) inside.pictures) × (length (set inside.flights place g) + length inside.pictures ≤ capacity)
flight_kept inside s capacity p place f g view at here ticket fewer kept =
    let within : place < length inside.flights = subst (λ (v : Future). place < length v.flights) (sym view) (flight_here inside s p place f view at here).0 in
    let long = length-set inside.flights place g in
    (kept-flight inside.flights inside.pictures place f g within here ticket fewer kept.0, omega (arith, long, kept.1))

-- it is the frame's only where it was
pub same_fewer : (f g : Flying) → g.frame ≡ f.frame → is_stopped g ≡ is_stopped f → (frame : ℕ) → one_if (is_flight_of frame g) ≤ one_if (is_flight_of frame f)
same_fewer f g frame stop of =
    let same : one_if (is_flight_of of g) ≡ one_if (is_flight_of of f) = (λ i. one_if ((frame i == of) && not (stop i))) in
    omega (arith, same)

and_false : (b : Bool) → (b && false) ≡ false
and_false true = refl
and_false false = refl

pub stopped_none : (g : Flying) → is_stopped g ≡ true → (frame : ℕ) → is_flight_of frame g ≡ false
stopped_none g stopped frame = ap (λ b. (g.frame == frame) && not b) stopped ∙ and_false (g.frame == frame)

pub stopped_fewer : (f g : Flying) → is_stopped g ≡ true → (frame : ℕ) → one_if (is_flight_of frame g) ≤ one_if (is_flight_of frame f)
stopped_fewer f g stopped frame = let none = ap one_if (stopped_none g stopped frame) in omega (arith, none)

-- the new future, as it is seen
pub flight_seen : (inside s : Future) (p : Flying → Bool) (place : ℕ) (f g h : Flying) → inside ≡ s → position p s.flights ≡ Some place
    → f ≡ get_or inside.flights place f → g ≡ h
    → future (set inside.flights place g) inside.pictures ≡ future (replaced p h s.flights) s.pictures
flight_seen inside s p place f g h view at here same =
    (λ i. future (set (view i).flights place (same i)) (view i).pictures) ∙ ap (λ fs. future fs s.pictures) (sym ((flight_here inside s p place f view at here).3 h))

pub picture_kept : (inside s : Future) (capacity frame place : ℕ) (p q : Finished) → inside ≡ s → position (is_picture_of frame) s.pictures ≡ Some place
    → p ≡ get_or inside.pictures place p → q.frame ≡ p.frame → IsKept inside × (length inside.flights + length inside.pictures ≤ capacity)
    → IsKept (future inside.flights (set inside.pictures place q)) × (length inside.flights + length (set inside.pictures place q) ≤ capacity)
picture_kept inside s capacity frame place p q view at here same kept =
    let within : place < length inside.pictures = subst (λ (v : Future). place < length v.pictures) (sym view) (picture_here inside s frame place p view at here).0 in
    let long = length-set inside.pictures place q in
    (kept-picture inside.flights inside.pictures place p q within here same kept.0, omega (arith, long, kept.1))

pub frame_of_picture : (frame : ℕ) (p : Finished) → is_picture_of frame p ≡ true → p.frame ≡ frame
frame_of_picture frame p is = grind (arith, is)

pub picture_seen : (inside s : Future) (frame place : ℕ) (p q r : Finished) → inside ≡ s → position (is_picture_of frame) s.pictures ≡ Some place
    → p ≡ get_or inside.pictures place p → q ≡ r → r.frame ≡ p.frame → future inside.flights (set inside.pictures place q) ≡ with_picture s r
picture_seen inside s frame place p q r view at here same of =
    let found = picture_here inside s frame place p view at here in
    let named : r.frame ≡ frame = of ∙ frame_of_picture frame p found.1 in
    (λ i. future (view i).flights (set (view i).pictures place (same i))) ∙ ap (λ ps. future s.flights ps) (sym (found.3 r))
    ∙ (λ i. future s.flights (replaced (is_picture_of (sym named i)) r s.pictures))

-- a frame whose flight was stopped, or whose picture was taken away, shows nothing
pub stopped_phase : (s : Future) (frame place : ℕ) (f g : Flying) → place < length s.flights → f ≡ get_or s.flights place f → is_flight_of frame f ≡ true
    → is_flight_of frame g ≡ false → IsKept s → phase_of (future (set s.flights place g) s.pictures) frame ≡ phase.Empty
stopped_phase s frame place f g within here flies stopped kept =
    let new : Future = future (set s.flights place g) s.pictures in
    let was : one_if (is_flight_of frame f) ≡ 1 = ap one_if flies in
    let now : one_if (is_flight_of frame g) ≡ 0 = ap one_if stopped in
    let old = ap (λ h. one_if (is_flight_of frame h)) here in
    let changed = sum_by-set (λ h. one_if (is_flight_of frame h)) s.flights place g f within in
    let one = kept.single frame in
    let least = get_or-le-sum_by (λ h. one_if (is_flight_of frame h)) s.flights place f within in
    let flights : count_by (is_flight_of frame) (set s.flights place g) ≡ 0 = omega (arith, was, now, old, changed, one, least) in
    let pictures : count_by (is_picture_of frame) s.pictures ≡ 0 = omega (arith, was, old, one, least) in
    phase_empty new frame (none_counted (is_flight_of frame) (set s.flights place g) flights) (none_counted (is_picture_of frame) s.pictures pictures)

pub gone_phase : (s : Future) (frame : ℕ) → flight_of s frame ≡ None → phase_of (without_picture s frame) frame ≡ phase.Empty
gone_phase s frame none = phase_empty (without_picture s frame) frame none (none_counted (is_picture_of frame) (without_picture s frame).pictures (count-without (is_picture_of frame) s.pictures))

-- what a discard leaves, by what was found
pub discarded_some : (frame : ℕ) (s new : Future) (f g : Flying) (o : Option Flying) → o ≡ Some f → IsStop f g → new ≡ with_flight_of s frame g → IsDiscarded frame s new o
discarded_some frame s new f g o is stop same = subst (λ q. IsDiscarded frame s new q) (sym is) (g, stop, same)

pub discarded_none : (frame : ℕ) (s new : Future) (o : Option Flying) → o ≡ None → new ≡ without_picture s frame → IsDiscarded frame s new o
discarded_none frame s new o is same = subst (λ q. IsDiscarded frame s new q) (sym is) same

pub on_ok : {T E : Type 0} (r : Result T E) (P Q : Type 0) → (P → Q) → OnOk r P → OnOk r Q
on_ok (Ok x) P Q f p = f p
on_ok (Err e) P Q f p = tt

-- the frame of a picture, whether or not a channel of it was lent
pub lent_kept : {T E : Type 0} (r : Result T E) (p q : Finished) (c : Channel) (number : ℕ) → OnOk r (q ≡ lent_as p c number) → OnErr r (q ≡ p) → q.frame ≡ p.frame
lent_kept (Ok x) p q c number lent same = ap (λ (h : Finished). h.frame) lent
lent_kept (Err e) p q c number lent same = ap (λ (h : Finished). h.frame) same

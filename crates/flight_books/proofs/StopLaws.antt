-- All flights are stopped, one after the other.
use Rattle.std.proofs.Common.{◌≡◌, ◌==◌, ◌⊎◌, inl, inr, ℕ, zero, suc, ◌+◌, ◌<◌, ◌≤◌, Bool, true, false, not, cond, ◌&&◌, List, [], ◌∷◌, length, get_or, Option, Some, None, arith, refl, sym, ap, subst, ◌∙◌, true≢false}
use Rattle.std.proofs.lemmas.Bool.{cases_eq}
use Rattle.std.proofs.lemmas.List.Elements.{recursion_from_All}
use Rattle.std.proofs.lemmas.List.Sums.{sum_by-cons}
use Rattle.std.proofs.lemmas.Option.{get_or_from_slice_get, none-some, slice_get-get_or, slice_get_within}
use Rattle.std.specs.List.{AllByRecursion, count_by, find, slice_get}
use Rattle.frame_future.specs.Flights.{Flying, is_stopped}
use Rattle.frame_future.specs.Future.{Future, flight_of, is_flight_of, is_mapped, is_picture_of, phase_by, phase_of, replaced, shown_by, IsDiscarded, IsKept, IsStop}
use Rattle.frame_future.specs.declared.phase.Phase.TheVariants as phase
use Rattle.frame_future.proofs.Changes.{stopped_none}
use Rattle.frame_future.proofs.Finds.{mapped_none, same_number}
use Rattle.frame_future.proofs.Lists.{either, none_counted}
use Rattle.flight_books.specs.declared.kept.Cargo.{Cargo}
use Rattle.flight_books.specs.Kept.{AreBooked, Books, IsBooked}
use Rattle.flight_books.specs.Stops.{AreHalted, AreHalting, HaltsBy, NoneFlies, StopsAll, StopsAt, StopsFlight}

pub is_stop_stopped : (f g : Flying) → IsStop f g → is_stopped g ≡ true
is_stop_stopped f g stop = ap is_stopped stop.now

-- the first that passes passes
pub found_passes : (p : Flying → Bool) (fs : List Flying) (f : Flying) → find p fs ≡ Some f → p f ≡ true
found_passes p [] f is = absurd (none-some f is)
found_passes p (x ∷ fs) f is = by (either (p x)) (found_passes p fs f)
  where
    by : (p x ≡ true) ⊎ (p x ≡ false) → (find p fs ≡ Some f → p f ≡ true) → p f ≡ true
    by (inl hit) deeper = let same : Some x ≡ Some f = sym (ap (λ b. cond b (Some x) (find p fs)) hit) ∙ is in let e : x ≡ f = cc in sym (ap p e) ∙ hit
    by (inr miss) deeper = deeper (sym (ap (λ b. cond b (Some x) (find p fs)) miss) ∙ is)

none_passes : (p : Flying → Bool) (fs : List Flying) (i : ℕ) (f : Flying) → find p fs ≡ None → slice_get fs i ≡ Some f → p f ≡ false
none_passes p [] i f none at = absurd (none-some f at)
none_passes p (x ∷ fs) zero f none at = by (either (p x))
  where
    by : (p x ≡ true) ⊎ (p x ≡ false) → p f ≡ false
    by (inl hit) = absurd (none-some x (sym none ∙ ap (λ b. cond b (Some x) (find p fs)) hit))
    by (inr miss) = let e : x ≡ f = cc in sym (ap p e) ∙ miss
none_passes p (x ∷ fs) (suc i) f none at = by (either (p x)) (λ rest. none_passes p fs i f rest at)
  where
    by : (p x ≡ true) ⊎ (p x ≡ false) → (find p fs ≡ None → p f ≡ false) → p f ≡ false
    by (inl hit) deeper = absurd (none-some x (sym none ∙ ap (λ b. cond b (Some x) (find p fs)) hit))
    by (inr miss) deeper = deeper (sym (ap (λ b. cond b (Some x) (find p fs)) miss) ∙ none)

-- none passes another test, where none did and what is put in does not
none_replaced : (p q : Flying → Bool) (fs : List Flying) (g : Flying) → q g ≡ false → find q fs ≡ None → find q (replaced p g fs) ≡ None
none_replaced p q [] g miss none = none
none_replaced p q (x ∷ fs) g miss none = by (either (q x)) (none_replaced p q fs g miss)
  where
    put : (b : Bool) → find q fs ≡ None → find q (replaced p g fs) ≡ None → q x ≡ false → find q (cond b (g ∷ fs) (x ∷ replaced p g fs)) ≡ None
    put true rest deeper other = ap (λ b. cond b (Some g) (find q fs)) miss ∙ rest
    put false rest deeper other = ap (λ b. cond b (Some x) (find q (replaced p g fs))) other ∙ deeper

    by : (q x ≡ true) ⊎ (q x ≡ false) → (find q fs ≡ None → find q (replaced p g fs) ≡ None) → find q (cond (p x) (g ∷ fs) (x ∷ replaced p g fs)) ≡ None
    by (inl hit) deeper = absurd (none-some x (sym none ∙ ap (λ b. cond b (Some x) (find q fs)) hit))
    by (inr other) deeper = let rest = sym (ap (λ b. cond b (Some x) (find q fs)) other) ∙ none in put (p x) rest (deeper rest) other

-- a frame's flight was not stopped
going_of : (a b : Bool) → (a && not b) ≡ true → b ≡ false
going_of true true both = sym both
going_of true false both = refl
going_of false b both = absurd (true≢false (sym both))

stopped_of : (a b : Bool) → a ≡ true → (a && not b) ≡ false → b ≡ true
stopped_of true true here none = refl
stopped_of true false here none = sym none
stopped_of false b here none = absurd (true≢false (sym here))

-- a frame in flight has no picture, and so no mapped channel
one_flies : (frame : ℕ) (fs : List Flying) (f : Flying) → find (is_flight_of frame) fs ≡ Some f → 1 ≤ count_by (is_flight_of frame) fs
one_flies frame [] f is = absurd (none-some f is)
one_flies frame (x ∷ fs) f is = by (either (is_flight_of frame x)) (one_flies frame fs f)
  where
    by : (is_flight_of frame x ≡ true) ⊎ (is_flight_of frame x ≡ false) → (find (is_flight_of frame) fs ≡ Some f → 1 ≤ count_by (is_flight_of frame) fs) → 1 ≤ count_by (is_flight_of frame) (x ∷ fs)
    by (inl hit) deeper = let one = sum_by-cons (λ y. cond (is_flight_of frame y) 1 0) x fs ∙ ap (λ b. cond b 1 0 + count_by (is_flight_of frame) fs) hit in omega (arith, one)
    by (inr miss) deeper =
        let one = sum_by-cons (λ y. cond (is_flight_of frame y) 1 0) x fs ∙ ap (λ b. cond b 1 0 + count_by (is_flight_of frame) fs) miss in
        let rest = deeper (sym (ap (λ b. cond b (Some x) (find (is_flight_of frame) fs)) miss) ∙ is) in
        omega (arith, one, rest)

pub flying_unmapped : (frame : ℕ) (s : Future) (f : Flying) → IsKept s → flight_of s frame ≡ Some f → is_mapped s frame ≡ false
flying_unmapped frame s f kept is =
    let one = kept.single frame in
    let flies = one_flies frame s.flights f is in
    let none : count_by (is_picture_of frame) s.pictures ≡ 0 = omega (arith, one, flies) in
    mapped_none s frame (none_counted (is_picture_of frame) s.pictures none)

-- what is shown says whether a flight is there
pub phase_flies : (s : Future) (frame ticket : ℕ) → phase_of s frame ≡ phase.Flight ticket → (f : Flying) × (flight_of s frame ≡ Some f)
phase_flies s frame ticket is = by (flight_of s frame) (shown_by s frame) refl is
  where
    by : (o : Option Flying) (p : _) → flight_of s frame ≡ o → phase_by o p ≡ phase.Flight ticket → (f : Flying) × (flight_of s frame ≡ Some f)
    by (Some f) p is shows = (f, is)
    by None (Some p) is shows = absurd cc
    by None None is shows = absurd cc

pub phase_rests : (s : Future) (frame : ℕ) → ((ticket : ℕ) → phase_of s frame ≡ phase.Flight ticket → ⊥) → flight_of s frame ≡ None
phase_rests s frame other = by (flight_of s frame) refl
  where
    by : (o : Option Flying) → flight_of s frame ≡ o → flight_of s frame ≡ None
    by (Some f) is = absurd (other f.ticket (ap (λ q. phase_by q (shown_by s frame)) is))
    by None is = is

pub discard_stops : (frame : ℕ) (old new : Future) (f : Flying) (o : Option Flying) → o ≡ Some f → IsDiscarded frame old new o → StopsFlight frame old new o
discard_stops frame old new f (Some h) is discarded = discarded
discard_stops frame old new f None is discarded = absurd (none-some f is)

-- one more flight is stopped
halting_replaced : (p : Flying → Bool) (os ns : List Flying) (f g : Flying) → AreHalting os ns → find p ns ≡ Some f → is_stopped f ≡ false → IsStop f g → AreHalting os (replaced p g ns)
halting_replaced p [] [] f g halting is going stop = absurd (none-some f is)
halting_replaced p [] (n ∷ ns) f g halting is going stop = absurd halting
halting_replaced p (o ∷ os) [] f g halting is going stop = absurd halting
halting_replaced p (o ∷ os) (n ∷ ns) f g halting is going stop = by (p n) refl halting.0 (λ rest. halting_replaced p os ns f g halting.1 rest going stop)
  where
    by : (b : Bool) → p n ≡ b → (n ≡ o) ⊎ ((is_stopped o ≡ false) × IsStop o n) → (find p ns ≡ Some f → AreHalting os (replaced p g ns)) → AreHalting (o ∷ os) (cond b (g ∷ ns) (n ∷ replaced p g ns))
    by true hit first deeper =
        let same : Some n ≡ Some f = sym (ap (λ b. cond b (Some n) (find p ns)) hit) ∙ is in
        let e : n ≡ f = cc in
        elim first [
          | inl kept ↦
              let was : f ≡ o = sym e ∙ kept in
              (inr (ap is_stopped (sym was) ∙ going, subst (λ (h : Flying). IsStop h g) was stop), halting.1)
          | inr stopped ↦ absurd (true≢false (sym (is_stop_stopped o n stopped.1) ∙ ap is_stopped e ∙ going))
        ]
    by false miss first deeper = (first, deeper (sym (ap (λ b. cond b (Some n) (find p ns)) miss) ∙ is))

-- when all are stopped, all were
all_halted : (os ns : List Flying) → AreHalting os ns → AllByRecursion (λ f. is_stopped f ≡ true) ns → AreHalted os ns
all_halted [] [] halting stopped = tt
all_halted [] (n ∷ ns) halting stopped = halting
all_halted (o ∷ os) [] halting stopped = halting
all_halted (o ∷ os) (n ∷ ns) halting stopped = (by (is_stopped o) refl halting.0, all_halted os ns halting.1 stopped.1)
  where
    by : (b : Bool) → is_stopped o ≡ b → (n ≡ o) ⊎ ((is_stopped o ≡ false) × IsStop o n) → HaltsBy b o n
    by true is (inl kept) = kept
    by true is (inr stop) = absurd (true≢false (sym is ∙ stop.0))
    by false is (inl kept) = absurd (true≢false (sym stopped.0 ∙ ap is_stopped kept ∙ is))
    by false is (inr stop) = stop.1

halted_count : (os ns : List Flying) → AreHalting os ns → length ns ≡ length os
halted_count [] [] halting = refl
halted_count [] (n ∷ ns) halting = absurd halting
halted_count (o ∷ os) [] halting = absurd halting
halted_count (o ∷ os) (n ∷ ns) halting = ap suc (halted_count os ns halting.1)

pub none_halting : (fs : List Flying) → AreHalting fs fs
none_halting [] = tt
none_halting (f ∷ fs) = (inl refl, none_halting fs)

-- a flight that was stopped stays its frame's
halting_frame : (os ns : List Flying) (i : ℕ) (f : Flying) → AreHalting os ns → slice_get ns i ≡ Some f → (o : Flying) × (slice_get os i ≡ Some o) × (f.frame ≡ o.frame)
halting_frame [] [] i f halting at = absurd (none-some f at)
halting_frame [] (n ∷ ns) i f halting at = absurd halting
halting_frame (o ∷ os) [] i f halting at = absurd halting
halting_frame (o ∷ os) (n ∷ ns) zero f halting at =
    let e : n ≡ f = cc in
    let same : n.frame ≡ o.frame = elim halting.0 [
      | inl kept ↦ ap (λ (h : Flying). h.frame) kept
      | inr stop ↦ ap (λ (h : Flying). h.frame) stop.1.now
    ] in
    (o, refl, sym (ap (λ (h : Flying). h.frame) e) ∙ same)
halting_frame (o ∷ os) (n ∷ ns) (suc i) f halting at = halting_frame os ns i f halting.1 at

module _ {T : Type 0} where
  -- with each flight something is kept
  pub booked_at : (fs : List Flying) (cs : List (Cargo T)) (i : ℕ) (f : Flying) → AreBooked fs cs → slice_get fs i ≡ Some f → (c : Cargo T) × (slice_get cs i ≡ Some c) × IsBooked f c
  booked_at [] cs i f of at = absurd (none-some f at)
  booked_at (x ∷ fs) [] i f of at = absurd of
  booked_at (x ∷ fs) (c ∷ cs) zero f of at = let e : x ≡ f = cc in (c, refl, subst (λ (h : Flying). IsBooked h c) e of.0)
  booked_at (x ∷ fs) (c ∷ cs) (suc i) f of at = booked_at fs cs i f of.1 at

  pub one_stopped : (old now new : Books T) (place : ℕ) → AreHalting old.future.flights now.future.flights → NoneFlies place now.future old.cargo → now.future.pictures ≡ old.future.pictures
      → now.cargo ≡ old.cargo → StopsAt place now new
      → AreHalting old.future.flights new.future.flights × NoneFlies (place + 1) new.future old.cargo × (new.future.pictures ≡ old.future.pictures)
  one_stopped old now new place halting none pictures cargo at =
      let frame : ℕ = at.kept.frame in
      let stepped = step (flight_of now.future frame) refl at.stops in (
        stepped.0,
        λ k d l. elim (cases_eq k place) [
          | inl is ↦
              let here : get_or old.cargo place d ≡ at.kept = ap (λ (cs : List (Cargo T)). get_or cs place d) (sym cargo) ∙ get_or_from_slice_get now.cargo place at.kept d at.there in
              ap (λ n. flight_of new.future (get_or old.cargo n d).frame) is ∙ ap (λ (c : Cargo T). flight_of new.future c.frame) here ∙ at.none
          | inr other ↦ let less : k < place = omega (arith, l, other) in stepped.1 (get_or old.cargo k d).frame (none k d less)
        ],
        stepped.2,
      )
    where
      step : (o : Option Flying) → flight_of now.future at.kept.frame ≡ o → StopsFlight at.kept.frame now.future new.future o
          → AreHalting old.future.flights new.future.flights × ((frame : ℕ) → flight_of now.future frame ≡ None → flight_of new.future frame ≡ None) × (new.future.pictures ≡ old.future.pictures)
      step None is same = (
        subst (λ (v : Future). AreHalting old.future.flights v.flights) (sym same) halting,
        λ frame gone. ap (λ (v : Future). flight_of v frame) same ∙ gone,
        ap (λ (v : Future). v.pictures) same ∙ pictures,
      )
      step (Some f) is stops =
          let g : Flying = stops.0 in
          let p : Flying → Bool = is_flight_of at.kept.frame in
          let going : is_stopped f ≡ false = going_of (f.frame == at.kept.frame) (is_stopped f) (found_passes p now.future.flights f is) in
          let stopped : is_stopped g ≡ true = is_stop_stopped f g stops.1 in (
            subst (λ (v : Future). AreHalting old.future.flights v.flights) (sym stops.2) (halting_replaced p old.future.flights now.future.flights f g halting is going stops.1),
            λ frame gone. ap (λ (v : Future). flight_of v frame) stops.2 ∙ none_replaced p (is_flight_of frame) now.future.flights g (stopped_none g stopped frame) gone,
            ap (λ (v : Future). v.pictures) stops.2 ∙ pictures,
          )

  -- where no frame of a flight has a flight that was not stopped, all are stopped
  pub all_stopped : (old now : Books T) → AreBooked old.future.flights old.cargo → AreHalting old.future.flights now.future.flights
      → NoneFlies (length old.cargo) now.future old.cargo → now.future.pictures ≡ old.future.pictures → now.cargo ≡ old.cargo → now.over ≡ old.over → StopsAll old now
  all_stopped old now of halting none pictures cargo over =
      let all : AllByRecursion (λ (f : Flying). is_stopped f ≡ true) now.future.flights = recursion_from_All (λ (f : Flying). is_stopped f ≡ true) now.future.flights (λ i d l.
      by i (get_or now.future.flights i d) (slice_get-get_or now.future.flights i d l)) in
      record { flights = all_halted old.future.flights now.future.flights halting all; stopped = all; count = halted_count old.future.flights now.future.flights halting; pictures = pictures; cargo = cargo; over = over }
    where
      by : (i : ℕ) (f : Flying) → slice_get now.future.flights i ≡ Some f → is_stopped f ≡ true
      by i f at =
          let was = halting_frame old.future.flights now.future.flights i f halting at in
          let c = booked_at old.future.flights old.cargo i was.0 of was.1 in
          let kept : Cargo T = c.0 in
          let there : slice_get old.cargo i ≡ Some kept = c.1 in
          let within : i < length old.cargo = slice_get_within old.cargo i kept there in
          let gone : flight_of now.future kept.frame ≡ None = ap (λ (k : Cargo T). flight_of now.future k.frame) (sym (get_or_from_slice_get old.cargo i kept kept there)) ∙ none i kept within in
          let same : (f.frame == kept.frame) ≡ true = ap (λ n. f.frame == n) (c.2.frame ∙ sym was.2) ∙ same_number f.frame in
          stopped_of (f.frame == kept.frame) (is_stopped f) same (none_passes (is_flight_of kept.frame) now.future.flights i f gone at)

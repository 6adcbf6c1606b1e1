-- What always holds of the parts of a device holds once a flight is lent, and once it is back.
use Rattle.std.proofs.Common.{◌≡◌, ◌==◌, ◌∙◌, ℕ, ◌+◌, ◌<◌, ◌≤◌, Bool, true, false, cond, List, [], ◌∷◌, Option, None, Some, length, map, refl, sym, ap, subst, arith, true≢false}
use Rattle.std.specs.Prelude.{IfSome, IsSome}
use Rattle.std.specs.List.{AllByRecursion, find}
use Rattle.std.specs.Option.{IsSomeAnd, is_some, option_map, unwrap_or}
use Rattle.std.proofs.lemmas.List.Elements.{recursion_from_All}
use Rattle.std.proofs.lemmas.Option.{none-some}
use Rattle.dev_types.specs.Counting.{times}
use Rattle.flight_books.specs.Kept.{AreBooks, Books, cargo_at, is_of, reloaded, with_future, with_kept}
use Rattle.flight_books.specs.declared.kept.Cargo.{Cargo}
use Rattle.frame_future.proofs.Finds.{not_second, phase_done, phase_empty, phase_flight}
use Rattle.frame_future.specs.Flights.{Flying, IsOfFlight, IsWorked, away, back, is_stopped, key_at}
use Rattle.frame_future.specs.Future.{AreHome, Finished, Future, IsKept, Rising, flight_at, flight_of, has_ticket, is_flight_of, phase_by, phase_of, replaced, shown_by, with_flight_at}
use Rattle.frame_future.specs.declared.phase.Phase.{Phase}
use Rattle.frame_future.specs.declared.phase.Phase.TheVariants as phase
use Rattle.fx_math.specs.declared.scene.Scene.{Scene}
use Rattle.picture_model.specs.Limits.{IsSceneWithin}
use Rattle.seq_model.specs.Pictures.{scene_at}
use Rattle.seq_model.specs.Refusals.{phase_at}
use Rattle.seq_model.specs.State.{ticket_in}
use Rattle.seq_model.specs.Steps.{after}
use Rattle.tile_claims.specs.Parts.{scene_of}
use Rattle.tile_claims.specs.Seats.{key_of, view}
use Rattle.tile_claims.specs.declared.frame.Frame.{Frame as Tiles}
use Rattle.tile_claims.specs.declared.seats.Claims.{Claims}
use Rattle.tile_claims.specs.declared.seats.Seat.{Seat}
use Rattle.world_snapshot.specs.Works.{scene_of_work}
use Rattle.world_snapshot.specs.declared.works.Work.{Work}
use Rattle.device_laws.proofs.FrameFacts.{back_same, flight_replaced, same_flown, same_runs}
use Rattle.device_laws.proofs.LoanFacts.{same_kept}
use Rattle.device_laws.proofs.ReplyFacts.{one_told}
use Rattle.device_laws.proofs.StandingFacts.{found, phases_agree}
use Rattle.device_laws.specs.SameFrames.{SameFrames}
use Rattle.device_laws.specs.Standing.{phase_as}
use Rattle.device_parts.specs.AllParts.{AreParts, Inside, IsLoaded, scene_at_home, scene_of_load, scene_prepared}
use Rattle.device_parts.specs.Lends.{HasLentFlight, HasReturned, IsLentFlight, is_lent}
use Rattle.device_parts.specs.Standing.{IsStanding}
use Rattle.device_parts.specs.declared.loads.Load.{Load}
use Rattle.device_parts.specs.declared.loads.PreparedScene.{PreparedScene}
use Rattle.device_parts.proofs.AboardFacts.{IsKeptWith, aboard_at, aboard_reloaded, flight_found, home_scene, lent_found, loaded_reloaded}
use Rattle.device_parts.proofs.SeenFacts.{seen_count}

-- another flight in the place of the one with a ticket, which is seen the same, and another load kept with it, of the same reach
module _ (old : Inside) (p : AreParts old) (books : AreBooks old.flights) (t : ℕ) (f g : Flying) (c : Cargo Load) (kept : Load)
    (there : flight_at old.flights.future t ≡ Some f) (with_it : cargo_at old.flights.cargo t ≡ Some c)
    (same : SameFrames old.flights.future (with_flight_at old.flights.future t g)) (reach : kept.reach ≡ c.kept.reach) where
  abbrev pub moved : Books Load
  moved = record { future = with_flight_at old.flights.future t g; cargo = reloaded t kept old.flights.cargo; over = old.flights.over }

  pub moved_parts : scene_of_load kept ≡ scene_at_home g → IfSome (scene_of_load kept) (λ s. s ≡ scene_at old.history c.ticket) → AreParts (record old { flights = moved })
  moved_parts scene shows = record {
    rest = p.rest;
    flown = same_flown old.history old.flights.future moved.future same p.flown;
    loaded = loaded_reloaded old.history t kept c
        (record { early = load.early; reach = λ h. ap (λ r. times h r.items) reach ∙ load.reach h; scene = shows; within = load.within }) old.flights.cargo with_it p.loaded;
    aboard = aboard_reloaded t g kept scene old.flights.future.flights old.flights.cargo books.cargo p.aboard;
    lets = p.lets;
    kept = p.kept;
    shown = p.shown;
    built = p.built;
    over = p.over;
    places = subst (λ n. length old.history + n < old.room) (sym (seen_count old.flights.future moved.future (same_runs old.flights.future moved.future same))) p.places;
    stops = subst (λ n. n < old.objects.stored.places) (sym (seen_count old.flights.future moved.future (same_runs old.flights.future moved.future same))) p.stops;
  }
    where
      load : IsLoaded old.history c
      load = (found (IsLoaded old.history) (is_of t) old.flights.cargo c p.loaded with_it).0

  pub moved_stands : g.ticket ≡ f.ticket → g.looked ≡ f.looked → f.view.gives.last ≤ g.view.gives.last → IsStanding old → IsStanding (record old { flights = moved })
  moved_stands ticket looked rises stands = record {
    frames = same_kept old.history old.flights.future moved.future same refl stands.frames;
    told = one_told old.history old.flights.future t f g there ticket looked rises stands.told;
  }

flight_ticket : (u t : ℕ) → phase.Flight u ≡ phase.Flight t → u ≡ t
flight_ticket u t same = ap ticket_in_phase same
  where
    ticket_in_phase : Phase → ℕ
    ticket_in_phase (phase.Flight n) = n
    ticket_in_phase p = u

-- a frame that is in flight, none being lent: its flight, and what is kept with it
pub record IsLoanable (old : Inside) (h t : ℕ) : Type 0 where
  pub flight : Flying
  pub flies : flight_of old.flights.future h ≡ Some flight
  pub there : flight_at old.flights.future t ≡ Some flight
  pub ticket : flight.ticket ≡ t
  pub home : flight.home ≡ true
  pub going : is_stopped flight ≡ false
  pub cargo : Cargo Load
  pub with_it : cargo_at old.flights.cargo t ≡ Some cargo
  pub cargo_ticket : cargo.ticket ≡ flight.ticket
  pub scene : scene_of_load cargo.kept ≡ Some (scene_of (key_at flight))

pub loanable : (old : Inside) (frames : Future) (h t : ℕ) → AreParts old → AreBooks old.flights → AreHome old.flights.future → frames ≡ old.flights.future → IsKept frames → phase_of frames h ≡ phase.Flight t → IsLoanable old h t
loanable old frames h t p books home same kept phase_is = by (flight_of old.flights.future h) refl (shown_by old.flights.future h) refl
  where
    future : Future
    future = old.flights.future

    now : phase_of future h ≡ phase.Flight t
    now = ap (λ (s : Future). phase_of s h) (sym same) ∙ phase_is

    by : (o : Option Flying) → flight_of future h ≡ o → (q : Option Finished) → shown_by future h ≡ q → IsLoanable old h t
    by None none None gone = let wrong : phase.Empty ≡ phase.Flight t = sym (phase_empty future h none gone) ∙ now in absurd cc
    by None none (Some q) done = let wrong : phase.Done q.ticket ≡ phase.Flight t = sym (phase_done future h q none done) ∙ now in absurd cc
    by (Some f) some q shown =
        let ticket : f.ticket ≡ t = flight_ticket f.ticket t (sym (phase_flight future h f some) ∙ now) in
        let rising : Rising (map (λ (g : Flying). g.ticket) future.flights) = subst (λ (s : Future). Rising (map (λ (g : Flying). g.ticket) s.flights)) same kept.rising in
        let here = found (λ (g : Flying). g.home ≡ true) (is_flight_of h) future.flights f (recursion_from_All (λ (g : Flying). g.home ≡ true) future.flights home) some in
        let there : flight_at future t ≡ Some f = subst (λ u. flight_at future u ≡ Some f) ticket (flight_found (is_flight_of h) f future.flights rising some) in
        let mine : IsKeptWith f old.flights.cargo t = aboard_at t f future.flights old.flights.cargo books.cargo p.aboard there in
        record {
          flight = f;
          flies = some;
          there = there;
          ticket = ticket;
          home = here.0;
          going = not_second (f.frame == h) (is_stopped f) here.1;
          cargo = mine.cargo;
          with_it = mine.there;
          cargo_ticket = mine.ticket;
          scene = mine.scene ∙ home_scene f here.0;
        }

-- what is kept with a loaded flight, by its ticket
loaded_at : (old : Inside) → AreParts old → (t : ℕ) (c : Cargo Load) → cargo_at old.flights.cargo t ≡ Some c → IsLoaded old.history c
loaded_at old p t c is = (found (IsLoaded old.history) (is_of t) old.flights.cargo c p.loaded is).0

some_is : {X : Type 0} {a b : X} → Some a ≡ Some b → a ≡ b
some_is {X} {a} same = ap (λ o. unwrap_or o a) same

-- a frame that is not in flight has no flight
pub not_flying : (frames : Future) (h : ℕ) → ((t : ℕ) → phase_of frames h ≡ phase.Flight t → ⊥) → flight_of frames h ≡ None
not_flying frames h never = by (flight_of frames h) refl
  where
    by : (o : Option Flying) → flight_of frames h ≡ o → o ≡ None
    by None none = refl
    by (Some f) some = absurd (never f.ticket (phase_flight frames h f some))

has_scene : (o : Option PreparedScene) (s : Scene) → option_map scene_prepared o ≡ Some s → IsSome o
has_scene None s some = absurd (none-some s some)
has_scene (Some p) s some = refl

pub may_take : (old : Inside) (h t : ℕ) (x : IsLoanable old h t) (mid : Books Load) → IfSome (flight_at old.flights.future t) (λ f. mid ≡ with_future old.flights (with_flight_at old.flights.future t (away f)))
    → IsSomeAnd (cargo_at mid.cargo t) (λ c. IsSome c.kept.scene)
may_take old h t x mid lent =
    let is : mid ≡ with_future old.flights (with_flight_at old.flights.future t (away x.flight)) =
    subst (λ o. IfSome o (λ (f : Flying). mid ≡ with_future old.flights (with_flight_at old.flights.future t (away f)))) x.there lent in
    subst (λ o. IsSomeAnd o (λ (c : Cargo Load). IsSome c.kept.scene)) (sym (ap (λ (b : Books Load). cargo_at b.cargo t) is ∙ x.with_it)) (has_scene x.cargo.kept.scene (scene_of (key_at x.flight)) x.scene)

-- the flight of a frame was lent, and its scene was taken
module _ (old : Inside) (h t : ℕ) (p : AreParts old) (books : AreBooks old.flights) (x : IsLoanable old h t) (mid new : Books Load) (s : PreparedScene)
    (lent : IfSome (flight_at old.flights.future t) (λ f. mid ≡ with_future old.flights (with_flight_at old.flights.future t (away f))))
    (took : IfSome (cargo_at mid.cargo t) (λ c. (c.kept.scene ≡ Some s) × (new ≡ with_kept mid t (record c.kept { scene = None })))) where
  abbrev bare : Load
  bare = record x.cargo.kept { scene = None }

  mid_is : mid ≡ with_future old.flights (with_flight_at old.flights.future t (away x.flight))
  mid_is = subst (λ o. IfSome o (λ (f : Flying). mid ≡ with_future old.flights (with_flight_at old.flights.future t (away f)))) x.there lent

  took_it : (x.cargo.kept.scene ≡ Some s) × (new ≡ with_kept mid t bare)
  took_it = subst (λ o. IfSome o (λ (c : Cargo Load). (c.kept.scene ≡ Some s) × (new ≡ with_kept mid t (record c.kept { scene = None })))) (ap (λ (b : Books Load). cargo_at b.cargo t) mid_is ∙ x.with_it) took

  same : SameFrames old.flights.future (with_flight_at old.flights.future t (away x.flight))
  same = flight_replaced old.flights.future t x.flight (away x.flight) x.there refl

  new_is : new ≡ record { future = with_flight_at old.flights.future t (away x.flight); cargo = reloaded t bare old.flights.cargo; over = old.flights.over }
  new_is = took_it.1 ∙ ap (λ (b : Books Load). with_kept b t bare) mid_is

  pub lent_parts : AreParts (record old { flights = new })
  lent_parts = subst (λ (b : Books Load). AreParts (record old { flights = b })) (sym new_is)
      (moved_parts old p books t x.flight (away x.flight) x.cargo bare x.there x.with_it same refl refl tt)

  pub lent_stands : IsStanding old → IsStanding (record old { flights = new })
  lent_stands stands = subst (λ (b : Books Load). IsStanding (record old { flights = b })) (sym new_is)
      (moved_stands old p books t x.flight (away x.flight) x.cargo bare x.there x.with_it same refl refl refl (no_less x.flight.view.gives.last) stands)
    where
      no_less : (n : ℕ) → n ≤ n
      no_less n = omega arith

  pub has_lent : (claims : Claims) (seat : Seat) (work : Work) → IfSome (flight_at old.flights.future t) (λ f. IsOfFlight f claims seat × (view seat ≡ f.view)) → work.claims ≡ claims → work.seat ≡ seat
      → scene_of_work work ≡ scene_prepared s → HasLentFlight h old (record old { flights = new }) work
  has_lent claims seat work held claims_are seat_is shows =
      let f : Flying = x.flight in
      let mine : IsOfFlight f claims seat × (view seat ≡ f.view) = subst (λ o. IfSome o (λ (f : Flying). IsOfFlight f claims seat × (view seat ≡ f.view))) x.there held in
      let scene : scene_prepared s ≡ scene_of (key_at f) = some_is (sym (ap (option_map scene_prepared) took_it.0) ∙ x.scene) in
      let loaded : IsLoaded old.history x.cargo = loaded_at old p t x.cargo x.with_it in
      let of_render : scene_prepared s ≡ scene_at old.history f.ticket =
      subst (λ o. IfSome o (λ (z : Scene). z ≡ scene_at old.history x.cargo.ticket)) (ap (option_map scene_prepared) took_it.0) loaded.scene ∙ ap (scene_at old.history) x.cargo_ticket in
      record {
        flight = f;
        there = x.flies;
        claims = subst (λ (k : Claims). IsOfFlight f k work.seat) (sym claims_are) (subst (IsOfFlight f claims) (sym seat_is) mine.0);
        seat = ap view seat_is ∙ mine.1;
        key = ap (λ (k : Claims). scene_of (key_of k)) claims_are ∙ ap (λ (tiles : Tiles). scene_of tiles.table.shared.key) mine.0.table ∙ sym scene ∙ sym shows;
        scene = shows ∙ of_render;
        within = subst IsSceneWithin (sym (shows ∙ of_render)) (subst (λ u. IsSceneWithin (scene_at old.history u)) x.cargo_ticket loaded.within);
        away = ap (λ (b : Books Load). b.future) new_is ∙ ap (λ u. with_flight_at old.flights.future u (away f)) (sym x.ticket);
        over = ap (λ (b : Books Load). b.over) new_is;
        rest = refl;
      }

-- of flights of which one is lent and the others are home, it is the one that is not
only_lent : (f g b : Flying) (fs : List Flying) → find (has_ticket f.ticket) fs ≡ Some f → find (has_ticket g.ticket) fs ≡ Some g → g.home ≡ false
    → AllByRecursion (λ k. k.home ≡ true) (replaced (has_ticket f.ticket) b fs) → g ≡ f
only_lent f g b [] is other away_ all = absurd (none-some f is)
only_lent f g b (x ∷ fs) is other away_ all = by (has_ticket f.ticket x) refl (has_ticket g.ticket x) refl all (only_lent f g b fs)
  where
    first_is : (t : ℕ) (k : Flying) → find (has_ticket t) (x ∷ fs) ≡ Some k → has_ticket t x ≡ true → x ≡ k
    first_is t k found_ hit = some_is (sym (ap (λ c. cond c (Some x) (find (has_ticket t) fs)) hit) ∙ found_)

    later : (t : ℕ) (k : Flying) → find (has_ticket t) (x ∷ fs) ≡ Some k → has_ticket t x ≡ false → find (has_ticket t) fs ≡ Some k
    later t k found_ miss = sym (ap (λ c. cond c (Some x) (find (has_ticket t) fs)) miss) ∙ found_

    by : (c : Bool) → has_ticket f.ticket x ≡ c → (d : Bool) → has_ticket g.ticket x ≡ d → AllByRecursion (λ k. k.home ≡ true) (cond c (b ∷ fs) (x ∷ replaced (has_ticket f.ticket) b fs))
        → (find (has_ticket f.ticket) fs ≡ Some f → find (has_ticket g.ticket) fs ≡ Some g → g.home ≡ false → AllByRecursion (λ k. k.home ≡ true) (replaced (has_ticket f.ticket) b fs) → g ≡ f) → g ≡ f
    by true hit true mine all_ deeper = sym (first_is g.ticket g other mine) ∙ first_is f.ticket f is hit
    by true hit false miss all_ deeper =
        let home : g.home ≡ true = (found (λ (k : Flying). k.home ≡ true) (has_ticket g.ticket) fs g all_.1 (later g.ticket g other miss)).0 in
        absurd (true≢false (sym home ∙ away_))
    by false miss true mine all_ deeper =
        let home : g.home ≡ true = ap (λ (k : Flying). k.home) (sym (first_is g.ticket g other mine)) ∙ all_.0 in
        absurd (true≢false (sym home ∙ away_))
    by false miss false other_miss all_ deeper = deeper (later f.ticket f is miss) (later g.ticket g other other_miss) away_ all_.1

-- the flight that is lent, by the first load without a scene
module _ (old : Inside) (p : AreParts old) (books : AreBooks old.flights) (work : Work) (r : IsLentFlight old work) where
  all_home : AllByRecursion (λ (g : Flying). g.home ≡ true) (replaced (has_ticket r.flight.ticket) (back work.seat r.flight) old.flights.future.flights)
  all_home = recursion_from_All (λ (g : Flying). g.home ≡ true) (replaced (has_ticket r.flight.ticket) (back work.seat r.flight) old.flights.future.flights) r.others

  lent_cargo : (c : Cargo Load) × (find is_lent old.flights.cargo ≡ Some c) × (c.ticket ≡ r.flight.ticket)
  lent_cargo = lent_found r.flight (back work.seat r.flight) old.flights.future.flights old.flights.cargo books.cargo p.aboard r.there r.away all_home

  pub lent_is_found : IsSome (find is_lent old.flights.cargo)
  lent_is_found = ap is_some lent_cargo.1

  pub kept_with_it : IsKeptWith r.flight old.flights.cargo r.flight.ticket
  kept_with_it = aboard_at r.flight.ticket r.flight old.flights.future.flights old.flights.cargo books.cargo p.aboard r.there

  module _ (t : ℕ) (is : IfSome (find is_lent old.flights.cargo) (λ c. t ≡ c.ticket)) where
    pub lent_ticket_is : t ≡ r.flight.ticket
    lent_ticket_is = subst (λ o. IfSome o (λ (c : Cargo Load). t ≡ c.ticket)) lent_cargo.1 is ∙ lent_cargo.2

    pub may_return : IsSomeAnd (flight_at old.flights.future t) (λ f. (f.home ≡ false) × IsOfFlight f work.claims work.seat × IsWorked f work.seat)
    may_return = subst (λ u. IsSomeAnd (flight_at old.flights.future u) (λ (f : Flying). (f.home ≡ false) × IsOfFlight f work.claims work.seat × IsWorked f work.seat)) (sym lent_ticket_is)
        (subst (λ o. IsSomeAnd o (λ (f : Flying). (f.home ≡ false) × IsOfFlight f work.claims work.seat × IsWorked f work.seat)) (sym r.there) (r.away, r.claims, r.worked))

    module _ (mid : Books Load) (put : IfSome (flight_at old.flights.future t) (λ f. mid ≡ with_future old.flights (with_flight_at old.flights.future t (back work.seat f)))) where
      back_is : mid ≡ with_future old.flights (with_flight_at old.flights.future r.flight.ticket (back work.seat r.flight))
      back_is =
          subst (λ o. IfSome o (λ (f : Flying). mid ≡ with_future old.flights (with_flight_at old.flights.future r.flight.ticket (back work.seat f)))) r.there
          (subst (λ u. IfSome (flight_at old.flights.future u) (λ (f : Flying). mid ≡ with_future old.flights (with_flight_at old.flights.future u (back work.seat f)))) lent_ticket_is put)

      pub may_keep : IsSome (cargo_at mid.cargo t)
      may_keep = ap is_some (ap (λ (b : Books Load). cargo_at b.cargo t) back_is ∙ ap (cargo_at old.flights.cargo) lent_ticket_is ∙ kept_with_it.there)

      module _ (new : Books Load) (s : PreparedScene) (shows : scene_prepared s ≡ scene_of_work work) (kept : IfSome (cargo_at mid.cargo t) (λ c. new ≡ with_kept mid t (record c.kept { scene = Some s }))) where
        abbrev full : Load
        full = record kept_with_it.cargo.kept { scene = Some s }

        same_again : SameFrames old.flights.future (with_flight_at old.flights.future r.flight.ticket (back work.seat r.flight))
        same_again = back_same old.flights.future r.flight.ticket r.flight work.seat r.there r.worked

        full_is : new ≡ record { future = with_flight_at old.flights.future r.flight.ticket (back work.seat r.flight); cargo = reloaded r.flight.ticket full old.flights.cargo; over = old.flights.over }
        full_is =
            subst (λ o. IfSome o (λ (c : Cargo Load). new ≡ with_kept mid t (record c.kept { scene = Some s }))) (ap (λ (b : Books Load). cargo_at b.cargo t) back_is ∙ ap (cargo_at old.flights.cargo) lent_ticket_is ∙ kept_with_it.there) kept
            ∙ ap (λ u. with_kept mid u full) lent_ticket_is ∙ ap (λ (b : Books Load). with_kept b r.flight.ticket full) back_is

        pub returned_parts : AreParts (record old { flights = new })
        returned_parts = subst (λ (b : Books Load). AreParts (record old { flights = b })) (sym full_is)
            (moved_parts old p books r.flight.ticket r.flight (back work.seat r.flight) kept_with_it.cargo full r.there kept_with_it.there same_again refl
            (ap Some (shows ∙ sym r.key ∙ ap (λ (tiles : Tiles). scene_of tiles.table.shared.key) r.claims.table)) (shows ∙ r.scene ∙ ap (scene_at old.history) (sym kept_with_it.ticket)))

        pub returned_stands : IsStanding old → IsStanding (record old { flights = new })
        returned_stands stands = subst (λ (b : Books Load). IsStanding (record old { flights = b })) (sym full_is)
            (moved_stands old p books r.flight.ticket r.flight (back work.seat r.flight) kept_with_it.cargo full r.there kept_with_it.there same_again refl refl refl r.worked.rises stands)

        pub returned_home : AreHome new.future
        returned_home = subst (λ (b : Books Load). AreHome b.future) (sym full_is) r.others

        pub has_returned : HasReturned old (record old { flights = new }) work
        has_returned = record {
          flight = λ f there away_.
              let one : f ≡ r.flight = only_lent r.flight f (back work.seat r.flight) old.flights.future.flights r.there there away_ all_home in
              ap (λ (b : Books Load). b.future) full_is ∙ ap (λ (g : Flying). with_flight_at old.flights.future g.ticket (back work.seat g)) (sym one);
          over = ap (λ (b : Books Load). b.over) full_is;
          rest = refl;
        }

-- a frame is in flight by the history just where it has a flight
pub flies_by : (i : Inside) (h : ℕ) → AreParts i → IsStanding i → is_some (ticket_in (phase_at (after i.history) h)) ≡ is_some (flight_of i.flights.future h)
flies_by i h p stands = ap (λ f. is_some (ticket_in f)) (phases_agree i.history i.flights.future p.flown stands.frames.stands h) ∙ by (flight_of i.flights.future h) (shown_by i.flights.future h)
  where
    by : (o : Option Flying) (q : Option Finished) → is_some (ticket_in (phase_as (phase_by o q))) ≡ is_some o
    by (Some f) q = refl
    by None (Some q) = refl
    by None None = refl

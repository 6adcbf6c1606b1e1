-- Work that is taken, flight by flight.
use Rattle.std.proofs.Common.{◌≡◌, ◌∙◌, ◌⊎◌, inl, inr, ℕ, zero, suc, ◌+◌, ◌<◌, ◌≤◌, ◌^◌, Bool, true, false, List, [], ◌∷◌, Option, None, Some, Result, Ok, Err, drop, get_or, length, min, refl, set, sym, ap, subst, arith, true≢false}
use Rattle.std.specs.Prelude.{IfSome}
use Rattle.std.specs.List.{AllByRecursion, slice_get}
use Rattle.std.specs.Option.{IsSomeAnd, option_map, unwrap_or}
use Rattle.std.proofs.Math.ListN.{length-set}
use Rattle.std.proofs.Math.Nat.{min-le_left}
use Rattle.std.proofs.lemmas.Bool.{cases_eq, cases_lt}
use Rattle.std.proofs.lemmas.List.{drop-drop, drop-set-lt, get_or-set_other, get_or-set_same}
use Rattle.std.proofs.lemmas.List.Elements.{recursion_from_All}
use Rattle.std.proofs.lemmas.Option.{get_or_from_slice_get, none-some, slice_get-get_or, slice_get_within}
use Rattle.dev_types.specs.declared.handles.NoMemory.{NoMemory as NoRoom}
use Rattle.flight_books.specs.Kept.{AreBooks, Books, with_future}
use Rattle.flight_books.specs.declared.kept.Cargo.{Cargo}
use Rattle.flight_books.proofs.PairLaws.{flight_booked}
use Rattle.flight_books.proofs.WorkLaws.{at_place, flight_here}
use Rattle.frame_future.proofs.Endings.{same_at}
use Rattle.frame_future.specs.Flights.{Flying, key_at}
use Rattle.frame_future.specs.Future.{AreHome, Future, IsCount, IsHandout, IsKept, flight_at, has_ticket, replaced, with_flight_at}
use Rattle.fx_math.specs.declared.scene.Scene.{Scene}
use Rattle.picture_model.specs.Limits.{IsSceneWithin}
use Rattle.picture_model.specs.Tiles.{tile_count}
use Rattle.seq_model.specs.Histories.{History}
use Rattle.seq_model.specs.Pictures.{scene_at}
use Rattle.tile_claims.specs.Parts.{scene_of, tiles_of}
use Rattle.tile_claims.specs.Seats.{frame_of, key_of, view, IsSeatOf}
use Rattle.tile_claims.specs.Views.{beside}
use Rattle.tile_claims.specs.declared.frame.Frame.{Frame as Tiles}
use Rattle.tile_claims.specs.declared.seats.Claims.{Claims}
use Rattle.tile_claims.specs.declared.seats.Seat.{Seat}
use Rattle.world_snapshot.specs.Works.{scene_of_work}
use Rattle.world_snapshot.specs.declared.works.Work.{Work}
use Rattle.device_laws.proofs.FrameFacts.{flight_replaced, same_flown, same_runs}
use Rattle.device_laws.proofs.LoanFacts.{same_kept}
use Rattle.device_laws.proofs.ReplyFacts.{one_told}
use Rattle.device_laws.specs.SameFrames.{SameFrames, shape_of_flight}
use Rattle.device_parts.specs.AllParts.{AreAboard, AreParts, Inside, IsLoaded, scene_at_home, scene_of_load, scene_prepared}
use Rattle.device_parts.specs.Standing.{IsStanding}
use Rattle.device_parts.specs.Works.{AnswersFor, AreSpent, AsksUpTo, IsSpent, IsWorkFrom, MovesAt, OnlyLooks}
use Rattle.device_parts.specs.declared.loads.Load.{Load}
use Rattle.device_parts.specs.declared.loads.PreparedScene.{PreparedScene}
use Rattle.device_parts.specs.declared.works.Taken.{Taken}
use Rattle.device_parts.proofs.AboardFacts.{aboard_replaced, home_scene}
use Rattle.device_parts.proofs.SeenFacts.{seen_count}

-- what is answered to whoever asks for a seat
abbrev pub Seats : Type 0
Seats = Result (Option (Claims × Seat)) NoRoom

-- of the flight only what its first seat knows of the claimed tiles, and how many seats it split off, has changed
abbrev pub IsTouched : Flying → Flying → Type 0
IsTouched f g = g ≡ record f { view = record f.view { claims = g.view.claims; splits = g.view.splits } }

pub counted_touched : (f g : Flying) (r : ℕ) → IsCount f g r → IsTouched f g
counted_touched f g r is = subst (λ (h : Flying). h ≡ record f { view = record f.view { claims = h.view.claims; splits = h.view.splits } }) (sym is.now) refl

pub handed_touched : (f g : Flying) (r : Seats) → IsHandout f g r → IsTouched f g
handed_touched f g (Ok (Some out)) is = subst (λ (h : Flying). h ≡ record f { view = record f.view { claims = h.view.claims; splits = h.view.splits } }) (sym is.now) refl
handed_touched f g (Ok None) is = subst (λ (h : Flying). h ≡ record f { view = record f.view { claims = h.view.claims; splits = h.view.splits } }) (sym is.now) refl
handed_touched f g (Err e) is = subst (λ (h : Flying). h ≡ record f { view = record f.view { claims = h.view.claims; splits = h.view.splits } }) (sym is.now) refl

-- what always holds, and what stands, where the flight with a ticket was touched
module _ (old : Inside) (t : ℕ) (f g : Flying) (there : flight_at old.flights.future t ≡ Some f) (touched : IsTouched f g) (new : Books Load) (is : new ≡ with_future old.flights (with_flight_at old.flights.future t g)) where
  same : SameFrames old.flights.future (with_flight_at old.flights.future t g)
  same = flight_replaced old.flights.future t f g there (ap shape_of_flight touched)

  count : length (with_flight_at old.flights.future t g).flights ≡ length old.flights.future.flights
  count = seen_count old.flights.future (with_flight_at old.flights.future t g) (same_runs old.flights.future (with_flight_at old.flights.future t g) same)

  pub touched_parts : AreParts old → AreParts (record old { flights = new })
  touched_parts p = subst (λ (b : Books Load). AreParts (record old { flights = b })) (sym is) (record {
    rest = p.rest;
    flown = same_flown old.history old.flights.future (with_flight_at old.flights.future t g) same p.flown;
    loaded = p.loaded;
    aboard = aboard_replaced (has_ticket t) old.flights.future.flights old.flights.cargo f g there (ap scene_at_home touched) p.aboard;
    lets = p.lets;
    kept = p.kept;
    shown = p.shown;
    built = p.built;
    over = p.over;
    places = subst (λ n. length old.history + n < old.room) (sym count) p.places;
    stops = subst (λ n. n < old.objects.stored.places) (sym count) p.stops;
  })

  pub touched_stands : IsStanding old → IsStanding (record old { flights = new })
  touched_stands stands = subst (λ (b : Books Load). IsStanding (record old { flights = b })) (sym is) (record {
    frames = same_kept old.history old.flights.future (with_flight_at old.flights.future t g) same refl stands.frames;
    told = one_told old.history old.flights.future t f g there (ap (λ (h : Flying). h.ticket) touched) (ap (λ (h : Flying). h.looked) touched)
        (no_less f.view.gives.last g.view.gives.last (ap (λ (h : Flying). h.view.gives.last) touched)) stands.told;
  })
    where
      no_less : (m n : ℕ) → n ≡ m → m ≤ n
      no_less m n e = omega (arith, e)

-- the flight at a place moved, by what is said of the one with its ticket
module _ (old : Inside) (frames : Future) (books : AreBooks old.flights) (is : frames ≡ old.flights.future) (kept : IsKept frames) (place : ℕ) (c : Cargo Load) (at : slice_get old.flights.cargo place ≡ Some c)
    (P : Flying → Flying → Type 0) (new : Books Load)
    (changed : IfSome (flight_at old.flights.future c.ticket) (λ f. (g : Flying) × P f g × (new ≡ with_future old.flights (with_flight_at old.flights.future c.ticket g)))) where
  kept_now : IsKept old.flights.future
  kept_now = subst IsKept is kept

  here : (f : Flying) × (slice_get old.flights.future.flights place ≡ Some f) × (c.ticket ≡ f.ticket) × (flight_at old.flights.future c.ticket ≡ Some f)
      × ((g : Flying) → replaced (has_ticket c.ticket) g old.flights.future.flights ≡ set old.flights.future.flights place g)
  here = flight_here old.flights place c books kept_now at

  out : (g : Flying) × P here.0 g × (new ≡ with_future old.flights (with_flight_at old.flights.future c.ticket g))
  out = subst (λ o. IfSome o (λ (f : Flying). (g : Flying) × P f g × (new ≡ with_future old.flights (with_flight_at old.flights.future c.ticket g)))) here.3 changed

  pub moves_at : MovesAt place P old (record old { flights = new })
  moves_at = record {
    before = here.0;
    after = out.0;
    there = here.1;
    moves = out.1;
    flights = ap (λ (b : Books Load). b.future.flights) out.2 ∙ here.4 out.0;
    pictures = ap (λ (b : Books Load). b.future.pictures) out.2;
    cargo = ap (λ (b : Books Load). b.cargo) out.2;
    over = ap (λ (b : Books Load). b.over) out.2;
    rest = refl;
  }

  pub moved_parts_at : ((f g : Flying) → P f g → IsTouched f g) → AreParts old → AreParts (record old { flights = new })
  moved_parts_at touches p = touched_parts old c.ticket here.0 out.0 here.3 (touches here.0 out.0 out.1) new out.2 p

  pub moved_stands_at : ((f g : Flying) → P f g → IsTouched f g) → IsStanding old → IsStanding (record old { flights = new })
  moved_stands_at touches stands = touched_stands old c.ticket here.0 out.0 here.3 (touches here.0 out.0 out.1) new out.2 stands

-- a flight that is home may be asked
pub may_ask : (old : Inside) (frames : Future) → AreBooks old.flights → frames ≡ old.flights.future → IsKept frames → (place : ℕ) (c : Cargo Load) → slice_get old.flights.cargo place ≡ Some c → AreHome old.flights.future
    → IsSomeAnd (flight_at old.flights.future c.ticket) (λ f. f.home ≡ true)
may_ask old frames books is kept place c at home =
    let here = flight_here old.flights place c books (subst IsKept is kept) at in
    subst (λ o. IsSomeAnd o (λ (f : Flying). f.home ≡ true)) (sym here.3)
    (subst (λ (f : Flying). f.home ≡ true) (get_or_from_slice_get old.flights.future.flights place here.0 here.0 here.1) (home place here.0 (slice_get_within old.flights.future.flights place here.0 here.1)))

-- what is kept at a place
pub kept_at_place : (cs shown : List (Cargo Load)) (place : ℕ) (d : Cargo Load) → shown ≡ cs → place < length cs → slice_get cs place ≡ Some (get_or shown place d)
kept_at_place cs shown place d is within = ap (λ xs. slice_get xs place) (sym is) ∙ slice_get-get_or shown place d (subst (λ xs. place < length xs) (sym is) within)

-- what is said of a move, said otherwise
pub moves_so : (place : ℕ) (P Q : Flying → Flying → Type 0) (old new : Inside) (m : MovesAt place P old new) → Q m.before m.after → MovesAt place Q old new
moves_so place P Q old new m q = record {
  before = m.before;
  after = m.after;
  there = m.there;
  moves = q;
  flights = m.flights;
  pictures = m.pictures;
  cargo = m.cargo;
  over = m.over;
  rest = m.rest;
}

-- one move after another
set_get : (xs : List Flying) (i : ℕ) (f h : Flying) → slice_get xs i ≡ Some f → slice_get (set xs i h) i ≡ Some h
set_get [] i f h is = absurd (none-some f is)
set_get (x ∷ xs) zero f h is = refl
set_get (x ∷ xs) (suc i) f h is = set_get xs i f h is

set_twice : (xs : List Flying) (i : ℕ) (h g : Flying) → set (set xs i h) i g ≡ set xs i g
set_twice [] i h g = refl
set_twice (x ∷ xs) zero h g = refl
set_twice (x ∷ xs) (suc i) h g = ap (λ ys. x ∷ ys) (set_twice xs i h g)

pub met : (place : ℕ) (P Q : Flying → Flying → Type 0) (old mid new : Inside) (m : MovesAt place P old mid) (n : MovesAt place Q mid new) → m.after ≡ n.before
met place P Q old mid new m n = same_some (sym (set_get old.flights.future.flights place m.before m.after m.there) ∙ ap (λ fs. slice_get fs place) (sym m.flights) ∙ n.there)
  where
    same_some : {a b : Flying} → Some a ≡ Some b → a ≡ b
    same_some {a} same = ap (λ o. unwrap_or o a) same

pub moves_then : (place : ℕ) (P Q R : Flying → Flying → Type 0) (old mid new : Inside) (m : MovesAt place P old mid) (n : MovesAt place Q mid new) → R m.before n.after → MovesAt place R old new
moves_then place P Q R old mid new m n r = record {
  before = m.before;
  after = n.after;
  there = m.there;
  moves = r;
  flights = n.flights ∙ ap (λ fs. set fs place n.after) m.flights ∙ set_twice old.flights.future.flights place m.after n.after;
  pictures = n.pictures ∙ m.pictures;
  cargo = n.cargo ∙ m.cargo;
  over = n.over ∙ m.over;
  rest = n.rest ∙ ap (λ (i : Inside). record i { flights = new.flights }) m.rest;
}

-- looks, one after another
pub counted_looks : (f g : Flying) (r : ℕ) → IsCount f g r → OnlyLooks f g
counted_looks f g r is = subst (λ (h : Flying). h ≡ record f { view = record f.view { claims = h.view.claims } }) (sym is.now) refl

looks_twice : (f h g : Flying) → OnlyLooks f h → OnlyLooks h g → OnlyLooks f g
looks_twice f h g first second = subst (λ (k : Flying). g ≡ record k { view = record k.view { claims = g.view.claims } }) first second

pub refused_looks : (f h g : Flying) (r : ℕ) (e : NoRoom) → IsCount f h r → IsHandout h g (Err e) → OnlyLooks f g
refused_looks f h g r e counted is =
    looks_twice f h g (counted_looks f h r counted) (subst (λ (k : Flying). k ≡ record h { view = record h.view { claims = k.view.claims } }) (sym is.now) refl)

rises : (f h g : Flying) (r : ℕ) (out : Seats) (c : IsCount f h r) (is : IsHandout h g out) → (g.view.claims.last ≡ is.read) → (g.view.claims.count ≡ h.view.claims.count + 1)
    → (f.view.claims.count < g.view.claims.count) × (f.view.claims.last ≤ g.view.claims.last)
rises f h g r out c is last count =
    let more : h.view.claims.count ≡ f.view.claims.count + 1 = ap (λ (k : Flying). k.view.claims.count) c.now in
    let first = c.rises in
    let second = is.rises in
    let seen : h.view.claims.last ≡ c.read = ap (λ (k : Flying). k.view.claims.last) c.now in
    (between f.view.claims.count h.view.claims.count g.view.claims.count more count, above f.view.claims.last c.read h.view.claims.last is.read g.view.claims.last first seen second last)
  where
    between : (a b c : ℕ) → b ≡ a + 1 → c ≡ b + 1 → a < c
    between a b c one two = omega (arith, one, two)

    above : (a b c d e : ℕ) → a ≤ b → c ≡ b → c ≤ d → e ≡ d → a ≤ e
    above a b c d e first seen second last = omega (arith, first, seen, second, last)

-- a flight of which a look read all tiles as claimed has no work
pub spent_by_look : (f g : Flying) (r : ℕ) → IsCount f g r → r ≡ tiles_of (key_at f) → IsSpent f g
spent_by_look f g r is all =
    let last : g.view.claims.last ≡ is.read = ap (λ (k : Flying). k.view.claims.last) is.now in
    let count : g.view.claims.count ≡ f.view.claims.count + 1 = ap (λ (k : Flying). k.view.claims.count) is.now in
    let first = is.rises in
    let most = min-le_left is.read (tiles_of (key_at f)) in
    let reads : min is.read (tiles_of (key_at f)) ≡ tiles_of (key_at f) = sym is.value ∙ all in
    record {
      looks = counted_looks f g r is;
      looked = (let one : f.view.claims.count < g.view.claims.count = less f.view.claims.count g.view.claims.count count in one);
      rises = up f.view.claims.last is.read g.view.claims.last first last;
      spent = inl (reaches (tiles_of (key_at f)) is.read (min is.read (tiles_of (key_at f))) g.view.claims.last most reads last);
    }
  where
    less : (a b : ℕ) → b ≡ a + 1 → a < b
    less a b e = omega (arith, e)

    up : (a b c : ℕ) → a ≤ b → c ≡ b → a ≤ c
    up a b c le e = omega (arith, le, e)

    reaches : (n r m l : ℕ) → m ≤ r → m ≡ n → l ≡ r → n ≤ l
    reaches n r m l le is_ last = omega (arith, le, is_, last)

-- and so does one that was looked at and then had no seat
pub spent_by_split : (f h g : Flying) (r : ℕ) → IsCount f h r → IsHandout h g (Ok None) → IsSpent f g
spent_by_split f h g r c is =
    let last : g.view.claims.last ≡ is.read = ap (λ (k : Flying). k.view.claims.last) is.now in
    let count : g.view.claims.count ≡ h.view.claims.count + 1 = ap (λ (k : Flying). k.view.claims.count) is.now in
    let up = rises f h g r (Ok None) c is last count in
    let key : key_at h ≡ key_at f = ap key_at c.now in
    let splits : h.view.splits ≡ f.view.splits = ap (λ (k : Flying). k.view.splits) c.now in
    record {
      looks = looks_twice f h g (counted_looks f h r c) (subst (λ (k : Flying). k ≡ record h { view = record h.view { claims = k.view.claims } }) (sym is.now) refl);
      looked = up.0;
      rises = up.1;
      spent = elim (is.spent.0 refl) [
        | inl all ↦ inl (subst (λ n. tiles_of (key_at f) ≤ n) (sym last) (subst (λ k. tiles_of k ≤ is.read) key all))
        | inr most ↦ inr (sym splits ∙ most)
      ];
    }

abbrev IsSame : Seats → Seats → Type 0
IsSame a b = a ≡ b

abbrev has_seat : Seats → Bool
has_seat (Ok (Some _)) = true
has_seat r = false

seat_or_none : (given : Claims × Seat) → IsSame (Ok (Some given)) (Ok None) → ⊥
seat_or_none given same_ = true≢false (ap has_seat same_)

-- a flight that was looked at, and then split off a seat, hands out work
pub work_from : (history : History) (f h g : Flying) (r : ℕ) (claims : Claims) (seat : Seat) (work : Work) (s : Scene) → IsCount f h r → IsHandout h g (Ok (Some (claims, seat)))
    → work.claims ≡ claims → work.seat ≡ seat → scene_of_work work ≡ s → s ≡ scene_of (key_at f) → s ≡ scene_at history f.ticket → IsSceneWithin s → IsWorkFrom history f g work
work_from history f h g r claims seat work s c is claims_are seat_is shows keyed rendered within =
    let last : g.view.claims.last ≡ is.read = ap (λ (k : Flying). k.view.claims.last) is.now in
    let count : g.view.claims.count ≡ h.view.claims.count + 1 = ap (λ (k : Flying). k.view.claims.count) is.now in
    let up = rises f h g r (Ok (Some (claims, seat))) c is last count in
    let key : key_at h ≡ key_at f = ap key_at c.now in
    let splits : h.view.splits ≡ f.view.splits = ap (λ (k : Flying). k.view.splits) c.now in
    let table : frame_of claims ≡ f.tiles = is.out.0 ∙ ap (λ (k : Flying). k.tiles) c.now in
    let never : (tiles_of (key_at h) ≤ is.read) ⊎ (h.view.splits ≡ 2 ^ 20) → ⊥ = λ all. seat_or_none (claims, seat) (is.spent.1 all) in
    record {
      now = subst (λ (k : Flying). g ≡ record k { view = record k.view { claims = g.view.claims; splits = k.view.splits + 1 } }) (counted_looks f h r c)
          (subst (λ (k : Flying). k ≡ record h { view = record h.view { claims = k.view.claims; splits = h.view.splits + 1 } }) (sym is.now) refl);
      looked = up.0;
      rises = up.1;
      some = subst (λ n. n < tiles_of (key_at f)) (sym last) (subst (λ k. is.read < tiles_of k) key (elim (cases_lt is.read (tiles_of (key_at h))) [
        | inl less ↦ less
        | inr all ↦ absurd (never (inl all))
      ]));
      few = λ most. never (inr (splits ∙ most));
      claims = ap frame_of claims_are ∙ table;
      seat = subst (λ (k : Claims). IsSeatOf k work.seat) (sym claims_are) (subst (IsSeatOf claims) (sym seat_is) is.out.1);
      fresh = ap view seat_is ∙ is.out.2 ∙ ap (λ (k : Flying). beside k.view) c.now;
      key = ap (λ (k : Claims). scene_of (key_of k)) claims_are ∙ ap (λ (tiles : Tiles). scene_of tiles.table.shared.key) table ∙ sym keyed ∙ sym shows;
      scene = shows ∙ rendered;
      within = subst IsSceneWithin (sym shows) within;
    }

-- the scene that is kept with the flight at a place, none being lent
pub record IsShownAt (old : Inside) (place : ℕ) (c : Cargo Load) (f : Flying) : Type 0 where
  pub shown : scene_of_load c.kept ≡ Some (scene_of (key_at f))
  pub rendered : scene_of (key_at f) ≡ scene_at old.history f.ticket
  pub within : IsSceneWithin (scene_of (key_at f))

aboard_place : (fs : List Flying) (cs : List (Cargo Load)) (place : ℕ) (f : Flying) (c : Cargo Load) → AreAboard fs cs → slice_get fs place ≡ Some f → slice_get cs place ≡ Some c → scene_of_load c.kept ≡ scene_at_home f
aboard_place [] cs place f c on at with_it = absurd (none-some f at)
aboard_place (x ∷ fs) [] place f c on at with_it = absurd on
aboard_place (x ∷ fs) (d ∷ cs) zero f c on at with_it = let flight : x ≡ f = cc in let cargo : d ≡ c = cc in ap (λ (k : Cargo Load). scene_of_load k.kept) (sym cargo) ∙ on.0 ∙ ap scene_at_home flight
aboard_place (x ∷ fs) (d ∷ cs) (suc place) f c on at with_it = aboard_place fs cs place f c on.1 at with_it

loaded_place : (history : History) (cs : List (Cargo Load)) (place : ℕ) (c : Cargo Load) → AllByRecursion (IsLoaded history) cs → slice_get cs place ≡ Some c → IsLoaded history c
loaded_place history [] place c all is = absurd (none-some c is)
loaded_place history (d ∷ cs) zero c all is = let same : d ≡ c = cc in subst (IsLoaded history) same all.0
loaded_place history (d ∷ cs) (suc place) c all is = loaded_place history cs place c all.1 is

pub shown_at_place : (old : Inside) (place : ℕ) (c : Cargo Load) (f : Flying) → AreParts old → f.home ≡ true → c.ticket ≡ f.ticket → slice_get old.flights.future.flights place ≡ Some f → slice_get old.flights.cargo place ≡ Some c
    → IsShownAt old place c f
shown_at_place old place c f p home ticket at with_it =
    let shown : scene_of_load c.kept ≡ Some (scene_of (key_at f)) = aboard_place old.flights.future.flights old.flights.cargo place f c p.aboard at with_it ∙ home_scene f home in
    let loaded : IsLoaded old.history c = loaded_place old.history old.flights.cargo place c p.loaded with_it in
    let rendered : scene_of (key_at f) ≡ scene_at old.history f.ticket = subst (λ o. IfSome o (λ (z : Scene). z ≡ scene_at old.history c.ticket)) shown loaded.scene ∙ ap (scene_at old.history) ticket in
    record {
      shown = shown;
      rendered = rendered;
      within = subst IsSceneWithin (sym rendered) (subst (λ u. IsSceneWithin (scene_at old.history u)) ticket loaded.within);
    }

-- a flight that is home has its scene
place_home : (fs : List Flying) (cs : List (Cargo Load)) (place : ℕ) (c : Cargo Load) → AreAboard fs cs → AllByRecursion (λ f. f.home ≡ true) fs → slice_get cs place ≡ Some c
    → (f : Flying) × (slice_get fs place ≡ Some f) × (scene_of_load c.kept ≡ Some (scene_of (key_at f)))
place_home [] [] place c on home is = absurd (none-some c is)
place_home [] (d ∷ cs) place c on home is = absurd on
place_home (x ∷ fs) [] place c on home is = absurd on
place_home (x ∷ fs) (d ∷ cs) zero c on home is = let same_ : d ≡ c = cc in (x, refl, ap (λ (k : Cargo Load). scene_of_load k.kept) (sym same_) ∙ on.0 ∙ home_scene x home.0)
place_home (x ∷ fs) (d ∷ cs) (suc place) c on home is = place_home fs cs place c on.1 home.1 is

pub scene_there : (old : Inside) → AreParts old → AreHome old.flights.future → (place : ℕ) (c : Cargo Load) → slice_get old.flights.cargo place ≡ Some c → c.kept.scene ≡ None → ⊥
scene_there old p home place c at none =
    let here = place_home old.flights.future.flights old.flights.cargo place c p.aboard (recursion_from_All (λ (f : Flying). f.home ≡ true) old.flights.future.flights home) at in
    none-some (scene_of (key_at here.0)) (sym (ap (option_map scene_prepared) none) ∙ here.2)

-- after a look at the flight at a place, the scene that is kept with it is that of its claims, and of its render
module _ (old mid : Inside) (place r : ℕ) (m : MovesAt place (λ f g. IsCount f g r) old mid) (p : AreParts mid) (books : AreBooks mid.flights) (home : AreHome mid.flights.future)
    (within : place < length mid.flights.cargo) (s : PreparedScene) (is : IfSome (slice_get mid.flights.cargo place) (λ c. c.kept.scene ≡ Some s)) where
  pub there_now : slice_get mid.flights.future.flights place ≡ Some m.after
  there_now = ap (λ fs. slice_get fs place) m.flights ∙ set_get old.flights.future.flights place m.before m.after m.there

  pub mine : (f : Flying) → slice_get mid.flights.future.flights place ≡ Some f → (c : Cargo Load) × (slice_get mid.flights.cargo place ≡ Some c) × (c.ticket ≡ f.ticket)
  mine f at = let booked = flight_booked mid.flights place f books at in (booked.0, booked.1, booked.2.ticket)

  pub shown_here : IsShownAt mid place (mine m.after there_now).0 m.after × (scene_prepared s ≡ scene_of (key_at m.after))
  shown_here =
      let c = mine m.after there_now in
      let homes = recursion_from_All (λ (f : Flying). f.home ≡ true) mid.flights.future.flights home in
      let at_home : m.after.home ≡ true = at_place (λ (f : Flying). f.home ≡ true) mid.flights.future.flights place m.after there_now homes in
      let shown : IsShownAt mid place c.0 m.after = shown_at_place mid place c.0 m.after p at_home c.2 there_now c.1 in
      let kept : c.0.kept.scene ≡ Some s = subst (λ o. IfSome o (λ (k : Cargo Load). k.kept.scene ≡ Some s)) c.1 is in
      (shown, same_scene (sym (ap (option_map scene_prepared) kept) ∙ shown.shown))
    where
      same_scene : {a b : Scene} → Some a ≡ Some b → a ≡ b
      same_scene {a} same_ = ap (λ o. unwrap_or o a) same_

  key_same : key_at m.after ≡ key_at m.before
  key_same = ap key_at m.moves.now

  pub scene_within : IsSceneWithin (scene_prepared s)
  scene_within = subst IsSceneWithin (sym shown_here.1) shown_here.0.within

  pub scene_keyed : scene_prepared s ≡ scene_of (key_at m.before)
  scene_keyed = shown_here.1 ∙ ap scene_of key_same

  pub scene_rendered : scene_prepared s ≡ scene_at old.history m.before.ticket
  scene_rendered = shown_here.1 ∙ shown_here.0.rendered ∙ ap (λ (i : Inside). scene_at i.history m.after.ticket) m.rest ∙ ap (λ (f : Flying). scene_at old.history f.ticket) m.moves.now

  pub all_claimed : (tiles : ℕ) → tiles ≡ tile_count s.view.size.0 s.view.size.1 → r ≡ tiles → MovesAt place (AnswersFor old.history (Ok None)) old mid
  all_claimed tiles counted same_ = moves_so place (λ f g. IsCount f g r) (AnswersFor old.history (Ok None)) old mid m
      (spent_by_look m.before m.after r m.moves (same_ ∙ counted ∙ ap (λ (z : Scene). tile_count z.width z.height) scene_keyed))

  pub no_memory : (e : NoRoom) → MovesAt place (AnswersFor old.history (Err e)) old mid
  no_memory e = moves_so place (λ f g. IsCount f g r) (AnswersFor old.history (Err e)) old mid m (counted_looks m.before m.after r m.moves)

  -- then it was asked for a seat
  module _ (new : Inside) (out : Seats) (n : MovesAt place (λ f g. IsHandout f g out) mid new) where
    asked : IsHandout m.after n.after out
    asked = subst (λ k. IsHandout k n.after out) (sym (met place (λ f g. IsCount f g r) (λ f g. IsHandout f g out) old mid new m n)) n.moves

    pub no_seat : out ≡ Ok None → MovesAt place (AnswersFor old.history (Ok None)) old new
    no_seat none = moves_then place (λ f g. IsCount f g r) (λ f g. IsHandout f g out) (AnswersFor old.history (Ok None)) old mid new m n
        (spent_by_split m.before m.after n.after r m.moves (subst (IsHandout m.after n.after) none asked))

    pub no_room : (e : NoRoom) → out ≡ Err e → MovesAt place (AnswersFor old.history (Err e)) old new
    no_room e err = moves_then place (λ f g. IsCount f g r) (λ f g. IsHandout f g out) (AnswersFor old.history (Err e)) old mid new m n
        (refused_looks m.before m.after n.after r e m.moves (subst (IsHandout m.after n.after) err asked))

    pub has_seat_of : (claims : Claims) (seat : Seat) (work : Work) (shared : PreparedScene) (c : Cargo Load) → out ≡ Ok (Some (claims, seat)) → work.claims ≡ claims → work.seat ≡ seat → scene_of_work work ≡ scene_prepared shared
        → scene_prepared shared ≡ scene_prepared s → slice_get mid.flights.cargo place ≡ Some c → MovesAt place (AnswersFor old.history (Ok (Some (record { ticket = c.ticket; work = work })))) old new
    has_seat_of claims seat work shared c some claims_are seat_is shows same_ at =
        moves_then place (λ f g. IsCount f g r) (λ f g. IsHandout f g out) (AnswersFor old.history (Ok (Some (record { ticket = c.ticket; work = work })))) old mid new m n (
          (let k = mine m.after there_now in ap (λ (x : Cargo Load). x.ticket) (one_there (sym at ∙ k.1)) ∙ k.2 ∙ ap (λ (f : Flying). f.ticket) m.moves.now),
          work_from old.history m.before m.after n.after r claims seat work (scene_prepared s) m.moves (subst (IsHandout m.after n.after) some asked) claims_are seat_is (shows ∙ same_) scene_keyed scene_rendered scene_within,
        )
      where
        one_there : {a b : Cargo Load} → Some a ≡ Some b → a ≡ b
        one_there {a} same_ = ap (λ o. unwrap_or o a) same_

-- one more flight was asked, and had no work
pub spent_more : (old now new : List Flying) (place : ℕ) (f g : Flying) → AreSpent place old now → length now ≡ length old → drop place now ≡ drop place old → slice_get now place ≡ Some f → new ≡ set now place g → IsSpent f g
    → AreSpent (place + 1) old new × (length new ≡ length old) × (drop (place + 1) new ≡ drop (place + 1) old)
spent_more old now new place f g spent count same there is one =
    let within : place < length now = slice_get_within now place f there in (
      (λ k d l. elim (cases_eq k place) [
        | inl here ↦
            let before : get_or old place d ≡ f = sym (same_at now old place d same) ∙ get_or_from_slice_get now place f d there in
            let after : get_or new place d ≡ g = ap (λ fs. get_or fs place d) is ∙ get_or-set_same now place g d within in
            subst (λ n. IsSpent (get_or old n d) (get_or new n d)) (sym here)
            (subst (λ h. IsSpent h (get_or new place d)) (sym before) (subst (λ h. IsSpent f h) (sym after) one))
        | inr other ↦
            let less : k < place = omega (arith, l, other) in
            subst (λ h. IsSpent (get_or old k d) h) (sym (ap (λ fs. get_or fs k d) is ∙ get_or-set_other now place k g d other)) (spent k d less)
      ]),
      ap length is ∙ length-set now place g ∙ count,
      ap (drop (place + 1)) is ∙ drop-set-lt (place + 1) now place g (omega arith) ∙ sym (drop-drop 1 place now) ∙ ap (drop 1) same ∙ drop-drop 1 place old,
    )

-- those before a place had no work, and the flight at it was asked last
pub up_to : (old now new : Inside) (place : ℕ) (result : Result (Option Taken) NoRoom) → AreSpent place old.flights.future.flights now.flights.future.flights
    → length now.flights.future.flights ≡ length old.flights.future.flights → drop place now.flights.future.flights ≡ drop place old.flights.future.flights → now ≡ record old { flights = now.flights }
    → MovesAt place (AnswersFor now.history result) now new → AsksUpTo place result old new
up_to old now new place result spent count behind rest asked_ = record {
  between = now;
  spent = spent;
  count = count;
  behind = behind;
  asked = subst (λ h. MovesAt place (AnswersFor h result) now new) (ap (λ (i : Inside). i.history) rest) asked_;
}

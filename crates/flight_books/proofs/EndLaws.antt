-- Which flights a sweep ends, and which it leaves.
use Rattle.std.proofs.Common.{◌≡◌, ◌==◌, ℕ, zero, suc, ◌<◌, Bool, true, false, cond, List, [], ◌∷◌, ◌++◌, length, get_or, map, Option, Some, None, IfSome, arith, refl, sym, ap, subst, ◌∙◌, true≢false}
use Rattle.std.proofs.lemmas.List.{append-nil}
use Rattle.std.proofs.lemmas.List.Elements.{Contains-append_right}
use Rattle.std.proofs.lemmas.Option.{none-some, slice_get-get_or}
use Rattle.std.specs.List.{AllByRecursion, Contains, find, slice_get}
use Rattle.std.specs.Option.{is_some, unwrap_or}
use Rattle.seq_model.specs.Histories.{History}
use Rattle.tile_claims.specs.declared.seats.Claims.{Claims}
use Rattle.tile_claims.specs.declared.seats.Seat.{Seat}
use Rattle.tile_claims.specs.Parts.{tiles_of}
use Rattle.tile_claims.specs.Views.{IsAlone}
use Rattle.frame_future.specs.Flights.{Flying, awaited, begun, is_stopped, key_at, looked_at, IsNew}
use Rattle.frame_future.specs.Future.{flight_at, has_ticket, IsCount, IsKept, Rising}
use Rattle.frame_future.specs.Reads.{AreRead, IsRead, ended_by, is_end, left_by, pictures_of}
use Rattle.frame_future.proofs.AloneLaws.{idle_claimed}
use Rattle.frame_future.proofs.ReadLaws.{rising-above}
use Rattle.flight_books.specs.declared.kept.Cargo.{Cargo}
use Rattle.flight_books.specs.Kept.{AreBooked, AreBooks, Books, without, without_all}
use Rattle.flight_books.proofs.CargoLaws.{apart, equal, not_in_front, tickets_above}
use Rattle.flight_books.proofs.WorkLaws.{at_place}
use Rattle.flight_books.specs.Rests.{IsUnworked}
use Rattle.flight_books.specs.Stops.{AreHalted, HaltsBy, StopsAll}
use Rattle.flight_books.specs.Sweeps.{IsSwept, WasBefore, note_of, notes_of, tickets_of}

above_not : (a b : ℕ) → a < b → (b == a) ≡ false
above_not a b less = grind (arith, less)

pub begun_claims_nothing : (ticket frame : ℕ) (channels : List Bool) (claims : Claims) (s : Seat) (g : Flying) (read : ℕ) → IsNew claims s
    → IsCount (begun ticket frame channels claims s) g read → read ≡ 0
begun_claims_nothing ticket frame channels claims s g read new count =
    count.alone (new.first, new.alone) new.going ∙ idle_claimed (begun ticket frame channels claims s).view new.idle ∙ ap length new.unclaimed

-- an element is in a list that has it behind another, and in what is made of the elements
behind : {X : Type 0} (x y : X) (xs : List X) → Contains xs x → Contains (y ∷ xs) x
behind x y xs is = Contains-append_right (y ∷ []) xs x is

made : {X Y : Type 0} (h : X → Y) (xs : List X) (x : X) (k : ℕ) → k < length xs → get_or xs k x ≡ x → Contains (map h xs) (h x)
made h [] x k within is = absurd (omega (arith, within))
made h (y ∷ xs) x zero within is = (0, omega arith, ap h is)
made h (y ∷ xs) x (suc k) within is = behind (h x) (h y) (map h xs) (made h xs x k (omega (arith, within)) is)

-- a flight that only its first seat worked on, and that waits for no more than that seat gave, ends
ended_has : (fs : List Flying) (rs : List ℕ) (i : ℕ) (f : Flying) → slice_get fs i ≡ Some f → AreRead fs rs → IsAlone f.view → length f.view.given ≡ awaited f
    → Contains (ended_by fs rs) (looked_at (awaited f) f)
ended_has [] rs i f at read alone given = absurd (none-some f at)
ended_has (x ∷ fs) [] i f at read alone given = absurd read
ended_has (x ∷ fs) (r ∷ rs) zero f at read alone given =
    let e : x ≡ f = cc in
    let read_here : IsRead f r = subst (λ (h : Flying). IsRead h r) e read.0 in
    let r_is : r ≡ awaited f = read_here.alone alone ∙ given in
    let ends : is_end x r ≡ true = ap (λ (h : Flying). is_end h r) e ∙ equal r (awaited f) r_is in
    let here : looked_at r x ≡ looked_at (awaited f) f = (λ i. looked_at (r_is i) (e i)) in
    subst (λ ys. Contains ys (looked_at (awaited f) f)) (sym (ap (λ b. cond b (looked_at r x ∷ ended_by fs rs) (ended_by fs rs)) ends)) (0, omega arith, here)
ended_has (x ∷ fs) (r ∷ rs) (suc i) f at read alone given = by (is_end x r) (ended_has fs rs i f at read.1 alone given)
  where
    by : (b : Bool) → Contains (ended_by fs rs) (looked_at (awaited f) f) → Contains (cond b (looked_at r x ∷ ended_by fs rs) (ended_by fs rs)) (looked_at (awaited f) f)
    by true rest = behind (looked_at (awaited f) f) (looked_at r x) (ended_by fs rs) rest
    by false rest = rest

-- and no flight with its ticket is left
none_left : (t : ℕ) (fs : List Flying) (rs : List ℕ) → AllByRecursion (λ f. t < f.ticket) fs → find (has_ticket t) (left_by fs rs) ≡ None
none_left t [] rs above = refl
none_left t (f ∷ fs) [] above = refl
none_left t (f ∷ fs) (r ∷ rs) above = by (is_end f r) (none_left t fs rs above.1)
  where
    by : (b : Bool) → find (has_ticket t) (left_by fs rs) ≡ None → find (has_ticket t) (cond b (left_by fs rs) (looked_at r f ∷ left_by fs rs)) ≡ None
    by true rest = rest
    by false rest = ap (λ b. cond b (Some (looked_at r f)) (find (has_ticket t) (left_by fs rs))) (above_not t f.ticket above.0) ∙ rest

gone_by : (fs : List Flying) (rs : List ℕ) (i : ℕ) (f : Flying) → slice_get fs i ≡ Some f → AreRead fs rs → Rising (map (λ (g : Flying). g.ticket) fs) → IsAlone f.view → length f.view.given ≡ awaited f
    → find (has_ticket f.ticket) (left_by fs rs) ≡ None
gone_by [] rs i f at read rising alone given = absurd (none-some f at)
gone_by (x ∷ fs) [] i f at read rising alone given = absurd read
gone_by (x ∷ fs) (r ∷ rs) zero f at read rising alone given =
    let e : x ≡ f = cc in
    let read_here : IsRead f r = subst (λ (h : Flying). IsRead h r) e read.0 in
    let ends : is_end x r ≡ true = ap (λ (h : Flying). is_end h r) e ∙ equal r (awaited f) (read_here.alone alone ∙ given) in
    let above : AllByRecursion (λ (g : Flying). f.ticket < g.ticket) fs = subst (λ (h : Flying). AllByRecursion (λ (g : Flying). h.ticket < g.ticket) fs) e (rising-above x fs rising) in
    ap (λ b. find (has_ticket f.ticket) (cond b (left_by fs rs) (looked_at r x ∷ left_by fs rs))) ends ∙ none_left f.ticket fs rs above
gone_by (x ∷ fs) (r ∷ rs) (suc i) f at read rising alone given = by (is_end x r) (gone_by fs rs i f at read.1 rising.1 alone given)
  where
    by : (b : Bool) → find (has_ticket f.ticket) (left_by fs rs) ≡ None → find (has_ticket f.ticket) (cond b (left_by fs rs) (looked_at r x ∷ left_by fs rs)) ≡ None
    by true rest = rest
    by false rest = ap (λ b. cond b (Some (looked_at r x)) (find (has_ticket f.ticket) (left_by fs rs))) (apart x.ticket f.ticket (at_place (λ (g : Flying). x.ticket < g.ticket) fs i f at (rising-above x fs rising))) ∙ rest

-- where a flight was stopped at as many tiles as its first seat gave, it waits for those
waits_for : (f : Flying) → is_stopped f ≡ true → IfSome f.view.stop (λ m. m ≡ length f.view.given) → awaited f ≡ length f.view.given
waits_for f stopped is = by f.view.stop stopped is
  where
    by : (o : Option ℕ) → is_some o ≡ true → IfSome o (λ m. m ≡ length f.view.given) → unwrap_or o (tiles_of (key_at f)) ≡ length f.view.given
    by None some at = absurd (true≢false (sym some))
    by (Some m) some at = at

-- of flights that were stopped, those that stay had seats handed out
stay_shared : {T : Type 0} (fs : List Flying) (cs : List (Cargo T)) (rs : List ℕ) → AreBooked fs cs → AreRead fs rs → AllByRecursion (λ f. is_stopped f ≡ true) fs
    → AllByRecursion (λ f. IsAlone f.view → ⊥) (left_by fs rs)
stay_shared [] cs rs of read stopped = tt
stay_shared (f ∷ fs) cs [] of read stopped = absurd read
stay_shared (f ∷ fs) [] (r ∷ rs) of read stopped = absurd of
stay_shared (f ∷ fs) (c ∷ cs) (r ∷ rs) of read stopped = by (is_end f r) refl (stay_shared fs cs rs of.1 read.1 stopped.1)
  where
    by : (b : Bool) → is_end f r ≡ b → AllByRecursion (λ (g : Flying). IsAlone g.view → ⊥) (left_by fs rs)
        → AllByRecursion (λ (g : Flying). IsAlone g.view → ⊥) (cond b (left_by fs rs) (looked_at r f ∷ left_by fs rs))
    by true is rest = rest
    by false is rest = (λ alone. true≢false (sym (equal r (awaited f) (read.0.alone alone ∙ sym (waits_for f stopped.0 (of.0.alone alone)))) ∙ is), rest)

-- so if no seat of any was handed out, none stays
none_stays : {T : Type 0} (fs : List Flying) (cs : List (Cargo T)) (rs : List ℕ) → AreBooked fs cs → AreRead fs rs → AllByRecursion (λ f. is_stopped f ≡ true) fs
    → AllByRecursion (λ f. IsAlone f.view) fs → left_by fs rs ≡ []
none_stays [] cs rs of read stopped alone = refl
none_stays (f ∷ fs) cs [] of read stopped alone = absurd read
none_stays (f ∷ fs) [] (r ∷ rs) of read stopped alone = absurd of
none_stays (f ∷ fs) (c ∷ cs) (r ∷ rs) of read stopped alone =
    let ends : is_end f r ≡ true = equal r (awaited f) (read.0.alone alone.0 ∙ sym (waits_for f stopped.0 (of.0.alone alone.0))) in
    ap (λ b. cond b (left_by fs rs) (looked_at r f ∷ left_by fs rs)) ends ∙ none_stays fs cs rs of.1 read.1 stopped.1 alone.1

-- a stop hands out no seat
halted_alone : (fs gs : List Flying) → AreHalted fs gs → AllByRecursion (λ f. IsAlone f.view) fs → AllByRecursion (λ f. IsAlone f.view) gs
halted_alone [] [] halted alone = tt
halted_alone [] (g ∷ gs) halted alone = absurd halted
halted_alone (f ∷ fs) [] halted alone = absurd halted
halted_alone (f ∷ fs) (g ∷ gs) halted alone = (by (is_stopped f) halted.0, halted_alone fs gs halted.1 alone.1)
  where
    by : (b : Bool) → HaltsBy b f g → IsAlone g.view
    by true same = subst (λ (h : Flying). IsAlone h.view) (sym same) alone.0
    by false stop = subst (λ (h : Flying). IsAlone h.view) (sym stop.now) alone.0

-- flights at which nobody worked
abbrev looked_again : Flying → Flying
looked_again f = looked_at f.looked f

none_worked : (fs : List Flying) (rs : List ℕ) → AreRead fs rs → AllByRecursion IsUnworked fs
    → (left_by fs rs ≡ map looked_again fs) × (ended_by fs rs ≡ []) × AllByRecursion IsUnworked (map looked_again fs)
none_worked [] rs read idle = (refl, refl, tt)
none_worked (f ∷ fs) [] read idle = absurd read
none_worked (f ∷ fs) (r ∷ rs) read idle =
    let rest = none_worked fs rs read.1 idle.1 in
    let first : IsUnworked f = idle.0 in
    let same : r ≡ f.looked = read.0.alone first.alone ∙ sym first.looked in
    let waits = first.waits in
    let stays : is_end f r ≡ false = apart r (awaited f) (omega (arith, same, waits)) in (
      ap (λ b. cond b (left_by fs rs) (looked_at r f ∷ left_by fs rs)) stays ∙ (λ i. looked_at (same i) f ∷ rest.0 i),
      ap (λ b. cond b (looked_at r f ∷ ended_by fs rs) (ended_by fs rs)) stays ∙ rest.1,
      (record { alone = first.alone; looked = first.looked; waits = first.waits }, rest.2),
    )

module _ {T : Type 0} where
  pub given_ends : (old new : Books T) (before after : History) (f : Flying) → IsKept old.future → IsSwept old new before after → Contains old.future.flights f → IsAlone f.view
      → length f.view.given ≡ awaited f → Contains after (note_of f) × Contains new.over (looked_at (awaited f) f) × (flight_at new.future f.ticket ≡ None)
  given_ends old new before after f kept s there alone given =
      let fs : List Flying = old.future.flights in
      let at : slice_get fs there.0 ≡ Some f = slice_get-get_or fs there.0 f there.1 ∙ ap Some there.2 in
      let over : Contains (ended_by fs s.reads) (looked_at (awaited f) f) = ended_has fs s.reads there.0 f at s.looks alone given in
      let noted : Contains (notes_of fs s.reads) (note_of f) = made note_of (ended_by fs s.reads) (looked_at (awaited f) f) over.0 over.1 over.2 in (
        subst (λ h. Contains h (note_of f)) (sym s.notes) (Contains-append_right before (notes_of fs s.reads) (note_of f) noted),
        subst (λ xs. Contains xs (looked_at (awaited f) f)) (sym s.over) (Contains-append_right old.over (ended_by fs s.reads) (looked_at (awaited f) f) over),
        ap (find (has_ticket f.ticket)) s.flights ∙ gone_by fs s.reads there.0 f at s.looks kept.rising alone given,
      )

  pub stopped_stay : (old new : Books T) (before after : History) → AreBooks old → AllByRecursion (λ f. is_stopped f ≡ true) old.future.flights → IsSwept old new before after
      → AllByRecursion (λ f. IsAlone f.view → ⊥) new.future.flights
  stopped_stay old new before after books stopped s =
      subst (λ fs. AllByRecursion (λ (f : Flying). IsAlone f.view → ⊥) fs) (sym s.flights) (stay_shared old.future.flights old.cargo s.reads books.cargo s.looks stopped)

  pub alone_end : (first old new : Books T) (before after : History) → AllByRecursion (λ f. IsAlone f.view) first.future.flights → StopsAll first old → AreBooks old → IsSwept old new before after
      → new.future.flights ≡ []
  alone_end first old new before after alone stops books s =
      s.flights ∙ none_stays old.future.flights old.cargo s.reads books.cargo s.looks stops.stopped (halted_alone first.future.flights old.future.flights stops.flights alone)

  pub unworked_stay : (old new : Books T) (before after : History) → AllByRecursion IsUnworked old.future.flights → IsSwept old new before after
      → (after ≡ before) × (new ≡ record old { future = record old.future { flights = map (λ f. looked_at f.looked f) old.future.flights } }) × AllByRecursion IsUnworked new.future.flights
  unworked_stay old new before after idle s =
      let all = none_worked old.future.flights s.reads s.looks idle in
      let flights : new.future.flights ≡ map looked_again old.future.flights = s.flights ∙ all.0 in
      let pictures : new.future.pictures ≡ old.future.pictures = s.pictures ∙ ap (λ xs. old.future.pictures ++ pictures_of xs) all.1 ∙ append-nil old.future.pictures in
      let cargo : new.cargo ≡ old.cargo = s.cargo ∙ ap (λ xs. without_all (tickets_of xs) old.cargo) all.1 in
      let over : new.over ≡ old.over = s.over ∙ ap (λ xs. old.over ++ xs) all.1 ∙ append-nil old.over in (
        s.notes ∙ ap (λ xs. before ++ map note_of xs) all.1 ∙ append-nil before,
        λ i. record { future = record { flights = flights i; pictures = pictures i }; cargo = cargo i; over = over i },
        subst (λ fs. AllByRecursion IsUnworked fs) (sym flights) all.2,
      )

  -- a flight that a sweep leaves, at its places after it and before it, with what is kept with it at both
  left_pair : (fs : List Flying) (rs : List ℕ) (cs : List (Cargo T)) (k : ℕ) (g : Flying) → AreBooked fs cs → AreRead fs rs → Rising (map (λ (h : Flying). h.ticket) fs)
      → slice_get (left_by fs rs) k ≡ Some g → WasBefore fs cs (without_all (tickets_of (ended_by fs rs)) cs) k g
  left_pair [] rs cs k g of read rising at = absurd (none-some g at)
  left_pair (f ∷ fs) [] cs k g of read rising at = absurd read
  left_pair (f ∷ fs) (r ∷ rs) [] k g of read rising at = absurd of
  left_pair (f ∷ fs) (r ∷ rs) (c ∷ cs) k g of read rising at = by (is_end f r) k at (λ i rest. left_pair fs rs cs i g of.1 read.1 rising.1 rest)
    where
      behind_first : (ds es : List (Cargo T)) (i n : ℕ) → ((x : Cargo T) → slice_get ds i ≡ Some x → slice_get es n ≡ Some x) → WasBefore fs cs ds i g → WasBefore (f ∷ fs) (c ∷ cs) es n g
      behind_first ds es i n same was = record { place = suc was.place; before = was.before; kept = was.kept; read = was.read; there = was.there; with = was.with; still = same was.kept was.still; now = was.now }

      by : (b : Bool) (i : ℕ) → slice_get (cond b (left_by fs rs) (looked_at r f ∷ left_by fs rs)) i ≡ Some g
          → ((n : ℕ) → slice_get (left_by fs rs) n ≡ Some g → WasBefore fs cs (without_all (tickets_of (ended_by fs rs)) cs) n g)
          → WasBefore (f ∷ fs) (c ∷ cs) (without_all (tickets_of (cond b (looked_at r f ∷ ended_by fs rs) (ended_by fs rs))) (c ∷ cs)) i g
      by true i here deeper =
          let hit : without f.ticket (c ∷ cs) ≡ cs = ap (λ b. cond b cs (c ∷ without f.ticket cs)) (equal c.ticket f.ticket of.0.ticket) in
          let rest : List ℕ = tickets_of (ended_by fs rs) in
          behind_first (without_all rest cs) (without_all rest (without f.ticket (c ∷ cs))) i i
          (λ x there. ap (λ ds. slice_get (without_all rest ds) i) hit ∙ there) (deeper i here)
      by false i here deeper =
          let rest : List ℕ = tickets_of (ended_by fs rs) in
          let same : c.ticket ≡ f.ticket = of.0.ticket in
          let stays : without_all rest (c ∷ cs) ≡ c ∷ without_all rest cs =
          not_in_front rest c cs (subst (λ t. AllByRecursion (λ u. t < u) rest) (sym same) (tickets_above f.ticket fs rs (rising-above f fs rising))) in
          subst (λ ds. WasBefore (f ∷ fs) (c ∷ cs) ds i g) (sym stays) (at_first i here deeper)
        where
          at_first : (n : ℕ) → slice_get (looked_at r f ∷ left_by fs rs) n ≡ Some g
              → ((m : ℕ) → slice_get (left_by fs rs) m ≡ Some g → WasBefore fs cs (without_all (tickets_of (ended_by fs rs)) cs) m g)
              → WasBefore (f ∷ fs) (c ∷ cs) (c ∷ without_all (tickets_of (ended_by fs rs)) cs) n g
          at_first zero there more = let e : looked_at r f ≡ g = cc in record { place = 0; before = f; kept = c; read = r; there = refl; with = refl; still = refl; now = sym e }
          at_first (suc n) there more = behind_first (without_all (tickets_of (ended_by fs rs)) cs) (c ∷ without_all (tickets_of (ended_by fs rs)) cs) n (suc n) (λ x kept. kept) (more n there)

  pub swept_pairs : (old new : Books T) (before after : History) (place : ℕ) (g : Flying) → AreBooks old → IsKept old.future → IsSwept old new before after
      → slice_get new.future.flights place ≡ Some g → WasBefore old.future.flights old.cargo new.cargo place g
  swept_pairs old new before after place g books kept s at =
      subst (λ cs. WasBefore old.future.flights old.cargo cs place g) (sym s.cargo)
      (left_pair old.future.flights s.reads old.cargo place g books.cargo s.looks kept.rising (ap (λ fs. slice_get fs place) (sym s.flights) ∙ at))

-- The scenes that are kept with flights, through what happens to the flights.
use Rattle.std.proofs.Common.{◌≡◌, ◌==◌, ◌∙◌, ℕ, ◌<◌, ◌≤◌, Bool, true, false, cond, List, [], ◌∷◌, ◌++◌, Option, Some, None, length, map, arith, refl, sym, ap, subst}
use Rattle.std.specs.List.{AllByRecursion, find}
use Rattle.std.specs.Option.{is_none, option_map}
use Rattle.std.proofs.lemmas.Option.{none-some}
use Rattle.flight_books.specs.Kept.{AreBooked, AreBooks, Books, cargo_at, is_of, reloaded, without, without_all}
use Rattle.flight_books.specs.Sweeps.{tickets_of}
use Rattle.flight_books.specs.declared.kept.Cargo.{Cargo}
use Rattle.flight_books.proofs.CargoLaws.{apart, equal, not_in_front, tickets_above}
use Rattle.frame_future.proofs.ReadLaws.{all-each, all-front, rising-above, rising-back, rising-front}
use Rattle.frame_future.specs.Flights.{Flying, key_at, looked_at}
use Rattle.frame_future.specs.Future.{Future, IsDiscarded, Rising, flight_of, has_ticket, is_flight_of, replaced}
use Rattle.frame_future.specs.Reads.{AreRead, AreSeen, ended_by, is_end, left_by}
use Rattle.frame_future.specs.declared.phase.Ended.{Ended}
use Rattle.fx_math.specs.declared.scene.Scene.{Scene}
use Rattle.seq_model.specs.Histories.{History}
use Rattle.tile_claims.specs.Parts.{scene_of}
use Rattle.device_laws.proofs.StandingFacts.{found}
use Rattle.device_parts.specs.AllParts.{AreAboard, AreParts, Inside, IsLoaded, scene_at_home, scene_of_load, scene_prepared}
use Rattle.device_parts.specs.Lends.{is_lent}
use Rattle.device_parts.specs.declared.loads.Load.{Load}
use Rattle.device_parts.specs.declared.loads.PreparedScene.{PreparedScene}

-- the scene of a flight that is home, and none of one that is lent
pub home_scene : (f : Flying) → f.home ≡ true → scene_at_home f ≡ Some (scene_of (key_at f))
home_scene f home = ap (λ b. cond b (Some (scene_of (key_at f))) None) home

pub away_scene : (f : Flying) → f.home ≡ false → scene_at_home f ≡ None
away_scene f away = ap (λ b. cond b (Some (scene_of (key_at f))) None) away

-- a flight that is found is found by its ticket
pub flight_found : (p : Flying → Bool) (f : Flying) (fs : List Flying) → Rising (map (λ (g : Flying). g.ticket) fs) → find p fs ≡ Some f → find (has_ticket f.ticket) fs ≡ Some f
flight_found p f [] rising is = absurd (none-some f is)
flight_found p f (x ∷ fs) rising is = by (p x) refl (flight_found p f fs rising.1)
  where
    by : (b : Bool) → p x ≡ b → (find p fs ≡ Some f → find (has_ticket f.ticket) fs ≡ Some f) → find (has_ticket f.ticket) (x ∷ fs) ≡ Some f
    by true hit deeper =
        let here : Some x ≡ Some f = sym (ap (λ b. cond b (Some x) (find p fs)) hit) ∙ is in
        let e : x ≡ f = cc in
        ap (λ b. cond b (Some x) (find (has_ticket f.ticket) fs)) (equal x.ticket f.ticket (ap (λ (g : Flying). g.ticket) e)) ∙ here
    by false miss deeper =
        let rest : find p fs ≡ Some f = sym (ap (λ b. cond b (Some x) (find p fs)) miss) ∙ is in
        let above : x.ticket < f.ticket = (found (λ (g : Flying). x.ticket < g.ticket) p fs f (rising-above x fs rising) rest).0 in
        ap (λ b. cond b (Some x) (find (has_ticket f.ticket) fs)) (apart x.ticket f.ticket above) ∙ deeper rest

-- something is kept with each flight
pub aboard_count : (fs : List Flying) (cs : List (Cargo Load)) → AreAboard fs cs → length fs ≡ length cs
aboard_count [] [] on = refl
aboard_count [] (c ∷ cs) on = absurd on
aboard_count (f ∷ fs) [] on = absurd on
aboard_count (f ∷ fs) (c ∷ cs) on = let rest = aboard_count fs cs on.1 in omega (arith, rest)

-- where the flights stay, the scenes stay with them
pub same_aboard : (old : Inside) → AreParts old → (fs : List Flying) → fs ≡ old.flights.future.flights → AreAboard fs old.flights.cargo
same_aboard old p fs same = subst (λ gs. AreAboard gs old.flights.cargo) (sym same) p.aboard

-- a flight begins
pub aboard_push : (fs : List Flying) (cs : List (Cargo Load)) (f : Flying) (c : Cargo Load) → scene_of_load c.kept ≡ scene_at_home f → AreAboard fs cs → AreAboard (fs ++ f ∷ []) (cs ++ c ∷ [])
aboard_push [] [] f c is on = (is, tt)
aboard_push [] (d ∷ cs) f c is on = absurd on
aboard_push (g ∷ fs) [] f c is on = absurd on
aboard_push (g ∷ fs) (d ∷ cs) f c is on = (on.0, aboard_push fs cs f c is on.1)

-- another flight with the same scene in the place of the first that passes a test
pub aboard_replaced : (p : Flying → Bool) (fs : List Flying) (cs : List (Cargo Load)) (f g : Flying) → find p fs ≡ Some f → scene_at_home g ≡ scene_at_home f → AreAboard fs cs → AreAboard (replaced p g fs) cs
aboard_replaced p [] cs f g is same on = on
aboard_replaced p (x ∷ fs) [] f g is same on = absurd on
aboard_replaced p (x ∷ fs) (c ∷ cs) f g is same on = by (p x) refl (λ rest. aboard_replaced p fs cs f g rest same on.1)
  where
    by : (b : Bool) → p x ≡ b → (find p fs ≡ Some f → AreAboard (replaced p g fs) cs) → AreAboard (cond b (g ∷ fs) (x ∷ replaced p g fs)) (c ∷ cs)
    by true hit deeper =
        let here : Some x ≡ Some f = sym (ap (λ b. cond b (Some x) (find p fs)) hit) ∙ is in
        let e : x ≡ f = cc in
        (on.0 ∙ ap scene_at_home e ∙ sym same, on.1)
    by false miss deeper = (on.0, deeper (sym (ap (λ b. cond b (Some x) (find p fs)) miss) ∙ is))

pub aboard_discarded : (frame : ℕ) (old new : Future) (cs : List (Cargo Load)) → IsDiscarded frame old new (flight_of old frame) → AreAboard old.flights cs → AreAboard new.flights cs
aboard_discarded frame old new cs discarded on = by (flight_of old frame) refl discarded
  where
    by : (o : Option Flying) → flight_of old frame ≡ o → IsDiscarded frame old new o → AreAboard new.flights cs
    by None none is = subst (λ (s : Future). AreAboard s.flights cs) (sym is) on
    by (Some f) some is =
        subst (λ (s : Future). AreAboard s.flights cs) (sym is.2)
        (aboard_replaced (is_flight_of frame) old.flights cs f is.0 some (ap scene_at_home is.1.now) on)

-- flights that were looked at, of which those that ended are gone with what was kept of them
seen_aboard : (seen behind : List Flying) (rs : List ℕ) (cs : List (Cargo Load)) → AreRead seen rs → Rising (map (λ (g : Flying). g.ticket) seen) → AreBooked (seen ++ behind) cs → AreAboard (seen ++ behind) cs
    → AreAboard (left_by seen rs ++ behind) (without_all (tickets_of (ended_by seen rs)) cs)
seen_aboard [] behind [] cs read ordered of on = on
seen_aboard [] behind (r ∷ rs) cs read ordered of on = absurd read
seen_aboard (f ∷ seen) behind [] cs read ordered of on = absurd read
seen_aboard (f ∷ seen) behind (r ∷ rs) [] read ordered of on = absurd of
seen_aboard (f ∷ seen) behind (r ∷ rs) (c ∷ cs) read ordered of on = by (is_end f r) (seen_aboard seen behind rs cs read.1 ordered.1 of.1 on.1)
  where
    by : (b : Bool) → AreAboard (left_by seen rs ++ behind) (without_all (tickets_of (ended_by seen rs)) cs)
        → AreAboard (cond b (left_by seen rs) (looked_at r f ∷ left_by seen rs) ++ behind) (without_all (tickets_of (cond b (looked_at r f ∷ ended_by seen rs) (ended_by seen rs))) (c ∷ cs))
    by true rest =
        let hit : without f.ticket (c ∷ cs) ≡ cs = ap (λ b. cond b cs (c ∷ without f.ticket cs)) (equal c.ticket f.ticket of.0.ticket) in
        subst (λ ds. AreAboard (left_by seen rs ++ behind) (without_all (tickets_of (ended_by seen rs)) ds)) (sym hit) rest
    by false rest =
        let same : c.ticket ≡ f.ticket = of.0.ticket in
        let stays = not_in_front (tickets_of (ended_by seen rs)) c cs (subst (λ t. AllByRecursion (λ u. t < u) (tickets_of (ended_by seen rs))) (sym same) (tickets_above f.ticket seen rs (rising-above f seen ordered))) in
        subst (λ ds. AreAboard (looked_at r f ∷ (left_by seen rs ++ behind)) ds) (sym stays) (on.0, rest)

with_aboard : (after : ℕ) (passed seen behind : List Flying) (rs : List ℕ) (cs : List (Cargo Load)) → AllByRecursion (λ f. f.ticket ≤ after) passed → AllByRecursion (λ f. after < f.ticket) seen
    → AreRead seen rs → Rising (map (λ (g : Flying). g.ticket) seen) → AreBooked (passed ++ (seen ++ behind)) cs → AreAboard (passed ++ (seen ++ behind)) cs
    → AreAboard (passed ++ (left_by seen rs ++ behind)) (without_all (tickets_of (ended_by seen rs)) cs)
with_aboard after [] seen behind rs cs below above read ordered of on = seen_aboard seen behind rs cs read ordered of on
with_aboard after (f ∷ passed) seen behind rs [] below above read ordered of on = absurd of
with_aboard after (f ∷ passed) seen behind rs (c ∷ cs) below above read ordered of on =
    let rest = with_aboard after passed seen behind rs cs below.1 above read ordered of.1 on.1 in
    let first = below.0 in
    let same : c.ticket ≡ f.ticket = of.0.ticket in
    let later : AllByRecursion (λ (g : Flying). c.ticket < g.ticket) seen = all-each (λ (g : Flying). after < g.ticket) (λ g. c.ticket < g.ticket) seen (λ g l. omega (arith, l, first, same)) above in
    let stays = not_in_front (tickets_of (ended_by seen rs)) c cs (tickets_above c.ticket seen rs later) in
    subst (λ ds. AreAboard (f ∷ (passed ++ (left_by seen rs ++ behind))) ds) (sym stays) (on.0, rest)

module _ (last : ℕ) (old : Books Load) (new : Future) (rising : Rising (map (λ (f : Flying). f.ticket) old.future.flights)) (books : AreBooks old) (on : AreAboard old.future.flights old.cargo) where
  aboard_seen : (result : Option Ended) → (s : AreSeen last old.future new result) → AreAboard new.flights (without_all (tickets_of (ended_by s.seen s.reads)) old.cargo)
  aboard_seen result s =
      let above = all-front (λ (f : Flying). last < f.ticket) s.seen s.behind s.above in
      let whole : Rising (map (λ (f : Flying). f.ticket) (s.passed ++ (s.seen ++ s.behind))) = subst (λ fs. Rising (map (λ (f : Flying). f.ticket) fs)) s.there rising in
      let ordered = rising-front s.seen s.behind (rising-back s.passed (s.seen ++ s.behind) whole) in
      subst (λ fs. AreAboard fs (without_all (tickets_of (ended_by s.seen s.reads)) old.cargo)) (sym s.flights)
      (with_aboard last s.passed s.seen s.behind s.reads old.cargo s.below above s.read ordered (subst (λ fs. AreBooked fs old.cargo) s.there books.cargo) (subst (λ fs. AreAboard fs old.cargo) s.there on))

  pub aboard_none : AreSeen last old.future new None → AreAboard new.flights old.cargo
  aboard_none s = subst (λ xs. AreAboard new.flights (without_all (tickets_of xs) old.cargo)) s.over.0 (aboard_seen None s)

  pub aboard_some : (e : Ended) → AreSeen last old.future new (Some e) → AreAboard new.flights (without e.ticket old.cargo)
  aboard_some e s =
      subst (λ t. AreAboard new.flights (without t old.cargo)) (sym s.over.3)
      (subst (λ xs. AreAboard new.flights (without_all (tickets_of xs) old.cargo)) s.over.1 (aboard_seen (Some e) s))

-- another flight in the place of the one with a ticket, with which something else is kept
pub aboard_reloaded : (t : ℕ) (g : Flying) (kept : Load) → scene_of_load kept ≡ scene_at_home g → (fs : List Flying) (cs : List (Cargo Load)) → AreBooked fs cs → AreAboard fs cs
    → AreAboard (replaced (has_ticket t) g fs) (reloaded t kept cs)
aboard_reloaded t g kept is [] [] of on = on
aboard_reloaded t g kept is [] (c ∷ cs) of on = absurd on
aboard_reloaded t g kept is (f ∷ fs) [] of on = absurd on
aboard_reloaded t g kept is (f ∷ fs) (c ∷ cs) of on =
    subst (λ b. AreAboard (cond (has_ticket t f) (g ∷ fs) (f ∷ replaced (has_ticket t) g fs)) (cond b (record c { kept = kept } ∷ cs) (c ∷ reloaded t kept cs))) (sym (ap (λ n. n == t) of.0.ticket))
    (by (has_ticket t f) (aboard_reloaded t g kept is fs cs of.1 on.1))
  where
    by : (b : Bool) → AreAboard (replaced (has_ticket t) g fs) (reloaded t kept cs) → AreAboard (cond b (g ∷ fs) (f ∷ replaced (has_ticket t) g fs)) (cond b (record c { kept = kept } ∷ cs) (c ∷ reloaded t kept cs))
    by true rest = (is, on.1)
    by false rest = (on.0, rest)

-- what is kept with a flight, by its ticket
pub record IsKeptWith (f : Flying) (cs : List (Cargo Load)) (t : ℕ) : Type 0 where
  pub cargo : Cargo Load
  pub there : cargo_at cs t ≡ Some cargo
  pub ticket : cargo.ticket ≡ f.ticket
  pub scene : scene_of_load cargo.kept ≡ scene_at_home f

pub aboard_at : (t : ℕ) (f : Flying) (fs : List Flying) (cs : List (Cargo Load)) → AreBooked fs cs → AreAboard fs cs → find (has_ticket t) fs ≡ Some f → IsKeptWith f cs t
aboard_at t f [] cs of on is = absurd (none-some f is)
aboard_at t f (x ∷ fs) [] of on is = absurd on
aboard_at t f (x ∷ fs) (c ∷ cs) of on is = by (has_ticket t x) refl (aboard_at t f fs cs of.1 on.1)
  where
    same : is_of t c ≡ has_ticket t x
    same = ap (λ n. n == t) of.0.ticket

    by : (b : Bool) → has_ticket t x ≡ b → (find (has_ticket t) fs ≡ Some f → IsKeptWith f cs t) → IsKeptWith f (c ∷ cs) t
    by true hit deeper =
        let here : Some x ≡ Some f = sym (ap (λ b. cond b (Some x) (find (has_ticket t) fs)) hit) ∙ is in
        let e : x ≡ f = cc in
        record {
          cargo = c;
          there = ap (λ b. cond b (Some c) (find (is_of t) cs)) (same ∙ hit);
          ticket = of.0.ticket ∙ ap (λ (f : Flying). f.ticket) e;
          scene = on.0 ∙ ap scene_at_home e;
        }
    by false miss deeper =
        let rest : IsKeptWith f cs t = deeper (sym (ap (λ b. cond b (Some x) (find (has_ticket t) fs)) miss) ∙ is) in
        record {
          cargo = rest.cargo;
          there = ap (λ b. cond b (Some c) (find (is_of t) cs)) (same ∙ miss) ∙ rest.there;
          ticket = rest.ticket;
          scene = rest.scene;
        }

-- what is kept with the one flight that is lent is the first without a scene
lent_is : (o : Option PreparedScene) → option_map scene_prepared o ≡ None → is_none o ≡ true
lent_is None none = refl
lent_is (Some s) none = absurd (none-some (scene_prepared s) (sym none))

here_is : (o : Option PreparedScene) (s : Scene) → option_map scene_prepared o ≡ Some s → is_none o ≡ false
here_is None s some = absurd (none-some s some)
here_is (Some p) s some = refl

pub lent_found : (f back : Flying) (fs : List Flying) (cs : List (Cargo Load)) → AreBooked fs cs → AreAboard fs cs → find (has_ticket f.ticket) fs ≡ Some f → f.home ≡ false
    → AllByRecursion (λ g. g.home ≡ true) (replaced (has_ticket f.ticket) back fs) → (c : Cargo Load) × (find is_lent cs ≡ Some c) × (c.ticket ≡ f.ticket)
lent_found f back [] cs of on is away others = absurd (none-some f is)
lent_found f back (x ∷ fs) [] of on is away others = absurd on
lent_found f back (x ∷ fs) (c ∷ cs) of on is away others = by (has_ticket f.ticket x) refl others (lent_found f back fs cs of.1 on.1)
  where
    by : (b : Bool) → has_ticket f.ticket x ≡ b → AllByRecursion (λ g. g.home ≡ true) (cond b (back ∷ fs) (x ∷ replaced (has_ticket f.ticket) back fs))
        → (find (has_ticket f.ticket) fs ≡ Some f → f.home ≡ false → AllByRecursion (λ g. g.home ≡ true) (replaced (has_ticket f.ticket) back fs) → (d : Cargo Load) × (find is_lent cs ≡ Some d) × (d.ticket ≡ f.ticket))
        → (d : Cargo Load) × (find is_lent (c ∷ cs) ≡ Some d) × (d.ticket ≡ f.ticket)
    by true hit all deeper =
        let here : Some x ≡ Some f = sym (ap (λ b. cond b (Some x) (find (has_ticket f.ticket) fs)) hit) ∙ is in
        let e : x ≡ f = cc in
        let none : scene_of_load c.kept ≡ None = on.0 ∙ ap scene_at_home e ∙ away_scene f away in
        (c, ap (λ b. cond b (Some c) (find is_lent cs)) (lent_is c.kept.scene none), of.0.ticket ∙ ap (λ (g : Flying). g.ticket) e)
    by false miss all deeper =
        let rest = deeper (sym (ap (λ b. cond b (Some x) (find (has_ticket f.ticket) fs)) miss) ∙ is) away all.1 in
        let some = on.0 ∙ home_scene x all.0 in
        (rest.0, ap (λ b. cond b (Some c) (find is_lent cs)) (here_is c.kept.scene (scene_of (key_at x)) some) ∙ rest.1, rest.2)

-- what is kept with a flight is what the layer keeps, with another load at a ticket
pub loaded_reloaded : (history : History) (t : ℕ) (kept : Load) (c : Cargo Load) → IsLoaded history (record c { kept = kept }) → (cs : List (Cargo Load)) → cargo_at cs t ≡ Some c → AllByRecursion (IsLoaded history) cs
    → AllByRecursion (IsLoaded history) (reloaded t kept cs)
loaded_reloaded history t kept c now [] is all = tt
loaded_reloaded history t kept c now (x ∷ cs) is all = by (is_of t x) refl (λ rest. loaded_reloaded history t kept c now cs rest all.1)
  where
    by : (b : Bool) → is_of t x ≡ b → (find (is_of t) cs ≡ Some c → AllByRecursion (IsLoaded history) (reloaded t kept cs)) → AllByRecursion (IsLoaded history) (cond b (record x { kept = kept } ∷ cs) (x ∷ reloaded t kept cs))
    by true hit deeper =
        let here : Some x ≡ Some c = sym (ap (λ b. cond b (Some x) (find (is_of t) cs)) hit) ∙ is in
        let e : x ≡ c = cc in
        (subst (λ (y : Cargo Load). IsLoaded history (record y { kept = kept })) (sym e) now, all.1)
    by false miss deeper = (all.0, deeper (sym (ap (λ b. cond b (Some x) (find (is_of t) cs)) miss) ∙ is))

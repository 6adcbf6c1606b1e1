-- The flight that a render begins is there when its call ends, and has its place for a ticket.
use Rattle.std.proofs.Common.{inr, ◌≡◌, ◌∙◌, ◌+◌, ◌*◌, ◌<◌, ◌≤◌, ◌==◌, ◌&&◌, ◌++◌, ◌∷◌, [], ℕ, Bool, true, false, not, cond, List, Option, Some, None, Result, Ok, Err, arith, length, refl, sym, ap, subst}
use Rattle.std.specs.Prelude.{IfErr, IfOk, OnErr, count_by, if◌then◌else◌}
use Rattle.std.specs.List.{find}
use Rattle.std.specs.Option.{is_some, option_map, unwrap_or}
use Rattle.std.proofs.lemmas.Bool.{eq-eqb, eqb-true}
use Rattle.std.proofs.lemmas.List.Sums.{fold_push}
use Rattle.dev_types.specs.declared.refusals.Refused.{Refused}
use Rattle.device_core.specs.States.{Device}
use Rattle.device_core.specs.Stepping.{HasStepped}
use Rattle.device_core.specs.Sweeping.{Sweeps}
use Rattle.device_laws.proofs.FramesStandFacts.{fewer_kept}
use Rattle.device_laws.proofs.FutureFacts.{count_next}
use Rattle.device_parts.specs.AllParts.{Inside}
use Rattle.device_parts.specs.Begins.{HasBegun, with_takeoff}
use Rattle.device_parts.specs.Makes.{IsMoved, frame_of}
use Rattle.device_parts.specs.declared.handed.Handed.{Handed}
use Rattle.device_parts.specs.declared.handed.Handed.TheVariants as hand
use Rattle.device_parts.specs.declared.loads.Load.{Load}
use Rattle.flight_books.specs.Kept.{Books}
use Rattle.frame_future.specs.Flights.{Flying, awaited, begun, is_stopped, looked_at}
use Rattle.frame_future.specs.Future.{IsKept, flight_of, is_flight_of}
use Rattle.frame_future.specs.Pixels.{IsSized}
use Rattle.frame_future.specs.Reads.{AreRead, is_end, left_by}
use Rattle.picture_model.specs.Tiles.{tiles_over}
use Rattle.seq_model.specs.Contents.{entered}
use Rattle.seq_model.specs.Histories.{History, caller_of}
use Rattle.seq_model.specs.Steps.{Past, after}
use Rattle.seq_model.specs.declared.calls.Call.{Call}
use Rattle.seq_model.specs.declared.calls.Call.TheVariants.{RenderFrame}
use Rattle.seq_model.specs.declared.calls.Reply.{Reply}
use Rattle.seq_model.specs.declared.calls.Reply.TheVariants as reply
use Rattle.tile_claims.specs.Parts.{tiles_of}
use Rattle.tile_claims.specs.Seats.{key_of}
use Rattle.tile_claims.specs.Views.{IsAlone}
use Rattle.tile_claims.specs.declared.key.Key.{Key}
use Rattle.device_calls.specs.Holds.{AddsNotes}
use Rattle.turn_lock.specs.Histories.{AddsOneCall, Extends, new_places}
use Rattle.turn_lock.specs.Passes.{caller_number, mine, seen}
use Rattle.device_calls.specs.Passes.{DevicePass}
use Rattle.device_calls.specs.Rendering.{IsTicketed, RendersAt, ticket_told}
use Rattle.device_calls.specs.Replies.{HasMade, IsRefused}
use Rattle.device_calls.proofs.HoldFacts.{step_adds, sweep_adds}
use Rattle.device_calls.proofs.PassFacts.{adds_one, has_called}
use Rattle.device_calls.proofs.ReplyFacts.{done_is, made_of_none}

-- a frame's picture has tiles
some_over : (n : ℕ) → 1 ≤ n → 1 ≤ tiles_over n
some_over n some = omega (arith, some)

product : (m n : ℕ) → 1 ≤ m → 1 ≤ n → 0 < m * n
product m n some more = grind (arith, some, more)

sized_tiles : (key : Key) → IsSized key → 0 < tiles_of key
sized_tiles key sized =
    product (tiles_over key.w) (tiles_over key.h) (some_over key.w sized.width.least) (some_over key.h sized.height.least)

-- the one flight of a frame that stands last is found
last_counts : (p : Flying → Bool) (gs : List Flying) (f : Flying) → p f ≡ true → 1 ≤ count_by p (gs ++ f ∷ [])
last_counts p gs f passes =
    let whole : count_by p (gs ++ f ∷ []) ≡ count_by p gs + cond (p f) 1 0 = fold_push (λ n x. n + cond (p x) 1 0) 0 gs f in
    let one : count_by p gs + cond (p f) 1 0 ≡ count_by p gs + 1 = ap (λ b. count_by p gs + cond b 1 0) passes in
    omega (arith, whole, one)

last_found : (p : Flying → Bool) (gs : List Flying) (f : Flying) → p f ≡ true → count_by p (gs ++ f ∷ []) ≤ 1 → find p (gs ++ f ∷ []) ≡ Some f
last_found p [] f passes once = ap (λ b. cond b (Some f) (find p [])) passes
last_found p (g ∷ gs) f passes once = by (p g) refl (last_found p gs f passes)
  where
    by : (b : Bool) → p g ≡ b → (count_by p (gs ++ f ∷ []) ≤ 1 → find p (gs ++ f ∷ []) ≡ Some f) → cond (p g) (Some g) (find p (gs ++ f ∷ [])) ≡ Some f
    by true is rest =
        let next = count_next p g (gs ++ f ∷ []) in
        let one : cond (p g) 1 0 + count_by p (gs ++ f ∷ []) ≡ 1 + count_by p (gs ++ f ∷ []) = ap (λ b. cond b 1 0 + count_by p (gs ++ f ∷ [])) is in
        let more = last_counts p gs f passes in
        absurd (omega (arith, next, one, more, once))
    by false is rest =
        let next = count_next p g (gs ++ f ∷ []) in
        let none : cond (p g) 1 0 + count_by p (gs ++ f ∷ []) ≡ 0 + count_by p (gs ++ f ∷ []) = ap (λ b. cond b 1 0 + count_by p (gs ++ f ∷ [])) is in
        ap (λ b. cond b (Some g) (find p (gs ++ f ∷ []))) is ∙ rest (omega (arith, next, none, once))

-- a flight on which nobody worked is not ended by a look
not_none : (n : ℕ) → 0 < n → (0 == n) ≡ false
not_none n some = by (0 == n) refl
  where
    by : (b : Bool) → (0 == n) ≡ b → b ≡ false
    by true is = let none = eqb-true 0 n is in absurd (omega (arith, none, some))
    by false is = refl

stays_last : (gs : List Flying) (reads : List ℕ) (f : Flying) → AreRead (gs ++ f ∷ []) reads → IsAlone f.view → f.view.given ≡ [] → 0 < awaited f
    → (ls : List Flying) × (left_by (gs ++ f ∷ []) reads ≡ ls ++ looked_at 0 f ∷ [])
stays_last [] [] f read alone none some = absurd read
stays_last [] (r ∷ r2 ∷ rs) f read alone none some = absurd read.1
stays_last [] (r ∷ []) f read alone none some =
    let zero : r ≡ 0 = read.0.alone alone ∙ ap length none in
    ([], ap (λ r. cond (is_end f r) [] (looked_at r f ∷ [])) zero ∙ ap (λ b. cond b [] (looked_at 0 f ∷ [])) (not_none (awaited f) some))
stays_last (g ∷ gs) [] f read alone none some = absurd read
stays_last (g ∷ gs) (r ∷ rs) f read alone none some = by (is_end g r) (stays_last gs rs f read.1 alone none some)
  where
    by : (b : Bool) → (ls : List Flying) × (left_by (gs ++ f ∷ []) rs ≡ ls ++ looked_at 0 f ∷ [])
        → (ls : List Flying) × ((if b then left_by (gs ++ f ∷ []) rs else looked_at r g ∷ left_by (gs ++ f ∷ []) rs) ≡ ls ++ looked_at 0 f ∷ [])
    by true rest = rest
    by false rest = (looked_at r g ∷ rest.0, ap (λ l. looked_at r g ∷ l) rest.1)

still_there : (h : ℕ) (old new : Device) (s : Sweeps old new) → IsKept new.parts.flights.future → (gs : List Flying) (f : Flying)
    → old.parts.flights.future.flights ≡ gs ++ f ∷ [] → IsAlone f.view → f.view.given ≡ [] → 0 < awaited f → is_flight_of h f ≡ true
    → flight_of new.parts.flights.future h ≡ Some (looked_at 0 f)
still_there h old new s kept gs f there alone none some is =
    let read = subst (λ fs. AreRead fs s.parts.flights.reads) there s.parts.flights.looks in
    let last = stays_last gs s.parts.flights.reads f read alone none some in
    let flights : new.parts.flights.future.flights ≡ last.0 ++ looked_at 0 f ∷ [] =
    s.parts.flights.flights ∙ ap (λ fs. left_by fs s.parts.flights.reads) there ∙ last.1 in
    let once : count_by (is_flight_of h) (last.0 ++ looked_at 0 f ∷ []) ≤ 1 =
    subst (λ fs. count_by (is_flight_of h) fs ≤ 1) flights (let single = kept.single h in omega (arith, single)) in
    ap (find (is_flight_of h)) flights ∙ last_found (is_flight_of h) last.0 (looked_at 0 f) is once

render_entered : (past : Past) (h : ℕ) → entered past (RenderFrame h) ≡ RenderFrame h
unfolding entered
render_entered past h = refl

begun_last : (h : ℕ) (old new : Inside) (b : HasBegun h old new)
    → new.flights.future.flights ≡ old.flights.future.flights ++ begun b.takeoff.cargo.ticket b.takeoff.cargo.frame b.takeoff.channels b.takeoff.claims b.takeoff.seat ∷ []
begun_last h old new b =
    ap (λ (k : Books Load). k.future.flights) b.begins ∙ (fewer_kept (with_takeoff b.takeoff old.flights).future new.objects.departed).0

-- so a render that is done has its place for a ticket
pub render_ticket : (actor h : ℕ) (with : Handed) (out : Handed) (old new : Device) (s : HasStepped actor (RenderFrame h) with reply.Done out old new) → IsKept new.parts.flights.future
    → option_map (λ f. f.ticket) (flight_of new.parts.flights.future h) ≡ Some (length s.settled.parts.history + 1)
render_ticket actor h with out old new s kept =
    let b : HasBegun h s.settled.parts s.makes.made =
    subst (λ k. IsMoved k reply.Done (frame_of out) s.settled.parts s.makes.made) (render_entered (after s.settled.parts.history) h) s.makes.moved in
    let t = b.takeoff in
    let f : Flying = begun t.cargo.ticket t.cargo.frame t.channels t.claims t.seat in
    let there : s.called.parts.flights.future.flights ≡ s.settled.parts.flights.future.flights ++ f ∷ [] =
    ap (λ (i : Inside). i.flights.future.flights) s.makes.parts ∙ begun_last h s.settled.parts s.makes.made b in
    let waits : awaited f ≡ tiles_of (key_of t.claims) = ap (λ o. unwrap_or o (tiles_of (key_of t.claims))) b.fresh.going in
    let some : 0 < awaited f = subst (λ n. 0 < n) (sym waits) (sized_tiles (key_of t.claims) b.sized) in
    let of_frame : is_flight_of h f ≡ true =
    ap (λ x. x && not (is_stopped f)) (eq-eqb t.cargo.frame h b.frame) ∙ ap (λ o. true && not (is_some o)) b.fresh.going in
    ap (option_map (λ (g : Flying). g.ticket)) (still_there h s.called new s.second kept s.settled.parts.flights.future.flights f there (b.fresh.first, b.fresh.alone) b.fresh.unclaimed some of_frame)
    ∙ ap (λ (n : ℕ). Some n) b.ticket

pub renders_at : (made : Result (Reply × Handed) (Refused × Call × Handed)) (ticket : Option ℕ) (actor h : ℕ) (old new : Device)
    → IfOk made (λ r. HasStepped actor (RenderFrame h) hand.Nothing r.0 r.1 old new) → IsKept new.parts.flights.future
    → ticket ≡ option_map (λ f. f.ticket) (flight_of new.parts.flights.future h) → RendersAt made ticket actor h old.parts.history new.parts.history
unfolding step_adds sweep_adds
renders_at (Ok r) ticket actor h old new stepped kept is = (
  step_adds actor (RenderFrame h) hand.Nothing r.0 r.1 old new stepped,
  λ done. is ∙ ticket_of r.0 done stepped,
)
  where
    ticket_of : (x : Reply) → x ≡ reply.Done → (s : HasStepped actor (RenderFrame h) hand.Nothing x r.1 old new)
        → option_map (λ f. f.ticket) (flight_of new.parts.flights.future h)
        ≡ Some (length (old.parts.history ++ (step_adds actor (RenderFrame h) hand.Nothing x r.1 old new s).first) + 1)
    ticket_of reply.Done done s =
        render_ticket actor h hand.Nothing r.1 old new s kept ∙ ap (λ l. Some (length l + 1)) s.first.parts.flights.notes
    ticket_of x done s = absurd cc
renders_at (Err e) ticket actor h old new stepped kept is = tt

-- as the pass tells it
ticketed : (x : Reply) (ticket : Option ℕ) (place : ℕ) → (x ≡ reply.Done → ticket ≡ Some place) → (((refused : Refused) → x ≡ reply.Denied refused → ⊥) → x ≡ reply.Done) → IsTicketed x ticket
ticketed reply.Done ticket place has done = subst (IsTicketed reply.Done) (sym (has refl)) tt
ticketed (reply.Denied refused) ticket place has done = tt
ticketed x ticket place has done = let wrong : x ≡ reply.Done = done (λ refused same. absurd cc) in absurd cc

pub is_ticketed : (r : Reply) (out : Handed) (ticket : Option ℕ) (actor h : ℕ) (old new : History) → RendersAt (Ok (r, out)) ticket actor h old new → IsTicketed r ticket
is_ticketed r out ticket actor h old new renders =
    ticketed r ticket (length (old ++ renders.0.first) + 1) renders.1
    (λ granting. done_is (RenderFrame h) r out (old ++ renders.0.first) tt renders.0.reply granting)

told_in : (x : Reply) (ticket : Option ℕ) (place h : ℕ) (old new : DevicePass) (told : Result ℕ Refused) → told ≡ ticket_told x ticket → IsTicketed x ticket
    → (x ≡ reply.Done → ticket ≡ Some place) → HasMade (RenderFrame h) x old new → mine new ≡ mine old ++ place ∷ []
    → IfOk told (λ t. HasMade (RenderFrame h) reply.Done old new × (mine new ≡ mine old ++ t ∷ [])) × IfErr told (λ e. IsRefused (RenderFrame h) e old new)
told_in reply.Done None place h old new told is ticketed has made grown = absurd ticketed
told_in reply.Done (Some t) place h old new told is ticketed has made grown =
    let same : t ≡ place = some_is (has refl) in
    subst (λ (x : Result ℕ Refused). IfOk x (λ t. HasMade (RenderFrame h) reply.Done old new × (mine new ≡ mine old ++ t ∷ [])) × IfErr x (λ e. IsRefused (RenderFrame h) e old new))
    (sym is) ((made, grown ∙ ap (λ n. mine old ++ n ∷ []) (sym same)), tt)
  where
    some_is : Some t ≡ Some place → t ≡ place
    some_is is = cc
told_in (reply.Denied refused) ticket place h old new told is ticketed has made grown =
    subst (λ (x : Result ℕ Refused). IfOk x (λ t. HasMade (RenderFrame h) reply.Done old new × (mine new ≡ mine old ++ t ∷ [])) × IfErr x (λ e. IsRefused (RenderFrame h) e old new))
    (sym is) (tt, inr made)
told_in x ticket place h old new told is ticketed has made grown = absurd ticketed

pub rendered_told : (r : Reply) (out : Handed) (ticket : Option ℕ) (actor h : ℕ) (old new : DevicePass) (entry now : History) (told : Result ℕ Refused) → told ≡ ticket_told r ticket
    → actor ≡ caller_number old → Extends (seen old) entry → seen new ≡ now → mine new ≡ mine old ++ new_places caller_of entry now → RendersAt (Ok (r, out)) ticket actor h entry now
    → IfOk told (λ t. HasMade (RenderFrame h) reply.Done old new × (mine new ≡ mine old ++ t ∷ [])) × IfErr told (λ e. IsRefused (RenderFrame h) e old new)
unfolding has_called
rendered_told r out ticket actor h old new entry now told is same later sees grown renders =
    let at = subst (λ n. RendersAt (Ok (r, out)) ticket n h entry now) same renders in
    let called = has_called (RenderFrame h) hand.Nothing r out old new entry now later sees grown at.0 in
    told_in r ticket (length called.before + 1) h old new told is (is_ticketed r out ticket (caller_number old) h entry now at) at.1
    (made_of_none (RenderFrame h) r out old new tt called) called.place

pub renders_adds : (made : Result (Reply × Handed) (Refused × Call × Handed)) (ticket : Option ℕ) (actor h : ℕ) (old new : History) → RendersAt made ticket actor h old new
    → OnErr made (AddsNotes old new) → AddsOneCall caller_of actor old new
renders_adds (Ok r) ticket actor h old new renders noted = adds_one (Ok r) actor (RenderFrame h) hand.Nothing old new renders.0 tt
renders_adds (Err e) ticket actor h old new renders noted = adds_one (Err e) actor (RenderFrame h) hand.Nothing old new tt noted

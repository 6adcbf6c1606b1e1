-- Replies that tell of a flight what the last look at it read.
use Rattle.std.proofs.Common.{◌≡◌, ◌∙◌, ◌==◌, ◌<◌, ◌++◌, ◌∷◌, ◌&&◌, ◌⊎◌, inl, inr, ℕ, Bool, true, false, not, List, [], Option, Some, None, refl, sym, ap, subst, cond, map, arith}
use Rattle.std.specs.List.{AllByRecursion, find}
use Rattle.std.specs.Option.{MatchOption, is_some, option_map_or, unwrap_or}
use Rattle.std.proofs.lemmas.Bool.{eq-eqb, eqb-true}
use Rattle.answered_calls.specs.Tells.{HasTilesInFlight, TellsNone, with_given}
use Rattle.answered_calls.proofs.SeenTiles.{answer_tells}
use Rattle.dev_types.specs.declared.refusals.Refused.TheVariants.{InFlight}
use Rattle.frame_future.specs.Flights.{Flying, awaited, key_at}
use Rattle.frame_future.specs.Future.{Finished, Future, IsKept, Rising, flight_at, flight_of, has_ticket, is_flight_of, phase_by, phase_of, shown_by}
use Rattle.frame_future.specs.declared.phase.Phase.TheVariants as phase
use Rattle.fx_math.specs.declared.scene.Scene.{Scene}
use Rattle.object_steps.specs.Applying.{tells_of_flights}
use Rattle.past_laws.proofs.Follows.{one_call_more}
use Rattle.picture_model.specs.Tiles.{tile_count}
use Rattle.seq_model.proofs.Afters.{seen_is_history}
use Rattle.seq_model.specs.Answers.{IsAnswer, IsLike, answer}
use Rattle.seq_model.specs.Extensions.{readings_of}
use Rattle.seq_model.specs.Legal.{IsNoLess, Legal, is_content_sound, reading, seen_of}
use Rattle.seq_model.specs.Pictures.{tiles_at}
use Rattle.seq_model.specs.Steps.{Past, after}
use Rattle.seq_model.specs.Told.{source_of}
use Rattle.seq_model.specs.declared.calls.Call.{Call}
use Rattle.seq_model.specs.declared.calls.Call.TheVariants.{FrameReady, MapFrame, RenderFrame}
use Rattle.seq_model.specs.declared.calls.Entry.TheVariants.{Called}
use Rattle.seq_model.specs.declared.calls.Reply.{Reply}
use Rattle.seq_model.specs.declared.calls.Reply.TheVariants as reply
use Rattle.tile_claims.specs.Parts.{tiles_of}
use Rattle.device_laws.specs.Renders.{ShowsRender}
use Rattle.device_laws.specs.Replies.{AreTold}
use Rattle.device_laws.proofs.FrameFacts.{back}
use Rattle.device_laws.proofs.ReplyFacts.{quiet_told, reply_told}
use Rattle.device_laws.proofs.StandingFacts.{found}
use Rattle.device_parts.specs.AllParts.{AreParts, Inside}
use Rattle.device_parts.specs.Looks.{AreShort, given_of}
use Rattle.device_parts.specs.Standing.{IsStanding}
use Rattle.device_parts.proofs.RecordFacts.{flies_as}

-- where tickets rise, a flight that is found is the one with its ticket
pub found_by_ticket : (p : Flying → Bool) (fs : List Flying) (f : Flying) → Rising (map (λ g. g.ticket) fs) → find p fs ≡ Some f → find (has_ticket f.ticket) fs ≡ Some f
found_by_ticket p [] f rising is = absurd cc
found_by_ticket p (g ∷ fs) f rising is = by (p g) is (λ later. found_by_ticket p fs f rising.1 later)
  where
    above : AllByRecursion (λ h. g.ticket < h.ticket) fs
    above = back (λ t. g.ticket < t) (λ (h : Flying). h.ticket) fs rising.0

    not_same : (m n : ℕ) → m < n → (m == n) ≡ false
    not_same m n less = by (m == n) refl
      where
        by : (b : Bool) → (m == n) ≡ b → b ≡ false
        by false is = refl
        by true is = absurd (omega (arith, less, eqb-true m n is))

    by : (b : Bool) → cond b (Some g) (find p fs) ≡ Some f → (find p fs ≡ Some f → find (has_ticket f.ticket) fs ≡ Some f) →
        cond (g.ticket == f.ticket) (Some g) (find (has_ticket f.ticket) fs) ≡ Some f
    by true is later =
        let same : g ≡ f = cc in
        ap (λ b. cond b (Some g) (find (has_ticket f.ticket) fs)) (eq-eqb g.ticket f.ticket (ap (λ (h : Flying). h.ticket) same)) ∙ is
    by false is later =
        ap (λ b. cond b (Some g) (find (has_ticket f.ticket) fs)) (not_same g.ticket f.ticket (found (λ h. g.ticket < h.ticket) p fs f above is).0)
        ∙ later is

-- a call that may tell of a flight brings no content
pub is_sound : (past : Past) (call : Call) → tells_of_flights call ≡ true → is_content_sound past call ≡ true
is_sound past (RenderFrame h) tells = refl
is_sound past (FrameReady h wait) tells = refl
is_sound past (MapFrame h channel) tells = refl
is_sound past call tells = absurd cc

going : (here : Bool) (stop : Option ℕ) → (here && not (is_some stop)) ≡ true → stop ≡ None
going true None is = refl
going true (Some m) is = absurd cc
going false stop is = absurd cc

module _ (i : Inside) (parts : AreParts i) (stands : IsStanding i) (short : AreShort i.flights.future) (h : ℕ) where
  abbrev past : Past
  past = after i.history

  given : ℕ
  given = given_of i.flights.future h

  -- a flight that was not stopped waits for all tiles of its render
  awaits_all : (f : Flying) → flight_of i.flights.future h ≡ Some f → awaited f ≡ tiles_at i.history f.ticket
  unfolding tiles_at
  awaits_all f there =
      ap (λ stop. unwrap_or stop (tiles_of (key_at f)))
      (going (f.frame == h) f.view.stop (found (λ f. f.looked < awaited f) (is_flight_of h) i.flights.future.flights f short there).1)
      ∙ ap (λ (s : Scene). tile_count s.width s.height)
      (found (λ (f : Flying). ShowsRender i.history f.ticket (key_at f) f.channels) (is_flight_of h) i.flights.future.flights f stands.frames.shows.flights there).0.scene

  -- what is told of a flight is what the last look read, and not all
  told_of : (of : ℕ) → HasTilesInFlight past h of → (f : Flying) × (flight_of i.flights.future h ≡ Some f) × (given ≡ f.looked) × (given < of)
  unfolding given
  told_of of has =
      let flight = flies_as i h has.0 parts stands has.1 in
      let looked : given ≡ flight.0.looked = ap (λ x. option_map_or (λ (f : Flying). f.looked) x 0) flight.1 in
      let less : flight.0.looked < awaited flight.0 = (found (λ f. f.looked < awaited f) (is_flight_of h) i.flights.future.flights flight.0 short flight.1).0 in
      let all : of ≡ awaited flight.0 = has.2 ∙ ap (λ history. tiles_at history has.0) (seen_is_history i.history) ∙ ap (tiles_at i.history) (sym flight.2) ∙ sym (awaits_all flight.0 flight.1) in
      (flight.0, flight.1, looked, omega (arith, looked, less, all))

  like_told : (a : Reply) → TellsNone (HasTilesInFlight past h) a → IsLike a (with_given given a)
  like_told (reply.NotReady g of) tells = (given, (told_of of tells.1).3, refl)
  like_told (reply.Denied (InFlight g of)) tells = (given, (told_of of tells.1).3, refl)
  like_told (reply.Denied _) tells = refl
  like_told _ tells = refl

-- the reply is one that the call may have, and what it tells is no less than what was told before
module _ (i : Inside) (parts : AreParts i) (stands : IsStanding i) (short : AreShort i.flights.future) (kept : IsKept i.flights.future)
    (actor : ℕ) (call : Call) (a : Reply) (answered : answer (after i.history) call ≡ Some a) where
  abbrev pub told_reply : Reply
  told_reply = with_given (given_of i.flights.future (source_of call)) a

  tells_none : TellsNone (HasTilesInFlight (after i.history) (source_of call)) a
  tells_none = answer_tells (after i.history) call a answered

  pub may_tell : IsAnswer (after i.history) call told_reply
  unfolding IsAnswer given
  may_tell = subst (λ x. MatchOption x ⊥ (λ a. IsLike a told_reply)) (sym answered) (like_told i parts stands short (source_of call) a tells_none)

  -- it tells of no flight, or what the last look read
  abbrev ReadsBy : Call → Reply → Type 0
  ReadsBy call a =
      (reading (after i.history) (Called actor call (with_given (given_of i.flights.future (source_of call)) a)) ≡ None)
      ⊎ ((f : Flying) × (flight_of i.flights.future (source_of call) ≡ Some f) × (reading (after i.history) (Called actor call (with_given (given_of i.flights.future (source_of call)) a)) ≡ seen_of (after i.history) (source_of call) f.looked))

  reads_by : (call : Call) (a : Reply) → TellsNone (HasTilesInFlight (after i.history) (source_of call)) a → ReadsBy call a
  unfolding given
  reads_by (FrameReady h wait) (reply.NotReady g of) tells =
      let t = told_of i parts stands short h of tells.1 in inr (t.0, t.1, ap (seen_of (after i.history) h) t.2)
  reads_by (FrameReady h wait) (reply.Denied (InFlight g of)) tells = inl refl
  reads_by (FrameReady h wait) (reply.Denied _) tells = inl refl
  reads_by (FrameReady h wait) _ tells = inl refl
  reads_by (RenderFrame h) (reply.Denied (InFlight g of)) tells =
      let t = told_of i parts stands short h of tells.1 in inr (t.0, t.1, ap (seen_of (after i.history) h) t.2)
  reads_by (RenderFrame h) (reply.Denied _) tells = inl refl
  reads_by (RenderFrame h) _ tells = inl refl
  reads_by (MapFrame h channel) (reply.Denied (InFlight g of)) tells =
      let t = told_of i parts stands short h of tells.1 in inr (t.0, t.1, ap (seen_of (after i.history) h) t.2)
  reads_by (MapFrame h channel) (reply.Denied _) tells = inl refl
  reads_by (MapFrame h channel) _ tells = inl refl
  reads_by _ a tells = inl refl

  pub told_on : MatchOption (reading (after i.history) (Called actor call told_reply)) (Unit {0}) (IsNoLess (readings_of i.history))
      × AreTold (i.history ++ Called actor call told_reply ∷ []) i.flights.future.flights
  told_on = by (reads_by call a tells_none)
    where
      by : ReadsBy call a → MatchOption (reading (after i.history) (Called actor call told_reply)) (Unit {0}) (IsNoLess (readings_of i.history))
          × AreTold (i.history ++ Called actor call told_reply ∷ []) i.flights.future.flights
      by (inl none) = (
        subst (λ x. MatchOption x (Unit {0}) (IsNoLess (readings_of i.history))) (sym none) tt,
        quiet_told i.history (Called actor call told_reply) i.flights.future.flights none stands.told,
      )
      by (inr reads) =
          reply_told i.history (Called actor call told_reply) i.flights.future (source_of call) reads.0 parts.flown stands.frames.stands kept.rising reads.1 reads.2 stands.told

  pub told_legal : tells_of_flights call ≡ true → Legal (i.history ++ Called actor call told_reply ∷ [])
  told_legal tells =
      one_call_more i.history actor call told_reply parts.rest.legal (stands.frames.open_ actor call told_reply) may_tell (is_sound (after i.history) call tells) told_on.0

-- the ticket of the frame's phase is that of its flight, and a flight is found by it
pub flying_phase : (s : Future) (h t : ℕ) → IsKept s → phase_of s h ≡ phase.Flight t → (f : Flying) × (flight_of s h ≡ Some f) × (flight_at s t ≡ Some f)
flying_phase s h t kept is = by (flight_of s h) (shown_by s h) refl is
  where
    by : (o : Option Flying) (p : Option Finished) → flight_of s h ≡ o → phase_by o p ≡ phase.Flight t → (f : Flying) × (flight_of s h ≡ Some f) × (flight_at s t ≡ Some f)
    by (Some f) p some is =
        let same : f.ticket ≡ t = cc in
        (f, some, subst (λ t. flight_at s t ≡ Some f) same (found_by_ticket (is_flight_of h) s.flights f kept.rising some))
    by None (Some p) none is = absurd cc
    by None None none is = absurd cc

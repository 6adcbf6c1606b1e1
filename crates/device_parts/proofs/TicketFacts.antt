-- The tickets of flights.
use Rattle.std.proofs.Common.{◌≡◌, ◌∙◌, ℕ, List, [], ◌∷◌, Option, Some, None, cond, refl, sym, ap, subst}
use Rattle.std.specs.Prelude.{IfSome}
use Rattle.std.specs.List.{find, slice_get}
use Rattle.std.specs.Option.{option_map, unwrap_or}
use Rattle.std.proofs.lemmas.Bool.{eq-eqb}
use Rattle.frame_future.specs.Flights.{Flying, awaited}
use Rattle.frame_future.specs.Future.{Finished, Future, flight_at, flight_of, has_ticket, phase_by, phase_of, shown_by}
use Rattle.frame_future.specs.declared.phase.Phase.{Phase}
use Rattle.frame_future.specs.declared.phase.Phase.TheVariants as phase
use Rattle.seq_model.specs.Refusals.{phase_at}
use Rattle.seq_model.specs.State.{ticket_in}
use Rattle.seq_model.specs.Steps.{after}
use Rattle.device_laws.specs.Standing.{phase_as}
use Rattle.device_laws.proofs.StandingFacts.{phases_agree}
use Rattle.device_parts.specs.AllParts.{AreParts, Inside}
use Rattle.device_parts.specs.Standing.{IsStanding}

-- the ticket of a flight, by what its frame has to show
abbrev pub ticket_kept : Phase → Option ℕ
ticket_kept (phase.Flight t) = Some t
ticket_kept p = None

pub no_ticket : (p : Phase) → ((t : ℕ) → p ≡ phase.Flight t → ⊥) → ticket_kept p ≡ None
no_ticket (phase.Flight t) never = absurd (never t refl)
no_ticket (phase.Done t) never = refl
no_ticket phase.Empty never = refl

pub ticket_flown : (s : Future) (h : ℕ) → ticket_kept (phase_of s h) ≡ option_map (λ f. f.ticket) (flight_of s h)
ticket_flown s h = by (flight_of s h) (shown_by s h)
  where
    by : (o : Option Flying) (q : Option Finished) → ticket_kept (phase_by o q) ≡ option_map (λ f. f.ticket) o
    by (Some f) q = refl
    by None (Some q) = refl
    by None None = refl

-- it is that which the history tells
pub ticket_told : (i : Inside) (h : ℕ) → AreParts i → IsStanding i → option_map (λ f. f.ticket) (flight_of i.flights.future h) ≡ ticket_in (phase_at (after i.history) h)
ticket_told i h p stands = by (flight_of i.flights.future h) (shown_by i.flights.future h) ∙ sym (ap ticket_in (phases_agree i.history i.flights.future p.flown stands.frames.stands h))
  where
    by : (o : Option Flying) (q : Option Finished) → option_map (λ f. f.ticket) o ≡ ticket_in (phase_as (phase_by o q))
    by (Some f) q = refl
    by None (Some q) = refl
    by None None = refl

-- the first flight is found by its ticket
pub first_there : (fs : List Flying) (t : ℕ) → Some t ≡ option_map (λ f. f.ticket) (slice_get fs 0) → (f : Flying) × (slice_get fs 0 ≡ Some f) × (find (has_ticket t) fs ≡ Some f)
first_there [] t is = absurd cc
first_there (f ∷ fs) t is = (f, refl, ap (λ b. cond b (Some f) (find (has_ticket t) fs)) (eq-eqb f.ticket t (sym (ap (λ o. unwrap_or o f.ticket) is))))

pub none_there : (fs : List Flying) → None ≡ option_map (λ (f : Flying). f.ticket) (slice_get fs 0) → fs ≡ []
none_there [] is = refl
none_there (f ∷ fs) is = absurd cc

-- what the last look at it read
pub first_looked : (s frames : Future) (t : ℕ) (look : ℕ × ℕ) → Some t ≡ option_map (λ f. f.ticket) (slice_get s.flights 0) → frames ≡ s → IfSome (flight_at frames t) (λ f. look ≡ (f.looked, awaited f))
    → Some look ≡ option_map (λ f. (f.looked, awaited f)) (slice_get s.flights 0)
first_looked s frames t look first same says =
    let there = first_there s.flights t first in
    let is : look ≡ (there.0.looked, awaited there.0) = subst (λ o. IfSome o (λ (f : Flying). look ≡ (f.looked, awaited f))) (ap (λ (u : Future). flight_at u t) same ∙ there.2) says in
    ap Some is ∙ sym (ap (option_map (λ (f : Flying). (f.looked, awaited f))) there.1)

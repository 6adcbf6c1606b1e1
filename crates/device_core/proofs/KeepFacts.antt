-- Calls that leave all of a device but what is known of its flights.
use Rattle.std.proofs.Common.{suc, ◌≡◌, ◌∙◌, ◌<◌, ◌≤◌, ℕ, Bool, true, false, List, [], ◌∷◌, Option, Some, None, length, refl, sym, ap, subst, arith}
use Rattle.std.specs.Prelude.{IfNone, IfSome, if◌then◌else◌}
use Rattle.frame_future.specs.Flights.{Flying}
use Rattle.frame_future.specs.Future.{Future, replaced}
use Rattle.object_steps.specs.Objects.{tellable}
use Rattle.seq_model.specs.Histories.{History}
use Rattle.seq_model.specs.Room.{loans_out}
use Rattle.seq_model.specs.Steps.{after}
use Rattle.world_snapshot.specs.declared.works.Work.{Work}
use Rattle.device_parts.specs.AllParts.{Inside}
use Rattle.device_parts.specs.Lends.{HasLentFlight, HasReturned, IsLentFlight}
use Rattle.device_parts.specs.Standing.{IsStanding}
use Rattle.device_core.specs.States.{Device, IsDevice, owed}

-- there are as many flights, and all else is as it was
pub record Keeps (old new : Inside) : Type 0 where
  pub rest : new ≡ record old { flights = new.flights }
  pub count : length new.flights.future.flights ≡ length old.flights.future.flights

pub kept_history : (old new : Inside) → Keeps old new → new.history ≡ old.history
kept_history old new k = ap (λ (i : Inside). i.history) k.rest

pub kept_loans : (old new : Inside) → Keeps old new → loans_out (after new.history).state ≡ loans_out (after old.history).state
kept_loans old new k = ap (λ (h : History). loans_out (after h).state) (kept_history old new k)

kept_owed : (old new : Inside) → Keeps old new → owed new ≡ owed old
kept_owed old new k =
    let entries = ap (λ (h : History). length h) (kept_history old new k) in
    let count = k.count in
    omega (arith, entries, count)

pub kept_device : (d : Device) (new : Inside) → IsDevice d → Keeps d.parts new → (IsStanding d.parts → IsStanding new) → IsDevice (record d { parts = new })
kept_device d new is k stands = record {
  all_told = ap (λ (i : Inside). i.objects.dead) k.rest ∙ is.all_told;
  spare = subst (λ n. n ≤ d.spare) (sym (ap (λ (i : Inside). tellable i.objects.stored.state) k.rest)) is.spare;
  counted = subst (λ (i : Inside). tellable i.objects.stored.state ≤ length i.history) (sym k.rest) is.counted;
  within = subst (λ n. n < d.limit) (sym (kept_owed d.parts new k)) is.within;
  limit = is.limit;
  stands = λ going. stands (is.stands going);
}

-- another flight in the place of one
one_more : (b : Bool) (f g : Flying) (fs gs : List Flying) → length fs ≡ length gs → length (if b then f ∷ gs else g ∷ fs) ≡ length (g ∷ gs)
one_more true f g fs gs same = refl
one_more false f g fs gs same = ap (λ n. suc n) same

replaced_count : (p : Flying → Bool) (f : Flying) (fs : List Flying) → length (replaced p f fs) ≡ length fs
replaced_count p f [] = refl
replaced_count p f (g ∷ gs) = one_more (p g) f g (replaced p f gs) gs (replaced_count p f gs)

pub lent_keeps : (result : Option Work) (h : ℕ) (old new : Inside) → IfSome result (HasLentFlight h old new) → IfNone result (new ≡ old) → Keeps old new
lent_keeps (Some work) h old new lent same = record {
  rest = lent.rest;
  count = ap (λ (s : Future). length s.flights) lent.away ∙ replaced_count _ _ old.flights.future.flights;
}
lent_keeps None h old new lent same = record {
  rest = subst (λ (i : Inside). i ≡ record old { flights = i.flights }) (sym same) refl;
  count = ap (λ (i : Inside). length i.flights.future.flights) same;
}

pub returned_keeps : (old new : Inside) (work : Work) → IsLentFlight old work → HasReturned old new work → Keeps old new
returned_keeps old new work lent returned = record {
  rest = returned.rest;
  count = ap (λ (s : Future). length s.flights) (returned.flight lent.flight lent.there lent.away) ∙ replaced_count _ _ old.flights.future.flights;
}

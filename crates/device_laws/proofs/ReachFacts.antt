-- What a flight reached lives as long as the flight.
use Rattle.std.proofs.Common.{ℕ, ◌+◌, ◌==◌, ◌≡◌, ◌∙◌, ◌⊎◌, inl, inr, not, Bool, true, false, List, [], ◌∷◌, ◌++◌, Option, Some, None, length, refl, sym, ap, subst, arith}
use Rattle.std.specs.Prelude.{◌||◌}
use Rattle.std.specs.List.{list_any}
use Rattle.std.specs.Option.{is_some, unwrap_or}
use Rattle.std.proofs.lemmas.Bool.{cases_eq, eqb-true, or_cases, or_left, or_right}
use Rattle.past_laws.proofs.FlightFacts.{flights_after, flights_have}
use Rattle.seq_model.proofs.Afters.{after_more, frame_late}
use Rattle.seq_model.proofs.Changes.{entry_changes}
use Rattle.seq_model.proofs.Handles.{changed}
use Rattle.seq_model.proofs.Keys.{at}
use Rattle.seq_model.proofs.Prefixes.{in_place, legal_by}
use Rattle.seq_model.proofs.Reached.{carries, reach_early, reach_here, step_reached}
use Rattle.seq_model.proofs.Sweeps.{reached_is_root}
use Rattle.seq_model.specs.Deaths.{changed_by}
use Rattle.seq_model.specs.Histories.{History, public, rendered}
use Rattle.seq_model.specs.Legal.{IsInPlace, Legal}
use Rattle.seq_model.specs.Life.{has}
use Rattle.seq_model.specs.State.{Object, State, flights, object_at, scene_objects}
use Rattle.seq_model.specs.Steps.{Past, after, is_reached, is_reached_by, next_place, step, with_reach}
use Rattle.seq_model.specs.declared.calls.Call.TheVariants.{RenderFrame, Retain}
use Rattle.seq_model.specs.declared.calls.Entry.{Entry}
use Rattle.seq_model.specs.declared.calls.Entry.TheVariants.{Called, Closed, Finished, Left}
use Rattle.seq_model.specs.declared.calls.Reply.TheVariants as reply
use Rattle.kind_tables.specs.Walks.{visited, walk}
use Rattle.world_laws.proofs.Reaches.{reached_is_there}
use Rattle.device_laws.proofs.FlightFacts.{and_right, still_there}
use Rattle.device_laws.proofs.FlightSteps.{flights_by}
use Rattle.device_laws.proofs.PhaseFacts.{root_stays}
use Rattle.device_laws.specs.FlightMoves.{flies_after}

any_of : (p : ℕ → Bool) (t : ℕ) (ts : List ℕ) → has t ts ≡ true → p t ≡ true → list_any p ts ≡ true
any_of p t [] is passes = absurd cc
any_of p t (u ∷ ts) is passes = by (or_cases (u == t) (has t ts) is) (λ later. any_of p t ts later passes)
  where
    by : ((u == t) ≡ true) ⊎ (has t ts ≡ true) → (has t ts ≡ true → list_any p ts ≡ true) → (p u || list_any p ts) ≡ true
    by (inl here) rest = or_left (p u) (list_any p ts) (ap p (eqb-true u t here) ∙ passes)
    by (inr later) rest = or_right (p u) (list_any p ts) (rest later)

-- a flight that did not begin just now flew before
flew_before : (place : ℕ) (e : Entry) (t : ℕ) (flew : Bool) → (place == t) ≡ false → flies_after place e t flew ≡ true → flew ≡ true
flew_before place (Called actor (RenderFrame f) reply.Done) t flew other is = sym (ap (λ b. b || flew) other) ∙ is
flew_before place (Called actor (Retain f) r) t flew other is = is
flew_before place (Finished u) t flew other is = and_right (not (u == t)) flew is
flew_before place (Left u) t flew other is = and_right (not (u == t)) flew is
flew_before place e t flew other is = is

-- what a flight reached, by what is carried
pub reached_of : (reached : List (ℕ × List ℕ)) (t h : ℕ) (hs : Option (List ℕ)) → at t reached ≡ hs → is_reached_by reached t h ≡ true → has h (unwrap_or hs []) ≡ true
unfolding is_reached_by
reached_of reached t h hs is reaches = sym (ap (λ x. has h (unwrap_or x [])) is) ∙ reaches

reached_from : (reached : List (ℕ × List ℕ)) (t h : ℕ) (hs : Option (List ℕ)) → at t reached ≡ hs → has h (unwrap_or hs []) ≡ true → is_reached_by reached t h ≡ true
unfolding is_reached_by
reached_from reached t h hs is reaches = ap (λ x. has h (unwrap_or x [])) is ∙ reaches

with_none : (place : ℕ) (s : State) (reached : List (ℕ × List ℕ)) → at place (with_reach place None s reached) ≡ at place reached
unfolding with_reach
with_none place s reached = refl

-- what an entry's own render reached was there before it
begun_reach : (history : History) (e : Entry) (h : ℕ) → is_reached_by (step (after history) e).reached (length history + 1) h ≡ true → is_some (object_at (after history).state h) ≡ true
begun_reach history e h is = by (rendered e) refl
  where
    nothing : at (length history + 1) (after history).reached ≡ None
    nothing = (carries history).nothing (length history + 1) (frame_late history (length history + 1) (omega arith))

    carried : (r : Option ℕ) → rendered e ≡ r → at (length history + 1) (step (after history) e).reached ≡ at (length history + 1) (with_reach (length history + 1) r (after history).state (after history).reached)
    carried r same = ap (at (length history + 1)) (step_reached history e) ∙ ap (λ r. at (length history + 1) (with_reach (length history + 1) r (after history).state (after history).reached)) same

    by : (r : Option ℕ) → rendered e ≡ r → is_some (object_at (after history).state h) ≡ true
    by None none =
        let wrong : has h (unwrap_or None []) ≡ true = reached_of (step (after history) e).reached (length history + 1) h None (carried None none ∙ with_none (length history + 1) (after history).state (after history).reached ∙ nothing) is in absurd cc
    by (Some f) some =
        let visits : has h (visited (walk (scene_objects (after history).state) f)) ≡ true =
        reached_of (step (after history) e).reached (length history + 1) h (Some (visited (walk (scene_objects (after history).state) f)))
        (carried (Some f) some ∙ reach_here (length history + 1) f (after history).state (after history).reached nothing) is in
        ap is_some (reached_is_there (after history).state f h visits).1

-- an object that a flight reached is a root of what an entry leaves
stays_reached : (history : History) (e : Entry) (t h : ℕ) (o : Object) → object_at (changed_by history e) h ≡ Some o → has t (flights (after (history ++ e ∷ [])).state) ≡ true →
    is_reached_by (after (history ++ e ∷ [])).reached t h ≡ true → is_some (object_at (after (history ++ e ∷ [])).state h) ≡ true
unfolding is_reached
stays_reached history e t h o there flies reaches =
    ap is_some (root_stays history e h o there
    (reached_is_root (public (history ++ e ∷ [])) (is_reached (after (history ++ e ∷ [])).reached (changed_by history e)) h o
    (any_of (λ t. is_reached_by (after (history ++ e ∷ [])).reached t h) t (flights (changed_by history e))
    (flights_have (changed_by history e) t ∙ sym (flights_after history e t) ∙ sym (ap (λ (past : Past). has t (flights past.state)) (after_more history e)) ∙ flies) reaches)))

nothing_flies : (t : ℕ) {A : Type 0} → has t (flights (after []).state) ≡ true → A
unfolding after
nothing_flies t flies = absurd cc

-- one entry more
over : (history : History) (e : Entry) → Legal (history ++ e ∷ []) →
    ((t h : ℕ) → has t (flights (after history).state) ≡ true → is_reached_by (after history).reached t h ≡ true → is_some (object_at (after history).state h) ≡ true) →
    (t h : ℕ) → has t (flights (after (history ++ e ∷ [])).state) ≡ true → is_reached_by (after (history ++ e ∷ [])).reached t h ≡ true → is_some (object_at (after (history ++ e ∷ [])).state h) ≡ true
over history e legal before t h flies reaches = by (was (cases_eq t (length history + 1)))
  where
    apart : (b : Bool) → (length history + 1 == t) ≡ b → (t ≡ length history + 1 → ⊥) → b ≡ false
    apart false is other = refl
    apart true is other = absurd (other (sym (eqb-true (length history + 1) t is)))

    stepped : is_reached_by (step (after history) e).reached t h ≡ true
    stepped = ap (λ (past : Past). is_reached_by past.reached t h) (sym (after_more history e)) ∙ reaches

    was : (t ≡ length history + 1) ⊎ (t ≡ length history + 1 → ⊥) → is_some (object_at (after history).state h) ≡ true
    was (inl same) = begun_reach history e h (subst (λ t. is_reached_by (step (after history) e).reached t h ≡ true) same stepped)
    was (inr other) =
        before t h
        (flew_before (length history + 1) e t (has t (flights (after history).state)) (apart (length history + 1 == t) refl other) (sym (flights_by history e t legal) ∙ flies))
        (reached_from (after history).reached t h (at t (after history).reached) refl
        (reached_of (step (after history) e).reached t h (at t (after history).reached)
        (ap (at t) (step_reached history e) ∙ reach_early (length history + 1) t (rendered e) (after history).state (after history).reached other) stepped))

    going : e ≡ Closed → ⊥
    going closed =
        let legal_close : Legal (history ++ Closed ∷ []) = subst (λ e. Legal (history ++ e ∷ [])) closed legal in
        let flew : has t (flights (after history).state) ≡ true =
        sym (flights_by history Closed t legal_close) ∙ subst (λ e. has t (flights (after (history ++ e ∷ [])).state) ≡ true) closed flies in
        let none : has t (flights (after history).state) ≡ false = ap (has t) (in_place history Closed [] legal_close).1 in cc

    by : is_some (object_at (after history).state h) ≡ true → is_some (object_at (after (history ++ e ∷ [])).state h) ≡ true
    by there = of (object_at (after history).state h) refl there
      where
        now : (y : Option Object) → object_at (changed_by history e) h ≡ y → is_some y ≡ true → is_some (object_at (after (history ++ e ∷ [])).state h) ≡ true
        now None none is = absurd cc
        now (Some p) some is = stays_reached history e t h p some flies reaches

        of : (x : Option Object) → object_at (after history).state h ≡ x → is_some x ≡ true → is_some (object_at (after (history ++ e ∷ [])).state h) ≡ true
        of None none is = absurd cc
        of (Some o) some is =
            now (object_at (changed_by history e) h) refl
            (still_there (next_place (after history)) e (after history).state (changed (after history) e) (entry_changes (next_place (after history)) e (after history).state) going h o some)

pub reach_lives : (history : History) → Legal history → (t h : ℕ) → has t (flights (after history).state) ≡ true → is_reached_by (after history).reached t h ≡ true → is_some (object_at (after history).state h) ≡ true
reach_lives history legal =
    legal_by (λ past. (t h : ℕ) → has t (flights past.state) ≡ true → is_reached_by past.reached t h ≡ true → is_some (object_at past.state h) ≡ true) first more history legal
  where
    first : (t h : ℕ) → has t (flights (after []).state) ≡ true → is_reached_by (after []).reached t h ≡ true → is_some (object_at (after []).state h) ≡ true
    first t h flies reaches = nothing_flies t flies

    more : (history : History) (e : Entry) → Legal (history ++ e ∷ []) → IsInPlace (after history) [] e →
        ((t h : ℕ) → has t (flights (after history).state) ≡ true → is_reached_by (after history).reached t h ≡ true → is_some (object_at (after history).state h) ≡ true) →
        (t h : ℕ) → has t (flights (step (after history) e).state) ≡ true → is_reached_by (step (after history) e).reached t h ≡ true → is_some (object_at (step (after history) e).state h) ≡ true
    more history e legal placed before t h flies reaches =
        ap (λ (past : Past). is_some (object_at past.state h)) (sym (after_more history e)) ∙ over history e legal before t h
        (ap (λ (past : Past). has t (flights past.state)) (after_more history e) ∙ flies) (ap (λ (past : Past). is_reached_by past.reached t h) (after_more history e) ∙ reaches)

pub gone_is_not_reached : (history : History) → Legal history → (t h : ℕ) → has t (flights (after history).state) ≡ true → object_at (after history).state h ≡ None → is_reached_by (after history).reached t h ≡ false
gone_is_not_reached history legal t h flies gone = by (is_reached_by (after history).reached t h) refl
  where
    by : (b : Bool) → is_reached_by (after history).reached t h ≡ b → b ≡ false
    by false is = refl
    by true is = let wrong : false ≡ true = sym (ap is_some gone) ∙ reach_lives history legal t h flies is in absurd cc

use Rattle.std.proofs.Common.{◌≡◌, ◌<◌, ◌++◌, None, Bool, true, false, List, [], ◌∷◌, length, length-append, if◌then◌else◌, arith, refl, sym, ap, subst, ◌∙◌}
use Rattle.std.specs.Option.{MatchOption}
use Rattle.frame_future.specs.declared.phase.Ended.{Ended}
use Rattle.frame_future.specs.Ends.{Ends, EndsAt, StayOpen}
use Rattle.frame_future.specs.Flights.{Flying, is_stopped}
use Rattle.frame_future.specs.Future.{Finished, Future, finished, IsKept}
use Rattle.frame_future.specs.Reads.{AreSeen}
use Rattle.frame_future.specs.contracts.frames.Frames.{the_view}
use Rattle.frame_future.proofs.Endings.{ends, kept-alike, length-remove}
use Rattle.frame_future.proofs.ReadLaws.{none_seen, one_seen, seen_home}
use Rattle.frame_future.proofs.Kept.{kept-end, kept-left}
use Rattle.frame_future.proofs.frames.Frames.next_ended.Goals as goal

abbrev future : List Flying → List Finished → Future
future flights pictures = record { flights = flights; pictures = pictures }

pub invariant_of-self : goal.invariant_of-self
invariant_of-self c =
    let inside = the_view c.self.inside in
    let old = c.self.inside.flights.items in
    let now = c.first_ended.new.flights.items in
    let kept = kept-alike old now c.self.inside.pictures.items c.first_ended.ensures.count c.first_ended.ensures.alike c.self.invariant.0 in
    (kept, omega (arith, c.self.invariant.1, c.first_ended.ensures.count))

pub invariant_of-self-then-is_stopped : goal.invariant_of-self-then-is_stopped
invariant_of-self-then-is_stopped c =
    let inside = the_view c.self.inside in
    let old = c.self.inside.flights.items in
    let now = c.first_ended.new.flights.items in
    let kept = kept-alike old now c.self.inside.pictures.items c.first_ended.ensures.count c.first_ended.ensures.alike c.self.invariant.0 in
    let place = c.in-Some.place in
    let flight = c.remove-flight.result in
    let e = subst (λ o. MatchOption o (StayOpen c.args.after (length old) old now) (EndsAt c.args.after old now)) c.in-Some.is c.first_ended.ensures.ended in
    let within : place < length now = omega (arith, e.within, c.first_ended.ensures.count) in
    let fewer = ap length c.remove-flight.ensures.items ∙ refl in
    let one = length-remove now place within in (
      subst (λ fs. IsKept (future fs c.self.inside.pictures.items)) (sym c.remove-flight.ensures.items) (kept-left now c.self.inside.pictures.items place flight within kept),
      omega (arith, c.self.invariant.1, c.first_ended.ensures.count, fewer, one),
    )

pub returns-then-is_stopped-clause-ended : goal.returns-then-is_stopped-clause-ended
returns-then-is_stopped-clause-ended c =
    let inside = the_view c.self.inside in
    let old = c.self.inside.flights.items in
    let now = c.first_ended.new.flights.items in
    let kept = kept-alike old now c.self.inside.pictures.items c.first_ended.ensures.count c.first_ended.ensures.alike c.self.invariant.0 in
    let place = c.in-Some.place in
    let flight = c.remove-flight.result in
    let e = subst (λ o. MatchOption o (StayOpen c.args.after (length old) old now) (EndsAt c.args.after old now)) c.in-Some.is c.first_ended.ensures.ended in
    let within : place < length now = omega (arith, e.within, c.first_ended.ensures.count) in
    let fewer = ap length c.remove-flight.ensures.items ∙ refl in
    let one = length-remove now place within in
    let ended : Ended = record { ticket = c.ticket-ticket.result; left = true } in
    let stopped : is_stopped flight ≡ true = sym c.is_stopped.ensures ∙ c.if-is_stopped.true in
    let shown = sym (ap (λ (b : Bool). if b then inside.pictures else inside.pictures ++ finished flight ∷ []) stopped) in
    subst (λ (v : Future). Ends c.args.after v (future c.remove-flight.new.self.items c.self.inside.pictures.items) ended) c.self.view_is
    (subst (λ fs. Ends c.args.after inside (future fs c.self.inside.pictures.items) ended) (sym c.remove-flight.ensures.items)
    (ends c.args.after inside now place flight c.self.inside.pictures.items ended c.first_ended.ensures.count e c.remove-flight.ensures.value c.ticket-ticket.ensures (sym stopped) shown))

pub invariant_of-self-2 : goal.invariant_of-self-2
invariant_of-self-2 c =
    let inside = the_view c.self.inside in
    let old = c.self.inside.flights.items in
    let now = c.first_ended.new.flights.items in
    let kept = kept-alike old now c.self.inside.pictures.items c.first_ended.ensures.count c.first_ended.ensures.alike c.self.invariant.0 in
    let place = c.in-Some.place in
    let flight = c.remove-flight.result in
    let e = subst (λ o. MatchOption o (StayOpen c.args.after (length old) old now) (EndsAt c.args.after old now)) c.in-Some.is c.first_ended.ensures.ended in
    let within : place < length now = omega (arith, e.within, c.first_ended.ensures.count) in
    let fewer = ap length c.remove-flight.ensures.items ∙ refl in
    let one = length-remove now place within in
    let going : is_stopped flight ≡ false = sym c.is_stopped.ensures ∙ c.if-is_stopped.false in
    let pictures : c.push_reserved.new.self.items ≡ c.self.inside.pictures.items ++ finished flight ∷ [] = c.push_reserved.ensures.items ∙ ap (λ p. c.self.inside.pictures.items ++ p ∷ []) c.finish.ensures in
    let more = ap length pictures ∙ length-append c.self.inside.pictures.items (finished flight ∷ []) in (
      subst IsKept (λ i. future (sym c.remove-flight.ensures.items i) (sym pictures i)) (kept-end now c.self.inside.pictures.items place flight within c.remove-flight.ensures.value going kept),
      omega (arith, c.self.invariant.1, c.first_ended.ensures.count, fewer, one, more, c.push_reserved.ensures.capacity),
    )

pub returns-clause-ended : goal.returns-clause-ended
returns-clause-ended c =
    let inside = the_view c.self.inside in
    let old = c.self.inside.flights.items in
    let now = c.first_ended.new.flights.items in
    let kept = kept-alike old now c.self.inside.pictures.items c.first_ended.ensures.count c.first_ended.ensures.alike c.self.invariant.0 in
    let place = c.in-Some.place in
    let flight = c.remove-flight.result in
    let e = subst (λ o. MatchOption o (StayOpen c.args.after (length old) old now) (EndsAt c.args.after old now)) c.in-Some.is c.first_ended.ensures.ended in
    let within : place < length now = omega (arith, e.within, c.first_ended.ensures.count) in
    let fewer = ap length c.remove-flight.ensures.items ∙ refl in
    let one = length-remove now place within in
    let ended : Ended = record { ticket = c.ticket-ticket.result; left = false } in
    let going : is_stopped flight ≡ false = sym c.is_stopped.ensures ∙ c.if-is_stopped.false in
    let pictures : c.push_reserved.new.self.items ≡ c.self.inside.pictures.items ++ finished flight ∷ [] = c.push_reserved.ensures.items ∙ ap (λ p. c.self.inside.pictures.items ++ p ∷ []) c.finish.ensures in
    let shown = pictures ∙ sym (ap (λ (b : Bool). if b then inside.pictures else inside.pictures ++ finished flight ∷ []) going) in
    subst (λ (v : Future). Ends c.args.after v (future c.remove-flight.new.self.items c.push_reserved.new.self.items) ended) c.self.view_is
    (subst (λ fs. Ends c.args.after inside (future fs c.push_reserved.new.self.items) ended) (sym c.remove-flight.ensures.items)
    (ends c.args.after inside now place flight c.push_reserved.new.self.items ended c.first_ended.ensures.count e c.remove-flight.ensures.value c.ticket-ticket.ensures (sym going) shown))

pub returns-then-is_stopped-clause-seen : goal.returns-then-is_stopped-clause-seen
returns-then-is_stopped-clause-seen c =
    one_seen c.args.after c.args.self.now _ _ (subst IsKept c.self.view_is c.self.invariant.0) (returns-then-is_stopped-clause-ended c)

pub returns-clause-seen : goal.returns-clause-seen
returns-clause-seen c = one_seen c.args.after c.args.self.now _ _ (subst IsKept c.self.view_is c.self.invariant.0) (returns-clause-ended c)

pub returns-in_default-clause-seen : goal.returns-in_default-clause-seen
returns-in_default-clause-seen c =
    let inside = the_view c.self.inside in
    let old = c.self.inside.flights.items in
    let now = c.first_ended.new.flights.items in
    let new : Future = future now c.self.inside.pictures.items in
    let stay = subst (λ o. MatchOption o (StayOpen c.args.after (length old) old now) (EndsAt c.args.after old now)) c.in_default.is c.first_ended.ensures.ended in
    subst (λ (v : Future). AreSeen c.args.after v new None) c.self.view_is
    (none_seen c.args.after inside new c.self.invariant.0 (record { stay = stay; count = c.first_ended.ensures.count; pictures = refl }))

pub returns-in_default-clause-home : goal.returns-in_default-clause-home
returns-in_default-clause-home c = seen_home c.args.after c.args.self.now _ _ (returns-in_default-clause-seen c) c.requires.home

pub returns-then-is_stopped-clause-home : goal.returns-then-is_stopped-clause-home
returns-then-is_stopped-clause-home c = seen_home c.args.after c.args.self.now _ _ (returns-then-is_stopped-clause-seen c) c.requires.home

pub returns-clause-home : goal.returns-clause-home
returns-clause-home c = seen_home c.args.after c.args.self.now _ _ (returns-clause-seen c) c.requires.home

pub returns-in_default-clause-kept : goal.returns-in_default-clause-kept
returns-in_default-clause-kept c = subst IsKept c.self.view_is c.self.invariant.0

pub returns-then-is_stopped-clause-kept : goal.returns-then-is_stopped-clause-kept
returns-then-is_stopped-clause-kept c = subst IsKept c.self.view_is c.self.invariant.0

pub returns-clause-kept : goal.returns-clause-kept
returns-clause-kept c = subst IsKept c.self.view_is c.self.invariant.0

use Rattle.std.proofs.Common.{◌∙◌, ◌+◌, ◌++◌, ◌<◌, ◌≤◌, length, length-append, refl, sym, ap, subst, arith}
use Rattle.std.proofs.lemmas.List.{append_assoc}
use Rattle.std.specs.List.{AllByRecursion, filter_map}
use Rattle.flight_books.proofs.CargoLaws.{firsts}
use Rattle.frame_future.specs.Flights.{Flying}
use Rattle.object_store.specs.Ends.{notice_of}
use Rattle.object_steps.specs.Objects.{tellable}
use Rattle.seq_model.specs.Told.{told}
use Rattle.device_parts.specs.Deaths.{all_told}
use Rattle.device_parts.specs.AllParts.{Inside}
use Rattle.device_parts.specs.Standing.{IsStanding}
use Rattle.device_parts.proofs.SweepFacts.{IsSweeping, none_noted, none_to_tell, noted_tells, one_noted, sweeping_begins, sweeping_fewer, sweeping_on, sweeping_over}
use Rattle.device_parts.proofs.parts.Parts.sweep.Goals as goal

pub loop-ticket-init : goal.loop-ticket-init
loop-ticket-init g c =
    let old = c.args.self.now in
    let above = subst (λ (i : Inside). AllByRecursion (λ (f : Flying). 0 < f.ticket) i.flights.future.flights) c.self.view_is
    (firsts c.self.inside.flights.future.flights c.self.inside.flights.cargo c.frames-flights.ensures.books.cargo) in
    (sweeping_begins old c.requires.home c.requires.all_told above, c.requires.spare, (λ before is. is), (let same : g.C.Client.spare c.args.client.now + length (g.C.Client.notices c.args.client.now) ≤ g.C.Client.spare c.args.client.now + length (g.C.Client.notices c.args.client.now) = omega arith in same), (λ stands. stands), refl, (let same : g.C.Client.spare c.args.client.now + tellable c.args.self.now.objects.stored.state ≤ g.C.Client.spare c.args.client.now + tellable c.args.self.now.objects.stored.state = omega arith in same), (let same : tellable c.args.self.now.objects.stored.state ≤ tellable c.args.self.now.objects.stored.state = omega arith in same))

pub loop-ticket-smaller : goal.loop-ticket-smaller
loop-ticket-smaller g c =
    let one = sweeping_fewer c.args.self.now c.loop-ticket.self c.note_next.new.self c.loop-ticket.last c.in-Some.ticket c.loop-ticket.invariant.0 c.in-Some.ensures.noted in
    let same = ap (λ (i : Inside). length i.flights.future.flights) c.tell.ensures.none in
    omega (arith, one, same)

-- telling leaves all but who is still to be told
stands_told : (i : Inside) → IsStanding i → IsStanding (all_told i)
stands_told i s = record {
  frames = s.frames;
  told = s.told;
}

pub loop-ticket-preserved : goal.loop-ticket-preserved
loop-ticket-preserved g c =
    let old = c.args.self.now in
    let now = c.loop-ticket.self in
    let mid = c.note_next.new.self in
    let noted = c.in-Some.ensures.noted in
    let before = c.loop-ticket.invariant in
    let on = sweeping_on old now mid c.loop-ticket.last c.in-Some.ticket before.0 noted c.note_next.ensures.home in
    let spare = before.1 in
    let fewer = noted.fewer in
    let room = c.tell.ensures.room in
    let same = ap (λ (i : Inside). tellable i.objects.stored.state) c.tell.ensures.none in
    let told_now = ap length c.tell.ensures.told ∙ length-append (g.C.Client.notices c.loop-ticket.client) (filter_map notice_of mid.objects.dead) in
    let so_far = before.3 in
    let places = one_noted now mid c.loop-ticket.last c.in-Some.ticket noted in
    let so_placed = before.5 in
    let left = before.6 in
    let no_more = before.7 in (
      subst (λ i. IsSweeping old i c.in-Some.ticket) (sym c.tell.ensures.none) on,
      omega (arith, spare, fewer, room, same),
      (λ first is. c.tell.ensures.told ∙ ap (λ ns. ns ++ filter_map notice_of mid.objects.dead) (before.2 first is) ∙ append_assoc first (told now.history) (filter_map notice_of mid.objects.dead)
          ∙ ap (λ ns. first ++ ns) (noted_tells now mid c.loop-ticket.last c.in-Some.ticket noted ∙ ap (λ (i : Inside). told i.history) (sym c.tell.ensures.none))),
      omega (arith, so_far, room, told_now),
      (λ stands. subst IsStanding (sym c.tell.ensures.none) (stands_told mid (c.note_next.ensures.stands (before.4 stands)))),
      ap (λ (i : Inside). length i.history + length i.flights.future.flights) c.tell.ensures.none ∙ places ∙ so_placed,
      omega (arith, left, fewer, room, same),
      omega (arith, no_more, fewer, same),
    )

pub returns-clause-swept : goal.returns-clause-swept
returns-clause-swept g c = sweeping_over c.args.self.now c.loop-ticket.self c.note_next.new.self c.loop-ticket.last c.loop-ticket.invariant.0 c.in_default.ensures.noted

pub returns-clause-short : goal.returns-clause-short
returns-clause-short g c =
    (sweeping_over c.args.self.now c.loop-ticket.self c.note_next.new.self c.loop-ticket.last c.loop-ticket.invariant.0 c.in_default.ensures.noted).flights.waits

pub returns-clause-places : goal.returns-clause-places
returns-clause-places g c =
    let nothing = c.in_default.ensures.noted in
    let before = c.loop-ticket.invariant in
    none_noted c.loop-ticket.self c.note_next.new.self c.loop-ticket.last nothing ∙ before.5

pub returns-clause-left : goal.returns-clause-left
returns-clause-left g c =
    let left = c.loop-ticket.invariant.6 in let same = none_to_tell c.loop-ticket.self c.note_next.new.self c.loop-ticket.last c.in_default.ensures.noted in omega (arith, left, same)

pub returns-clause-fewer : goal.returns-clause-fewer
returns-clause-fewer g c =
    let fewer = c.loop-ticket.invariant.7 in let same = none_to_tell c.loop-ticket.self c.note_next.new.self c.loop-ticket.last c.in_default.ensures.noted in omega (arith, fewer, same)

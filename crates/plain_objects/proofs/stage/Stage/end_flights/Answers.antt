use Rattle.std.proofs.Common.{◌≡◌, ◌≤◌, ◌∙◌, refl, sym, ap, arith}
use Rattle.std.specs.Map.{keys_of}
use Rattle.seq_model.proofs.Keys.{rises_up}
use Rattle.seq_model.specs.Steps.{end_flight, end_flights}
use Rattle.plain_objects.specs.Shown.{phase_of}
use Rattle.plain_objects.proofs.Ended.{all_below, changed_below, changed_in, none_below, one_more, rises, same_state}
use Rattle.plain_objects.proofs.stage.Stage.end_flights.Goals as goal

pub loop-h-init : goal.loop-h-init
loop-h-init c = record {
  changed = sym (none_below _ 1 1 c.next-next.result c.args.self.now.objects (omega arith) (rises 1 _ _ c.next-next.ensures.rising));
  stopped = refl;
  next = refl;
}

pub loop-h-preserved : goal.loop-h-preserved
loop-h-preserved c =
    let f = end_flight c.args.ticket (phase_of c.args.shows) in
    let step = one_more f 1 c.loop-h.h c.next-next.result c.args.self.now.objects (rises 1 _ _ c.next-next.ensures.rising) in
    record {
      changed = ap (λ s. s.objects) c.end_flight.ensures ∙ ap (changed_in f c.loop-h.h) c.loop-h.invariant.changed ∙ step;
      stopped = ap (λ s. s.stopped) c.end_flight.ensures ∙ c.loop-h.invariant.stopped;
      next = ap (λ s. s.next) c.end_flight.ensures ∙ c.loop-h.invariant.next;
    }

pub returns : goal.returns
unfolding end_flights
returns c =
    let f = end_flight c.args.ticket (phase_of c.args.shows) in
    let up = rises 1 _ _ c.next-next.ensures.rising in
    let least : 1 ≤ c.next-next.result = rises_up 1 c.next-next.result (keys_of c.args.self.now.objects) up in
    let end : c.loop-h.h ≡ c.next-next.result = omega (arith, least, c.next.view_is, c.loop-h.auto.h-end) in
    same_state _ _ (c.loop-h.invariant.changed ∙ ap (λ h. changed_below f h c.args.self.now.objects) end ∙ all_below f 1 c.next-next.result c.args.self.now.objects up)
    c.loop-h.invariant.stopped c.loop-h.invariant.next

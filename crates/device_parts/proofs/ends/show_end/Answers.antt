use Rattle.std.proofs.Common.{◌∙◌, sym, ap, subst}
use Rattle.handle_table.specs.HandleMaps.{RiseWithin}
use Rattle.object_store.specs.Kept.{Stored}
use Rattle.object_store.specs.Phases.{phase_of}
use Rattle.object_steps.specs.Objects.{with_state}
use Rattle.seq_model.specs.State.{State}
use Rattle.device_laws.specs.Showings.{is_flight, showing_at}
use Rattle.device_parts.proofs.EndFacts.{its_frame_ends, nothing_ends}
use Rattle.device_parts.proofs.ends.show_end.Goals as goal

pub returns-then-is_in_flight : goal.returns-then-is_in_flight
returns-then-is_in_flight c =
    let o = c.args.objects.now in
    let rising = subst (λ (s : Stored). RiseWithin 1 s.state.next s.state.objects) c.store.ensures c.counts_its_objects.ensures.rising in
    let flies = ap (λ (s : Stored). is_flight c.args.ticket (showing_at s.state c.args.frame).phase) (sym c.store-2.ensures) ∙ sym c.is_in_flight.ensures ∙ c.if-is_in_flight.true in
    let ends = its_frame_ends o.stored.state c.args.ticket c.args.frame (phase_of c.args.shows) rising c.requires.own flies in
    c.show.ensures ∙ ap (λ (t : State). with_state o t) (sym ends)

pub returns-else-is_in_flight : goal.returns-else-is_in_flight
returns-else-is_in_flight c =
    let o = c.args.objects.now in
    let rising = subst (λ (s : Stored). RiseWithin 1 s.state.next s.state.objects) c.store.ensures c.counts_its_objects.ensures.rising in
    let idle = ap (λ (s : Stored). is_flight c.args.ticket (showing_at s.state c.args.frame).phase) (sym c.store-2.ensures) ∙ sym c.is_in_flight.ensures ∙ c.if-is_in_flight.false in
    let ends = nothing_ends o.stored.state c.args.ticket c.args.frame (phase_of c.args.shows) rising c.requires.own idle in
    ap (λ (t : State). with_state o t) (sym ends)

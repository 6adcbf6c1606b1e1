use Rattle.std.proofs.Common.{◌≤◌, ◌∙◌, ◌+◌, length, refl, subst, sym}
use Rattle.std.proofs.lemmas.Result.{IfOk-weaker}
use Rattle.std.specs.Option.{IsSome}
use Rattle.object_steps.proofs.Applied.{entry_is_quiet}
use Rattle.seq_model.specs.Answers.{answer}
use Rattle.seq_model.specs.Contents.{entered}
use Rattle.seq_model.specs.Steps.{after}
use Rattle.seq_model.specs.declared.calls.Call.TheVariants.{FrameReady, MapFrame, RenderFrame}
use Rattle.device_parts.specs.Asks.{HasMappedOrStayed}
use Rattle.device_parts.specs.Calls.{HasEntered}
use Rattle.device_parts.specs.Makes.{begun_by, IsMoved, LendsChannel, frame_of}
use Rattle.device_parts.proofs.CountFacts.{flights_made, no_less, room_plain, room_rendered}
use Rattle.device_parts.proofs.MakeFacts.{answered_plain, array_left, entered_as, is_quiet, leaves_plain, lends_channel, lends_none, moved_plain, none_goes, told_of_flight}
use Rattle.device_parts.proofs.parts.Parts.make.Goals as goal

pub ready-requires-clause-awake : goal.ready-requires-clause-awake
ready-requires-clause-awake c =
    let past = after c.args.self.now.history in
    subst (λ k. IsSome (answer past k)) (entered_as past c.args.call (FrameReady c.in-FrameReady.h c.in-FrameReady.wait) c.in-FrameReady.is refl) c.requires.awake

pub returns-in-Ok-clause-entered : goal.returns-in-Ok-clause-entered
returns-in-Ok-clause-entered c =
    let past = after c.args.self.now.history in
    subst (λ k. HasEntered c.args.actor k c.in-Ok.reply c.args.self.now c.render_or_refuse.new.self)
    (sym (entered_as past c.args.call (RenderFrame c.in-RenderFrame.h) c.in-RenderFrame.is refl)) c.in-Ok.ensures.entered

pub returns-in-Ok-clause-answered : goal.returns-in-Ok-clause-answered
returns-in-Ok-clause-answered c =
    told_of_flight c.args.self.now.flights.future (after c.args.self.now.history) c.args.call (RenderFrame c.in-RenderFrame.h) c.in-Ok.reply
    c.in-RenderFrame.is refl c.in-Ok.ensures.answered

pub returns-in-Ok-clause-moved : goal.returns-in-Ok-clause-moved
returns-in-Ok-clause-moved c =
    let past = after c.args.self.now.history in
    subst (λ k. IsMoved k c.in-Ok.reply (frame_of c.args.with) c.args.self.now c.render_or_refuse.new.self)
    (sym (entered_as past c.args.call (RenderFrame c.in-RenderFrame.h) c.in-RenderFrame.is refl)) c.in-Ok.ensures.frames

pub returns-in-Ok-clause-array : goal.returns-in-Ok-clause-array
returns-in-Ok-clause-array c =
    array_left (after c.args.self.now.history) (length c.args.self.now.history + 1) c.args.call (RenderFrame c.in-RenderFrame.h) c.args.with c.in-Ok.reply
    c.args.self.now.objects.stored.state c.in-RenderFrame.is refl c.requires.hands

pub returns-in-Ok-ready-clause-entered : goal.returns-in-Ok-ready-clause-entered
returns-in-Ok-ready-clause-entered c =
    let past = after c.args.self.now.history in
    subst (λ k. HasEntered c.args.actor k c.in-Ok-ready.reply c.args.self.now c.ready.new.self)
    (sym (entered_as past c.args.call (FrameReady c.in-FrameReady.h c.in-FrameReady.wait) c.in-FrameReady.is refl)) c.in-Ok-ready.ensures.entered

pub returns-in-Ok-ready-clause-answered : goal.returns-in-Ok-ready-clause-answered
returns-in-Ok-ready-clause-answered c =
    told_of_flight c.args.self.now.flights.future (after c.args.self.now.history) c.args.call (FrameReady c.in-FrameReady.h c.in-FrameReady.wait)
    c.in-Ok-ready.reply c.in-FrameReady.is refl c.in-Ok-ready.ensures.answered

pub returns-in-Ok-ready-clause-moved : goal.returns-in-Ok-ready-clause-moved
returns-in-Ok-ready-clause-moved c =
    let past = after c.args.self.now.history in
    subst (λ k. IsMoved k c.in-Ok-ready.reply (frame_of c.args.with) c.args.self.now c.ready.new.self)
    (sym (entered_as past c.args.call (FrameReady c.in-FrameReady.h c.in-FrameReady.wait) c.in-FrameReady.is refl)) c.in-Ok-ready.ensures.frames

pub returns-in-Ok-ready-clause-array : goal.returns-in-Ok-ready-clause-array
returns-in-Ok-ready-clause-array c =
    array_left (after c.args.self.now.history) (length c.args.self.now.history + 1) c.args.call (FrameReady c.in-FrameReady.h c.in-FrameReady.wait)
    c.args.with c.in-Ok-ready.reply c.args.self.now.objects.stored.state c.in-FrameReady.is refl c.requires.hands

pub returns-in-Ok-map_or_refuse-clause-entered : goal.returns-in-Ok-map_or_refuse-clause-entered
returns-in-Ok-map_or_refuse-clause-entered c =
    let past = after c.args.self.now.history in
    subst (λ k. HasEntered c.args.actor k c.in-Ok-map_or_refuse.reply c.args.self.now c.map_or_refuse.new.self)
    (sym (entered_as past c.args.call (MapFrame c.in-MapFrame.h c.in-MapFrame.channel) c.in-MapFrame.is refl)) c.in-Ok-map_or_refuse.ensures.entered

pub returns-in-Ok-map_or_refuse-clause-answered : goal.returns-in-Ok-map_or_refuse-clause-answered
returns-in-Ok-map_or_refuse-clause-answered c =
    told_of_flight c.args.self.now.flights.future (after c.args.self.now.history) c.args.call (MapFrame c.in-MapFrame.h c.in-MapFrame.channel)
    c.in-Ok-map_or_refuse.reply c.in-MapFrame.is refl c.in-Ok-map_or_refuse.ensures.answered

pub returns-in-Ok-map_or_refuse-clause-moved : goal.returns-in-Ok-map_or_refuse-clause-moved
returns-in-Ok-map_or_refuse-clause-moved c =
    let past = after c.args.self.now.history in
    subst (λ k. IsMoved k c.in-Ok-map_or_refuse.reply (frame_of c.lent_out.result) c.args.self.now c.map_or_refuse.new.self)
    (sym (entered_as past c.args.call (MapFrame c.in-MapFrame.h c.in-MapFrame.channel) c.in-MapFrame.is refl))
    (subst (λ out. HasMappedOrStayed c.in-MapFrame.h c.in-MapFrame.channel out c.args.self.now c.map_or_refuse.new.self) (sym c.lent_out.ensures.frame)
    c.in-Ok-map_or_refuse.ensures.frames)

pub returns-in-Ok-map_or_refuse-clause-array : goal.returns-in-Ok-map_or_refuse-clause-array
returns-in-Ok-map_or_refuse-clause-array c =
    let call = MapFrame c.in-MapFrame.h c.in-MapFrame.channel in
    c.lent_out.ensures.array ∙ sym (none_goes c.args.call call c.args.with c.in-MapFrame.is refl c.requires.hands)
    ∙ array_left (after c.args.self.now.history) (length c.args.self.now.history + 1) c.args.call call c.args.with c.in-Ok-map_or_refuse.reply
    c.args.self.now.objects.stored.state c.in-MapFrame.is refl c.requires.hands

pub returns-in_default : goal.returns-in_default
returns-in_default c =
    let past = after c.args.self.now.history in
    let quiet = is_quiet c.args.call c.in_default.not-RenderFrame c.in_default.not-FrameReady c.in_default.not-MapFrame in
    let still = entry_is_quiet past c.args.call (entered past c.args.call) refl quiet in
    record {
      entered = c.make_plain.ensures.entered;
      answered = IfOk-weaker c.make_plain.result _ _ (λ r is. answered_plain c.args.self.now.flights.future past c.args.call r.0 quiet is) c.make_plain.ensures.answered;
      moved = IfOk-weaker c.make_plain.result _ _
          (λ r is. moved_plain (entered past c.args.call) r.0 (frame_of r.1) c.args.self.now c.make_plain.new.self still is) c.make_plain.ensures.moved;
      lends = IfOk-weaker c.make_plain.result _ _
          (λ r is. lends_none (length c.args.self.now.history + 1) (entered past c.args.call) r.0 (frame_of r.1) still) c.make_plain.ensures.moved;
      flights = IfOk-weaker c.make_plain.result _ _
          (λ r is. flights_made past c.args.call r.0 (frame_of r.1) c.args.self.now c.make_plain.new.self
          (moved_plain (entered past c.args.call) r.0 (frame_of r.1) c.args.self.now c.make_plain.new.self still is)) c.make_plain.ensures.moved;
      room = IfOk-weaker c.make_plain.result (λ r. HasEntered c.args.actor (entered past c.args.call) r.0 c.args.self.now c.make_plain.new.self) _
          (λ r is. room_plain c.args.call r.0 c.args.self.now.room c.make_plain.new.self.room quiet is.room) c.make_plain.ensures.entered;
      stands = c.make_plain.ensures.stands;
      home = c.make_plain.ensures.home;
      array = c.make_plain.ensures.array;
      frame = IfOk-weaker c.make_plain.result _ _ (λ r is. leaves_plain c.args.call r.0 (frame_of c.args.with) (frame_of r.1) quiet is) c.make_plain.ensures.frame;
      returned = c.make_plain.ensures.returned;
      err = c.make_plain.ensures.err;
      no_memory = c.make_plain.ensures.no_memory;
    }

pub returns-in-Ok-clause-flights : goal.returns-in-Ok-clause-flights
returns-in-Ok-clause-flights c =
    flights_made (after c.args.self.now.history) c.args.call c.in-Ok.reply (frame_of c.args.with) c.args.self.now c.render_or_refuse.new.self
    (returns-in-Ok-clause-moved c)

pub returns-in-Ok-clause-room : goal.returns-in-Ok-clause-room
returns-in-Ok-clause-room c =
    subst (λ k. c.args.self.now.room + begun_by k c.in-Ok.reply ≤ c.render_or_refuse.new.self.room) (sym c.in-RenderFrame.is)
    (room_rendered c.in-RenderFrame.h c.in-Ok.reply c.args.self.now.room c.render_or_refuse.new.self.room c.in-Ok.ensures.entered.room
    c.in-Ok.ensures.note_place)

pub returns-in-Ok-ready-clause-flights : goal.returns-in-Ok-ready-clause-flights
returns-in-Ok-ready-clause-flights c =
    flights_made (after c.args.self.now.history) c.args.call c.in-Ok-ready.reply (frame_of c.args.with) c.args.self.now c.ready.new.self
    (returns-in-Ok-ready-clause-moved c)

pub returns-in-Ok-ready-clause-room : goal.returns-in-Ok-ready-clause-room
returns-in-Ok-ready-clause-room c =
    subst (λ k. c.args.self.now.room + begun_by k c.in-Ok-ready.reply ≤ c.ready.new.self.room) (sym c.in-FrameReady.is)
    (no_less c.args.self.now.room c.ready.new.self.room c.in-Ok-ready.ensures.entered.room)

pub returns-in-Ok-map_or_refuse-clause-flights : goal.returns-in-Ok-map_or_refuse-clause-flights
returns-in-Ok-map_or_refuse-clause-flights c =
    flights_made (after c.args.self.now.history) c.args.call c.in-Ok-map_or_refuse.reply (frame_of c.lent_out.result) c.args.self.now c.map_or_refuse.new.self
    (returns-in-Ok-map_or_refuse-clause-moved c)

pub returns-in-Ok-map_or_refuse-clause-room : goal.returns-in-Ok-map_or_refuse-clause-room
returns-in-Ok-map_or_refuse-clause-room c =
    subst (λ k. c.args.self.now.room + begun_by k c.in-Ok-map_or_refuse.reply ≤ c.map_or_refuse.new.self.room) (sym c.in-MapFrame.is)
    (no_less c.args.self.now.room c.map_or_refuse.new.self.room c.in-Ok-map_or_refuse.ensures.entered.room)

pub returns-in-Ok-clause-lends : goal.returns-in-Ok-clause-lends
returns-in-Ok-clause-lends c =
    let past = after c.args.self.now.history in
    subst (λ k. LendsChannel (length c.args.self.now.history + 1) k c.in-Ok.reply (frame_of c.args.with))
    (sym (entered_as past c.args.call (RenderFrame c.in-RenderFrame.h) c.in-RenderFrame.is refl)) tt

pub returns-in-Ok-ready-clause-lends : goal.returns-in-Ok-ready-clause-lends
returns-in-Ok-ready-clause-lends c =
    let past = after c.args.self.now.history in
    subst (λ k. LendsChannel (length c.args.self.now.history + 1) k c.in-Ok-ready.reply (frame_of c.args.with))
    (sym (entered_as past c.args.call (FrameReady c.in-FrameReady.h c.in-FrameReady.wait) c.in-FrameReady.is refl)) tt

pub returns-in-Ok-map_or_refuse-clause-lends : goal.returns-in-Ok-map_or_refuse-clause-lends
returns-in-Ok-map_or_refuse-clause-lends c =
    let past = after c.args.self.now.history in
    let call = MapFrame c.in-MapFrame.h c.in-MapFrame.channel in
    subst (λ k. LendsChannel (length c.args.self.now.history + 1) k c.in-Ok-map_or_refuse.reply (frame_of c.lent_out.result))
    (sym (entered_as past c.args.call call c.in-MapFrame.is refl))
    (subst (λ out. LendsChannel (length c.args.self.now.history + 1) call c.in-Ok-map_or_refuse.reply out) (sym c.lent_out.ensures.frame)
    (lends_channel c.in-MapFrame.h c.in-MapFrame.channel c.in-Ok-map_or_refuse.loan c.in-Ok-map_or_refuse.reply c.args.self.now c.map_or_refuse.new.self
    c.in-Ok-map_or_refuse.ensures.frames c.in-Ok-map_or_refuse.ensures.loan))

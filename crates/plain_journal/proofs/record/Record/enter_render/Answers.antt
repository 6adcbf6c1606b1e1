use Rattle.std.proofs.Common.{◌≡◌, ◌∙◌, ◌++◌, ◌≤◌, ◌<◌, ◌+◌, ◌-◌, ◌^◌, ap, arith, length, refl, rules, subst, vec_capacity}
use Rattle.std.specs.List.{filter_map}
use Rattle.seq_model.specs.Steps.{effect, step}
use Rattle.seq_model.specs.Told.{end_of_object, gone, told_by}
use Rattle.seq_model.specs.declared.calls.Call.TheVariants.{RenderFrame}
use Rattle.seq_model.specs.declared.calls.Reply.TheVariants as reply
use Rattle.plain_journal.proofs.StepFacts.{call_fits, call_told, render_is_granted, render_stepped, show_is_effect}
use Rattle.past_laws.specs.Open.{IsOpen}
use Rattle.plain_journal.specs.Ready.{IsReady}
use Rattle.plain_journal.specs.Whole.{IsStepped, past_in}
use Rattle.past_laws.specs.Worlds.{render_of}
use Rattle.plain_journal.proofs.record.Record.enter_render.Given.{Over}
use Rattle.plain_journal.proofs.record.Record.enter_render.Goals as goal

pub prepared-requires : goal.prepared-requires
prepared-requires g c = render_is_granted c.args.self.now c.args.h c.requires.answered

pub sweep_by-requires-clause-room : goal.sweep_by-requires-clause-room
sweep_by-requires-clause-room g c =
    let seen : c.args.self.now.seen ≡ c.self.inside.books.journal.items = search rules in
    let few : length c.show.new.self.objects ≤ c.self.inside.stage.next =
    call_fits c.self.inside.stage c.self.inside.books c.args.actor (RenderFrame c.args.h) reply.Done c.self.invariant (subst IsOpen seen c.requires.open) (search rules) refl c.show.new.self
    (show_is_effect c.place-place.result (length c.self.inside.books.journal.items + 1) c.args.h c.self.inside.stage c.show.new.self (search rules) (search rules)) in
    let room : c.self.inside.stage.next + 1 ≤ g.C.Client.spare c.reserve_notices.new.client = search rules in
    omega (arith, few, room)

shown : (g : Over) (c : goal.After-sweep_by g) → c.show.new.self ≡ effect (length c.self.inside.books.journal.items + 1) (RenderFrame c.args.h) reply.Done c.self.inside.stage
shown g c = show_is_effect c.place-place.result (length c.self.inside.books.journal.items + 1) c.args.h c.self.inside.stage c.show.new.self (search rules) (search rules)

steps : (g : Over) (c : goal.After-sweep_by g) → IsStepped c.self.inside.stage c.self.inside.books (render_of c.args.actor c.args.h) c.sweep_by.new.stage c.sweep_by.new.books
steps g c =
    let seen : c.args.self.now.seen ≡ c.self.inside.books.journal.items = search rules in
    let short : length c.self.inside.books.journal.items < 2 ^ 64 - 1 = search rules in
    let space : length c.self.inside.books.journal.items + (c.self.inside.stage.next + length c.self.inside.stage.stopped + 3) ≤ vec_capacity c.reserve.new.self.journal = search rules in
    let ready : IsReady c.self.inside.stage c.args.h c.in_ok-prepared.prepared = record {
      reach = search rules;
      scene = search rules;
      within = search rules;
      channels = search rules;
      world = search rules;
    } in
    render_stepped c.self.inside.stage c.self.inside.books c.reserve.new.self c.enter_render.new.self c.sweep_by.new.books c.args.actor c.args.h c.in_ok-prepared.prepared
    c.show.new.self c.sweep_by.new.stage c.self.invariant (subst IsOpen seen c.requires.open) (search rules) ready c.reserve.ensures.same c.enter_render.ensures c.sweep_by.ensures.books
    short space (shown g c) c.sweep_by.ensures.stage

pub invariant_of-self-2 : goal.invariant_of-self-2
invariant_of-self-2 g c = (steps g c).whole

pub returns-clause-entered : goal.returns-clause-entered
returns-clause-entered g c = (steps g c).past ∙ ap (λ p. step p (render_of c.args.actor c.args.h)) (search rules)

pub returns-clause-told : goal.returns-clause-told
returns-clause-told g c =
    let all : filter_map end_of_object (gone c.show.new.self c.sweep_by.new.stage) ≡ told_by (past_in c.self.inside.stage c.self.inside.books) (render_of c.args.actor c.args.h) =
    call_told c.self.inside.stage c.show.new.self c.sweep_by.new.stage c.self.inside.books c.sweep_by.new.books c.args.actor (RenderFrame c.args.h) reply.Done (shown g c) (steps g c) in
    c.sweep_by.ensures.told
    ∙ ap (λ n. n ++ filter_map end_of_object (gone c.show.new.self c.sweep_by.new.stage)) c.reserve_notices.ensures.list
    ∙ ap (λ t. g.C.Client.notices c.args.client.now ++ t) (all ∙ ap (λ p. told_by p (render_of c.args.actor c.args.h)) (search rules))

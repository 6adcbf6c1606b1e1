use Rattle.std.proofs.Common.{◌∙◌, ◌++◌, ap, append_assoc, arith, length, length-append, subst, sym}
use Rattle.std.specs.List.{filter_map}
use Rattle.object_store.specs.Kept.{CountsItsObjects}
use Rattle.seq_model.specs.Told.{end_of_object, gone, status_at}
use Rattle.seq_model.specs.declared.calls.Entry.TheVariants.{Called}
use Rattle.object_steps.proofs.Tellables.{fewer_told}
use Rattle.object_steps.proofs.Rested.{ends_told, ranked, rests}
use Rattle.object_steps.proofs.objects.ObjectStore.end_call.Goals as goal

pub bury-requires-clause-ranked : goal.bury-requires-clause-ranked
bury-requires-clause-ranked g c =
    ranked (g.R.Records.history c.args.records.now) (Called 0 c.args.call.now c.args.reply.now) c.args.self.now.stored (c.requires.follows 0)

pub returns-clause-rests : goal.returns-clause-rests
returns-clause-rests g c = λ actor.
    rests (g.R.Records.history c.args.records.now) (Called actor c.args.call.now c.args.reply.now) c.args.self.now.stored (c.requires.follows actor) c.bury.new.self.stored
    (subst CountsItsObjects c.store.ensures c.counts_its_objects.ensures) (subst CountsItsObjects c.store-2.ensures c.counts_its_objects-2.ensures)
    c.bury.ensures.left c.bury.ensures.state

pub returns-clause-told : goal.returns-clause-told
returns-clause-told g c = λ actor.
    c.bury.ensures.told
    ∙ ap (λ n. n ++ filter_map end_of_object (gone c.args.self.now.stored.state c.bury.new.self.stored.state)) (c.tell_status.ensures.told actor)
    ∙ append_assoc (g.C.Client.notices c.args.client.now) (status_at (Called actor c.args.call.now c.args.reply.now)) (filter_map end_of_object (gone c.args.self.now.stored.state c.bury.new.self.stored.state))
    ∙ ap (λ t. g.C.Client.notices c.args.client.now ++ t)
    (sym (ends_told (g.R.Records.history c.args.records.now) (Called actor c.args.call.now c.args.reply.now) c.args.self.now.stored (c.requires.follows actor) c.bury.new.self.stored.state
    c.bury.ensures.state (λ same. cc)))

pub returns-clause-spare : goal.returns-clause-spare
returns-clause-spare g c =
    omega (arith, fewer_told c.args.self.now.stored c.bury.new.self.stored c.bury.ensures.left, c.bury.ensures.room, c.tell_status.ensures.used, c.requires.told)

pub returns-clause-room : goal.returns-clause-room
returns-clause-room g c =
    omega (
      arith,
      ap length c.bury.ensures.told,
      length-append (g.C.Client.notices c.tell_status.new.client) (filter_map end_of_object (gone c.args.self.now.stored.state c.bury.new.self.stored.state)),
      ap length (c.tell_status.ensures.told 0),
      length-append (g.C.Client.notices c.args.client.now) (status_at (Called 0 c.args.call.now c.args.reply.now)),
      c.bury.ensures.room,
      c.tell_status.ensures.used,
    )

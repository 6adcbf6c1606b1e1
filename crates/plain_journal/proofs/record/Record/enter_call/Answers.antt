use Rattle.std.proofs.Common.{◌≡◌, ◌∙◌, ◌++◌, ◌≤◌, ◌<◌, ◌+◌, ◌-◌, ◌^◌, ap, append_assoc, arith, length, rules, vec_capacity}
use Rattle.std.specs.List.{filter_map}
use Rattle.seq_model.specs.Steps.{step}
use Rattle.seq_model.specs.Told.{end_of_object, gone, status_at, told_by}
use Rattle.seq_model.specs.declared.calls.Entry.TheVariants.{Called}
use Rattle.past_laws.proofs.Answered.{suits}
use Rattle.plain_journal.proofs.StepFacts.{call_countable, call_fits, call_marks, call_stepped, call_told}
use Rattle.plain_journal.specs.Whole.{IsStepped, past_in}
use Rattle.plain_journal.proofs.record.Record.enter_call.Given.{Over}
use Rattle.plain_journal.proofs.record.Record.enter_call.Goals as goal

pub change-requires : goal.change-requires
change-requires g c = suits (past_in c.self.inside.stage c.self.inside.books) c.args.call c.args.reply c.self.invariant.kept.led (search rules)

pub enter_call-requires-clause-countable : goal.enter_call-requires-clause-countable
enter_call-requires-clause-countable g c =
    let short : length c.self.inside.books.journal.items < 2 ^ 64 - 1 = search rules in
    call_countable c.self.inside.stage c.self.inside.books c.args.actor c.args.call c.args.reply c.self.invariant (search rules) (search rules) (search rules)
    c.reserve.new.self c.reserve.ensures.same (search rules) short

pub sweep_by-requires-clause-marks : goal.sweep_by-requires-clause-marks
sweep_by-requires-clause-marks g c =
    call_marks c.self.inside.stage c.self.inside.books c.args.actor c.args.call c.args.reply c.self.invariant (search rules) (search rules) (search rules)
    c.reserve.new.self c.enter_call.new.self c.change.new.self c.reserve.ensures.same c.enter_call.ensures (search rules)

pub sweep_by-requires-clause-room : goal.sweep_by-requires-clause-room
sweep_by-requires-clause-room g c =
    let few : length c.change.new.self.objects ≤ c.self.inside.stage.next =
    call_fits c.self.inside.stage c.self.inside.books c.args.actor c.args.call c.args.reply c.self.invariant (search rules) (search rules) (search rules) c.change.new.self (search rules) in
    let room : c.self.inside.stage.next + 1 ≤ g.C.Client.spare c.reserve_notices.new.client = search rules in
    omega (arith, few, room, c.tell_status.ensures.room)

steps : (g : Over) (c : goal.After-sweep_by g) →
    IsStepped c.self.inside.stage c.self.inside.books (Called c.args.actor c.args.call c.args.reply) c.sweep_by.new.stage c.sweep_by.new.books
steps g c =
    let short : length c.self.inside.books.journal.items < 2 ^ 64 - 1 = search rules in
    let space : length c.self.inside.books.journal.items + (c.self.inside.stage.next + length c.self.inside.stage.stopped + 3) ≤ vec_capacity c.reserve.new.self.journal = search rules in
    call_stepped c.self.inside.stage c.self.inside.books c.reserve.new.self c.enter_call.new.self c.sweep_by.new.books c.args.actor c.args.call c.args.reply
    c.change.new.self c.sweep_by.new.stage c.self.invariant (search rules) (search rules) (search rules) c.requires.plain c.reserve.ensures.same c.enter_call.ensures c.sweep_by.ensures.books
    short space (search rules) c.sweep_by.ensures.stage

pub invariant_of-self-2 : goal.invariant_of-self-2
invariant_of-self-2 g c = (steps g c).whole

pub returns-clause-entered : goal.returns-clause-entered
returns-clause-entered g c = (steps g c).past ∙ ap (λ p. step p (Called c.args.actor c.args.call c.args.reply)) (search rules)

pub returns-clause-told : goal.returns-clause-told
returns-clause-told g c =
    let listed : g.C.Client.notices c.tell_status.new.client ≡ g.C.Client.notices c.args.client.now ++ status_at (Called c.args.actor c.args.call c.args.reply) =
    c.tell_status.ensures.told c.args.actor ∙ ap (λ n. n ++ status_at (Called c.args.actor c.args.call c.args.reply)) c.reserve_notices.ensures.list in
    let all : status_at (Called c.args.actor c.args.call c.args.reply) ++ filter_map end_of_object (gone c.change.new.self c.sweep_by.new.stage) ≡ told_by (past_in c.self.inside.stage c.self.inside.books) (Called c.args.actor c.args.call c.args.reply) =
    call_told c.self.inside.stage c.change.new.self c.sweep_by.new.stage c.self.inside.books c.sweep_by.new.books c.args.actor c.args.call c.args.reply (search rules) (steps g c) in
    c.sweep_by.ensures.told
    ∙ ap (λ n. n ++ filter_map end_of_object (gone c.change.new.self c.sweep_by.new.stage)) listed
    ∙ append_assoc (g.C.Client.notices c.args.client.now) _ _
    ∙ ap (λ t. g.C.Client.notices c.args.client.now ++ t) (all ∙ ap (λ p. told_by p (Called c.args.actor c.args.call c.args.reply)) (search rules))

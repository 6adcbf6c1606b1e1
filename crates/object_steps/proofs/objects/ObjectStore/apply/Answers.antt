use Rattle.std.proofs.Common.{◌≡◌, ◌≤◌, ◌+◌, ◌∙◌, false, true, ap, arith, length, rules, subst, sym}
use Rattle.std.specs.Prelude.{IsOk}
use Rattle.call_answers.specs.Plain.{needs_no_memory}
use Rattle.object_store.specs.Kept.{CountsItsObjects, Stored}
use Rattle.seq_model.specs.Answers.{answer}
use Rattle.seq_model.specs.Contents.{entered}
use Rattle.seq_model.specs.Steps.{Past, after}
use Rattle.seq_model.specs.Told.{status_at}
use Rattle.seq_model.specs.declared.calls.Call.{Call}
use Rattle.seq_model.specs.declared.calls.Call.TheVariants.{UnmapArray, UnmapParameterArray}
use Rattle.seq_model.specs.declared.calls.Entry.TheVariants.{Called}
use Rattle.object_steps.specs.Applying.{with_call}
use Rattle.object_steps.specs.Carrying.{carried}
use Rattle.object_steps.specs.Objects.{Objects, tellable}
use Rattle.object_steps.specs.Resting.{Follows, IsAtRest}
use Rattle.object_steps.proofs.Applied.{can_be_carried, entry_of_objects, few_told, leads_on, loan_comes_back, tells_of_none, rests_with_room, shows_no_picture, stays_open, stepped, waits_for_none}
use Rattle.object_steps.proofs.objects.ObjectStore.apply.Goals as goal

-- a call that needs no memory is entered as it was made
needs_none : (past : Past) (call : Call) → needs_no_memory call ≡ true → needs_no_memory (entered past call) ≡ true
unfolding entered
needs_none past (UnmapArray h number bytes) is = absurd cc
needs_none past (UnmapParameterArray h name number bytes) is = absurd cc
needs_none past call is = is

pub carry_out-requires-clause-can : goal.carry_out-requires-clause-can
carry_out-requires-clause-can g c =
    can_be_carried c.prepare.new.self.stored (g.R.Records.history c.args.records.now) (rests_with_room c.args.self.now c.prepare.new.self (g.R.Records.history c.args.records.now) c.requires.rests c.prepare.ensures.same) c.requires.may_follow c.args.call c.entry_of-entry.result.now c.in-Ok-decide.decided.reply
    (tells_of_none c.args.call c.requires.object_call) (c.entry_of-entry.ensures ∙ c.in-Ok-decide.ensures.entered)
    (ap (answer (after (g.R.Records.history c.args.records.now))) c.entry_of-entry.ensures ∙ c.in-Ok-decide.ensures.answered)
    (entry_of_objects (after (g.R.Records.history c.args.records.now)) c.args.call c.entry_of-entry.result.now c.in-Ok-decide.decided.reply (c.entry_of-entry.ensures ∙ c.in-Ok-decide.ensures.entered) c.requires.object_call) c.requires.short c.in-Ok.ensures.ready

pub carry_out-requires-clause-brings : goal.carry_out-requires-clause-brings
carry_out-requires-clause-brings g c =
    loan_comes_back c.prepare.new.self.stored (g.R.Records.history c.args.records.now) (rests_with_room c.args.self.now c.prepare.new.self (g.R.Records.history c.args.records.now) c.requires.rests c.prepare.ensures.same) c.requires.may_follow c.args.call c.entry_of-entry.result.now c.in-Ok-decide.decided.reply
    (tells_of_none c.args.call c.requires.object_call) (c.entry_of-entry.ensures ∙ c.in-Ok-decide.ensures.entered)
    (ap (answer (after (g.R.Records.history c.args.records.now))) c.entry_of-entry.ensures ∙ c.in-Ok-decide.ensures.answered) c.args.with c.requires.brings

pub end_call-requires-clause-follows : goal.end_call-requires-clause-follows
end_call-requires-clause-follows g c = λ actor.
    let stands : c.carry_out.new.self.stored ≡ carried (length (g.R.Records.history c.args.records.now) + 1) c.entry_of-entry.result.now c.in-Ok-decide.decided.reply c.prepare.new.self.stored =
    ap (λ (o : Objects). o.stored) c.in-Ok-carry_out.ensures.ok ∙ ap (λ n. carried n c.entry_of-entry.result.now c.in-Ok-decide.decided.reply c.prepare.new.self.stored) c.place-place.ensures in
    subst (λ (s : Stored). Follows s (g.R.Records.history c.args.records.now) (Called actor c.entry_of-entry.result.now c.in-Ok-decide.decided.reply)) (sym stands)
    (leads_on c.prepare.new.self.stored (g.R.Records.history c.args.records.now) (rests_with_room c.args.self.now c.prepare.new.self (g.R.Records.history c.args.records.now) c.requires.rests c.prepare.ensures.same) c.requires.may_follow c.args.call c.entry_of-entry.result.now c.in-Ok-decide.decided.reply
    (tells_of_none c.args.call c.requires.object_call) (c.entry_of-entry.ensures ∙ c.in-Ok-decide.ensures.entered)
    (ap (answer (after (g.R.Records.history c.args.records.now))) c.entry_of-entry.ensures ∙ c.in-Ok-decide.ensures.answered)
    (entry_of_objects (after (g.R.Records.history c.args.records.now)) c.args.call c.entry_of-entry.result.now c.in-Ok-decide.decided.reply (c.entry_of-entry.ensures ∙ c.in-Ok-decide.ensures.entered) c.requires.object_call) (subst CountsItsObjects c.store-2.ensures c.counts_its_objects.ensures) c.requires.short c.in-Ok.ensures.ready actor)

pub end_call-requires-clause-told : goal.end_call-requires-clause-told
end_call-requires-clause-told g c =
    let few : length (status_at (Called 0 c.entry_of-entry.result.now c.in-Ok-decide.decided.reply))
    + tellable (carried c.place-place.result c.entry_of-entry.result.now c.in-Ok-decide.decided.reply c.prepare.new.self.stored).state ≤ tellable c.prepare.new.self.stored.state + 1 =
    few_told c.place-place.result c.entry_of-entry.result.now c.in-Ok-decide.decided.reply c.prepare.new.self.stored
    (can_be_carried c.prepare.new.self.stored (g.R.Records.history c.args.records.now) (rests_with_room c.args.self.now c.prepare.new.self (g.R.Records.history c.args.records.now) c.requires.rests c.prepare.ensures.same) c.requires.may_follow c.args.call c.entry_of-entry.result.now c.in-Ok-decide.decided.reply
    (tells_of_none c.args.call c.requires.object_call) (c.entry_of-entry.ensures ∙ c.in-Ok-decide.ensures.entered)
    (ap (answer (after (g.R.Records.history c.args.records.now))) c.entry_of-entry.ensures ∙ c.in-Ok-decide.ensures.answered)
    (entry_of_objects (after (g.R.Records.history c.args.records.now)) c.args.call c.entry_of-entry.result.now c.in-Ok-decide.decided.reply (c.entry_of-entry.ensures ∙ c.in-Ok-decide.ensures.entered) c.requires.object_call) c.requires.short c.in-Ok.ensures.ready) in
    omega (arith, few, ap (λ (o : Objects). tellable o.stored.state) c.in-Ok-carry_out.ensures.ok, ap (λ (o : Objects). tellable o.stored.state) c.prepare.ensures.same, c.in-Ok.ensures.room)

pub decide-requires-clause-pictureless : goal.decide-requires-clause-pictureless
decide-requires-clause-pictureless g c = shows_no_picture c.args.call (tells_of_none c.args.call c.requires.object_call)

pub decide-requires-clause-waits_for_none : goal.decide-requires-clause-waits_for_none
decide-requires-clause-waits_for_none g c = waits_for_none (after (g.R.Records.history c.args.records.now)) c.args.call (tells_of_none c.args.call c.requires.object_call)

pub returns-clause-step : goal.returns-clause-step
returns-clause-step g c = λ actor.
    let rest : IsAtRest c.end_call.new.self.stored (with_call (g.R.Records.history c.args.records.now) actor c.unwrap_or.result c.in-Ok-decide.decided.reply) =
    subst (λ entry. IsAtRest c.end_call.new.self.stored (with_call (g.R.Records.history c.args.records.now) actor entry c.in-Ok-decide.decided.reply)) (search rules) (c.end_call.ensures.rests actor) in
    stepped c.end_call.new.self.stored (g.R.Records.history c.args.records.now) actor c.unwrap_or.result c.in-Ok-decide.decided.reply rest

pub returns-clause-may_follow : goal.returns-clause-may_follow
returns-clause-may_follow g c = λ actor.
    stays_open (g.R.Records.history c.args.records.now) actor c.unwrap_or.result c.in-Ok-decide.decided.reply c.requires.may_follow

pub returns-in-Err-clause-no_memory : goal.returns-in-Err-clause-no_memory
returns-in-Err-clause-no_memory g c = λ needs few room.
    let entry : needs_no_memory c.entry_of-entry.result.now ≡ true =
    ap needs_no_memory (c.entry_of-entry.ensures ∙ c.in-Ok-decide.ensures.entered) ∙ needs_none (after (g.R.Records.history c.args.records.now)) c.args.call needs in
    let wrong : false ≡ true = subst IsOk c.in-Err.is (c.carry_out.ensures.no_memory entry) in absurd cc

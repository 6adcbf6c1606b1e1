use Rattle.std.proofs.Common.{◌≡◌, None, rules, subst, sym}
use Rattle.call_answers.specs.Plain.{ShowsNoPicture}
use Rattle.past_laws.proofs.Answering.{answered_now}
use Rattle.seq_model.specs.Contents.{entered}
use Rattle.seq_model.specs.Endings.{waited_flight}
use Rattle.seq_model.specs.Steps.{Past}
use Rattle.seq_model.specs.declared.calls.Call.{Call}
use Rattle.seq_model.specs.declared.calls.Call.TheVariants.{UnmapArray, UnmapParameterArray}
use Rattle.object_steps.specs.Resting.{past_of}
use Rattle.object_steps.proofs.deciding.decide.Goals as goal

-- a call that is entered shows what it showed, and waits for what it waited for
stays_pictureless : (past : Past) (call : Call) → ShowsNoPicture call → ShowsNoPicture (entered past call)
unfolding entered
stays_pictureless past (UnmapArray h number bytes) shows = tt
stays_pictureless past (UnmapParameterArray h name number bytes) shows = tt
stays_pictureless past _ shows = shows

stays_awake : (past : Past) (call : Call) → waited_flight past call ≡ None → waited_flight past (entered past call) ≡ None
unfolding entered
stays_awake past (UnmapArray h number bytes) none = none
stays_awake past (UnmapParameterArray h name number bytes) none = none
stays_awake past _ none = none

pub answer-requires-clause-pictureless : goal.answer-requires-clause-pictureless
answer-requires-clause-pictureless g c =
    let is : c.entry_of.result.now ≡ entered (past_of c.new-device.result) c.args.call.now = search rules in
    subst ShowsNoPicture (sym is) (stays_pictureless (past_of c.new-device.result) c.args.call.now c.requires.pictureless)

pub answer-requires-clause-answered : goal.answer-requires-clause-answered
answer-requires-clause-answered g c =
    let is : c.entry_of.result.now ≡ entered (past_of c.new-device.result) c.args.call.now = search rules in
    answered_now (past_of c.new-device.result) c.entry_of.result.now
    (subst (λ call. waited_flight (past_of c.new-device.result) call ≡ None) (sym is) (stays_awake (past_of c.new-device.result) c.args.call.now (search rules)))

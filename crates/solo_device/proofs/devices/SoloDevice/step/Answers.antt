use Rattle.std.proofs.Common.{◌≡◌, IfOk, None, OnErr, OnOk, ap, subst, sym}
use Rattle.std.specs.Prelude.{IfErr, if◌then◌else◌}
use Rattle.std.proofs.lemmas.Result.{IfErr-weaker, IfOk-weaker}
use Rattle.dev_types.specs.declared.refusals.Refused.TheVariants.{JournalFull, NoMemory}
use Rattle.object_steps.specs.Carrying.{handed}
use Rattle.seq_model.specs.Contents.{entered}
use Rattle.seq_model.specs.Endings.{reply_to}
use Rattle.seq_model.specs.Room.{is_full}
use Rattle.seq_model.specs.Steps.{after, next_place}
use Rattle.device_parts.specs.Makes.{array_of}
use Rattle.solo_device.specs.Lone.{HeardOn, Lone, lone_of}
use Rattle.solo_device.specs.OneThread.{asked_flight, with_call}
use Rattle.solo_device.proofs.HearFacts.{hears}
use Rattle.solo_device.proofs.LandFacts.{waits_for_none}
use Rattle.solo_device.proofs.StepFacts.{declined_cause, declined_history, declined_limit, declined_told, declined_untouched, either_way, handed_out, reply_is, stepped_limit, stepped_past, stepped_told, stepped_untouched}
use Rattle.solo_device.proofs.devices.SoloDevice.step.Goals as goal

pub step-requires-clause-awake : goal.step-requires-clause-awake
step-requires-clause-awake g c =
    waits_for_none (after c.self.inside.device.parts.history) c.args.call (subst (λ (l : Lone). asked_flight l.past c.args.call ≡ None) (sym c.self.view_is) c.requires.landed)

pub invariant_of-self : goal.invariant_of-self
invariant_of-self g c = record {
  untouched =
      either_way c.step.result _ _ c.step.ensures.stepped c.step.ensures.declined
      (λ r s. stepped_untouched c.args.actor c.args.call c.args.with r.0 r.1 c.self.inside.device c.step.new.self s c.is_device.ensures.parts (c.is_device.ensures.state.stands c.self.invariant.going) c.self.invariant.untouched)
      (λ e d. declined_untouched c.args.call e.0 c.self.inside.device c.step.new.self d c.self.invariant.untouched);
  home = c.step.ensures.home;
  going = c.step.ensures.going;
}

pub returns-clause-past : goal.returns-clause-past
returns-clause-past g c =
    subst (λ (l : Lone). OnOk c.step.result (after c.step.new.self.parts.history ≡ with_call c.args.actor (entered l.past c.args.call) l.past)) c.self.view_is
    (IfOk-weaker c.step.result _ _
    (λ r s. stepped_past c.args.actor c.args.call c.args.with r.0 r.1 c.self.inside.device c.step.new.self s c.is_device.ensures.parts (c.is_device.ensures.state.stands c.self.invariant.going) c.self.invariant.untouched)
    c.step.ensures.stepped)

pub returns-clause-reply : goal.returns-clause-reply
returns-clause-reply g c =
    subst (λ (l : Lone). IfOk c.step.result (λ r. r.0 ≡ reply_to l.past (entered l.past c.args.call))) c.self.view_is
    (IfOk-weaker c.step.result _ _
    (λ r s. reply_is c.args.actor c.args.call c.args.with r.0 r.1 c.self.inside.device c.step.new.self s c.is_device.ensures.parts (c.is_device.ensures.state.stands c.self.invariant.going) c.self.invariant.untouched)
    c.step.ensures.stepped)

pub returns-clause-array : goal.returns-clause-array
returns-clause-array g c =
    subst (λ (l : Lone). IfOk c.step.result (λ r. array_of r.1 ≡ handed (next_place l.past) (entered l.past c.args.call) r.0 l.past.state (array_of c.args.with))) c.self.view_is
    (IfOk-weaker c.step.result _ _
    (λ r s. handed_out c.args.actor c.args.call c.args.with r.0 r.1 c.self.inside.device c.step.new.self s c.is_device.ensures.parts (c.is_device.ensures.state.stands c.self.invariant.going) c.self.invariant.untouched)
    c.step.ensures.stepped)

pub returns-clause-told : goal.returns-clause-told
returns-clause-told g c =
    subst (λ (l : Lone). HeardOn l (lone_of c.step.new.self)) c.self.view_is
    (hears c.self.inside.device c.step.new.self
    (either_way c.step.result _ _ c.step.ensures.stepped c.step.ensures.declined
    (λ r s. stepped_told c.args.actor c.args.call c.args.with r.0 r.1 c.self.inside.device c.step.new.self s c.is_device.ensures.parts (c.is_device.ensures.state.stands c.self.invariant.going) c.self.invariant.untouched)
    (λ e d. declined_told c.args.call e.0 c.self.inside.device c.step.new.self d c.self.invariant.untouched)))

pub returns-clause-limit : goal.returns-clause-limit
returns-clause-limit g c =
    subst (λ (l : Lone). c.step.new.self.limit ≡ l.limit) c.self.view_is
    (either_way c.step.result _ _ c.step.ensures.stepped c.step.ensures.declined
    (λ r s. stepped_limit c.args.actor c.args.call c.args.with r.0 r.1 c.self.inside.device c.step.new.self s c.is_device.ensures.parts (c.is_device.ensures.state.stands c.self.invariant.going) c.self.invariant.untouched)
    (λ e d. declined_limit c.args.call e.0 c.self.inside.device c.step.new.self d c.self.invariant.untouched))

pub returns-clause-cause : goal.returns-clause-cause
returns-clause-cause g c =
    subst (λ (l : Lone). IfErr c.step.result (λ e. e.0 ≡ (if is_full l.limit l.past c.args.call then JournalFull l.limit else NoMemory))) c.self.view_is
    (IfErr-weaker c.step.result _ _
    (λ e d. declined_cause c.args.call e.0 c.self.inside.device c.step.new.self d c.self.invariant.untouched) c.step.ensures.declined)

pub returns-clause-unchanged : goal.returns-clause-unchanged
returns-clause-unchanged g c =
    subst (λ (l : Lone). OnErr c.step.result (after c.step.new.self.parts.history ≡ l.past)) c.self.view_is
    (IfErr-weaker c.step.result _ _
    (λ e d. ap after (declined_history c.args.call e.0 c.self.inside.device c.step.new.self d c.self.invariant.untouched)) c.step.ensures.declined)

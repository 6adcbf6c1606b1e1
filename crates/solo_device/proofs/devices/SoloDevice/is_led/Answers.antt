use Rattle.std.proofs.Common.{◌≡◌, ap, subst, sym}
use Rattle.seq_model.proofs.Afters.{seen_is_history}
use Rattle.seq_model.specs.Legal.{Legal}
use Rattle.seq_model.specs.Steps.{after}
use Rattle.solo_device.specs.Lone.{Lone}
use Rattle.solo_device.proofs.devices.SoloDevice.is_led.Goals as goal

pub returns-clause-led : goal.returns-clause-led
returns-clause-led g c =
    subst (λ (l : Lone). l.past ≡ after l.past.seen) c.self.view_is (ap after (sym (seen_is_history c.self.inside.device.parts.history)))

pub returns-clause-legal : goal.returns-clause-legal
returns-clause-legal g c =
    subst (λ (l : Lone). Legal l.past.seen) c.self.view_is
    (subst Legal (sym (seen_is_history c.self.inside.device.parts.history)) c.is_device.ensures.parts.rest.legal)

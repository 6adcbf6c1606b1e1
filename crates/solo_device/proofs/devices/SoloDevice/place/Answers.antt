use Rattle.std.proofs.Common.{◌∙◌, ◌+◌, length, ap, sym}
use Rattle.seq_model.proofs.Afters.{seen_is_history}
use Rattle.seq_model.specs.Histories.{History}
use Rattle.seq_model.specs.Steps.{next_place}
use Rattle.solo_device.specs.Lone.{Lone}
use Rattle.solo_device.proofs.devices.SoloDevice.place.Goals as goal

pub returns : goal.returns
returns g c =
    ap (λ n. n + 1) c.entries.ensures ∙ ap (λ (h : History). length h + 1) (sym (seen_is_history c.self.inside.device.parts.history))
    ∙ ap (λ (l : Lone). next_place l.past) c.self.view_is

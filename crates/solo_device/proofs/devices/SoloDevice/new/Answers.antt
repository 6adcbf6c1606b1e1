use Rattle.std.proofs.Common.{◌≡◌, ◌∙◌, [], ap, refl}
use Rattle.seq_model.specs.Steps.{after, start}
use Rattle.solo_device.proofs.devices.SoloDevice.new.Goals as goal

-- nothing happened yet
nothing : after [] ≡ start
unfolding after
nothing = refl

pub returns-in-Ok-clause-past : goal.returns-in-Ok-clause-past
returns-in-Ok-clause-past g c = ap after c.in-Ok.ensures.history ∙ nothing

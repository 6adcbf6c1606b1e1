use Rattle.std.proofs.Common.{◌∙◌, ap, subst, sym}
use Rattle.replay_core.proofs.ReplayFacts.{builds_first, legal_first, told_first}
use Rattle.seq_model.specs.Builds.{builds}
use Rattle.seq_model.specs.Legal.{Legal}
use Rattle.seq_model.specs.Told.{told}
use Rattle.replay_core.proofs.replays.without_device.Goals as goal

pub returns-clause-legal : goal.returns-clause-legal
returns-clause-legal c = subst Legal (sym (c.of.ensures ∙ c.new.ensures.items)) legal_first

pub returns-clause-told : goal.returns-clause-told
returns-clause-told c = c.requires ∙ sym (ap told (c.of.ensures ∙ c.new.ensures.items) ∙ told_first)

pub returns-clause-builds : goal.returns-clause-builds
returns-clause-builds c = sym (ap builds (c.of.ensures ∙ c.new.ensures.items) ∙ builds_first)

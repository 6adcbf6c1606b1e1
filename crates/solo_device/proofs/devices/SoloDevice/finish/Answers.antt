use Rattle.std.proofs.Common.{◌≡◌, ◌∙◌, ◌++◌, ap, subst, sym}
use Rattle.seq_model.proofs.Afters.{seen_is_history}
use Rattle.seq_model.specs.Endings.{ended}
use Rattle.seq_model.specs.Histories.{History}
use Rattle.seq_model.specs.Told.{told}
use Rattle.solo_device.specs.Lone.{Lone}
use Rattle.solo_device.proofs.FinishFacts.{ended_history, none_open}
use Rattle.solo_device.proofs.devices.SoloDevice.finish.Goals as goal

pub unreachable-requires : goal.unreachable-requires
unreachable-requires g c =
    none_open c.self.inside.device c.in-Err._open.0 c.in-Err.ensures.open_.0 c.is_device.ensures.parts c.is_device.ensures.kept c.self.invariant.untouched
    c.in-Err._open.1 c.in-Err._open.2 c.in-Err.ensures.open_.1

pub returns-clause-history : goal.returns-clause-history
returns-clause-history g c =
    c.in-Ok.ensures.closed.3
    ∙ ended_history c.self.inside.device c.in-Ok.ensures.closed.0 c.in-Ok.ensures.closed.1 c.is_device.ensures.parts c.is_device.ensures.kept c.self.invariant.untouched
    ∙ ap (λ (l : Lone). (ended l.past).seen) c.self.view_is

pub returns-clause-told : goal.returns-clause-told
returns-clause-told g c = λ before heard.
    c.in-Ok.ensures.told before
    (subst (λ (l : Lone). l.told ≡ before ++ told l.past.seen) (sym c.self.view_is) heard
    ∙ ap (λ (h : History). before ++ told h) (seen_is_history c.self.inside.device.parts.history))

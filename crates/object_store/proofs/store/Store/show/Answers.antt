use Rattle.std.proofs.Common.{◌≡◌, [], refl, subst}
use Rattle.seq_model.specs.State.{changed_at}
use Rattle.seq_model.specs.Steps.{set_phase}
use Rattle.object_store.specs.Kept.{Stored, stored}
use Rattle.object_store.specs.Parts.{show_in}
use Rattle.object_store.specs.Phases.{phase_of}
use Rattle.object_store.proofs.MoveFacts.{moves_none}
use Rattle.object_store.proofs.PartFacts.{part_there}
use Rattle.object_store.proofs.Reslotted.{parts_as_lent, stored_reslotted}
use Rattle.object_store.proofs.store.Store.show.Goals as goal

pub show_at-requires : goal.show_at-requires
show_at-requires c = part_there c.args.self.now c.self.inside.slots c.self.inside.arrays c.self.inside.counts c.self.inside.stopped c.args.h c.self.view_is c.requires

pub invariant_of-self : goal.invariant_of-self
invariant_of-self c = parts_as_lent c.self.inside.slots c.show_at.new.slots c.self.inside.arrays c.self.inside.counts c.self.inside.counts c.self.inside.bound c.self.invariant c.args.h (show_in (phase_of c.args.shows)) c.show_at.ensures refl refl refl (moves_none c.self.inside.counts)

pub returns : goal.returns
returns c =
    subst (λ (s : Stored). stored c.show_at.new.slots c.self.inside.arrays c.self.inside.counts c.self.inside.stopped ≡ record s { state = changed_at c.args.h (set_phase (phase_of c.args.shows)) s.state }) c.self.view_is
    (stored_reslotted c.self.inside.slots c.show_at.new.slots c.self.inside.arrays c.self.inside.counts c.self.inside.counts c.self.inside.bound c.self.invariant c.args.h (show_in (phase_of c.args.shows)) c.show_at.ensures refl [] [] (moves_none c.self.inside.counts) c.self.inside.stopped (set_phase (phase_of c.args.shows)) refl)

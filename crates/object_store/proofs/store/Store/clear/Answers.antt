use Rattle.std.proofs.Common.{◌∙◌, ◌≤◌, [], ap, sym, subst}
use Rattle.std.specs.List.{filter_map}
use Rattle.array_objects.specs.Stores.{Arrays}
use Rattle.object_store.specs.Ends.{Ends, ended, notice_of}
use Rattle.object_store.specs.Kept.{AreParts, Stored}
use Rattle.object_store.specs.Parts.{joined}
use Rattle.ref_counts.specs.CountMaps.{CountMap}
use Rattle.seq_model.specs.Told.{end_of_object}
use Rattle.object_store.proofs.Closings.{at_least_one}
use Rattle.object_store.proofs.DeadSteps.{told_of_ended}
use Rattle.object_store.proofs.Emptied.{no_parts}
use Rattle.object_store.proofs.store.Store.clear.Goals as goal

pub invariant_of-self : goal.invariant_of-self
invariant_of-self c =
    subst (λ (arrays : Arrays). AreParts c.empty_slots.new.slots arrays c.new-2.result c.self.inside.bound) (sym (c.replace-arrays.ensures.after ∙ c.new.ensures))
    (subst (λ (counts : CountMap). AreParts c.empty_slots.new.slots [] counts c.self.inside.bound) (sym c.new-2.ensures)
    (no_parts c.empty_slots.new.slots c.self.inside.bound c.empty_slots.ensures.none
    (subst (λ n. 1 ≤ n) (sym c.empty_slots.ensures.next) (at_least_one c.self.inside.slots c.self.invariant.rising)) c.self.invariant.small))

pub returns-clause-notices : goal.returns-clause-notices
returns-clause-notices c =
    ap (λ (d : Ends). filter_map notice_of d.list) c.end_all.ensures ∙ ap (λ (arrays : Arrays). filter_map notice_of (ended (joined arrays c.self.inside.slots.entries))) c.replace-arrays.ensures.value
    ∙ told_of_ended (joined c.self.inside.arrays c.self.inside.slots.entries) ∙ ap (λ (s : Stored). filter_map end_of_object s.state.objects) c.self.view_is

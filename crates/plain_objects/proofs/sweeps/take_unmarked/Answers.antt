use Rattle.std.proofs.Common.{◌≤◌, ◌++◌, ◌∙◌, ap, cond, refl, sym, arith}
use Rattle.std.specs.BTreeMap.{is_at}
use Rattle.std.specs.Map.{remove_entry}
use Rattle.std.specs.Ordering.{nat_cmp}
use Rattle.std.proofs.lemmas.List.{append-nil}
use Rattle.seq_model.specs.State.{State}
use Rattle.plain_objects.proofs.Ended.{rises, same_state}
use Rattle.plain_objects.proofs.Removals.{kept_first, kept_last, kept_next, told_next}
use Rattle.plain_objects.proofs.Turns.{from_first, from_last}
use Rattle.plain_objects.specs.Sweeping.{ends_of_unmarked, entry_at, is_marked}
use Rattle.plain_objects.proofs.sweeps.take_unmarked.Goals as goal

pub loop-h-init : goal.loop-h-init
loop-h-init g c =
    let es = c.args.stage.now.objects in
    let up = rises 1 c.next-next.result es c.next-next.ensures.rising in
    record {
      objects = sym (kept_first c.args.marks.now 1 1 c.next-next.result es (omega arith) up);
      stopped = refl;
      next = refl;
      told = ap (λ fs. g.C.Client.notices c.args.client.now ++ ends_of_unmarked c.args.marks.now fs) (from_first 1 1 c.next-next.result es (omega arith) up);
      room = c.requires;
    }

pub loop-h-preserved : goal.loop-h-preserved
loop-h-preserved g c =
    let es = c.args.stage.now.objects in
    let marks = c.args.marks.now in
    let h = c.loop-h.h in
    let up = rises 1 c.next-next.result es c.next-next.ensures.rising in
    record {
      objects =
          ap (λ (s : State). s.objects) c.take_unmarked_at.ensures.stage
          ∙ ap (λ fs. cond (is_marked marks h) fs (remove_entry (is_at (nat_cmp h)) fs)) c.loop-h.invariant.objects
          ∙ kept_next marks h c.next-next.result es up;
      stopped = ap (λ (s : State). s.stopped) c.take_unmarked_at.ensures.stage ∙ c.loop-h.invariant.stopped;
      next = ap (λ (s : State). s.next) c.take_unmarked_at.ensures.stage ∙ c.loop-h.invariant.next;
      told =
          told_next marks h c.next-next.result es (g.C.Client.notices c.loop-h.client) (g.C.Client.notices c.take_unmarked_at.new.client) up
          (c.take_unmarked_at.ensures.told ∙ ap (λ fs. g.C.Client.notices c.loop-h.client ++ ends_of_unmarked marks (entry_at h fs)) c.loop-h.invariant.objects)
          ∙ c.loop-h.invariant.told;
      room = c.take_unmarked_at.ensures.room;
    }

pub returns : goal.returns
returns g c =
    let es = c.args.stage.now.objects in
    let marks = c.args.marks.now in
    let up = rises 1 c.next-next.result es c.next-next.ensures.rising in
    let over : c.next-next.result ≤ c.loop-h.h = omega (arith, c.next.view_is) in
    record {
      stage = same_state _ _ (c.loop-h.invariant.objects ∙ kept_last marks 1 c.loop-h.h c.next-next.result es over up) c.loop-h.invariant.stopped c.loop-h.invariant.next;
      told =
          sym (append-nil (g.C.Client.notices c.loop-h.client))
          ∙ ap (λ fs. g.C.Client.notices c.loop-h.client ++ ends_of_unmarked marks fs) (sym (from_last 1 c.loop-h.h c.next-next.result es over up))
          ∙ c.loop-h.invariant.told;
      room = c.loop-h.invariant.room;
    }

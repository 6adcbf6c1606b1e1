use Rattle.std.proofs.Common.{◌≡◌, ◌∷◌, [], refl, subst, arith}
use Rattle.seq_model.specs.State.{changed_at}
use Rattle.seq_model.specs.Steps.{map_channel}
use Rattle.array_objects.specs.Stores.{array_at}
use Rattle.object_store.specs.Kept.{Stored, stored}
use Rattle.object_store.specs.Moves.{Moves}
use Rattle.object_store.specs.Parts.{map_in}
use Rattle.object_store.proofs.MoveFacts.{moves_named}
use Rattle.object_store.proofs.PartFacts.{part_there}
use Rattle.object_store.proofs.Reslotted.{channel_more, has_counts, parts_lent_more, stored_reslotted}
use Rattle.object_store.proofs.store.Store.map_channel.Goals as goal

pub map_channel_at-requires : goal.map_channel_at-requires
map_channel_at-requires c = part_there c.args.self.now c.self.inside.slots c.self.inside.arrays c.self.inside.counts c.self.inside.stopped c.args.h c.self.view_is c.requires

pub name-requires-clause-live : goal.name-requires-clause-live
name-requires-clause-live c = has_counts c.self.inside.slots c.map_channel_at.new.slots c.self.inside.arrays c.self.inside.counts c.self.inside.counts c.self.inside.bound c.self.invariant c.args.h (map_in c.args.channel c.args.number) c.in_ok-map_channel_at.ensures.ok

pub name-requires-clause-fits : goal.name-requires-clause-fits
name-requires-clause-fits c = omega (arith, c.self.invariant.bounded c.args.h, c.self.invariant.few c.args.h, c.if-self-ge-MOST_NAMES.false)

pub invariant_of-self-2 : goal.invariant_of-self-2
invariant_of-self-2 c =
    let r = c.in_ok-map_channel_at.ensures.ok in
    let moves : Moves c.self.inside.counts c.name.new.self (c.args.h ∷ []) [] =
    moves_named c.self.inside.counts c.name.new.self c.args.h c.name.ensures.changes (has_counts c.self.inside.slots c.map_channel_at.new.slots c.self.inside.arrays c.self.inside.counts c.self.inside.counts c.self.inside.bound c.self.invariant c.args.h (map_in c.args.channel c.args.number) r) in
    parts_lent_more c.self.inside.slots c.map_channel_at.new.slots c.self.inside.arrays c.self.inside.counts c.name.new.self c.self.inside.bound c.self.invariant c.args.h (map_in c.args.channel c.args.number) r refl refl
    (channel_more c.args.channel c.args.number r.part (array_at c.self.inside.arrays c.args.h)) moves (omega (arith, c.if-self-ge-MOST_NAMES.false))

pub returns-clause-ok : goal.returns-clause-ok
returns-clause-ok c =
    let r = c.in_ok-map_channel_at.ensures.ok in
    let moves : Moves c.self.inside.counts c.name.new.self (c.args.h ∷ []) [] =
    moves_named c.self.inside.counts c.name.new.self c.args.h c.name.ensures.changes (has_counts c.self.inside.slots c.map_channel_at.new.slots c.self.inside.arrays c.self.inside.counts c.self.inside.counts c.self.inside.bound c.self.invariant c.args.h (map_in c.args.channel c.args.number) r) in
    subst (λ (s : Stored). stored c.map_channel_at.new.slots c.self.inside.arrays c.name.new.self c.self.inside.stopped ≡ record s { state = changed_at c.args.h (map_channel c.args.channel c.args.number) s.state }) c.self.view_is
    (stored_reslotted c.self.inside.slots c.map_channel_at.new.slots c.self.inside.arrays c.self.inside.counts c.name.new.self c.self.inside.bound c.self.invariant c.args.h (map_in c.args.channel c.args.number) r refl (c.args.h ∷ []) [] moves c.self.inside.stopped (map_channel c.args.channel c.args.number) refl)

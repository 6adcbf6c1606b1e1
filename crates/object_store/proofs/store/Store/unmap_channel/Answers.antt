use Rattle.std.proofs.Common.{◌+◌, ◌≡◌, [], length, refl, subst, arith}
use Rattle.std.specs.Prelude.{replicate}
use Rattle.std.specs.Option.{IfSome}
use Rattle.seq_model.specs.Life.{loan_count}
use Rattle.seq_model.specs.State.{changed_at}
use Rattle.seq_model.specs.Steps.{unmap_channel}
use Rattle.array_objects.specs.Stores.{array_at}
use Rattle.object_store.specs.Kept.{Stored, stored}
use Rattle.object_store.specs.Parts.{Part, object_of, unmap_in}
use Rattle.object_store.proofs.PartFacts.{part_there}
use Rattle.object_store.proofs.Reslotted.{channels_less, lent_is_named, parts_lent_less, stored_reslotted}
use Rattle.object_store.proofs.store.Store.unmap_channel.Goals as goal

pub unmap_channel_at-ended-requires : goal.unmap_channel_at-ended-requires
unmap_channel_at-ended-requires c = part_there c.args.self.now c.self.inside.slots c.self.inside.arrays c.self.inside.counts c.self.inside.stopped c.args.h c.self.view_is c.requires

pub unname_times-requires : goal.unname_times-requires
unname_times-requires c =
    let r = c.unmap_channel_at-ended.ensures.changes in
    let less : c.unmap_channel_at-ended.result + loan_count (object_of (unmap_in c.args.number r.part) (array_at c.self.inside.arrays c.args.h)) ≡ loan_count (object_of r.part (array_at c.self.inside.arrays c.args.h)) =
    channels_less c.unmap_channel_at-ended.result c.args.number r.part (array_at c.self.inside.arrays c.args.h)
    (subst (λ x. IfSome x (λ (p : Part). c.unmap_channel_at-ended.result + length (unmap_in c.args.number p).channels ≡ length p.channels)) r.there c.unmap_channel_at-ended.ensures.count) in
    omega (arith, less, lent_is_named c.self.inside.slots c.unmap_channel_at-ended.new.slots c.self.inside.arrays c.self.inside.counts c.self.inside.counts c.self.inside.bound c.self.invariant c.args.h (unmap_in c.args.number) r)

pub invariant_of-self : goal.invariant_of-self
invariant_of-self c =
    let r = c.unmap_channel_at-ended.ensures.changes in
    parts_lent_less c.self.inside.slots c.unmap_channel_at-ended.new.slots c.self.inside.arrays c.self.inside.counts c.unname_times.new.counts c.self.inside.bound c.self.invariant c.args.h (unmap_in c.args.number) r refl refl c.unmap_channel_at-ended.result
    (channels_less c.unmap_channel_at-ended.result c.args.number r.part (array_at c.self.inside.arrays c.args.h)
    (subst (λ x. IfSome x (λ (p : Part). c.unmap_channel_at-ended.result + length (unmap_in c.args.number p).channels ≡ length p.channels)) r.there c.unmap_channel_at-ended.ensures.count)) c.unname_times.ensures

pub returns : goal.returns
returns c =
    subst (λ (s : Stored). stored c.unmap_channel_at-ended.new.slots c.self.inside.arrays c.unname_times.new.counts c.self.inside.stopped ≡ record s { state = changed_at c.args.h (unmap_channel c.args.number) s.state }) c.self.view_is
    (stored_reslotted c.self.inside.slots c.unmap_channel_at-ended.new.slots c.self.inside.arrays c.self.inside.counts c.unname_times.new.counts c.self.inside.bound c.self.invariant c.args.h (unmap_in c.args.number) c.unmap_channel_at-ended.ensures.changes refl [] (replicate c.unmap_channel_at-ended.result c.args.h) c.unname_times.ensures c.self.inside.stopped (unmap_channel c.args.number) refl)

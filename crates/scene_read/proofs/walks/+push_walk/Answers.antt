use Rattle.std.proofs.Common.{◌≡◌, ◌++◌, ◌-◌, ◌∙◌, ◌∷◌, [], ℕ, None, Some, ap, sym, append_assoc}
use Rattle.std.specs.Option.{option_map}
use Rattle.std.proofs.lemmas.List.{append-nil, take_all}
use Rattle.kind_tables.specs.SceneObjects.{object_at}
use Rattle.kind_tables.specs.Walks.{Spot, walk_from}
use Rattle.scene_read.proofs.ListFacts.{flat_map-take_more}
use Rattle.scene_read.proofs.StartFacts.{no_depth, no_walk_read, walk_read}
use Rattle.scene_read.specs.Starts.{starts_of}
use Rattle.scene_read.proofs.walks.+push_walk.Goals as goal

pub returns-then-depth-eq0 : goal.returns-then-depth-eq0
returns-then-depth-eq0 g t c =
    rw c.if-depth-eq0.true (rw (no_depth (g.O.Objects.objects c.args.state.now) c.args.start) (sym (append-nil c.args.visits.now.items)))

pub returns-in_default : goal.returns-in_default
returns-in_default g t c =
    let h : c.start.inside.handle ≡ c.args.start.1 = ap (λ (v : Spot × ℕ). v.1) c.start.view_is in
    let none : option_map (λ o. o.kind) (object_at (g.O.Objects.objects c.args.state.now) c.args.start.1) ≡ None = rw h at (sym c.kind.ensures ∙ c.in_default.is) in
    rw (no_walk_read (g.O.Objects.objects c.args.state.now) c.args.depth c.args.start none) (sym (append-nil c.args.visits.now.items))

pub loop-start-init : goal.loop-start-init
loop-start-init g t c = sym (append-nil c.push.new.self.items)

pub loop-start-preserved : goal.loop-start-preserved
loop-start-preserved g t c =
    rw (c.in_ok-push_walk.ensures, c.loop-start.invariant)
    (append_assoc c.push.new.self.items _ _
    ∙ ap (λ xs. c.push.new.self.items ++ xs)
    (sym (rw (← c.start-item.is) at (flat_map-take_more (λ next. starts_of (walk_from (c.args.depth - 1) (g.O.Objects.objects c.args.state.now) next)) c.deref-start-items.result.now c.loop-start.start-index c.start-item.result c.loop-start-test.true))))

pub returns : goal.returns
returns g t c =
    let h : c.start.inside.handle ≡ c.args.start.1 = ap (λ (v : Spot × ℕ). v.1) c.start.view_is in
    let some : option_map (λ o. o.kind) (object_at (g.O.Objects.objects c.args.state.now) c.args.start.1) ≡ Some c.in-Some.kind = rw h at (sym c.kind.ensures ∙ c.in-Some.is) in
    rw (walk_read (g.O.Objects.objects c.args.state.now) c.args.depth c.args.start c.in-Some.kind c.if-depth-eq0.false some, c.loop-start.invariant, c.in_ok-push.ensures.items, take_all c.loop-start.start-index c.deref-start-items.result.now c.loop-start-test.false, c.deref-start-items.ensures.value, c.in_ok-next.ensures)
    (append_assoc c.args.visits.now.items (c.args.start ∷ []) _)

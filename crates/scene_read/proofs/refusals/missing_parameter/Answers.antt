use Rattle.std.proofs.Common.{◌≡◌, true, false, Some, map, sym, ap, ◌∙◌}
use Rattle.std.specs.List.{find}
use Rattle.std.proofs.lemmas.List.{drop_all}
use Rattle.dev_types.specs.Bounded.{is_name}
use Rattle.kind_tables.specs.Rows.{parameters_of}
use Rattle.kind_tables.specs.declared.kinds.Kind.{Kind}
use Rattle.scene_read.proofs.ListFacts.{list_all-map_at}
use Rattle.scene_read.proofs.RefusalFacts.{found_from, missing_is}
use Rattle.scene_read.specs.Reading.{object_of}
use Rattle.scene_read.specs.Starts.{visited_object}
use Rattle.scene_read.specs.Tested.{lacks}
use Rattle.scene_read.specs.declared.readers.Subject.{Subject}
use Rattle.scene_read.proofs.refusals.missing_parameter.Goals as goal

pub lacks-requires : goal.lacks-requires
lacks-requires g c =
    list_all-map_at (λ text. text.now) is_name c.parameters_of-text-items.result.now c.loop-text.text-index _ c.loop-text-test.true
    (rw c.parameters_of-text-items.ensures.value c.parameters_of-text-items.ensures.names)

pub of-requires : goal.of-requires
of-requires g c =
    list_all-map_at (λ text. text.now) is_name c.parameters_of-text-items.result.now c.loop-text.text-index _ c.loop-text-test.true
    (rw c.parameters_of-text-items.ensures.value c.parameters_of-text-items.ensures.names)

pub returns-then-lacks : goal.returns-then-lacks
returns-then-lacks g c =
    let o = visited_object (g.O.Objects.objects c.args.state.now) c.args.h in
    let kind : c.kind-kind.result ≡ o.kind = c.kind-kind.ensures ∙ ap (λ (s : Subject). (object_of (g.O.Objects.objects c.args.state.now) s).kind) c.visited.ensures in
    ap Some c.of.ensures
    ∙ sym (found_from (lacks c.kind-kind.result o) (λ text. text.now) c.parameters_of-text-items.result.now c.loop-text.text-index _ true c.loop-text-test.true (sym c.if-lacks.true ∙ c.lacks.ensures))
    ∙ c.loop-text.invariant
    ∙ ap (find (lacks c.kind-kind.result o)) c.parameters_of-text-items.ensures.value
    ∙ ap (λ (k : Kind). find (lacks k o) (parameters_of k)) kind
    ∙ sym (missing_is o)

pub loop-text-preserved : goal.loop-text-preserved
loop-text-preserved g c =
    let o = visited_object (g.O.Objects.objects c.args.state.now) c.args.h in
    sym (found_from (lacks c.kind-kind.result o) (λ text. text.now) c.parameters_of-text-items.result.now c.loop-text.text-index _ false c.loop-text-test.true (sym c.if-lacks.false ∙ c.lacks.ensures))
    ∙ c.loop-text.invariant

pub returns : goal.returns
returns g c =
    let o = visited_object (g.O.Objects.objects c.args.state.now) c.args.h in
    let kind : c.kind-kind.result ≡ o.kind = c.kind-kind.ensures ∙ ap (λ (s : Subject). (object_of (g.O.Objects.objects c.args.state.now) s).kind) c.visited.ensures in
    ap (λ texts. find (lacks c.kind-kind.result o) (map (λ text. text.now) texts)) (sym (drop_all c.loop-text.text-index c.parameters_of-text-items.result.now c.loop-text-test.false))
    ∙ c.loop-text.invariant
    ∙ ap (find (lacks c.kind-kind.result o)) c.parameters_of-text-items.ensures.value
    ∙ ap (λ (k : Kind). find (lacks k o) (parameters_of k)) kind
    ∙ sym (missing_is o)

use Rattle.std.proofs.Common.{◌≡◌, ℕ, None, Some, sym, ap, ◌∙◌}
use Rattle.std.proofs.lemmas.List.{drop_all}
use Rattle.dev_types.specs.declared.refusals.Refused.TheVariants.{Incomplete}
use Rattle.kind_tables.specs.WalkRefusals.{first_incomplete}
use Rattle.kind_tables.specs.Walks.{Spot}
use Rattle.scene_read.proofs.RefusalFacts.{first_incomplete_from}
use Rattle.scene_read.specs.Starts.{all_seen}
use Rattle.scene_read.proofs.refusals.first_incomplete.Goals as goal

pub returns-in-Some : goal.returns-in-Some
returns-in-Some g c =
    let h : c.visit.inside.handle ≡ c.visit-item.result.1 = ap (λ (v : Spot × ℕ). v.1) c.visit.view_is in
    let missing = sym c.in-Some.is ∙ (rw h at c.missing_parameter.ensures) in
    ap (λ h. Some (Incomplete h c.in-Some.name)) h
    ∙ sym (first_incomplete_from (g.O.Objects.objects c.args.state.now) c.args.visits.now c.loop-visit.visit-index c.visit-item.result (Some c.in-Some.name) c.loop-visit-test.true c.visit-item.is missing)
    ∙ c.loop-visit.invariant

pub loop-visit-preserved : goal.loop-visit-preserved
loop-visit-preserved g c =
    let h : c.visit.inside.handle ≡ c.visit-item.result.1 = ap (λ (v : Spot × ℕ). v.1) c.visit.view_is in
    let none = sym c.in_default.is ∙ (rw h at c.missing_parameter.ensures) in
    sym (first_incomplete_from (g.O.Objects.objects c.args.state.now) c.args.visits.now c.loop-visit.visit-index c.visit-item.result None c.loop-visit-test.true c.visit-item.is none)
    ∙ c.loop-visit.invariant

pub returns : goal.returns
unfolding first_incomplete
returns g c =
    ap (λ visits. first_incomplete (all_seen (g.O.Objects.objects c.args.state.now) visits)) (sym (drop_all c.loop-visit.visit-index c.args.visits.now c.loop-visit-test.false))
    ∙ c.loop-visit.invariant

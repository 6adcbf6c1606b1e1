use Rattle.std.proofs.Common.{◌≡◌, ℕ, true, false, Some, sym, ap, ◌∙◌}
use Rattle.std.proofs.lemmas.List.{drop_all}
use Rattle.dev_types.specs.declared.refusals.Refused.TheVariants.{ArrayMapped}
use Rattle.kind_tables.specs.WalkRefusals.{first_mapped}
use Rattle.kind_tables.specs.Walks.{Spot}
use Rattle.scene_read.proofs.RefusalFacts.{first_mapped_from}
use Rattle.scene_read.specs.Starts.{all_seen}
use Rattle.scene_read.proofs.refusals.first_mapped.Goals as goal

pub returns-then-mapped : goal.returns-then-mapped
returns-then-mapped g c =
    let h : c.visit.inside.handle ≡ c.visit-item.result.1 = ap (λ (v : Spot × ℕ). v.1) c.visit.view_is in
    let mapped = sym c.if-mapped.true ∙ (rw h at c.mapped.ensures) in
    ap (λ h. Some (ArrayMapped h)) h
    ∙ sym (first_mapped_from (g.O.Objects.objects c.args.state.now) c.as_slice-visit-items.result.now c.loop-visit.visit-index c.visit-item.result true c.loop-visit-test.true c.visit-item.is mapped)
    ∙ c.loop-visit.invariant

pub loop-visit-preserved : goal.loop-visit-preserved
loop-visit-preserved g c =
    let h : c.visit.inside.handle ≡ c.visit-item.result.1 = ap (λ (v : Spot × ℕ). v.1) c.visit.view_is in
    let mapped = sym c.if-mapped.false ∙ (rw h at c.mapped.ensures) in
    sym (first_mapped_from (g.O.Objects.objects c.args.state.now) c.as_slice-visit-items.result.now c.loop-visit.visit-index c.visit-item.result false c.loop-visit-test.true c.visit-item.is mapped)
    ∙ c.loop-visit.invariant

pub returns : goal.returns
unfolding first_mapped
returns g c =
    ap (λ visits. first_mapped (all_seen (g.O.Objects.objects c.args.state.now) visits)) (sym (drop_all c.loop-visit.visit-index c.as_slice-visit-items.result.now c.loop-visit-test.false))
    ∙ c.loop-visit.invariant

use Rattle.std.proofs.Common.{◌≤◌, ◌<◌, ◌≡◌, ℤ, pos, List, true, false, Some, get_or, length, map, arith, rules, w32, sym, ap, ◌∙◌}
use Rattle.std.proofs.lemmas.Int.{to_z-of_z}
use Rattle.kind_tables.specs.Ranges.{is_radius}
use Rattle.kind_tables.specs.SceneObjects.{scalar_in}
use Rattle.scene_read.proofs.ElementFacts.{count_of_elements}
use Rattle.scene_read.proofs.TestFacts.{enough, no_radii_left, radii_from, too_few}
use Rattle.scene_read.specs.Reading.{all_elements}
use Rattle.scene_read.proofs.geometry_ranges.are_radii.Goals as goal

pub returns-then-len-count : goal.returns-then-len-count
returns-then-len-count c =
    let radii : List ℤ = map (λ v. scalar_in (Some v)) (all_elements c.args.radii.now) in
    let few : length radii < c.args.count = omega (arith, count_of_elements (λ v. scalar_in (Some v)) c.args.radii.now, c.len.ensures) in
    sym (too_few c.args.m.now radii c.args.count few)

pub returns-then-not-is_radius : goal.returns-then-not-is_radius
returns-then-not-is_radius c =
    let radii : List ℤ = map (λ v. scalar_in (Some v)) (all_elements c.args.radii.now) in
    let many : c.args.count ≤ length radii = omega (arith, count_of_elements (λ v. scalar_in (Some v)) c.args.radii.now, c.len.ensures) in
    let asked = rw (to_z-of_z w32 c.scalar_at.result (search rules)) at c.is_radius.ensures in
    let out : is_radius c.args.m.now (get_or radii c.loop-k.k (pos 0)) ≡ false = ap (is_radius c.args.m.now) (sym c.scalar_at.ensures) ∙ sym asked ∙ c.if-not-is_radius.true in
    sym (radii_from c.args.m.now radii c.args.count c.loop-k.k false many c.loop-k-test.true out) ∙ c.loop-k.invariant ∙ sym (enough c.args.m.now radii c.args.count many)

pub loop-k-preserved : goal.loop-k-preserved
loop-k-preserved c =
    let radii : List ℤ = map (λ v. scalar_in (Some v)) (all_elements c.args.radii.now) in
    let many : c.args.count ≤ length radii = omega (arith, count_of_elements (λ v. scalar_in (Some v)) c.args.radii.now, c.len.ensures) in
    let asked = rw (to_z-of_z w32 c.scalar_at.result (search rules)) at c.is_radius.ensures in
    let good : is_radius c.args.m.now (get_or radii c.loop-k.k (pos 0)) ≡ true = ap (is_radius c.args.m.now) (sym c.scalar_at.ensures) ∙ sym asked ∙ c.if-not-is_radius.false in
    sym (radii_from c.args.m.now radii c.args.count c.loop-k.k true many c.loop-k-test.true good) ∙ c.loop-k.invariant

pub returns : goal.returns
returns c =
    let radii : List ℤ = map (λ v. scalar_in (Some v)) (all_elements c.args.radii.now) in
    let many : c.args.count ≤ length radii = omega (arith, count_of_elements (λ v. scalar_in (Some v)) c.args.radii.now, c.len.ensures) in
    sym (no_radii_left c.args.m.now radii c.args.count c.loop-k.k c.loop-k-test.false) ∙ c.loop-k.invariant ∙ sym (enough c.args.m.now radii c.args.count many)

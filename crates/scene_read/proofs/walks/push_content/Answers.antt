use Rattle.std.proofs.Common.{◌≡◌, false, ap, sym, ℕ}
use Rattle.std.proofs.lemmas.List.{append-nil}
use Rattle.dev_types.specs.DataTypes.{is_object_type}
use Rattle.kind_tables.specs.Walks.{Spot}
use Rattle.scene_read.proofs.StartFacts.{values_name_nothing}
use Rattle.scene_read.proofs.walks.push_content.Goals as goal

pub returns-then-not-is_object : goal.returns-then-not-is_object
returns-then-not-is_object g c =
    let values : is_object_type c.in-Some.elements.ty ≡ false = cc in
    let h : c.visit.inside.handle ≡ c.args.visit.now.1 = ap (λ (v : Spot × ℕ). v.1) c.visit.view_is in
    rw (← h, ← c.in-Some.ensures.value) (rw (values_name_nothing c.args.kind c.args.visit.now.0 c.in-Some.elements values) (sym (append-nil c.args.starts.now.items)))

use Rattle.std.proofs.Common.{Some, ap, sym, ◌∙◌, get_or}
use Rattle.fx_math.specs.declared.scene.Primitive.{Primitive}
use Rattle.picture_model.proofs.Sources.{place_at}
use Rattle.world_snapshot.proofs.rows.RowsPrimSource.place.Goals as goal

pub returns : goal.returns
returns c =
    let row = c.index-as_slice-i.result in
    let is = c.index-as_slice-i.is ∙ ap (λ rows. get_or rows c.args.i row) c.as_slice.ensures in
    place_at c.args.self.now c.args.i row c.requires ∙ ap (λ (p : Primitive). Some p.place) (sym is) ∙ ap Some (sym c.place.ensures)

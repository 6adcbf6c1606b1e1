use Rattle.std.proofs.Common.{◌≡◌, ◌*◌, ◌+◌, ◌++◌, ℕ, suc, List, take, ap, sym, ◌∙◌, arith}
use Rattle.std.proofs.lemmas.List.{take_all}
use Rattle.picture_model.proofs.PixelRows.{in_a_row-suc}
use Rattle.picture_model.specs.Pictures.{in_a_row, pixel}
use Rattle.flight_tests.proofs.tiles.write_row.Goals as goal

pub loop-i-preserved : goal.loop-i-preserved
loop-i-preserved c =
    let f : ℕ → List ℕ = λ x. pixel c.args.scene.now c.args.plane x c.args.y in
    let i = c.loop-i.i in
    let x0 = c.args.rect.now.x0 in
    let next : 4 * (i + 1) ≡ 4 * i + 4 = omega arith in
    let one : suc i ≡ i + 1 = omega arith in (
      c.put.ensures.same ∙ c.loop-i.invariant.0,
      ap (λ k. take k c.put.new.row) next ∙ c.put.ensures.front ∙ ap (λ l. l ++ c.pixel.result) c.loop-i.invariant.1 ∙ ap (λ l. in_a_row f x0 i ++ l) c.pixel.ensures
          ∙ sym (in_a_row-suc f x0 i) ∙ ap (in_a_row f x0) one,
    )

pub returns : goal.returns
returns c =
    let f : ℕ → List ℕ = λ x. pixel c.args.scene.now c.args.plane x c.args.y in
    let all : c.loop-i.i ≡ c.args.rect.now.w = omega arith in
    sym (take_all (4 * c.loop-i.i) c.loop-i.row (omega arith)) ∙ c.loop-i.invariant.1 ∙ ap (in_a_row f c.args.rect.now.x0) all

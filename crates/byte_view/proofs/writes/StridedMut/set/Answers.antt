use Rattle.std.proofs.Common.{ℕ, List, ◌≡◌, ◌+◌, ◌-◌, ◌*◌, ◌≤◌, ◌∙◌, ◌++◌, length, take, drop, ap, arith, length-take, length-drop}
use Rattle.std.proofs.lemmas.List.{drop-drop}
use Rattle.dev_types.specs.DataTypes.{byte_size}
use Rattle.dev_types.specs.Blocks.{element_of}
use Rattle.byte_view.specs.Halves.{elements}
use Rattle.byte_view.proofs.ElementFacts.{element_written, ends_within}
use Rattle.byte_view.proofs.writes.StridedMut.set.Goals as goal

-- the block after the write, with the element's own bytes in the middle
written : (own bs : List ℕ) (a k size : ℕ) → k ≡ size → take a bs ++ (own ++ drop k (drop a bs)) ≡ take a bs ++ (own ++ drop (a + size) bs)
written own bs a k size same = ap (λ (rest : List ℕ). take a bs ++ (own ++ rest)) (ap (λ (n : ℕ). drop n (drop a bs)) same ∙ drop-drop size a bs)

pub returns-clause-back : goal.returns-clause-back
returns-clause-back c =
    let here : c.args.i * c.args.self.now.stride + byte_size c.args.self.now.ty ≤ length c.args.self.now.bytes.now = ends_within (elements c.args.self.now) c.args.i c.args.self.now.fits c.requires.within in
    let sized : length c.write_value.new.into ≡ byte_size c.args.self.now.ty =
    omega (arith, c.write_value.auto.into, c.size_of-size.ensures, length-take (c.args.i * c.args.self.now.stride + c.size_of-size.result - c.args.i * c.args.self.now.stride) (drop (c.args.i * c.args.self.now.stride) c.args.self.now.bytes.now), length-drop (c.args.i * c.args.self.now.stride) c.args.self.now.bytes.now) in
    ap (λ (bs : List ℕ). element_of c.args.self.now.ty c.args.self.now.stride bs c.args.i)
    (written c.write_value.new.into c.args.self.now.bytes.now (c.args.i * c.args.self.now.stride) _ (byte_size c.args.self.now.ty) (omega (arith, c.size_of-size.ensures))) ∙
    element_written (elements c.args.self.now) c.args.i c.write_value.new.into c.args.v.now
    (omega arith) sized c.requires.typed (c.write_value.ensures.back c.requires.well_typed)

use Rattle.std.proofs.Common.{ℕ, ◌≡◌, ◌*◌, ◌∙◌, ap, sym, refl, length, take, drop, arith}
use Rattle.byte_view.specs.Elements.{cut_before}
use Rattle.byte_view.proofs.ElementFacts.{start_below, range_fits, front_fits}
use Rattle.byte_view.proofs.writes.split_block.Goals as goal

pub returns-then-i-count : goal.returns-then-i-count
returns-then-i-count c =
    let at : cut_before c.args.stride c.args.count (length c.args.bytes.now) c.args.i ≡ c.args.i * c.args.stride = start_below (record { ty = c.args.ty; stride = c.args.stride; count = c.args.count; bytes = c.args.bytes.now }) c.args.i c.if-i-count.true in
    let front : c.split_at_mut.result.0.now ≡ take (cut_before c.args.stride c.args.count (length c.args.bytes.now) c.args.i) c.args.bytes.now =
    c.split_at_mut.ensures.front ∙ ap (λ (n : ℕ). take n c.args.bytes.now) (sym at) in
    let back : c.split_at_mut.result.1.now ≡ drop (cut_before c.args.stride c.args.count (length c.args.bytes.now) c.args.i) c.args.bytes.now =
    c.split_at_mut.ensures.back ∙ ap (λ (n : ℕ). drop n c.args.bytes.now) (sym at) in (
      ((refl, refl), λ x y. refl),
      record {
        front = front;
        back = back;
        front_fits = rw front (front_fits (record { ty = c.args.ty; stride = c.args.stride; count = c.args.count; bytes = c.args.bytes.now }) c.args.i c.requires.fits c.requires.within);
        writes_back = tt;
        back_fits = rw back (range_fits (record { ty = c.args.ty; stride = c.args.stride; count = c.args.count; bytes = c.args.bytes.now }) c.args.i c.args.count c.requires.fits c.requires.within (omega arith));
      },
    )

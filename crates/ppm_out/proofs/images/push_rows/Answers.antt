use Rattle.std.proofs.Common.{◌≡◌, ℕ, suc, ◌-◌, List, ◌++◌, Bool, arith, refl, subst, sym, ap, ◌∙◌, append_assoc}
use Rattle.ppm_out.specs.Ppm.{from_top, row_of, shown}
use Rattle.ppm_out.proofs.Fronts.{front_twice}
use Rattle.ppm_out.proofs.images.push_rows.Goals as goal

-- the rows from the top begin with the highest
from_top-highest : (color : Bool) (w : ℕ) (pixels : List ℕ) (k y : ℕ) → suc k ≡ y → from_top color w pixels y ≡ shown color (row_of w pixels k) ++ from_top color w pixels k
from_top-highest color w pixels k y e =
    let P : ℕ → Type 0 = λ n. from_top color w pixels n ≡ shown color (row_of w pixels k) ++ from_top color w pixels k in
    subst P e refl

-- a list that was added in front of what is left to add
added-first : (out new first rest left all : List ℕ) → new ≡ out ++ first → left ≡ first ++ rest → out ++ left ≡ all → new ++ rest ≡ all
added-first out new first rest left all grown split whole =
    ap (λ l. l ++ rest) grown ∙ append_assoc out first rest ∙ ap (λ l. out ++ l) (sym split) ∙ whole

pub rows-preserved : goal.rows-preserved
rows-preserved c =
    let frame = c.args.frame.now in
    let grown : c.push_row.new.out.items ≡ c.rows.out.items ++ shown frame.color (row_of frame.w frame.rows (c.rows.y - 1)) = c.in_ok-push_row.ensures.ok in
    let highest = from_top-highest frame.color frame.w frame.rows (c.rows.y - 1) c.rows.y (omega (arith, c.rows-test.true)) in
    record {
      below = omega (arith, c.rows.invariant.below);
      whole = added-first _ _ _ _ _ _ grown highest c.rows.invariant.whole;
      kept = front_twice _ _ _ c.rows.invariant.kept c.in_ok-push_row.ensures.front;
    }

use Rattle.std.proofs.Common.{rules, ◌∙◌, ap, pos, FitsSigned, w32, get_or, arith, refl}
use Rattle.std.proofs.Common.{below_more}
use Rattle.std.proofs.lemmas.Int.{to_z-of_z}
use Rattle.dev_types.specs.ValueBytes.{signed_bytes}
use Rattle.dev_types.proofs.ValueFacts.{write_step, signed_back}
use Rattle.dev_types.proofs.values.write_signed.Goals as goal

pub loop-i-preserved : goal.loop-i-preserved
loop-i-preserved g c =
    let fits : FitsSigned w32 (get_or c.args.numbers.now c.loop-i.i (pos 0)) = search rules in
    record {
      written = write_step signed_bytes _ (pos 0) _ _ _ _ (λ z. refl) (omega arith) (omega arith)
          (c.copy_from_slice.ensures.after ∙ c.to_le_bytes.ensures ∙ ap signed_bytes (to_z-of_z w32 _ fits)) c.loop-i.invariant.written;
      fit = below_more _ _ c.loop-i.invariant.fit fits;
    }

pub returns-clause-back : goal.returns-clause-back
returns-clause-back g c = signed_back _ _ _ c.loop-i.i c.told-numbers (omega arith) (omega arith) c.loop-i.invariant.written c.loop-i.invariant.fit

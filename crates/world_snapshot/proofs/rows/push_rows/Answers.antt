use Rattle.std.proofs.Common.{◌++◌, ◌∙◌, ap, sym, append_assoc, arith}
use Rattle.std.proofs.lemmas.List.FromFn.{map-range_with_len_more}
use Rattle.world_snapshot.specs.Captured.{primitive_of}
use Rattle.world_snapshot.proofs.rows.push_rows.Goals as goal

pub loop-k-preserved : goal.loop-k-preserved
loop-k-preserved c =
    rw (c.in_ok-push.ensures.items, c.loop-k.invariant, c.new.ensures, c.in_ok-try_clone.ensures)
    (append_assoc c.args.rows.now.items _ _
    ∙ ap (λ xs. c.args.rows.now.items ++ xs) (sym (map-range_with_len_more (primitive_of c.args.surface.now.value) 0 c.loop-k.k c.loop-k.k (omega arith))))

use Rattle.std.proofs.Common.{◌≡◌, ◌≤◌, ◌+◌, ◌∙◌, ap, sym, true, false, rules, arith}
use Rattle.std.specs.Prelude.{◌||◌}
use Rattle.std.specs.List.{list_any}
use Rattle.seq_model.specs.State.{is_in_flight}
use Rattle.plain_journal.proofs.EndFacts.{any_turn}
use Rattle.plain_objects.proofs.Ended.{rises}
use Rattle.plain_objects.proofs.Turns.{from, from_first, from_last}
use Rattle.plain_journal.proofs.endings.is_flying.Goals as goal

pub loop-h-init : goal.loop-h-init
loop-h-init c =
    let es = c.args.stage.now.objects in
    ap (list_any (λ entry. is_in_flight c.args.ticket entry.1)) (from_first 1 1 c.next-next.result es (omega arith) (rises 1 c.next-next.result es c.next-next.ensures.rising))

pub returns-then-is_flying_at : goal.returns-then-is_flying_at
returns-then-is_flying_at c =
    let es = c.args.stage.now.objects in
    let yes : c.is_flying_at.result ≡ true = search rules in
    let turn = any_turn (λ entry. is_in_flight c.args.ticket entry.1) c.loop-h.h c.next-next.result es c.is_flying_at.result c.next-next.ensures.rising c.is_flying_at.ensures in
    sym (sym c.loop-h.invariant ∙ turn ∙ ap (λ t. t || list_any (λ entry. is_in_flight c.args.ticket entry.1) (from (c.loop-h.h + 1) es)) yes)

pub loop-h-preserved : goal.loop-h-preserved
loop-h-preserved c =
    let es = c.args.stage.now.objects in
    let no : c.is_flying_at.result ≡ false = search rules in
    let turn = any_turn (λ entry. is_in_flight c.args.ticket entry.1) c.loop-h.h c.next-next.result es c.is_flying_at.result c.next-next.ensures.rising c.is_flying_at.ensures in
    sym (turn ∙ ap (λ t. t || list_any (λ entry. is_in_flight c.args.ticket entry.1) (from (c.loop-h.h + 1) es)) no) ∙ c.loop-h.invariant

pub returns : goal.returns
returns c =
    let es = c.args.stage.now.objects in
    let over : c.next-next.result ≤ c.loop-h.h = omega (arith, c.next.view_is) in
    sym (ap (list_any (λ entry. is_in_flight c.args.ticket entry.1)) (from_last 1 c.loop-h.h c.next-next.result es over (rises 1 c.next-next.result es c.next-next.ensures.rising))) ∙ c.loop-h.invariant

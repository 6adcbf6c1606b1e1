use Rattle.std.proofs.Common.{ℕ, ◌≤◌, Bool, List, arith}
use Rattle.std.specs.List.{filter_map, list_any}
use Rattle.seq_model.specs.State.{Object, ticket_in}
use Rattle.seq_model.specs.Steps.{is_reached_by}
use Rattle.plain_objects.proofs.Turns.{any_first, any_last, any_next, flying_is_any}
use Rattle.plain_objects.proofs.marks.mark_flying.Goals as goal

-- the test by which the flights mark
abbrev by : List (ℕ × List ℕ) → List (ℕ × Object) → ℕ → Bool
by reached es k = list_any (λ t. is_reached_by reached t k) (filter_map (λ entry. ticket_in entry.1.phase) es)

pub loop-h-init : goal.loop-h-init
loop-h-init c = λ last all. any_first (by c.args.reached.now) c.next-next.result c.args.stage.now.objects c.args.marks.now last c.next-next.ensures.rising all

pub loop-h-preserved : goal.loop-h-preserved
loop-h-preserved c = λ last rest.
    c.loop-h.invariant last
    (any_next (by c.args.reached.now) (flying_is_any c.args.reached.now) c.loop-h.h c.next-next.result c.args.stage.now.objects c.loop-h.marks c.mark_flight_of.new.marks last
    c.next-next.ensures.rising c.mark_flight_of.auto.marks c.mark_flight_of.ensures rest)

pub returns : goal.returns
returns c =
    let over : c.next-next.result ≤ c.loop-h.h = omega (arith, c.next.view_is) in
    c.loop-h.invariant c.loop-h.marks
    (any_last (by c.args.reached.now) (flying_is_any c.args.reached.now) c.loop-h.h c.next-next.result c.args.stage.now.objects c.loop-h.marks c.next-next.ensures.rising over)

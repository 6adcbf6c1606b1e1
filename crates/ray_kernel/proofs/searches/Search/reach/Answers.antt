use Rattle.std.proofs.Common.{◌∙◌, Some, None, ap, refl}
use Rattle.ray_kernel.specs.Searches.{Query}
use Rattle.ray_kernel.proofs.Reaches.{before_at, beyond_at, entered_at, missed_at, span_at}
use Rattle.ray_kernel.proofs.searches.Search.reach.Goals as goal
use Rattle.ray_kernel.proofs.searches.Search.reach.Goals.{then-is_beyond-via-then-is_beyond, then-is_beyond-via-else-is_beyond+then-is_passed}

pub returns-in_err-entry : goal.returns-in_err-entry
returns-in_err-entry g c =
    let q = c.args.self.now in
    let ray = c.self.invariant ∙ ap (λ (q : Query). q.ray) c.self.view_is in
    rw c.from_residual.ensures
    (missed_at q c.args.nodes.now _ c.args.best.now (span_at q c.args.nodes.now _ c.span.result None c.bounds_of.result.now _ c.requires c.bounds_of.ensures ray c.span.ensures.hits c.in_err-entry.was))

pub returns-then-is_beyond : goal.returns-then-is_beyond
returns-then-is_beyond g c =
    let q = c.args.self.now in
    let ray = c.self.invariant ∙ ap (λ (q : Query). q.ray) c.self.view_is in
    let span = span_at q c.args.nodes.now _ c.span.result (Some (c.in_ok-entry.entry, c.in_ok-entry.exit)) c.bounds_of.result.now _ c.requires c.bounds_of.ensures ray c.span.ensures.hits c.in_ok-entry.was in
    elim c.then-is_beyond.branch [
      | then-is_beyond-via-then-is_beyond w ↦ beyond_at q c.args.nodes.now _ c.args.best.now _ _ span (cc (c.is_beyond.ensures, w.if-is_beyond.true))
      | then-is_beyond-via-else-is_beyond+then-is_passed w ↦ before_at q c.args.nodes.now _ c.args.best.now _ _ span (cc (w.is_passed.ensures, w.if-is_passed.true))
    ]

pub returns : goal.returns
returns g c =
    let q = c.args.self.now in
    let ray = c.self.invariant ∙ ap (λ (q : Query). q.ray) c.self.view_is in
    let span = span_at q c.args.nodes.now _ c.span.result (Some (c.in_ok-entry.entry, c.in_ok-entry.exit)) c.bounds_of.result.now _ c.requires c.bounds_of.ensures ray c.span.ensures.hits c.in_ok-entry.was in
    entered_at q c.args.nodes.now _ _ _ _ span refl refl

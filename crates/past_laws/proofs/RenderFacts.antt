-- What a frame shows was rendered, and has tiles.
use Rattle.std.proofs.Common.{◌≡◌, ◌∙◌, ◌<◌, ◌≤◌, ◌*◌, ℕ, Option, Some, None, refl, sym, ap, subst, arith}
use Rattle.std.specs.Option.{MatchOption, option_map_or}
use Rattle.seq_model.proofs.Flights.{own_tickets}
use Rattle.picture_model.specs.Limits.{IsSceneWithin}
use Rattle.picture_model.specs.Tiles.{tiles_over}
use Rattle.seq_model.specs.Histories.{frame_at}
use Rattle.seq_model.specs.Pictures.{scene_at, tiles_at}
use Rattle.seq_model.specs.Refusals.{phase_at}
use Rattle.seq_model.specs.State.{Object, Phase, Empty, Flight, Done, object_at}
use Rattle.seq_model.specs.Steps.{Past, after}
use Rattle.seq_model.specs.Tickets.{ticket_of}
use Rattle.past_laws.specs.Rendered.{HaveTiles, WasRendered}

by_object : (past : Past) → past ≡ after past.seen → (h : ℕ) (found : Option Object) → object_at past.state h ≡ found →
    MatchOption (ticket_of (option_map_or (λ o. o.phase) found Empty)) (Unit {0}) (λ t. frame_at past.seen t ≡ Some h)
by_object past led h None is = tt
by_object past led h (Some o) is = by_phase o.phase refl
  where
    by_phase : (phase : Phase) → o.phase ≡ phase → MatchOption (ticket_of phase) (Unit {0}) (λ t. frame_at past.seen t ≡ Some h)
    by_phase Empty shows = tt
    by_phase (Flight t) shows = own_tickets past.seen h t o (ap (λ p. object_at p.state h) (sym led) ∙ is) (ap ticket_of shows)
    by_phase (Done t) shows = own_tickets past.seen h t o (ap (λ p. object_at p.state h) (sym led) ∙ is) (ap ticket_of shows)

-- the picture that a frame has, or waits for, is one of its own renders
pub was_rendered : (past : Past) → past ≡ after past.seen → (h : ℕ) → WasRendered past h (phase_at past h)
was_rendered past led h = by_object past led h (object_at past.state h) refl

-- a frame of a scene within the limits has tiles
some_tiles : (n : ℕ) → 1 ≤ n → 1 ≤ tiles_over n
some_tiles n least = omega (arith, least)

pub have_tiles : (past : Past) → past ≡ after past.seen → ((t f : ℕ) → frame_at past.seen t ≡ Some f → IsSceneWithin (scene_at past.seen t)) → HaveTiles past
unfolding tiles_at
have_tiles past led within h t flies =
    let rendered : frame_at past.seen t ≡ Some h = subst (λ phase. MatchOption (ticket_of phase) (Unit {0}) (λ t. frame_at past.seen t ≡ Some h)) flies (was_rendered past led h) in
    let scene : IsSceneWithin (scene_at past.seen t) = within t h rendered in
    product (tiles_over (scene_at past.seen t).width) (tiles_over (scene_at past.seen t).height)
    (some_tiles (scene_at past.seen t).width scene.width.least) (some_tiles (scene_at past.seen t).height scene.height.least)
  where
    product : (a b : ℕ) → 1 ≤ a → 1 ≤ b → 0 < a * b
    product a b first second = grind (arith)

-- A call that has its reply, a flight that ends, and one that was stopped and leaves, may stand behind a legal history.
use Rattle.std.proofs.Common.{ℕ, ◌≡◌, ◌≤◌, ◌∙◌, inl, true, List, [], ◌∷◌, ◌++◌, All, Option, Some, None, sym, ap, subst, arith}
use Rattle.std.specs.Option.{MatchOption, option_map}
use Rattle.std.proofs.lemmas.List.Elements.{All-cons, All-weaker}
use Rattle.dev_types.specs.declared.refusals.Refused.TheVariants.{InFlight}
use Rattle.picture_model.specs.Limits.{IsSceneWithin}
use Rattle.seq_model.proofs.Prefixes.{extension_is_legal}
use Rattle.seq_model.specs.Answers.{IsAnswer, IsLike, answer}
use Rattle.seq_model.specs.Extensions.{let_follow, readings_of}
use Rattle.seq_model.specs.Histories.{frame_at}
use Rattle.seq_model.specs.Legal.{IsNext, IsNoLess, is_content_sound, is_flying, reading, with_reading}
use Rattle.seq_model.specs.Life.{has}
use Rattle.seq_model.specs.Pictures.{scene_at}
use Rattle.seq_model.specs.Refusals.{phase_at}
use Rattle.seq_model.specs.State.{ticket_in}
use Rattle.seq_model.specs.Steps.{Past, after}
use Rattle.seq_model.specs.declared.calls.Call.{Call}
use Rattle.seq_model.specs.declared.calls.Call.TheVariants.{FrameReady, MapFrame, RenderFrame}
use Rattle.seq_model.specs.declared.calls.Entry.{Entry}
use Rattle.seq_model.specs.declared.calls.Entry.TheVariants.{Called, Finished, Left}
use Rattle.seq_model.specs.declared.calls.Reply.{Reply}
use Rattle.seq_model.specs.declared.calls.Reply.TheVariants as reply
use Rattle.past_laws.proofs.OpenFacts.{open_lets, readings_more}
use Rattle.past_laws.proofs.RenderFacts.{have_tiles}
use Rattle.answered_calls.proofs.SeenTiles.{HasTiles, SeesNone, answer_sees_none, like_itself, of_all_flights}
use Rattle.plain_journal.specs.Unseen.{IsUnseen}
use Rattle.past_laws.specs.Open.{IsOpen}

-- one more entry that told of no tile
pub unseen_more : (past : Past) (e : Entry) → past ≡ after past.seen → IsUnseen past.seen → IsNext past (readings_of past.seen) e [] → let_follow past.seen e ≡ true →
    MatchOption (reading past e) (Unit {0}) (λ r. r.1 ≡ 0) → IsUnseen (past.seen ++ e ∷ [])
unseen_more past e led now next lets none = record {
  legal = extension_is_legal past.seen e now.legal (subst (λ (p : Past). IsNext p (readings_of past.seen) e []) led next) lets;
  unseen = subst (All (λ r. r.1 ≡ 0)) (ap (λ (p : Past). with_reading (reading p e) (readings_of past.seen)) led ∙ sym (readings_more past.seen e)) (by (reading past e) none);
}
  where
    by : (x : Option (ℕ × ℕ)) → MatchOption x (Unit {0}) (λ r. r.1 ≡ 0) → All (λ r. r.1 ≡ 0) (with_reading x (readings_of past.seen))
    by None none = now.unseen
    by (Some r) none = All-cons (λ (r : ℕ × ℕ). r.1 ≡ 0) r (readings_of past.seen) none now.unseen

-- earlier replies saw no more
pub rises_from_none : (readings : List (ℕ × ℕ)) (x : Option (ℕ × ℕ)) → All (λ r. r.1 ≡ 0) readings → MatchOption x (Unit {0}) (IsNoLess readings)
rises_from_none readings None all = tt
rises_from_none readings (Some r) all = All-weaker (λ (r : ℕ × ℕ). r.1 ≡ 0) (λ (earlier : ℕ × ℕ). earlier.0 ≡ r.0 → earlier.1 ≤ r.1) (λ earlier none same. omega (arith, none)) readings all

-- a reply that sees none reads as none
ticket_reads_none : (given : ℕ) → given ≡ 0 → (x : Option ℕ) → MatchOption {T = ℕ × ℕ} (option_map (λ t. (t, given)) x) (Unit {0}) (λ r. r.1 ≡ 0)
ticket_reads_none given none None = tt
ticket_reads_none given none (Some t) = none

reads_none : (past : Past) (actor : ℕ) (call : Call) (r : Reply) → SeesNone r → MatchOption (reading past (Called actor call r)) (Unit {0}) (λ r. r.1 ≡ 0)
reads_none past actor (FrameReady h wait) (reply.NotReady given of) none = ticket_reads_none given none.0 (ticket_in (phase_at past h))
reads_none past actor (RenderFrame h) (reply.Denied (InFlight given of)) none = ticket_reads_none given none.0 (ticket_in (phase_at past h))
reads_none past actor (MapFrame h c) (reply.Denied (InFlight given of)) none = ticket_reads_none given none.0 (ticket_in (phase_at past h))
reads_none past actor _ _ none = tt

-- a call with its reply, where the flight that it asks for has tiles
pub call_is_legal : (past : Past) → past ≡ after past.seen → IsUnseen past.seen → IsOpen past.seen → (actor : ℕ) (call : Call) (r : Reply) → HasTiles past call →
    answer past call ≡ Some r → is_content_sound past call ≡ true → IsUnseen (past.seen ++ Called actor call r ∷ [])
unfolding IsAnswer
call_is_legal past led now open_ actor call r tiles is sound =
    let none : SeesNone r = answer_sees_none past call r tiles is in
    unseen_more past (Called actor call r) led now
    (record {
      placed = (subst (λ x. MatchOption x ⊥ (λ a. IsLike a r)) (sym is) (like_itself r none), sound);
      rising = rises_from_none (readings_of past.seen) (reading past (Called actor call r)) now.unseen;
    })
    (open_ actor call r) (reads_none past actor call r none)

pub called_is_legal : (past : Past) → past ≡ after past.seen → IsUnseen past.seen → IsOpen past.seen → ((t f : ℕ) → frame_at past.seen t ≡ Some f → IsSceneWithin (scene_at past.seen t)) →
    (actor : ℕ) (call : Call) (r : Reply) → answer past call ≡ Some r → is_content_sound past call ≡ true → IsUnseen (past.seen ++ Called actor call r ∷ [])
called_is_legal past led now open_ within actor call r is sound =
    call_is_legal past led now open_ actor call r (of_all_flights past call (have_tiles past led within)) is sound

-- the end of a flight
pub finished_is_legal : (past : Past) (t : ℕ) → past ≡ after past.seen → IsUnseen past.seen → IsOpen past.seen → is_flying past.state t ≡ true → IsUnseen (past.seen ++ Finished t ∷ [])
finished_is_legal past t led now open_ flies =
    unseen_more past (Finished t) led now (record { placed = flies; rising = tt }) (open_lets past.seen (Finished t) open_) tt

-- the leave of a flight that was stopped
pub left_is_legal : (past : Past) (t : ℕ) → past ≡ after past.seen → IsUnseen past.seen → IsOpen past.seen → has t past.state.stopped ≡ true → IsUnseen (past.seen ++ Left t ∷ [])
left_is_legal past t led now open_ stopped =
    unseen_more past (Left t) led now (record { placed = inl stopped; rising = tt }) (open_lets past.seen (Left t) open_) tt

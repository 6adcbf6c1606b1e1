-- What is kept of frames where they are the same, and where a channel is mapped or comes back.
use Rattle.std.proofs.Common.{ℕ, ◌+◌, ◌≡◌, ◌≤◌, ◌∙◌, not, false, List, [], ◌∷◌, ◌++◌, Some, map, length, refl, sym, ap, subst, arith}
use Rattle.std.specs.Prelude.{count_by}
use Rattle.std.specs.Option.{option_map_or}
use Rattle.std.proofs.lemmas.Bool.{eqb-true}
use Rattle.dev_types.specs.declared.data_types.DataType.{DataType}
use Rattle.dev_types.specs.declared.handles.Channel.{Channel}
use Rattle.frame_future.specs.Channels.{loan_of}
use Rattle.frame_future.specs.Future.{Finished, Future, IsKept, given_back, is_flight_of, is_picture_of, lent_as, loan_ended, replaced, shown_by, with_picture}
use Rattle.seq_model.specs.Histories.{History}
use Rattle.seq_model.specs.Legal.{Legal}
use Rattle.seq_model.specs.Life.{has}
use Rattle.seq_model.specs.Refusals.{mapped_at}
use Rattle.seq_model.specs.Steps.{after}
use Rattle.seq_model.specs.declared.calls.Call.{Call}
use Rattle.seq_model.specs.declared.calls.Call.TheVariants.{MapFrame, UnmapFrame}
use Rattle.seq_model.specs.declared.calls.Entry.TheVariants.{Called}
use Rattle.seq_model.specs.declared.calls.Reply.{Reply}
use Rattle.seq_model.specs.declared.calls.Reply.TheVariants as reply
use Rattle.device_laws.proofs.CallFacts.{called_open}
use Rattle.device_laws.proofs.FrameFacts.{picture_replaced, same_renders, same_stands}
use Rattle.device_laws.proofs.FramesStandFacts.{stands_without}
use Rattle.device_laws.proofs.LoanSteps.{map_lent}
use Rattle.device_laws.proofs.RenderFacts.{renders_stay}
use Rattle.device_laws.proofs.StandingFacts.{found}
use Rattle.device_laws.proofs.StandingSteps.{others_stand}
use Rattle.device_laws.proofs.UnmapSteps.{unmap_lent}
use Rattle.device_laws.specs.FlightMoves.{moves_flights}
use Rattle.device_laws.specs.Flown.{Flown, runs_of}
use Rattle.device_laws.specs.FramesStand.{FramesStand, LeavesBut, without_pictures}
use Rattle.device_laws.specs.Lent.{AreLent, IsLent, loan_in}
use Rattle.device_laws.specs.SameFrames.{PictureShape, SameFrames, shape_of_picture}
use Rattle.device_laws.specs.Standing.{pictures_left}

-- frames that are the same, with the same loans
same_lent : (history : History) (old new : List Finished) → map shape_of_picture new ≡ map shape_of_picture old → map (λ p. p.loans) new ≡ map (λ p. p.loans) old → AreLent history old → AreLent history new
same_lent history [] [] shapes loans lent = tt
same_lent history [] (q ∷ new) shapes loans lent = absurd cc
same_lent history (p ∷ old) [] shapes loans lent = absurd cc
same_lent history (p ∷ old) (q ∷ new) shapes loans lent =
    let shape : shape_of_picture q ≡ shape_of_picture p = cc in
    let more : map shape_of_picture new ≡ map shape_of_picture old = cc in
    let loan : q.loans ≡ p.loans = cc in
    let more_loans : map (λ (p : Finished). p.loans) new ≡ map (λ (p : Finished). p.loans) old = cc in (
      record {
        count = ap length loan ∙ lent.0.count;
        loans = λ c.
            ap (λ ls. loan_of ls c) loan ∙ lent.0.loans c
            ∙ ap (λ h. loan_in (mapped_at (after history) h) c) (sym (ap (λ (s : PictureShape). s.frame) shape));
      },
      same_lent history old new more more_loans lent.1,
    )

pub same_kept : (history : History) (old new : Future) → SameFrames old new → map (λ p. p.loans) new.pictures ≡ map (λ p. p.loans) old.pictures → FramesStand history old → FramesStand history new
same_kept history old new same loans stand = record {
  open_ = stand.open_;
  stands = same_stands history old new same stand.stands;
  shows = same_renders history old new same stand.shows;
  lent = same_lent history old.pictures new.pictures same.pictures loans stand.lent;
}

-- frames that are the same but for the loans of one picture, by a call that moves no flight
loan_kept : (history : History) (actor : ℕ) (call : Call) (r : Reply) (old new : Future) (dead : List ℕ) → moves_flights (Called actor call r) ≡ false → SameFrames old new → Flown history (runs_of old.flights) →
    LeavesBut history (Called actor call r) dead → FramesStand history old → AreLent (history ++ Called actor call r ∷ []) (pictures_left (λ h. not (has h dead)) new.pictures) →
    FramesStand (history ++ Called actor call r ∷ []) (without_pictures new dead)
loan_kept history actor call r old new dead still same flown leaves stand lent =
    stands_without (history ++ Called actor call r ∷ []) new dead (called_open history actor call r stand.open_)
    (others_stand history (Called actor call r) (λ h. not (has h dead)) (runs_of new.flights) new.pictures still leaves (same_stands history old new same stand.stands))
    (same_renders (history ++ Called actor call r ∷ []) old new same (renders_stay history (Called actor call r ∷ []) old flown stand.stands stand.shows)) lent

-- each frame has one picture at most
one_picture : (s : Future) (f : ℕ) → IsKept s → count_by (is_picture_of f) s.pictures ≤ 1
one_picture s f kept = let single : count_by (is_flight_of f) s.flights + count_by (is_picture_of f) s.pictures ≤ 1 = kept.single f in omega (arith, single)

frame_is : (history : History) (s : Future) (f : ℕ) (p : Finished) → AreLent history s.pictures → shown_by s f ≡ Some p → p.frame ≡ f
frame_is history s f p lent shown = eqb-true p.frame f (found (IsLent history) (is_picture_of f) s.pictures p lent shown).1

pub map_kept : (history : History) (actor f : ℕ) (c : Channel) (width height : ℕ) (t : DataType) (rows : List ℕ) (s : Future) (p : Finished) (dead : List ℕ) →
    Legal (history ++ Called actor (MapFrame f c) (reply.Mapped width height t rows) ∷ []) → IsKept s → shown_by s f ≡ Some p → Flown history (runs_of s.flights) →
    LeavesBut history (Called actor (MapFrame f c) (reply.Mapped width height t rows)) dead → FramesStand history s →
    FramesStand (history ++ Called actor (MapFrame f c) (reply.Mapped width height t rows) ∷ []) (without_pictures (with_picture s (lent_as p c (length history + 1))) dead)
map_kept history actor f c width height t rows s p dead legal kept shown flown leaves stand =
    loan_kept history actor (MapFrame f c) (reply.Mapped width height t rows) s (with_picture s (lent_as p c (length history + 1))) dead refl
    (picture_replaced s p (lent_as p c (length history + 1)) (ap (shown_by s) frame ∙ shown) refl) flown leaves stand
    (subst (λ h. AreLent (history ++ Called actor (MapFrame f c) (reply.Mapped width height t rows) ∷ []) (pictures_left (λ h. not (has h dead)) (replaced (is_picture_of h) (lent_as p c (length history + 1)) s.pictures)))
    (sym frame)
    (map_lent history actor f c width height t rows (λ h. not (has h dead)) p s.pictures legal leaves stand.stands.shown (one_picture s f kept) shown stand.lent))
  where
    frame : p.frame ≡ f
    frame = frame_is history s f p stand.lent shown

pub unmap_kept : (history : History) (actor f number : ℕ) (c : Channel) (s : Future) (p : Finished) (dead : List ℕ) → Legal history → IsKept s → shown_by s f ≡ Some p → loan_of p.loans c ≡ Some number →
    Flown history (runs_of s.flights) → LeavesBut history (Called actor (UnmapFrame f number) reply.Done) dead → FramesStand history s →
    FramesStand (history ++ Called actor (UnmapFrame f number) reply.Done ∷ []) (without_pictures (loan_ended s f c) dead)
unmap_kept history actor f number c s p dead legal kept shown out flown leaves stand =
    subst (λ x. FramesStand (history ++ Called actor (UnmapFrame f number) reply.Done ∷ []) (without_pictures (option_map_or (λ p. with_picture s (given_back p c)) x s) dead)) (sym shown)
    (loan_kept history actor (UnmapFrame f number) reply.Done s (with_picture s (given_back p c)) dead refl
    (picture_replaced s p (given_back p c) (ap (shown_by s) frame ∙ shown) refl) flown leaves stand
    (subst (λ h. AreLent (history ++ Called actor (UnmapFrame f number) reply.Done ∷ []) (pictures_left (λ h. not (has h dead)) (replaced (is_picture_of h) (given_back p c) s.pictures))) (sym frame)
    (unmap_lent history actor f number c (λ h. not (has h dead)) p s.pictures legal leaves stand.stands.shown (one_picture s f kept) shown out stand.lent)))
  where
    frame : p.frame ≡ f
    frame = frame_is history s f p stand.lent shown

-- What goes with calls of all kinds and comes back of them.
use Rattle.std.proofs.Common.{◌≡◌, ◌∙◌, ◌+◌, ◌∷◌, ℕ, Bool, false, true, List, [], length, Option, None, Some, ap, refl, subst, sym, if◌then◌else◌}
use Rattle.std.specs.List.{AllByRecursion}
use Rattle.std.specs.Option.{option_map}
use Rattle.std.proofs.lemmas.Bool.{eqb-true}
use Rattle.answered_calls.specs.Tells.{with_given}
use Rattle.dev_types.specs.declared.handles.Channel.{Channel}
use Rattle.dev_types.specs.declared.refusals.Refused.{Refused}
use Rattle.dev_types.specs.declared.refusals.Refused.TheVariants.{InFlight}
use Rattle.device_laws.proofs.StandingFacts.{found}
use Rattle.frame_future.specs.Future.{Finished, Future, is_picture_of}
use Rattle.frame_future.specs.Mapped.{Mapped}
use Rattle.object_steps.specs.Applying.{tells_of_flights}
use Rattle.object_steps.specs.Carrying.{Brings, handed}
use Rattle.object_steps.specs.declared.array_loans.ArrayLoan.{ArrayLoan}
use Rattle.object_steps.specs.declared.array_loans.ArrayLoan.TheVariants as loan
use Rattle.seq_model.specs.Answers.{answer}
use Rattle.seq_model.specs.Contents.{entered}
use Rattle.seq_model.specs.State.{State}
use Rattle.seq_model.specs.Steps.{Past}
use Rattle.seq_model.specs.Told.{source_of}
use Rattle.seq_model.specs.declared.calls.Call.{Call}
use Rattle.seq_model.specs.declared.calls.Call.TheVariants.{FrameReady, MapArray, MapFrame, MapParameterArray, RenderFrame, UnmapArray, UnmapFrame, UnmapParameterArray}
use Rattle.seq_model.specs.declared.calls.Reply.{Reply}
use Rattle.seq_model.specs.declared.calls.Reply.TheVariants as reply
use Rattle.device_parts.specs.AllParts.{Inside}
use Rattle.device_parts.specs.Asks.{HasMappedOrStayed}
use Rattle.device_parts.specs.Calls.{AreMoved, move_of}
use Rattle.device_parts.specs.Looks.{given_of}
use Rattle.device_parts.specs.Maps.{TellsLoan, is_refused}
use Rattle.device_parts.specs.Makes.{BringsFrame, Hands, IsMoved, LeavesFrame, LendsChannel, array_of, frame_left, frame_of, joined, told_as}
use Rattle.device_parts.specs.declared.handed.Handed.{Handed}
use Rattle.device_parts.specs.declared.handed.Handed.TheVariants as handed

-- parted and joined again it is as it was
pub joined_again : (with : Handed) → joined (array_of with) (frame_of with) ≡ with
joined_again handed.Nothing = refl
joined_again (handed.Lent l) = refl
joined_again (handed.Param l) = refl
joined_again (handed.Frame m) = refl

pub array_joined : (array : ArrayLoan) (frame : Option Mapped) → array_of (joined array frame) ≡ array
array_joined loan.Nothing None = refl
array_joined loan.Nothing (Some m) = refl
array_joined (loan.Lent l) frame = refl
array_joined (loan.Param l) frame = refl

-- the loan of a channel stays where there is none of an array
pub frame_joined : (array : ArrayLoan) (frame : Option Mapped) → array ≡ loan.Nothing → frame_of (joined array frame) ≡ frame
frame_joined loan.Nothing None is = refl
frame_joined loan.Nothing (Some m) is = refl
frame_joined (loan.Lent l) frame is = absurd cc
frame_joined (loan.Param l) frame is = absurd cc

frame_joined_none : (array : ArrayLoan) → frame_of (joined array None) ≡ None
frame_joined_none loan.Nothing = refl
frame_joined_none (loan.Lent l) = refl
frame_joined_none (loan.Param l) = refl

left_none : (r : Reply) → frame_left r None ≡ None
left_none (reply.Denied refused) = refl
left_none r = refl

-- a call with which the loan of a channel goes hands out no loan of an array
no_array : (past : Past) (place : ℕ) (call : Call) (r : Reply) (s : State) (m : Mapped) → BringsFrame call (Some m)
    → handed place (entered past call) r s loan.Nothing ≡ loan.Nothing
unfolding entered
no_array past place (UnmapFrame h number) (reply.Denied refused) s m brings = refl
no_array past place (UnmapFrame h number) r s m brings = refl
no_array past place call r s m brings = absurd brings

pub frame_kept : (past : Past) (place : ℕ) (call : Call) (r : Reply) (s : State) (with : Handed) (out : ArrayLoan) → Hands call with
    → out ≡ handed place (entered past call) r s (array_of with)
    → frame_of (joined out (frame_left r (frame_of with))) ≡ frame_left r (frame_of with)
frame_kept past place call r s (handed.Frame m) out hands is =
    frame_joined out (frame_left r (Some m)) (is ∙ no_array past place call r s m hands.1)
frame_kept past place call r s with out hands is = none_left (frame_of with) cc
  where
    none_left : (brought : Option Mapped) → brought ≡ None → frame_of (joined out (frame_left r brought)) ≡ frame_left r brought
    none_left None none = ap (λ x. frame_of (joined out x)) (left_none r) ∙ frame_joined_none out ∙ sym (left_none r)
    none_left (Some m) none = absurd cc

-- with a call that may tell of a flight nothing goes
hands_nothing : (place : ℕ) (call : Call) (r : Reply) (s : State) → tells_of_flights call ≡ true → handed place call r s loan.Nothing ≡ loan.Nothing
hands_nothing place call (reply.Denied refused) s tells = refl
hands_nothing place (MapArray h) r s tells = absurd cc
hands_nothing place (MapParameterArray h name elem count) r s tells = absurd cc
hands_nothing place call r s tells = refl

-- a call that may tell of a flight is entered as it was made
pub entered_same : (past : Past) (call : Call) → tells_of_flights call ≡ true → entered past call ≡ call
unfolding entered
entered_same past (UnmapArray h number bytes) tells = absurd cc
entered_same past (UnmapParameterArray h name number bytes) tells = absurd cc
entered_same past call tells = refl

pub entered_as : (past : Past) (call made : Call) → call ≡ made → tells_of_flights made ≡ true → entered past call ≡ made
entered_as past call made is tells = ap (entered past) is ∙ entered_same past made tells

-- its reply tells what the last look read
pub told_of_flight : (s : Future) (past : Past) (call made : Call) (r : Reply) → call ≡ made → tells_of_flights made ≡ true
    → option_map (with_given (given_of s (source_of made))) (answer past made) ≡ Some r
    → option_map (told_as s call) (answer past (entered past call)) ≡ Some r
told_of_flight s past call made r is tells told =
    subst (λ k. option_map (told_as s k) (answer past (entered past k)) ≡ Some r) (sym is)
    (ap (λ k. option_map (told_as s made) (answer past k)) (entered_same past made tells)
    ∙ ap (λ b. option_map (λ r. if b then with_given (given_of s (source_of made)) r else r) (answer past made)) tells
    ∙ told)

nothing_brought : (call : Call) (with : ArrayLoan) → tells_of_flights call ≡ true → Brings call with → with ≡ loan.Nothing
nothing_brought (UnmapArray h number bytes) with tells brings = absurd cc
nothing_brought (UnmapParameterArray h name number bytes) with tells brings = absurd cc
nothing_brought call with tells brings = brings

-- and no loan of an array stands in its answer: none was brought
pub array_left : (past : Past) (place : ℕ) (call made : Call) (with : Handed) (r : Reply) (s : State) → call ≡ made → tells_of_flights made ≡ true
    → Hands call with → array_of with ≡ handed place (entered past call) r s (array_of with)
array_left past place call made with r s is tells hands =
    let made_tells : tells_of_flights call ≡ true = ap tells_of_flights is ∙ tells in
    let none : array_of with ≡ loan.Nothing = nothing_brought call (array_of with) made_tells hands.0 in
    let quiet : tells_of_flights (entered past call) ≡ true = ap tells_of_flights (entered_same past call made_tells) ∙ made_tells in
    none ∙ sym (hands_nothing place (entered past call) r s quiet) ∙ ap (handed place (entered past call) r s) (sym none)

-- the reply to any other call tells of none
pub answered_plain : (s : Future) (past : Past) (call : Call) (r : Reply) → tells_of_flights call ≡ false
    → answer past (entered past call) ≡ Some r → option_map (told_as s call) (answer past (entered past call)) ≡ Some r
answered_plain s past call r quiet is =
    ap (option_map (told_as s call)) is ∙ ap (λ b. Some (if b then with_given (given_of s (source_of call)) r else r)) quiet

pub moved_plain : (call : Call) (r : Reply) (out : Option Mapped) (old new : Inside) → tells_of_flights call ≡ false
    → AreMoved (move_of call r) old new → IsMoved call r out old new
moved_plain (RenderFrame h) r out old new quiet moved = absurd cc
moved_plain (MapFrame h channel) r out old new quiet moved = absurd cc
moved_plain call r out old new quiet moved = moved

pub leaves_plain : (call : Call) (r : Reply) (brought out : Option Mapped) → tells_of_flights call ≡ false
    → out ≡ frame_left r brought → LeavesFrame call r brought out
leaves_plain (MapFrame h channel) r brought out quiet is = absurd cc
leaves_plain call r brought out quiet is = is

-- with which no loan of a channel went
pub left_of_none : (call : Call) (r : Reply) (brought : Option Mapped) → tells_of_flights call ≡ true → BringsFrame call brought → brought ≡ frame_left r brought
left_of_none call r None tells brings = sym (left_none r)
left_of_none (UnmapFrame h number) r (Some m) tells brings = absurd cc
left_of_none call r (Some m) tells brings = absurd brings

pub none_goes : (call made : Call) (with : Handed) → call ≡ made → tells_of_flights made ≡ true → Hands call with → array_of with ≡ loan.Nothing
none_goes call made with is tells hands = nothing_brought call (array_of with) (ap tells_of_flights is ∙ tells) hands.0

-- the other calls tell of no flight
pub is_quiet : (call : Call) → ((h : ℕ) → call ≡ RenderFrame h → ⊥) → ((h : ℕ) (wait : Bool) → call ≡ FrameReady h wait → ⊥)
    → ((h : ℕ) (channel : Channel) → call ≡ MapFrame h channel → ⊥) → tells_of_flights call ≡ false
is_quiet (RenderFrame h) renders asks maps = absurd (renders h refl)
is_quiet (FrameReady h wait) renders asks maps = absurd (asks h wait refl)
is_quiet (MapFrame h channel) renders asks maps = absurd (maps h channel refl)
is_quiet call renders asks maps = refl

any_of : (ps : List Finished) → AllByRecursion (λ p. Unit {0}) ps
any_of [] = tt
any_of (p ∷ ps) = (tt, any_of ps)

-- what a map lends is of the frame and the channel that were asked for
pub lends_channel : (h : ℕ) (channel : Channel) (out : Option Mapped) (r : Reply) (old new : Inside) → HasMappedOrStayed h channel out old new → TellsLoan out r
    → LendsChannel (length old.history + 1) (MapFrame h channel) r out
lends_channel h channel None r old new moved tells = tells
lends_channel h channel (Some loan) r old new moved tells =
    let is = moved.lent.loan_is in
    let frame : moved.lent.picture.frame ≡ h = eqb-true moved.lent.picture.frame h
    (found (λ p. Unit {0}) (is_picture_of h) old.flights.future.pictures moved.lent.picture (any_of old.flights.future.pictures) moved.lent.shown).1 in
    (tells, ap (λ (m : Mapped). m.frame) is ∙ frame, ap (λ (m : Mapped). m.channel) is, ap (λ (m : Mapped). m.number) is)

pub lends_none : (place : ℕ) (call : Call) (r : Reply) (out : Option Mapped) → tells_of_flights call ≡ false → LendsChannel place call r out
lends_none place (MapFrame h channel) r out quiet = absurd cc
lends_none place call r out quiet = tt

-- a refusal stays one, whatever is told with it
pub still_refused : (given : ℕ) (refused : Refused) → is_refused (with_given given (reply.Denied refused)) ≡ true
still_refused given (InFlight read of) = refl
still_refused given refused = refl

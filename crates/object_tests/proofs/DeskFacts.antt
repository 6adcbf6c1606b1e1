-- What holds at a desk: at first, and with one call more.
use Rattle.std.proofs.Common.{ℕ, zero, suc, ◌≡◌, ◌∙◌, true, [], Option, Some, None, refl, sym, ap, subst, arith}
use Rattle.std.specs.Option.{MatchOption, option_and_then, unwrap_or}
use Rattle.std.proofs.lemmas.Option.{slice_get_within, unwrap_or-slice_get}
use Rattle.std.specs.Prelude.{slice_get}
use Rattle.past_laws.specs.Open.{IsOpen}
use Rattle.past_laws.proofs.RenderFacts.{was_rendered}
use Rattle.seq_model.specs.Contents.{entered}
use Rattle.seq_model.specs.Extensions.{let_follow, let_follow_from}
use Rattle.seq_model.specs.Histories.{History, frame_at, rendered}
use Rattle.seq_model.specs.Refusals.{phase_at}
use Rattle.seq_model.specs.State.{Phase, Empty, Flight, Done, empty}
use Rattle.seq_model.specs.Steps.{Past, after}
use Rattle.seq_model.specs.Tickets.{ticket_of}
use Rattle.seq_model.specs.declared.calls.Call.{Call}
use Rattle.seq_model.specs.declared.calls.Call.TheVariants.{RenderFrame, UnmapArray, UnmapParameterArray}
use Rattle.seq_model.specs.declared.calls.Entry.{Entry}
use Rattle.seq_model.specs.declared.calls.Entry.TheVariants.{Called}
use Rattle.seq_model.specs.declared.calls.Reply.{Reply}
use Rattle.seq_model.proofs.Afters.{seen_is_history}
use Rattle.object_steps.specs.Applying.{is_object_call}
use Rattle.object_steps.specs.Objects.{Objects, tellable}
use Rattle.object_steps.proofs.Starts.{rests_first}
use Rattle.object_tests.specs.Desks.{IsDesk, RendersNothing}

-- a call may be the first
open_first : IsOpen []
unfolding let_follow let_follow_from
open_first actor call r = refl

pub first : (o : Objects) (spare : ℕ) → o.stored.state ≡ empty → o.stored.public ≡ [] → o.stored.holds ≡ [] → o.dead ≡ [] → IsDesk o [] spare
first o spare state public holds none = record {
  rests = rests_first o.stored state public holds;
  may_follow = open_first;
  none = none;
  room = let no_array : tellable o.stored.state ≡ 0 = ap tellable state in omega (arith, no_array);
}

-- a call on objects renders nothing, as it is entered
no_render : (past : Past) (actor : ℕ) (call : Call) (r : Reply) → is_object_call call ≡ true → rendered (Called actor (entered past call) r) ≡ None
unfolding entered
no_render past actor (RenderFrame h) r is = absurd cc
no_render past actor (UnmapArray h number bytes) r is = refl
no_render past actor (UnmapParameterArray h name number bytes) r is = refl
no_render past actor _ r is = refl

pub renders_none : (past : Past) (actor : ℕ) (call entry : Call) (r : Reply) → entry ≡ entered past call → is_object_call call ≡ true → rendered (Called actor entry r) ≡ None
renders_none past actor call entry r is object = ap (λ c. rendered (Called actor c r)) is ∙ no_render past actor call r object

-- where nothing is rendered no frame has anything to show
none_rendered : (history : History) → RendersNothing history → (i : ℕ) → option_and_then rendered (slice_get history i) ≡ None
none_rendered history all i = by (slice_get history i) refl
  where
    by : (x : Option Entry) → slice_get history i ≡ x → option_and_then rendered x ≡ None
    by None is = refl
    by (Some e) is =
        subst (λ x. rendered x ≡ None) (sym (unwrap_or-slice_get history i e) ∙ ap (λ x. unwrap_or x e) is) (all i e (slice_get_within history i e is))

no_frame : (history : History) → RendersNothing history → (t : ℕ) → frame_at history t ≡ None
unfolding frame_at
no_frame history all zero = refl
no_frame history all (suc i) = none_rendered history all i

pub shows_nothing : (history : History) → RendersNothing history → (h : ℕ) → phase_at (after history) h ≡ Empty
shows_nothing history all h =
    by (phase_at (after history) h) (was_rendered (after history) (ap after (sym (seen_is_history history))) h)
  where
    none_at : (t : ℕ) → frame_at (after history).seen t ≡ Some h → ⊥
    none_at t is = let none : None ≡ Some h = sym (no_frame history all t) ∙ ap (λ (seen : History). frame_at seen t) (sym (seen_is_history history)) ∙ is in absurd cc

    by : (phase : Phase) → MatchOption (ticket_of phase) (Unit {0}) (λ t. frame_at (after history).seen t ≡ Some h) → phase ≡ Empty
    by Empty was = refl
    by (Flight t) was = absurd (none_at t was)
    by (Done t) was = absurd (none_at t was)

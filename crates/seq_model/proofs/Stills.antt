-- A call that was refused, a ready and a query change nothing.
use Rattle.std.proofs.Common.{ℕ, ◌+◌, ◌≡◌, ◌∙◌, Bool, false, List, [], ◌∷◌, ◌++◌, None, refl, ap, arith}
use Rattle.std.specs.Prelude.{cond, count_by}
use Rattle.std.proofs.lemmas.List.Sums.{fold_push}
use Rattle.seq_model.proofs.Afters.{after_more}
use Rattle.seq_model.proofs.Sweeps.{is_swept}
use Rattle.seq_model.specs.Histories.{History, is_making, is_releasing, is_retaining, public, rendered}
use Rattle.seq_model.specs.Life.{is_root, live}
use Rattle.seq_model.specs.State.{State}
use Rattle.seq_model.specs.Steps.{Past, after, change, effect, is_reached, next_place, step, swept, with_reach}
use Rattle.seq_model.specs.declared.calls.Call.{Call}
use Rattle.seq_model.specs.declared.calls.Call.TheVariants.{Retain, FrameReady, GetProperty, Subtypes, ObjectInfo, ParameterInfo}
use Rattle.seq_model.specs.declared.calls.Entry.{Entry}
use Rattle.seq_model.specs.declared.calls.Entry.TheVariants.{Called}
use Rattle.seq_model.specs.declared.calls.Reply.{Reply}
use Rattle.seq_model.specs.declared.calls.Reply.TheVariants as reply
use Rattle.dev_types.specs.declared.data_types.DataType.{DataType}
use Rattle.dev_types.specs.declared.refusals.Refused.{Refused}

-- an entry that changes neither the state nor a count of public references, and renders nothing
pub record IsStill (e : Entry) : Type 0 where
  pub shows : rendered e ≡ None
  pub stays : (place : ℕ) (s : State) → change place e s ≡ s
  pub makes : (h : ℕ) → is_making h e ≡ false
  pub retains : (h : ℕ) → is_retaining h e ≡ false
  pub releases : (h : ℕ) → is_releasing h e ≡ false

count_by_more : (p : Entry → Bool) (history : History) (e : Entry) → p e ≡ false → count_by p (history ++ e ∷ []) ≡ count_by p history
count_by_more p history e fails =
    fold_push (λ n x. n + cond (p x) 1 0) 0 history e ∙ ap (λ t. count_by p history + cond t 1 0) fails ∙ (let none : count_by p history + 0 ≡ count_by p history = omega arith in none)

public_more : (history : History) (e : Entry) → IsStill e → (h : ℕ) → public (history ++ e ∷ []) h ≡ public history h
unfolding public
public_more history e still h =
    let made : count_by (is_making h) (history ++ e ∷ []) ≡ count_by (is_making h) history = count_by_more (is_making h) history e (still.makes h) in
    let retained : count_by (is_retaining h) (history ++ e ∷ []) ≡ count_by (is_retaining h) history = count_by_more (is_retaining h) history e (still.retains h) in
    let released : count_by (is_releasing h) (history ++ e ∷ []) ≡ count_by (is_releasing h) history = count_by_more (is_releasing h) history e (still.releases h) in
    cc

-- the state after a still entry is the state before it, where that one was swept
still_step : (past : Past) (e : Entry) → IsStill e → swept past.seen past.reached past.state ≡ past.state → (step past e).state ≡ past.state
unfolding step swept with_reach
still_step past e still clean =
    ap (λ s. swept (past.seen ++ e ∷ []) (with_reach (next_place past) (rendered e) past.state past.reached) s) (still.stays (next_place past) past.state)
    ∙ ap (λ r. swept (past.seen ++ e ∷ []) (with_reach (next_place past) r past.state past.reached) past.state) still.shows
    ∙ no_render
    ∙ ap (λ (public : ℕ → ℕ). record past.state { objects = live (is_root public (is_reached past.reached past.state)) past.state.objects }) (λ i h. public_more past.seen e still h i)
    ∙ clean
  where
    no_render : swept (past.seen ++ e ∷ []) (with_reach (next_place past) None past.state past.reached) past.state ≡ swept (past.seen ++ e ∷ []) past.reached past.state
    no_render = ap (λ reached. swept (past.seen ++ e ∷ []) reached past.state) (none (next_place past) past.state past.reached)
      where
        none : (place : ℕ) (s : State) (reached : List (ℕ × List ℕ)) → with_reach place None s reached ≡ reached
        none place s reached = refl

pub still_keeps : (history : History) (e : Entry) → IsStill e → (after (history ++ e ∷ [])).state ≡ (after history).state
still_keeps history e still = ap (λ (past : Past). past.state) (after_more history e) ∙ still_step (after history) e still (is_swept history)

-- which entries are still
refused_is_still : (actor : ℕ) (call : Call) (refused : Refused) → IsStill (Called actor call (reply.Denied refused))
unfolding change effect
refused_is_still actor (Retain h) refused = record { shows = refl; stays = λ place s. refl; makes = λ h. refl; retains = λ h. refl; releases = λ h. refl }
refused_is_still actor _ refused = record { shows = refl; stays = λ place s. refl; makes = λ h. refl; retains = λ h. refl; releases = λ h. refl }

ready_is_still : (actor h : ℕ) (wait : Bool) (r : Reply) → IsStill (Called actor (FrameReady h wait) r)
unfolding change effect
ready_is_still actor h wait r = record { shows = refl; stays = λ place s. refl; makes = λ h. refl; retains = λ h. refl; releases = λ h. refl }

property_is_still : (actor h : ℕ) (name : List ℕ) (r : Reply) → IsStill (Called actor (GetProperty h name) r)
unfolding change effect
property_is_still actor h name r = record { shows = refl; stays = λ place s. refl; makes = λ h. refl; retains = λ h. refl; releases = λ h. refl }

subtypes_is_still : (actor : ℕ) (t : DataType) (r : Reply) → IsStill (Called actor (Subtypes t) r)
unfolding change effect
subtypes_is_still actor t r = record { shows = refl; stays = λ place s. refl; makes = λ h. refl; retains = λ h. refl; releases = λ h. refl }

object_info_is_still : (actor : ℕ) (t : DataType) (subtype : List ℕ) (r : Reply) → IsStill (Called actor (ObjectInfo t subtype) r)
unfolding change effect
object_info_is_still actor t subtype r = record { shows = refl; stays = λ place s. refl; makes = λ h. refl; retains = λ h. refl; releases = λ h. refl }

parameter_info_is_still : (actor : ℕ) (t : DataType) (subtype name : List ℕ) (r : Reply) → IsStill (Called actor (ParameterInfo t subtype name) r)
unfolding change effect
parameter_info_is_still actor t subtype name r = record { shows = refl; stays = λ place s. refl; makes = λ h. refl; retains = λ h. refl; releases = λ h. refl }

pub refused_changes_nothing : (history : History) (actor : ℕ) (call : Call) (refused : Refused) → (after (history ++ Called actor call (reply.Denied refused) ∷ [])).state ≡ (after history).state
refused_changes_nothing history actor call refused = still_keeps history (Called actor call (reply.Denied refused)) (refused_is_still actor call refused)

pub ready_changes_nothing : (history : History) (actor h : ℕ) (wait : Bool) (r : Reply) → (after (history ++ Called actor (FrameReady h wait) r ∷ [])).state ≡ (after history).state
ready_changes_nothing history actor h wait r = still_keeps history (Called actor (FrameReady h wait) r) (ready_is_still actor h wait r)

pub property_changes_nothing : (history : History) (actor h : ℕ) (name : List ℕ) (r : Reply) → (after (history ++ Called actor (GetProperty h name) r ∷ [])).state ≡ (after history).state
property_changes_nothing history actor h name r = still_keeps history (Called actor (GetProperty h name) r) (property_is_still actor h name r)

pub subtypes_changes_nothing : (history : History) (actor : ℕ) (t : DataType) (r : Reply) → (after (history ++ Called actor (Subtypes t) r ∷ [])).state ≡ (after history).state
subtypes_changes_nothing history actor t r = still_keeps history (Called actor (Subtypes t) r) (subtypes_is_still actor t r)

pub object_info_changes_nothing : (history : History) (actor : ℕ) (t : DataType) (subtype : List ℕ) (r : Reply) → (after (history ++ Called actor (ObjectInfo t subtype) r ∷ [])).state ≡ (after history).state
object_info_changes_nothing history actor t subtype r = still_keeps history (Called actor (ObjectInfo t subtype) r) (object_info_is_still actor t subtype r)

pub parameter_info_changes_nothing : (history : History) (actor : ℕ) (t : DataType) (subtype name : List ℕ) (r : Reply) → (after (history ++ Called actor (ParameterInfo t subtype name) r ∷ [])).state ≡ (after history).state
parameter_info_changes_nothing history actor t subtype name r = still_keeps history (Called actor (ParameterInfo t subtype name) r) (parameter_info_is_still actor t subtype name r)

-- What is held is there: an object that is gone has no public reference, as long as the device is open.
use Rattle.std.proofs.Common.{ℕ, ◌+◌, ◌≡◌, ◌<◌, ◌≤◌, ◌∙◌, ◌⊎◌, inl, inr, Bool, true, false, [], ◌∷◌, ◌++◌, Option, Some, None, refl, sym, ap, subst, append_assoc, arith}
use Rattle.std.specs.Prelude.{cond, nat_lt}
use Rattle.std.specs.Option.{option_map, option_map_or, unwrap_or}
use Rattle.std.proofs.lemmas.Bool.{cases_eq, cases_lt, cond-false, eqb-true, lt-ltb, or_left}
use Rattle.kind_tables.specs.Kinds.{kind_of}
use Rattle.kind_tables.specs.declared.kinds.Kind.{Kind}
use Rattle.seq_model.proofs.Afters.{grows_by}
use Rattle.seq_model.proofs.Came.{stop_objects}
use Rattle.seq_model.proofs.Changes.{AreLike, Change, Quiet, Making, Rendering, Discarding, Finishing, Leaving, Closing, changed_here, entry_changes, others_unchanged}
use Rattle.seq_model.proofs.Creations.{kind_is_there, made_handle}
use Rattle.seq_model.proofs.Deaths.{left_at, rises_by}
use Rattle.seq_model.proofs.Granted.{AllNone, all_none, given}
use Rattle.seq_model.proofs.Growths.{lives_from, root_is_in}
use Rattle.seq_model.proofs.Handles.{rises}
use Rattle.seq_model.proofs.Keys.{at, at_map}
use Rattle.seq_model.proofs.Prefixes.{in_place, prefix_is_legal}
use Rattle.seq_model.proofs.Publics.{public_moves}
use Rattle.seq_model.proofs.SoundHistories.{new_is_there, there_with}
use Rattle.seq_model.proofs.SoundSteps.{is_alive}
use Rattle.seq_model.specs.Deaths.{changed_by, lives_itself}
use Rattle.seq_model.specs.Histories.{History, is_making, is_releasing, is_retaining, public}
use Rattle.seq_model.specs.Legal.{Legal}
use Rattle.seq_model.specs.Life.{is_root}
use Rattle.seq_model.specs.Refusals.{own, refusal, refusals_of}
use Rattle.seq_model.specs.State.{Object, Phase, Empty, Flight, Done, State, changed_at, object_at, with_object}
use Rattle.seq_model.specs.Steps.{Past, after, change, discard, effect, end_flight, end_flights, fresh, fresh_array, next_place, set_phase}
use Rattle.seq_model.specs.declared.calls.Call.TheVariants.{NewObject, NewArray, Retain}
use Rattle.seq_model.specs.declared.calls.Entry.{Entry}
use Rattle.seq_model.specs.declared.calls.Entry.TheVariants.{Called, Finished, Left, Closed}
use Rattle.seq_model.specs.declared.calls.Reply.TheVariants as reply

-- something is there
abbrev IsThere : State → ℕ → Type 0
IsThere s h = (o : Object) × (object_at s h ≡ Some o)

-- an object is there after each change but the close
like_there : (s t : State) (h : ℕ) (x y : Option Object) → object_at s h ≡ x → object_at t h ≡ y → AreLike x y → IsThere s h → IsThere t h
like_there s t h x (Some o) was is like there = (o, is)
like_there s t h None None was is like there = let none : None ≡ Some there.0 = sym was ∙ there.1 in absurd cc
like_there s t h (Some o) None was is like there = absurd like

set_there : (k h : ℕ) (phase : Phase) (s : State) → IsThere s h → IsThere (changed_at k (set_phase phase) s) h
set_there k h phase s there = by (cases_eq h k)
  where
    by : (h ≡ k) ⊎ (h ≡ k → ⊥) → IsThere (changed_at k (set_phase phase) s) h
    by (inl same) =
        (set_phase phase there.0, ap (object_at (changed_at k (set_phase phase) s)) same ∙ changed_here k (set_phase phase) s ∙ ap (option_map (set_phase phase)) (ap (object_at s) (sym same) ∙ there.1))
    by (inr apart) = (there.0, others_unchanged k h (set_phase phase) s apart ∙ there.1)

discard_there : (k h : ℕ) (s : State) → IsThere s h → IsThere (discard k s) h
unfolding discard
discard_there k h s there =
    let set : IsThere (changed_at k (set_phase Empty) s) h = set_there k h Empty s there in
    (set.0, ap (at h) (stop_objects (option_map_or (λ o. o.phase) (object_at s k) Empty) (changed_at k (set_phase Empty) s)) ∙ set.1)

end_there : (u h : ℕ) (phase : Phase) (s : State) → IsThere s h → (o : Object) × (at h (end_flights u phase s).objects ≡ Some o)
unfolding end_flights
end_there u h phase s there = (end_flight u phase there.0, at_map (end_flight u phase) h s.objects ∙ ap (option_map (end_flight u phase)) there.1)

is_close : Entry → Bool
is_close Closed = true
is_close _ = false

still_there : (place : ℕ) (e : Entry) (s t : State) (h : ℕ) → Change place e s t → is_close e ≡ false → IsThere s h → IsThere t h
unfolding is_close
still_there place e s t h (Quiet shows takes quiet) open_ there = like_there s t h (object_at s h) (object_at t h) refl refl (quiet.like h) there
still_there place e s t h (Making o u shows takes phase quiet is) open_ there =
    let old : IsThere u h = like_there s u h (object_at s h) (object_at u h) refl refl (quiet.like h) there in
    (old.0, ap (λ t. object_at t h) is ∙ there_with o u h old.0 old.1)
still_there place e s t h (Rendering k shows takes is) open_ there = subst (λ t. IsThere t h) (sym is) (set_there k h (Flight place) s there)
still_there place e s t h (Discarding k shows takes is) open_ there = subst (λ t. IsThere t h) (sym is) (discard_there k h s there)
still_there place e s t h (Finishing u entry is) open_ there = let ended = end_there u h (Done u) s there in (ended.0, ap (λ t. object_at t h) is ∙ ended.1)
still_there place e s t h (Leaving u entry is) open_ there = let ended = end_there u h Empty s there in (ended.0, ap (λ t. object_at t h) is ∙ ended.1)
still_there place e s t h (Closing entry is) open_ there = let closes : true ≡ false = sym (ap is_close entry) ∙ open_ in absurd cc

-- what is there after the change and goes is not held
goes_unheld : (history : History) (e : Entry) (h : ℕ) → IsThere (changed_by history e) h → object_at (after (history ++ e ∷ [])).state h ≡ None → public (history ++ e ∷ []) h ≡ 0
unfolding is_root
goes_unheld history e h there gone = by (cases_lt 0 (public (history ++ e ∷ []) h))
  where
    by : (0 < public (history ++ e ∷ []) h) ⊎ (public (history ++ e ∷ []) h ≤ 0) → public (history ++ e ∷ []) h ≡ 0
    by (inr none) = omega (arith, none)
    by (inl held) =
        let test : nat_lt 0 (public (history ++ e ∷ []) h) ≡ true = lt-ltb 0 (public (history ++ e ∷ []) h) held in
        let root : lives_itself history e (h, there.0) ≡ true = grind (arith, or_left) in
        let lives : object_at (after (history ++ e ∷ [])).state h ≡ Some there.0 =
        left_at history e h
        ∙ lives_from (lives_itself history e) 1 (changed_by history e).next (changed_by history e).objects (rises_by history e) h there.0
        (root_is_in (lives_itself history e) 1 (changed_by history e).next (changed_by history e).objects (rises_by history e) 10 h there.0 there.1 root) in
        let none : None ≡ Some there.0 = sym gone ∙ lives in absurd cc

-- what is made is there
made_there : (history : History) (e : Entry) (h : ℕ) → Legal (history ++ e ∷ []) → is_making h e ≡ true → IsThere (changed_by history e) h
unfolding change effect
made_there history (Called actor (NewObject t subtype) (reply.Made k)) h legal is =
    let next : h ≡ (after history).state.next = sym (eqb-true k h is) ∙ (made_handle history actor k (NewObject t subtype) legal).0 in
    let kind : (kind : Kind) × (kind_of t subtype ≡ Some kind) =
    kind_is_there (after history) t subtype (given (after history) (NewObject t subtype) (reply.Made k) (in_place history (Called actor (NewObject t subtype) (reply.Made k)) [] legal).0 (λ refused is. cc)).0 in (
      fresh kind.0 None,
      ap (λ x. object_at (unwrap_or (option_map (λ kind. with_object (fresh kind None) (after history).state) x) (after history).state) h) kind.1
          ∙ ap (object_at (with_object (fresh kind.0 None) (after history).state)) next ∙ new_is_there (fresh kind.0 None) (after history).state (rises history),
    )
made_there history (Called actor (NewArray elem count stride origin bytes) (reply.Made k)) h legal is =
    let next : h ≡ (after history).state.next = sym (eqb-true k h is) ∙ (made_handle history actor k (NewArray elem count stride origin bytes) legal).0 in (
      fresh_array elem count stride origin bytes,
      ap (object_at (with_object (fresh_array elem count stride origin bytes) (after history).state)) next ∙ new_is_there (fresh_array elem count stride origin bytes) (after history).state (rises history),
    )
made_there history (Called actor (NewObject t subtype) _) h legal is = absurd cc
made_there history (Called actor (NewArray elem count stride origin bytes) _) h legal is = absurd cc
made_there history (Called actor (Retain k) r) h legal is = absurd cc
made_there history (Called actor _ r) h legal is = absurd cc
made_there history (Finished t) h legal is = absurd cc
made_there history (Left t) h legal is = absurd cc
made_there history Closed h legal is = absurd cc

-- what is retained was there
alive : (past : Past) (h : ℕ) → refusal past (Retain h) ≡ None → IsThere past.state h
unfolding refusal refusals_of
alive past h none = let facts : AllNone (own past h) = all_none (own past h) none in is_alive past h facts.0

retained_there : (history : History) (e : Entry) (h : ℕ) → Legal (history ++ e ∷ []) → is_retaining h e ≡ true → IsThere (after history).state h
retained_there history (Called actor (Retain k) reply.Done) h legal is =
    subst (IsThere (after history).state) (eqb-true k h is)
    (alive (after history) k (given (after history) (Retain k) reply.Done (in_place history (Called actor (Retain k) reply.Done) [] legal).0 (λ refused is. cc)).0)
retained_there history (Called actor (Retain k) (reply.Made made)) h legal is = absurd cc
retained_there history (Called actor (Retain k) _) h legal is = absurd cc
retained_there history (Called actor (NewObject t subtype) r) h legal is = absurd cc
retained_there history (Called actor _ r) h legal is = absurd cc
retained_there history (Finished t) h legal is = absurd cc
retained_there history (Left t) h legal is = absurd cc
retained_there history Closed h legal is = absurd cc

-- nothing follows a close
was_open : (history : History) (e next : Entry) → Legal ((history ++ e ∷ []) ++ next ∷ []) → is_close e ≡ false
unfolding is_close
was_open history (Called actor call r) next legal = refl
was_open history (Finished t) next legal = refl
was_open history (Left t) next legal = refl
was_open history Closed next legal =
    let joined : (history ++ Closed ∷ []) ++ next ∷ [] ≡ history ++ Closed ∷ next ∷ [] = append_assoc history (Closed ∷ []) (next ∷ []) in
    let last : next ∷ [] ≡ [] = (in_place history Closed (next ∷ []) (subst Legal joined legal)).0 in absurd cc

abbrev OnlyHeldIfThere : History → Type 0
OnlyHeldIfThere history = (next : Entry) → Legal (history ++ next ∷ []) → (h : ℕ) → object_at (after history).state h ≡ None → public history h ≡ 0

held_more : (history : History) (e : Entry) → OnlyHeldIfThere history → OnlyHeldIfThere (history ++ e ∷ [])
held_more history e now next legal h gone = by (object_at (after history).state h) refl
  where
    here : Legal (history ++ e ∷ [])
    here = prefix_is_legal (history ++ e ∷ []) (next ∷ []) legal

    moves : public (history ++ e ∷ []) h + cond (is_releasing h e) 1 0 ≡ public history h + cond (is_making h e) 1 0 + cond (is_retaining h e) 1 0
    moves = public_moves history e h here

    quiet : (m r : Bool) → is_making h e ≡ m → is_retaining h e ≡ r → object_at (after history).state h ≡ None → public (history ++ e ∷ []) h ≡ 0
    quiet true r making retaining none = goes_unheld history e h (made_there history e h here making) gone
    quiet false true making retaining none =
        let was : IsThere (after history).state h = retained_there history e h here retaining in
        let wrong : None ≡ Some was.0 = sym none ∙ was.1 in absurd cc
    quiet false false making retaining none =
        let before : public history h ≡ 0 = now e here h none in
        let first : cond {A = ℕ} (is_making h e) 1 0 ≡ 0 = cond-false (is_making h e) 1 0 making in
        let second : cond {A = ℕ} (is_retaining h e) 1 0 ≡ 0 = cond-false (is_retaining h e) 1 0 retaining in
        omega (arith, moves, before, first, second)

    by : (x : Option Object) → object_at (after history).state h ≡ x → public (history ++ e ∷ []) h ≡ 0
    by None none = quiet (is_making h e) (is_retaining h e) refl refl none
    by (Some o) there =
        goes_unheld history e h
        (still_there (next_place (after history)) e (after history).state (changed_by history e) h (entry_changes (next_place (after history)) e (after history).state) (was_open history e next legal) (o, there)) gone

held_first : OnlyHeldIfThere []
unfolding public
held_first next legal h gone = refl

pub what_is_gone_is_not_held : (history : History) (next : Entry) (h : ℕ) → Legal (history ++ next ∷ []) → object_at (after history).state h ≡ None → public history h ≡ 0
what_is_gone_is_not_held history next h legal gone = grows_by OnlyHeldIfThere held_first held_more history next legal h gone

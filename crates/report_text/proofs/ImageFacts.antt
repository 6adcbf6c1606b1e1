-- Images of histories: a mapped channel is a whole frame, and one more entry adds its image.
use Rattle.std.proofs.Common.{◌≡◌, ℕ, suc, ◌+◌, ◌<◌, List, [], ◌∷◌, ◌++◌, All, length, take, get_or, Some, ap, sym, subst, ◌∙◌, add-one}
use Rattle.std.specs.Prelude.{slice_get}
use Rattle.std.specs.List.{flat_map}
use Rattle.std.specs.Option.{MatchOption}
use Rattle.std.proofs.Math.Seq.{take-suc}
use Rattle.std.proofs.lemmas.List.{flat_map_more}
use Rattle.std.proofs.lemmas.List.Elements.{All-nil, All-cons}
use Rattle.std.proofs.lemmas.Option.{get_or_from_slice_get, slice_get_within}
use Rattle.dev_types.specs.declared.handles.Channel.{Channel}
use Rattle.picture_model.proofs.PictureSizes.{length-picture}
use Rattle.report_text.specs.Reports.{image_of}
use Rattle.seq_model.proofs.Granted.{given}
use Rattle.seq_model.specs.Answers.{IsLike, mapped_picture}
use Rattle.seq_model.specs.Histories.{History}
use Rattle.seq_model.specs.Legal.{GoesOn, IsInPlace, Legal}
use Rattle.seq_model.specs.Pictures.{picture_at, plane_of, scene_at}
use Rattle.seq_model.specs.Refusals.{phase_at}
use Rattle.seq_model.specs.State.{Phase, Empty, Flight, Done}
use Rattle.seq_model.specs.Steps.{Past, start, step}
use Rattle.seq_model.specs.declared.calls.Call.TheVariants.{MapFrame}
use Rattle.seq_model.specs.declared.calls.Entry.{Entry}
use Rattle.seq_model.specs.declared.calls.Entry.TheVariants.{Called}
use Rattle.seq_model.specs.declared.calls.Reply.{Reply}
use Rattle.seq_model.specs.declared.calls.Reply.TheVariants as reply
use Rattle.report_text.specs.Images.{HasWholeRows}

-- the picture of a frame that is done is whole
picture_is_whole : (past : Past) (actor h : ℕ) (c : Channel) (p : Phase) (r : Reply) →
    MatchOption (mapped_picture past c p) ⊥ (λ a. IsLike a r) → HasWholeRows (Called actor (MapFrame h c) r)
unfolding picture_at
picture_is_whole past actor h c Empty r like = absurd like
picture_is_whole past actor h c (Flight t) r like = absurd like
picture_is_whole past actor h c (Done t) r like =
    subst (λ mapped. HasWholeRows (Called actor (MapFrame h c) mapped)) (sym like) (length-picture (scene_at past.seen t) (plane_of c))

-- an entry in its place maps a whole frame, if it maps one
entry_is_whole : (past : Past) (rest : History) (e : Entry) → IsInPlace past rest e → HasWholeRows e
entry_is_whole past rest (Called actor (MapFrame h c) (reply.Mapped width height kind rows)) placed =
    picture_is_whole past actor h c (phase_at past h) (reply.Mapped width height kind rows)
    (given past (MapFrame h c) (reply.Mapped width height kind rows) placed.0 (λ refused is. cc)).1
entry_is_whole past rest _ placed = tt

entries_are_whole : (past : Past) (readings : List (ℕ × ℕ)) (history : History) → GoesOn past readings history → All HasWholeRows history
unfolding GoesOn
entries_are_whole past readings [] on = All-nil HasWholeRows
entries_are_whole past readings (e ∷ rest) on = All-cons HasWholeRows e rest (entry_is_whole past rest e on.0.placed) (entries_are_whole (step past e) _ rest on.1)

maps_are_whole : (history : History) → Legal history → All HasWholeRows history
unfolding Legal
maps_are_whole history legal = entries_are_whole start [] history legal

-- each channel that a legal history maps is a whole frame
pub map_is_whole : (history : History) → Legal history → (i : ℕ) (e : Entry) → slice_get history i ≡ Some e → HasWholeRows e
map_is_whole history legal i e at =
    subst HasWholeRows (get_or_from_slice_get history i e e at) (maps_are_whole history legal i e (slice_get_within history i e at))

-- the images of the entries so far and that of the next
pub images_next : (history : History) (i : ℕ) (e : Entry) (out new : List ℕ) → slice_get history i ≡ Some e →
    out ≡ flat_map image_of (take i history) → new ≡ out ++ image_of e → new ≡ flat_map image_of (take (i + 1) history)
images_next history i e out new at written grown =
    let within : i < length history = slice_get_within history i e at in
    let same : get_or history i e ≡ e = get_or_from_slice_get history i e e at in
    let next : take (suc i) history ≡ take i history ++ e ∷ [] = take-suc history i e within ∙ ap (λ x. take i history ++ x ∷ []) same in
    grown ∙ ap (λ bytes. bytes ++ image_of e) written ∙ flat_map_more image_of [] (take i history) e
    ∙ ap (flat_map image_of) (sym next) ∙ ap (λ k. flat_map image_of (take k history)) (sym (add-one i))

-- Mapped channels of kept pictures.
use Rattle.std.proofs.Common.{ℕ, ◌+◌, ◌==◌, ◌≡◌, ◌∙◌, inl, inr, not, Bool, true, false, List, [], ◌∷◌, ◌++◌, Option, Some, None, length, refl, sym, ap, arith}
use Rattle.std.specs.Prelude.{cond, nat_lt}
use Rattle.std.specs.List.{AllByRecursion, filter, list_any}
use Rattle.std.specs.Option.{is_some, option_map_or}
use Rattle.std.proofs.lemmas.Bool.{eqb-true}
use Rattle.std.proofs.lemmas.Bool.Decides.{nat_tests}
use Rattle.dev_types.specs.declared.data_types.DataType.{DataType}
use Rattle.dev_types.specs.declared.handles.Channel.{Channel}
use Rattle.dev_types.specs.declared.handles.Channel.TheVariants.{Color, PrimitiveId, ObjectId, InstanceId}
use Rattle.dev_types.specs.declared.refusals.Refused.TheVariants.{ChannelMapped}
use Rattle.frame_future.specs.Channels.{loan_of}
use Rattle.frame_future.specs.Future.{Finished, Future, is_lent, is_mapped, is_picture_of, shown_by}
use Rattle.past_laws.specs.Worlds.{render_of}
use Rattle.seq_model.proofs.Afters.{after_more}
use Rattle.seq_model.proofs.Granted.{AllNone, all_none, does_not_apply, given}
use Rattle.seq_model.proofs.Prefixes.{in_place, legal_by}
use Rattle.seq_model.specs.Histories.{History}
use Rattle.seq_model.specs.Legal.{IsInPlace, Legal}
use Rattle.seq_model.specs.Refusals.{in_flight, is_same_channel, mapped_at, phase_at, refusal, refusals_of, refusals_of_map_frame, refusals_of_render}
use Rattle.seq_model.specs.State.{Object, Phase, Empty, Flight, Done, object_at}
use Rattle.seq_model.specs.Steps.{Past, after, step}
use Rattle.seq_model.specs.declared.calls.Call.TheVariants.{DiscardFrame, MapFrame, RenderFrame, Retain, UnmapFrame}
use Rattle.seq_model.specs.declared.calls.Entry.{Entry}
use Rattle.seq_model.specs.declared.calls.Entry.TheVariants.{Called, Finished as FinishedAt, Left}
use Rattle.seq_model.specs.declared.calls.Reply.TheVariants as reply
use Rattle.device_laws.proofs.ShowingFacts.{shows_after}
use Rattle.device_laws.proofs.StandingFacts.{both, found}
use Rattle.device_laws.proofs.StandingSteps.{all_filtered, phase_over, phase_shown, there_if}
use Rattle.device_laws.specs.Lent.{AreLent, IsLent, loan_in, moves_channels}
use Rattle.device_laws.specs.Showings.{Showing, is_flight, nothing_shown, showing_after, showing_at, showing_of, with_channels, with_phase}
use Rattle.device_laws.specs.Standing.{AreLeft, pictures_left}

-- the mapped channels are what is shown of them
pub mapped_shown : (past : Past) (h : ℕ) → mapped_at past h ≡ (showing_at past.state h).channels
mapped_shown past h = by (object_at past.state h)
  where
    by : (x : Option Object) → option_map_or (λ (o : Object). o.channels) x [] ≡ (option_map_or showing_of x nothing_shown).channels
    by None = refl
    by (Some o) = refl

pub mapped_over : (history : History) (e : Entry) (h : ℕ) → is_some (object_at (after (history ++ e ∷ [])).state h) ≡ true →
    mapped_at (after (history ++ e ∷ [])) h ≡ (showing_after (length history + 1) e h (showing_at (after history).state h)).channels
mapped_over history e h there = mapped_shown (after (history ++ e ∷ [])) h ∙ ap (λ (x : Showing). x.channels) (shows_after history e h there)

-- an entry that moves no channel
phase_keeps : (b : Bool) (phase : Phase) (x : Showing) → (cond b (with_phase phase x) x).channels ≡ x.channels
phase_keeps true phase x = refl
phase_keeps false phase x = refl

same_channels : (place : ℕ) (e : Entry) (h : ℕ) (x : Showing) → moves_channels e ≡ false → (showing_after place e h x).channels ≡ x.channels
same_channels place (Called actor (RenderFrame f) reply.Done) h x none = phase_keeps (f == h) (Flight place) x
same_channels place (Called actor (DiscardFrame f) reply.Done) h x none = phase_keeps (f == h) Empty x
same_channels place (Called actor (MapFrame f c) (reply.Mapped width height kind rows)) h x none = absurd cc
same_channels place (Called actor (UnmapFrame f number) reply.Done) h x none = absurd cc
same_channels place (Called actor (Retain f) r) h x none = refl
same_channels place (FinishedAt t) h x none = phase_keeps (is_flight t x.phase) (Done t) x
same_channels place (Left t) h x none = phase_keeps (is_flight t x.phase) Empty x
same_channels place e h x none = refl

mapped_same : (history : History) (e : Entry) (h : ℕ) → moves_channels e ≡ false → is_some (object_at (after (history ++ e ∷ [])).state h) ≡ true →
    mapped_at (after (history ++ e ∷ [])) h ≡ mapped_at (after history) h
mapped_same history e h none there =
    mapped_over history e h there ∙ same_channels (length history + 1) e h (showing_at (after history).state h) none ∙ sym (mapped_shown (after history) h)

-- so the loans stay
pub lent_where : (history further : History) (p : Finished) → mapped_at (after further) p.frame ≡ mapped_at (after history) p.frame → IsLent history p → IsLent further p
lent_where history further p same lent = record { count = lent.count; loans = λ c. lent.loans c ∙ ap (λ ms. loan_in ms c) (sym same) }

pub others_lent : (history : History) (e : Entry) (left : ℕ → Bool) (pictures : List Finished) → moves_channels e ≡ false → AreLeft history e left →
    AllByRecursion (λ p. phase_at (after history) p.frame ≡ Done p.ticket) pictures → AreLent history pictures → AreLent (history ++ e ∷ []) (pictures_left left pictures)
others_lent history e left pictures none leaves shown lent =
    all_filtered (λ p. (phase_at (after history) p.frame ≡ Done p.ticket) × IsLent history p) (IsLent (history ++ e ∷ [])) (λ p. left p.frame) pictures
    (λ p is stays. lent_where history (history ++ e ∷ []) p
    (mapped_same history e p.frame none (sym (leaves p.frame (there_if (after history) p.frame p.ticket (inl is.0))) ∙ stays)) is.1)
    (both (λ p. phase_at (after history) p.frame ≡ Done p.ticket) (IsLent history) pictures shown lent)

pub fewer_lent : (history : History) (q : Finished → Bool) (pictures : List Finished) → AreLent history pictures → AreLent history (filter q pictures)
fewer_lent history q pictures lent = all_filtered (IsLent history) (IsLent history) q pictures (λ p is passes. is) lent

-- where none is mapped, none is lent
none_lent : (loans : List (Option ℕ)) → length loans ≡ 4 → ((c : Channel) → loan_of loans c ≡ None) → list_any is_some loans ≡ false
none_lent [] long none = absurd (omega (arith, long))
none_lent (a ∷ []) long none = absurd (omega (arith, long))
none_lent (a ∷ b ∷ []) long none = absurd (omega (arith, long))
none_lent (a ∷ b ∷ c ∷ []) long none = absurd (omega (arith, long))
none_lent (a ∷ b ∷ c ∷ d ∷ []) long none =
    let first : a ≡ None = none Color in
    let second : b ≡ None = none PrimitiveId in
    let third : c ≡ None = none ObjectId in
    let fourth : d ≡ None = none InstanceId in
    rw first (rw second (rw third (rw fourth refl)))
none_lent (a ∷ b ∷ c ∷ d ∷ e ∷ loans) long none = absurd (omega (arith, long))

pub nothing_mapped : (history : History) (future : Future) (h : ℕ) → AreLent history future.pictures → mapped_at (after history) h ≡ [] → is_mapped future h ≡ false
nothing_mapped history future h lent none = by (shown_by future h) refl
  where
    by : (x : Option Finished) → shown_by future h ≡ x → option_map_or is_lent x false ≡ false
    by None is = refl
    by (Some p) is =
        let one : IsLent history p × (is_picture_of h p ≡ true) = found (IsLent history) (is_picture_of h) future.pictures p lent is in
        let mapped : mapped_at (after history) p.frame ≡ [] = ap (mapped_at (after history)) (eqb-true p.frame h one.1) ∙ none in
        none_lent p.loans one.0.count (λ c. one.0.loans c ∙ ap (λ ms. loan_in ms c) mapped)

-- what a granted render and a granted map say of their frame
pub no_length : {X : Type 0} (xs : List X) → nat_lt 0 (length xs) ≡ false → xs ≡ []
no_length [] is = refl
no_length (x ∷ xs) is = absurd (let wrong : nat_lt 0 (length (x ∷ xs)) ≡ true = grind (arith, nat_tests) in let no : true ≡ false = sym wrong ∙ is in cc)

render_unmapped : (history : History) (actor f : ℕ) → Legal (history ++ render_of actor f ∷ []) → mapped_at (after history) f ≡ []
unfolding refusal refusals_of
render_unmapped history actor f legal =
    let none : refusal (after history) (RenderFrame f) ≡ None = (given (after history) (RenderFrame f) reply.Done (in_place history (render_of actor f) [] legal).0 (λ refused is. cc)).0 in
    let facts : AllNone (refusals_of_render (after history) f) = all_none (refusals_of_render (after history) f) none in
    no_length (mapped_at (after history) f) (does_not_apply (nat_lt 0 (length (mapped_at (after history) f))) ChannelMapped facts.1.1.1.1.1.0)

-- a reply that hands out a channel
pub record IsMappable (past : Past) (f : ℕ) (c : Channel) : Type 0 where
  pub landed : (t : ℕ) → phase_at past f ≡ Flight t → ⊥
  pub free : list_any (λ m. is_same_channel m.0 c) (mapped_at past f) ≡ false

pub is_mappable : (history : History) (actor f : ℕ) (c : Channel) (width height : ℕ) (t : DataType) (rows : List ℕ) → Legal (history ++ Called actor (MapFrame f c) (reply.Mapped width height t rows) ∷ []) →
    IsMappable (after history) f c
unfolding refusal refusals_of
is_mappable history actor f c width height t rows legal =
    let none : refusal (after history) (MapFrame f c) ≡ None =
    (given (after history) (MapFrame f c) (reply.Mapped width height t rows) (in_place history (Called actor (MapFrame f c) (reply.Mapped width height t rows)) [] legal).0 (λ refused is. cc)).0 in
    let facts : AllNone (refusals_of_map_frame (after history) f c) = all_none (refusals_of_map_frame (after history) f c) none in
    record {
      landed = λ t is. (let wrong : in_flight (after history) (Flight t) ≡ None = ap (in_flight (after history)) (sym is) ∙ facts.1.1.1.0 in cc);
      free = does_not_apply (list_any (λ m. is_same_channel m.0 c) (mapped_at (after history) f)) ChannelMapped facts.1.1.1.1.1.0;
    }

-- a frame in flight has no mapped channel
shows_none : (history : History) (e : Entry) (h t : ℕ) → Legal (history ++ e ∷ []) →
    ((u : ℕ) → (showing_at (after history).state h).phase ≡ Flight u → (showing_at (after history).state h).channels ≡ []) →
    (showing_after (length history + 1) e h (showing_at (after history).state h)).phase ≡ Flight t → (showing_after (length history + 1) e h (showing_at (after history).state h)).channels ≡ []
shows_none history (Called actor (RenderFrame f) reply.Done) h t legal before is = by (f == h) refl is
  where
    by : (b : Bool) → (f == h) ≡ b → (cond b (with_phase (Flight (length history + 1)) (showing_at (after history).state h)) (showing_at (after history).state h)).phase ≡ Flight t →
        (cond b (with_phase (Flight (length history + 1)) (showing_at (after history).state h)) (showing_at (after history).state h)).channels ≡ []
    by true here is = sym (mapped_shown (after history) h) ∙ ap (mapped_at (after history)) (sym (eqb-true f h here)) ∙ render_unmapped history actor f legal
    by false here is = before t is
shows_none history (Called actor (DiscardFrame f) reply.Done) h t legal before is = by (f == h) is
  where
    by : (b : Bool) → (cond b (with_phase Empty (showing_at (after history).state h)) (showing_at (after history).state h)).phase ≡ Flight t →
        (cond b (with_phase Empty (showing_at (after history).state h)) (showing_at (after history).state h)).channels ≡ []
    by true is = absurd cc
    by false is = before t is
shows_none history (Called actor (MapFrame f c) (reply.Mapped width height kind rows)) h t legal before is = by (f == h) refl is
  where
    by : (b : Bool) → (f == h) ≡ b → (cond b (with_channels (λ ms. ms ++ (c, length history + 1) ∷ []) (showing_at (after history).state h)) (showing_at (after history).state h)).phase ≡ Flight t →
        (cond b (with_channels (λ ms. ms ++ (c, length history + 1) ∷ []) (showing_at (after history).state h)) (showing_at (after history).state h)).channels ≡ []
    by true here is =
        absurd ((is_mappable history actor f c width height kind rows legal).landed t (ap (phase_at (after history)) (eqb-true f h here) ∙ phase_shown (after history) h ∙ is))
    by false here is = before t is
shows_none history (Called actor (UnmapFrame f number) reply.Done) h t legal before is = by (f == h) is
  where
    by : (b : Bool) → (cond b (with_channels (λ ms. filter (λ m. not (m.1 == number)) ms) (showing_at (after history).state h)) (showing_at (after history).state h)).phase ≡ Flight t →
        (cond b (with_channels (λ ms. filter (λ m. not (m.1 == number)) ms) (showing_at (after history).state h)) (showing_at (after history).state h)).channels ≡ []
    by true is = ap (λ ms. filter (λ m. not (m.1 == number)) ms) (before t is)
    by false is = before t is
shows_none history (Called actor (Retain f) r) h t legal before is = before t is
shows_none history (FinishedAt u) h t legal before is = by (is_flight u (showing_at (after history).state h).phase) is
  where
    by : (b : Bool) → (cond b (with_phase (Done u) (showing_at (after history).state h)) (showing_at (after history).state h)).phase ≡ Flight t →
        (cond b (with_phase (Done u) (showing_at (after history).state h)) (showing_at (after history).state h)).channels ≡ []
    by true is = absurd cc
    by false is = before t is
shows_none history (Left u) h t legal before is = by (is_flight u (showing_at (after history).state h).phase) is
  where
    by : (b : Bool) → (cond b (with_phase Empty (showing_at (after history).state h)) (showing_at (after history).state h)).phase ≡ Flight t →
        (cond b (with_phase Empty (showing_at (after history).state h)) (showing_at (after history).state h)).channels ≡ []
    by true is = absurd cc
    by false is = before t is
shows_none history e h t legal before is = before t is

nothing_first : (h t : ℕ) → phase_at (after []) h ≡ Flight t → mapped_at (after []) h ≡ []
unfolding after
nothing_first h t is = absurd cc

pub flights_map_nothing : (history : History) → Legal history → (h t : ℕ) → phase_at (after history) h ≡ Flight t → mapped_at (after history) h ≡ []
flights_map_nothing history legal = legal_by (λ past. (h t : ℕ) → phase_at past h ≡ Flight t → mapped_at past h ≡ []) nothing_first more history legal
  where
    more : (history : History) (e : Entry) → Legal (history ++ e ∷ []) → IsInPlace (after history) [] e → ((h t : ℕ) → phase_at (after history) h ≡ Flight t → mapped_at (after history) h ≡ []) →
        (h t : ℕ) → phase_at (step (after history) e) h ≡ Flight t → mapped_at (step (after history) e) h ≡ []
    more history e legal placed before h t is =
        let now : phase_at (after (history ++ e ∷ [])) h ≡ Flight t = ap (λ past. phase_at past h) (after_more history e) ∙ is in
        let there : is_some (object_at (after (history ++ e ∷ [])).state h) ≡ true = there_if (after (history ++ e ∷ [])) h t (inr now) in
        ap (λ past. mapped_at past h) (sym (after_more history e)) ∙ mapped_over history e h there
        ∙ shows_none history e h t legal (λ u flies. sym (mapped_shown (after history) h) ∙ before h u (phase_shown (after history) h ∙ flies)) (sym (phase_over history e h there) ∙ now)

-- the picture that a flight leaves
pub ended_lent : (history : History) (e : Entry) (h t : ℕ) (p : Finished) → Legal history → moves_channels e ≡ false → is_some (object_at (after (history ++ e ∷ [])).state h) ≡ true → phase_at (after history) h ≡ Flight t →
    p.frame ≡ h → p.loans ≡ None ∷ None ∷ None ∷ None ∷ [] → IsLent (history ++ e ∷ []) p
ended_lent history e h t p legal quiet there flies frame loans = record {
  count = ap length loans;
  loans = λ c.
      ap (λ ls. loan_of ls c) loans ∙ none c
      ∙ sym (ap (λ ms. loan_in ms c) (ap (mapped_at (after (history ++ e ∷ []))) frame ∙ mapped_same history e h quiet there ∙ flights_map_nothing history legal h t flies));
}
  where
    none : (c : Channel) → loan_of (None ∷ None ∷ None ∷ None ∷ []) c ≡ None
    none Color = refl
    none PrimitiveId = refl
    none ObjectId = refl
    none InstanceId = refl

-- A channel of a kept picture that is mapped, and one that comes back.
use Rattle.std.proofs.Common.{ℕ, ◌+◌, ◌==◌, ◌≡◌, ◌≤◌, ◌∙◌, inl, Bool, true, false, List, [], ◌∷◌, ◌++◌, Option, Some, None, length, refl, sym, ap, arith}
use Rattle.std.specs.Prelude.{cond, count_by, slice_set, ◌||◌}
use Rattle.std.specs.List.{AllByRecursion, find, list_any}
use Rattle.std.specs.Option.{option_map}
use Rattle.std.proofs.lemmas.Bool.{eqb-true}
use Rattle.dev_types.specs.Channels.{number_of_channel}
use Rattle.dev_types.specs.declared.data_types.DataType.{DataType}
use Rattle.dev_types.specs.declared.handles.Channel.{Channel}
use Rattle.dev_types.specs.declared.handles.Channel.TheVariants.{Color, PrimitiveId, ObjectId, InstanceId}
use Rattle.frame_future.specs.Channels.{loan_of}
use Rattle.frame_future.specs.Future.{Finished, is_picture_of, lent_as, replaced}
use Rattle.seq_model.specs.Histories.{History}
use Rattle.seq_model.specs.Legal.{Legal}
use Rattle.seq_model.specs.Refusals.{is_same_channel, mapped_at, phase_at}
use Rattle.seq_model.specs.State.{Done}
use Rattle.seq_model.specs.Steps.{after}
use Rattle.seq_model.specs.declared.calls.Call.TheVariants.{MapFrame}
use Rattle.seq_model.specs.declared.calls.Entry.{Entry}
use Rattle.seq_model.specs.declared.calls.Entry.TheVariants.{Called}
use Rattle.seq_model.specs.declared.calls.Reply.TheVariants as reply
use Rattle.device_laws.proofs.FutureFacts.{count_next}
use Rattle.device_laws.proofs.LentFacts.{is_mappable, lent_where, mapped_over, mapped_shown}
use Rattle.device_laws.proofs.PhaseFacts.{map_lends}
use Rattle.device_laws.proofs.StandingFacts.{both, found}
use Rattle.device_laws.proofs.StandingSteps.{all_filtered, there_if}
use Rattle.device_laws.specs.Lent.{AreLent, IsLent, loan_in}
use Rattle.device_laws.specs.Showings.{Showing, showing_after, showing_at, with_channels}
use Rattle.device_laws.specs.Standing.{AreLeft, pictures_left}

-- channels are the same where their names are
pub same_is : (c d : Channel) → is_same_channel c d ≡ true → c ≡ d
same_is Color Color is = refl
same_is PrimitiveId PrimitiveId is = refl
same_is ObjectId ObjectId is = refl
same_is InstanceId InstanceId is = refl
same_is Color PrimitiveId is = absurd cc
same_is Color ObjectId is = absurd cc
same_is Color InstanceId is = absurd cc
same_is PrimitiveId Color is = absurd cc
same_is PrimitiveId ObjectId is = absurd cc
same_is PrimitiveId InstanceId is = absurd cc
same_is ObjectId Color is = absurd cc
same_is ObjectId PrimitiveId is = absurd cc
same_is ObjectId InstanceId is = absurd cc
same_is InstanceId Color is = absurd cc
same_is InstanceId PrimitiveId is = absurd cc
same_is InstanceId ObjectId is = absurd cc

-- the loan of one channel is set, and the others stay
set_four : (a b e f v : Option ℕ) (c d : Channel) →
    loan_of (slice_set (a ∷ b ∷ e ∷ f ∷ []) (number_of_channel c) v) d ≡ cond (is_same_channel c d) v (loan_of (a ∷ b ∷ e ∷ f ∷ []) d)
set_four a b e f v Color Color = refl
set_four a b e f v Color PrimitiveId = refl
set_four a b e f v Color ObjectId = refl
set_four a b e f v Color InstanceId = refl
set_four a b e f v PrimitiveId Color = refl
set_four a b e f v PrimitiveId PrimitiveId = refl
set_four a b e f v PrimitiveId ObjectId = refl
set_four a b e f v PrimitiveId InstanceId = refl
set_four a b e f v ObjectId Color = refl
set_four a b e f v ObjectId PrimitiveId = refl
set_four a b e f v ObjectId ObjectId = refl
set_four a b e f v ObjectId InstanceId = refl
set_four a b e f v InstanceId Color = refl
set_four a b e f v InstanceId PrimitiveId = refl
set_four a b e f v InstanceId ObjectId = refl
set_four a b e f v InstanceId InstanceId = refl

count_four : (a b e f v : Option ℕ) (c : Channel) → length (slice_set (a ∷ b ∷ e ∷ f ∷ []) (number_of_channel c) v) ≡ 4
count_four a b e f v Color = refl
count_four a b e f v PrimitiveId = refl
count_four a b e f v ObjectId = refl
count_four a b e f v InstanceId = refl

pub set_loan : (loans : List (Option ℕ)) (v : Option ℕ) (c : Channel) → length loans ≡ 4 →
    (length (slice_set loans (number_of_channel c) v) ≡ 4) × ((d : Channel) → loan_of (slice_set loans (number_of_channel c) v) d ≡ cond (is_same_channel c d) v (loan_of loans d))
set_loan [] v c long = absurd (omega (arith, long))
set_loan (a ∷ []) v c long = absurd (omega (arith, long))
set_loan (a ∷ b ∷ []) v c long = absurd (omega (arith, long))
set_loan (a ∷ b ∷ e ∷ []) v c long = absurd (omega (arith, long))
set_loan (a ∷ b ∷ e ∷ f ∷ []) v c long = (count_four a b e f v c, set_four a b e f v c)
set_loan (a ∷ b ∷ e ∷ f ∷ g ∷ loans) v c long = absurd (omega (arith, long))

-- one mapped channel more
find_other : {X : Type 0} (p : X → Bool) (xs : List X) (y : X) → p y ≡ false → find p (xs ++ y ∷ []) ≡ find p xs
find_other {X} p [] y fails = ap (λ b. cond {A = Option X} b (Some y) None) fails
find_other {X} p (x ∷ xs) y fails = ap (λ rest. cond (p x) (Some x) rest) (find_other p xs y fails)

find_last : {X : Type 0} (p : X → Bool) (xs : List X) (y : X) → list_any p xs ≡ false → p y ≡ true → find p (xs ++ y ∷ []) ≡ Some y
find_last {X} p [] y none passes = ap (λ b. cond {A = Option X} b (Some y) None) passes
find_last {X} p (x ∷ xs) y none passes = by (p x) none (find_last p xs y)
  where
    by : (b : Bool) → (b || list_any p xs) ≡ false → (list_any p xs ≡ false → p y ≡ true → find p (xs ++ y ∷ []) ≡ Some y) → cond b (Some x) (find p (xs ++ y ∷ [])) ≡ Some y
    by true none rest = absurd cc
    by false none rest = rest none passes

loan_more : (ms : List (Channel × ℕ)) (c d : Channel) (n : ℕ) → list_any (λ m. is_same_channel m.0 c) ms ≡ false → loan_in (ms ++ (c, n) ∷ []) d ≡ cond (is_same_channel c d) (Some n) (loan_in ms d)
loan_more ms c d n free = by (is_same_channel c d) refl
  where
    by : (b : Bool) → is_same_channel c d ≡ b → loan_in (ms ++ (c, n) ∷ []) d ≡ cond b (Some n) (loan_in ms d)
    by true is =
        ap (option_map (λ m. m.1))
        (find_last (λ (m : Channel × ℕ). is_same_channel m.0 d) ms (c, n) (ap (λ d. list_any (λ (m : Channel × ℕ). is_same_channel m.0 d) ms) (sym (same_is c d is)) ∙ free) is)
    by false is = ap (option_map (λ m. m.1)) (find_other (λ (m : Channel × ℕ). is_same_channel m.0 d) ms (c, n) is)

-- one picture in another's place
all_not : (p : Finished → Bool) (P Q : Finished → Type 0) (xs : List Finished) → count_by p xs ≤ 0 → ((x : Finished) → p x ≡ false → P x → Q x) → AllByRecursion P xs → AllByRecursion Q xs
all_not p P Q [] none more all = tt
all_not p P Q (x ∷ xs) none more all = by (p x) refl (count_next p x xs) (all_not p P Q xs)
  where
    by : (b : Bool) → p x ≡ b → count_by p (x ∷ xs) ≡ cond (p x) 1 0 + count_by p xs → (count_by p xs ≤ 0 → ((x : Finished) → p x ≡ false → P x → Q x) → AllByRecursion P xs → AllByRecursion Q xs) → Q x × AllByRecursion Q xs
    by true is next rest = absurd (let one : cond {A = ℕ} (p x) 1 0 ≡ 1 = ap (λ b. cond {A = ℕ} b 1 0) is in omega (arith, none, next, one))
    by false is next rest = (more x is all.0, rest (omega (arith, none, next)) more all.1)

pub all_replaced : (p : Finished → Bool) (P Q : Finished → Type 0) (new : Finished) (xs : List Finished) → count_by p xs ≤ 1 → Q new → ((x : Finished) → p x ≡ false → P x → Q x) → AllByRecursion P xs →
    AllByRecursion Q (replaced p new xs)
all_replaced p P Q new [] single is more all = tt
all_replaced p P Q new (x ∷ xs) single is more all = by (p x) refl (count_next p x xs) (all_replaced p P Q new xs)
  where
    by : (b : Bool) → p x ≡ b → count_by p (x ∷ xs) ≡ cond (p x) 1 0 + count_by p xs →
        (count_by p xs ≤ 1 → Q new → ((x : Finished) → p x ≡ false → P x → Q x) → AllByRecursion P xs → AllByRecursion Q (replaced p new xs)) → AllByRecursion Q (cond b (new ∷ xs) (x ∷ replaced p new xs))
    by true passes next rest =
        let one : cond {A = ℕ} (p x) 1 0 ≡ 1 = ap (λ b. cond {A = ℕ} b 1 0) passes in (is, all_not p P Q xs (omega (arith, single, next, one)) more all.1)
    by false fails next rest = (more x fails all.0, rest (omega (arith, single, next)) is more all.1)

-- pictures of other frames, where an entry changes the channels of one
pub other_lent : (history : History) (e : Entry) (f : ℕ) (change : List (Channel × ℕ) → List (Channel × ℕ)) (left : ℕ → Bool) → AreLeft history e left →
    ((h : ℕ) (x : Showing) → showing_after (length history + 1) e h x ≡ cond (f == h) (with_channels change x) x) →
    (q : Finished) → is_picture_of f q ≡ false → (phase_at (after history) q.frame ≡ Done q.ticket) × IsLent history q → left q.frame ≡ true → IsLent (history ++ e ∷ []) q
other_lent history e f change left leaves makes q other is stays =
    lent_where history (history ++ e ∷ []) q
    (mapped_over history e q.frame (sym (leaves q.frame (there_if (after history) q.frame q.ticket (inl is.0))) ∙ stays)
    ∙ ap (λ (x : Showing). x.channels) (makes q.frame (showing_at (after history).state q.frame))
    ∙ ap (λ b. (cond b (with_channels change (showing_at (after history).state q.frame)) (showing_at (after history).state q.frame)).channels) (apart (f == q.frame) refl)
    ∙ sym (mapped_shown (after history) q.frame)) is.1
  where
    apart : (b : Bool) → (f == q.frame) ≡ b → b ≡ false
    apart false is = refl
    apart true is = let wrong : true ≡ false = sym (ap (λ h. h == f) (sym (eqb-true f q.frame is)) ∙ here) ∙ other in absurd cc
      where
        here : (f == f) ≡ true
        here = ap (λ h. f == h) (eqb-true f q.frame is) ∙ is

pub map_lent : (history : History) (actor f : ℕ) (c : Channel) (width height : ℕ) (t : DataType) (rows : List ℕ) (left : ℕ → Bool) (p : Finished) (pictures : List Finished) →
    Legal (history ++ Called actor (MapFrame f c) (reply.Mapped width height t rows) ∷ []) → AreLeft history (Called actor (MapFrame f c) (reply.Mapped width height t rows)) left →
    AllByRecursion (λ p. phase_at (after history) p.frame ≡ Done p.ticket) pictures → count_by (is_picture_of f) pictures ≤ 1 → find (is_picture_of f) pictures ≡ Some p → AreLent history pictures →
    AreLent (history ++ Called actor (MapFrame f c) (reply.Mapped width height t rows) ∷ []) (pictures_left left (replaced (is_picture_of f) (lent_as p c (length history + 1)) pictures))
map_lent history actor f c width height t rows left p pictures legal leaves shown single is_found lent =
    all_filtered (λ q. left q.frame ≡ true → IsLent (history ++ Called actor (MapFrame f c) (reply.Mapped width height t rows) ∷ []) q)
    (IsLent (history ++ Called actor (MapFrame f c) (reply.Mapped width height t rows) ∷ [])) (λ q. left q.frame) (replaced (is_picture_of f) (lent_as p c (length history + 1)) pictures)
    (λ q is stays. is stays)
    (all_replaced (is_picture_of f) (λ q. (phase_at (after history) q.frame ≡ Done q.ticket) × IsLent history q)
    (λ q. left q.frame ≡ true → IsLent (history ++ Called actor (MapFrame f c) (reply.Mapped width height t rows) ∷ []) q) (lent_as p c (length history + 1)) pictures single
    (λ stays. record {
      count = (set_loan p.loans (Some (length history + 1)) c one.0.count).0;
      loans = λ d.
          (set_loan p.loans (Some (length history + 1)) c one.0.count).1 d
          ∙ ap (λ x. cond (is_same_channel c d) (Some (length history + 1)) x) (one.0.loans d ∙ ap (λ h. loan_in (mapped_at (after history) h) d) (eqb-true p.frame f one.1))
          ∙ sym (loan_more (mapped_at (after history) f) c d (length history + 1) (is_mappable history actor f c width height t rows legal).free)
          ∙ sym (ap (λ ms. loan_in ms d) (ap (mapped_at (after (history ++ Called actor (MapFrame f c) (reply.Mapped width height t rows) ∷ []))) (eqb-true p.frame f one.1)
          ∙ map_lends history actor f c width height t rows legal));
    })
    (λ q other is. other_lent history (Called actor (MapFrame f c) (reply.Mapped width height t rows)) f (λ ms. ms ++ (c, length history + 1) ∷ []) left leaves (λ h x. refl) q other is)
    (both (λ p. phase_at (after history) p.frame ≡ Done p.ticket) (IsLent history) pictures shown lent))
  where
    one : IsLent history p × (is_picture_of f p ≡ true)
    one = found (IsLent history) (is_picture_of f) pictures p lent is_found

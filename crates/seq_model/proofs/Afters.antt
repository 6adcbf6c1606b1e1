-- What `after` says of longer histories.
use Rattle.std.proofs.Common.{ℕ, zero, suc, ◌+◌, ◌≡◌, ◌<◌, ◌≤◌, ◌∙◌, ◌⊎◌, inl, inr, List, [], ◌∷◌, ◌++◌, Some, None, refl, sym, ap, subst, append_assoc, length, arith}
use Rattle.std.specs.Prelude.{fold, slice_get}
use Rattle.std.specs.Option.{option_and_then}
use Rattle.std.proofs.lemmas.Bool.{cases_lt}
use Rattle.std.proofs.lemmas.List.{append-nil, take-append-le}
use Rattle.std.proofs.Math.Seq.{take-length}
use Rattle.std.proofs.lemmas.List.Sums.{fold-append, fold_push}
use Rattle.seq_model.specs.Histories.{History, before, entry_at, frame_at, rendered}
use Rattle.seq_model.specs.Pictures.{state_before}
use Rattle.seq_model.specs.Steps.{Past, after, start, step}
use Rattle.seq_model.specs.declared.calls.Entry.{Entry}

pub after_more : (history : History) (e : Entry) → after (history ++ e ∷ []) ≡ step (after history) e
unfolding after
after_more history e = fold_push step start history e

-- what comes after a past
pub after_both : (history further : History) → after (history ++ further) ≡ fold step (after history) further
unfolding after
after_both history further = fold-append step start history further

-- what was seen after a past
pub seen_from : (past : Past) (rest : History) → (fold step past rest).seen ≡ past.seen ++ rest
unfolding step
seen_from past [] = sym (append-nil past.seen)
seen_from past (e ∷ rest) = seen_from (step past e) rest ∙ append_assoc past.seen (e ∷ []) rest

pub seen_is_history : (history : History) → (after history).seen ≡ history
unfolding after
seen_is_history history = seen_from start history

-- what holds at the start, and is kept by each entry, holds after every history
pub after_by : (P : Past → Type 0) → P start → ((past : Past) (e : Entry) → P past → P (step past e)) → (history : History) → P (after history)
unfolding after
after_by P first more history = from start first history
  where
    from : (past : Past) → P past → (rest : History) → P (fold step past rest)
    from past now [] = now
    from past now (e ∷ rest) = from (step past e) (more past e now) rest

-- what each entry keeps is kept by a history
pub keeps_by : (P : Past → Type 0) → ((past : Past) (e : Entry) → P past → P (step past e)) → (past : Past) (rest : History) → P past → P (fold step past rest)
keeps_by P more past [] now = now
keeps_by P more past (e ∷ rest) now = keeps_by P more (step past e) rest (more past e now)

-- what holds of no entry, and of one entry more, holds of every history
pub grows_by : (P : History → Type 0) → P [] → ((history : History) (e : Entry) → P history → P (history ++ e ∷ [])) → (history : History) → P history
grows_by P first more history = from [] first history
  where
    from : (done : History) → P done → (rest : History) → P (done ++ rest)
    from done now [] = subst P (sym (append-nil done)) now
    from done now (e ∷ rest) = subst P (append_assoc done (e ∷ []) rest) (from (done ++ e ∷ []) (more done e now) rest)

-- what a history has at a place stays there
slice_get_early : {X : Type 0} (xs ys : List X) (i : ℕ) → i < length xs → slice_get (xs ++ ys) i ≡ slice_get xs i
slice_get_early [] ys i less = absurd (omega (arith, less))
slice_get_early (x ∷ xs) ys zero less = refl
slice_get_early (x ∷ xs) ys (suc i) less = slice_get_early xs ys i (omega (arith, less))

slice_get_seam : {X : Type 0} (xs : List X) (y : X) → slice_get (xs ++ y ∷ []) (length xs) ≡ Some y
slice_get_seam [] y = refl
slice_get_seam (x ∷ xs) y = slice_get_seam xs y

slice_get_late : {X : Type 0} (xs : List X) (i : ℕ) → length xs ≤ i → slice_get xs i ≡ None
slice_get_late [] i less = refl
slice_get_late (x ∷ xs) zero less = absurd (omega (arith, less))
slice_get_late (x ∷ xs) (suc i) less = slice_get_late xs i (omega (arith, less))

pub entry_early : (history further : History) (place : ℕ) → place ≤ length history → entry_at (history ++ further) place ≡ entry_at history place
entry_early history further zero less = refl
entry_early history further (suc i) less = slice_get_early history further i (omega (arith, less))

pub entry_last : (history : History) (e : Entry) → entry_at (history ++ e ∷ []) (length history + 1) ≡ Some e
entry_last history e =
    let next : length history + 1 ≡ suc (length history) = omega arith in
    ap (entry_at (history ++ e ∷ [])) next ∙ slice_get_seam history e

pub entry_late : (history : History) (place : ℕ) → length history < place → entry_at history place ≡ None
entry_late history zero less = refl
entry_late history (suc i) less = slice_get_late history i (omega (arith, less))

pub frame_early : (history further : History) (place : ℕ) → place ≤ length history → frame_at (history ++ further) place ≡ frame_at history place
unfolding frame_at
frame_early history further place less = ap (option_and_then rendered) (entry_early history further place less)

pub frame_last : (history : History) (e : Entry) → frame_at (history ++ e ∷ []) (length history + 1) ≡ rendered e
unfolding frame_at
frame_last history e = ap (option_and_then rendered) (entry_last history e)

pub frame_late : (history : History) (place : ℕ) → length history < place → frame_at history place ≡ None
unfolding frame_at
frame_late history place less = ap (option_and_then rendered) (entry_late history place less)

pub frame_within : (history : History) (place f : ℕ) → frame_at history place ≡ Some f → (0 < place) × (place ≤ length history)
unfolding frame_at
frame_within history zero f found = let none : None ≡ Some f = found in absurd cc
frame_within history (suc i) f found = (omega arith, by (cases_lt i (length history)))
  where
    by : (i < length history) ⊎ (length history ≤ i) → suc i ≤ length history
    by (inl less) = omega (arith, less)
    by (inr more) =
        let none : None ≡ Some f = sym (ap (option_and_then rendered) (slice_get_late history i more)) ∙ found in absurd cc

-- what stood before a place too
pub before_early : (history further : History) (place : ℕ) → place ≤ length history + 1 → before (history ++ further) place ≡ before history place
before_early history further zero less = refl
before_early history further (suc i) less = take-append-le i history further (omega (arith, less))

pub before_next : (history : History) → before history (length history + 1) ≡ history
before_next history =
    let next : length history + 1 ≡ suc (length history) = omega arith in
    ap (before history) next ∙ take-length history

pub state_early : (history further : History) (place : ℕ) → place ≤ length history + 1 → state_before (history ++ further) place ≡ state_before history place
unfolding state_before
state_early history further place less = ap (λ (h : History). (after h).state) (before_early history further place less)

pub state_next : (history : History) → state_before history (length history + 1) ≡ (after history).state
unfolding state_before
state_next history = ap (λ (h : History). (after h).state) (before_next history)

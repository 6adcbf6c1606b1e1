-- Legal histories: their prefixes are legal, and when one more entry may follow.
use Rattle.std.proofs.Common.{ℕ, ◌≡◌, ◌∙◌, ◌⊎◌, inl, inr, Bool, true, false, not, List, [], ◌∷◌, ◌++◌, IsTrue, refl, sym, ap, subst, append_assoc}
use Rattle.std.specs.Prelude.{◌||◌, fold}
use Rattle.std.specs.List.{list_any}
use Rattle.std.proofs.lemmas.Bool.{and_from, and_parts, not-true, not_from_false, or_cases, or_left, or_parts, or_right}
use Rattle.std.proofs.lemmas.List.{append-nil}
use Rattle.std.proofs.lemmas.List.Folds.{list_any-append}
use Rattle.seq_model.proofs.Afters.{after_more}
use Rattle.seq_model.specs.Extensions.{let_follow, let_follow_from, lets_follow, readings_from, readings_of}
use Rattle.seq_model.specs.Histories.{History}
use Rattle.seq_model.specs.Legal.{GoesOn, IsInPlace, IsNext, Legal, is_called, reading, with_reading}
use Rattle.seq_model.specs.Life.{has}
use Rattle.seq_model.specs.Steps.{Past, after, start, step}
use Rattle.seq_model.specs.declared.calls.Entry.{Entry}
use Rattle.seq_model.specs.declared.calls.Entry.TheVariants.{Called, Finished, Left, Closed}

-- where no call follows, none follows for a while
no_call_in_part : (first rest : History) → not (list_any is_called (first ++ rest)) ≡ true → not (list_any is_called first) ≡ true
no_call_in_part first rest none =
    let all : (list_any is_called first || list_any is_called rest) ≡ false = sym (list_any-append is_called first rest) ∙ not-true (list_any is_called (first ++ rest)) none in
    not_from_false (list_any is_called first) (or_parts (list_any is_called first) (list_any is_called rest) all).0

no_call_in_rest : (first rest : History) → not (list_any is_called (first ++ rest)) ≡ true → not (list_any is_called rest) ≡ true
no_call_in_rest first rest none =
    let all : (list_any is_called first || list_any is_called rest) ≡ false = sym (list_any-append is_called first rest) ∙ not-true (list_any is_called (first ++ rest)) none in
    not_from_false (list_any is_called rest) (or_parts (list_any is_called first) (list_any is_called rest) all).1

empty_part : (first rest : History) → first ++ rest ≡ [] → first ≡ []
empty_part [] rest is = refl
empty_part (e ∷ first) rest is = absurd cc

-- an entry in its place before a rest is so before the beginning of this rest
place_before_less : (past : Past) (rest further : History) (e : Entry) → IsInPlace past (rest ++ further) e → IsInPlace past rest e
place_before_less past rest further (Called actor call r) placed = placed
place_before_less past rest further (Finished t) placed = placed
place_before_less past rest further (Left t) (inl stopped) = inl stopped
place_before_less past rest further (Left t) (inr flies) = inr (flies.0, no_call_in_part rest further flies.1)
place_before_less past rest further Closed placed = (empty_part rest further placed.0, placed.1)

-- and before a longer rest where it lets the last one follow
place_before_more : (past : Past) (rest : History) (next e : Entry) → IsInPlace past rest e → lets_follow past e next ≡ true → IsInPlace past (rest ++ next ∷ []) e
place_before_more past rest next (Called actor call r) placed lets = placed
place_before_more past rest next (Finished t) placed lets = placed
place_before_more past rest next (Left t) (inl stopped) lets = inl stopped
place_before_more past rest next (Left t) (inr flies) lets = by (or_cases (has t past.state.stopped) (not (is_called next)) lets)
  where
    by : (has t past.state.stopped ≡ true) ⊎ (not (is_called next) ≡ true) → IsInPlace past (rest ++ next ∷ []) (Left t)
    by (inl stopped) = inl stopped
    by (inr note) =
        let none : list_any is_called rest ≡ false = not-true (list_any is_called rest) flies.1 in
        let last : is_called next ≡ false = not-true (is_called next) note in
        let all : list_any is_called (rest ++ next ∷ []) ≡ false = list_any-append is_called rest (next ∷ []) ∙ ap (λ t. t || list_any is_called (next ∷ [])) none ∙ ap (λ t. t || false) last in
        inr (flies.0, not_from_false (list_any is_called (rest ++ next ∷ [])) all)
place_before_more past rest next Closed placed lets = absurd cc

-- what follows was let follow
follows_by_leave : (past : Past) (rest : History) (next e : Entry) → IsInPlace past (rest ++ next ∷ []) e → lets_follow past e next ≡ true
follows_by_leave past rest next (Called actor call r) placed = refl
follows_by_leave past rest next (Finished t) placed = refl
follows_by_leave past rest next (Left t) (inl stopped) = or_left (has t past.state.stopped) (not (is_called next)) stopped
follows_by_leave past rest next (Left t) (inr flies) = or_right (has t past.state.stopped) (not (is_called next)) (last (is_called next) (no_call_in_rest rest (next ∷ []) flies.1))
  where
    last : (t : Bool) → not (t || false) ≡ true → not t ≡ true
    last true is = is
    last false is = refl
follows_by_leave past [] next Closed placed = let none : next ∷ [] ≡ [] = placed.0 in absurd cc
follows_by_leave past (e ∷ rest) next Closed placed = let none : e ∷ (rest ++ next ∷ []) ≡ [] = placed.0 in absurd cc

-- the beginning of what goes on goes on
pub goes_on_less : (past : Past) (readings : List (ℕ × ℕ)) (first further : History) → GoesOn past readings (first ++ further) → GoesOn past readings first
unfolding GoesOn
goes_on_less past readings [] further goes = tt
goes_on_less past readings (e ∷ first) further goes = (
  record { placed = place_before_less past first further e goes.0.placed; rising = goes.0.rising },
  goes_on_less (step past e) (with_reading (reading past e) readings) first further goes.1,
)

-- with one more entry
pub goes_on_more : (past : Past) (readings : List (ℕ × ℕ)) (first : History) (e : Entry) → GoesOn past readings first →
    IsNext (fold step past first) (readings_from past readings first) e [] → let_follow_from past first e ≡ true → GoesOn past readings (first ++ e ∷ [])
unfolding GoesOn let_follow_from readings_from
goes_on_more past readings [] e goes next lets = (next, tt)
goes_on_more past readings (x ∷ first) e goes next lets =
    let both : (lets_follow past x e ≡ true) × (let_follow_from (step past x) first e ≡ true) = and_parts (lets_follow past x e) (let_follow_from (step past x) first e) lets in (
      record { placed = place_before_more past first e x goes.0.placed both.0; rising = goes.0.rising },
      goes_on_more (step past x) (with_reading (reading past x) readings) first e goes.1 next both.1,
    )

-- what stands in its midst
pub next_in_midst : (past : Past) (readings : List (ℕ × ℕ)) (first : History) (e : Entry) (rest : History) → GoesOn past readings (first ++ e ∷ rest) →
    IsNext (fold step past first) (readings_from past readings first) e rest
unfolding GoesOn readings_from
next_in_midst past readings [] e rest goes = goes.0
next_in_midst past readings (x ∷ first) e rest goes = next_in_midst (step past x) (with_reading (reading past x) readings) first e rest goes.1

pub was_let_follow : (past : Past) (readings : List (ℕ × ℕ)) (first : History) (e : Entry) → GoesOn past readings (first ++ e ∷ []) → let_follow_from past first e ≡ true
unfolding GoesOn let_follow_from
was_let_follow past readings [] e goes = refl
was_let_follow past readings (x ∷ first) e goes =
    and_from (lets_follow past x e) (let_follow_from (step past x) first e) (follows_by_leave past first e x goes.0.placed)
    (was_let_follow (step past x) (with_reading (reading past x) readings) first e goes.1)

pub prefix_is_legal : (history further : History) → Legal (history ++ further) → Legal history
unfolding Legal
prefix_is_legal history further legal = goes_on_less start [] history further legal

pub extension_is_legal : (history : History) (e : Entry) → Legal history → IsNext (after history) (readings_of history) e [] → IsTrue (let_follow history e) → Legal (history ++ e ∷ [])
unfolding Legal after let_follow readings_of
extension_is_legal history e legal next lets = goes_on_more start [] history e legal next lets

pub last_is_next : (history : History) (e : Entry) → Legal (history ++ e ∷ []) → IsNext (after history) (readings_of history) e []
unfolding Legal after readings_of
last_is_next history e legal = next_in_midst start [] history e [] legal

pub last_was_let_follow : (history : History) (e : Entry) → Legal (history ++ e ∷ []) → IsTrue (let_follow history e)
unfolding Legal let_follow
last_was_let_follow history e legal = was_let_follow start [] history e legal

-- an entry of a legal history is in its place
pub in_place : (history : History) (e : Entry) (rest : History) → Legal (history ++ e ∷ rest) → IsInPlace (after history) rest e
unfolding Legal after
in_place history e rest legal = (next_in_midst start [] history e rest legal).placed

-- what each entry in its place keeps holds after each legal history
pub legal_by : (P : Past → Type 0) → P (after []) → ((history : History) (e : Entry) → Legal (history ++ e ∷ []) → IsInPlace (after history) [] e → P (after history) → P (step (after history) e)) →
    (history : History) → Legal history → P (after history)
legal_by P first more history legal = from [] history legal first
  where
    from : (done rest : History) → Legal (done ++ rest) → P (after done) → P (after (done ++ rest))
    from done [] legal now = subst (λ (h : History). P (after h)) (sym (append-nil done)) now
    from done (e ∷ rest) legal now =
        let joined : (done ++ e ∷ []) ++ rest ≡ done ++ e ∷ rest = append_assoc done (e ∷ []) rest in
        let here : Legal (done ++ e ∷ []) = prefix_is_legal (done ++ e ∷ []) rest (subst Legal (sym joined) legal) in
        subst (λ (h : History). P (after h)) joined
        (from (done ++ e ∷ []) rest (subst Legal (sym joined) legal) (subst P (sym (after_more done e)) (more done e here (in_place done e [] here) now)))

-- What may follow a history with one more entry, and what its replies told.
use Rattle.std.proofs.Common.{ℕ, ◌≡◌, ◌⊎◌, inl, inr, not, true, false, List, [], ◌∷◌, ◌++◌, refl, subst}
use Rattle.std.specs.Prelude.{fold}
use Rattle.std.proofs.lemmas.Bool.{and_from, and_parts, or_cases, or_left}
use Rattle.seq_model.specs.Extensions.{let_follow, let_follow_from, lets_follow, readings_from, readings_of}
use Rattle.seq_model.specs.Histories.{History}
use Rattle.seq_model.specs.Legal.{is_called, reading, with_reading}
use Rattle.seq_model.specs.Life.{has}
use Rattle.seq_model.specs.Steps.{Past, after, start, step}
use Rattle.seq_model.specs.declared.calls.Call.{Call}
use Rattle.seq_model.specs.declared.calls.Call.TheVariants.{Retain}
use Rattle.seq_model.specs.declared.calls.Entry.{Entry}
use Rattle.seq_model.specs.declared.calls.Entry.TheVariants.{Called, Finished, Left, Closed}
use Rattle.seq_model.specs.declared.calls.Reply.{Reply}
use Rattle.seq_model.specs.declared.calls.Reply.TheVariants as reply
use Rattle.past_laws.specs.Open.{IsOpen}

-- what a history with one more entry lets follow, and what its replies told
follow_from_more : (past : Past) (rest : History) (e next : Entry) → let_follow_from past rest next ≡ true → lets_follow (fold step past rest) e next ≡ true → let_follow_from past (rest ++ e ∷ []) next ≡ true
unfolding let_follow_from
follow_from_more past [] e next before last = and_from (lets_follow past e next) true last refl
follow_from_more past (x ∷ rest) e next before last =
    let both : (lets_follow past x next ≡ true) × (let_follow_from (step past x) rest next ≡ true) = and_parts (lets_follow past x next) (let_follow_from (step past x) rest next) before in
    and_from (lets_follow past x next) (let_follow_from (step past x) (rest ++ e ∷ []) next) both.0 (follow_from_more (step past x) rest e next both.1 last)

pub follow_more : (history : History) (e next : Entry) → let_follow history next ≡ true → lets_follow (after history) e next ≡ true → let_follow (history ++ e ∷ []) next ≡ true
unfolding let_follow after
follow_more history e next before last = follow_from_more start history e next before last

readings_from_more : (past : Past) (readings : List (ℕ × ℕ)) (rest : History) (e : Entry) →
    readings_from past readings (rest ++ e ∷ []) ≡ with_reading (reading (fold step past rest) e) (readings_from past readings rest)
unfolding readings_from
readings_from_more past readings [] e = refl
readings_from_more past readings (x ∷ rest) e = readings_from_more (step past x) (with_reading (reading past x) readings) rest e

pub readings_more : (history : History) (e : Entry) → readings_of (history ++ e ∷ []) ≡ with_reading (reading (after history) e) (readings_of history)
unfolding readings_of after
readings_more history e = readings_from_more start [] history e

-- what lets a call follow lets a note follow
note_lets : (past : Past) (x : Entry) (e : Entry) → lets_follow past x (Called 0 (Retain 0) reply.Done) ≡ true → lets_follow past x e ≡ true
note_lets past (Called actor call r) e lets = refl
note_lets past (Finished t) e lets = refl
note_lets past (Left t) e lets = by (or_cases (has t past.state.stopped) false lets)
  where
    by : (has t past.state.stopped ≡ true) ⊎ (false ≡ true) → lets_follow past (Left t) e ≡ true
    by (inl stopped) = or_left (has t past.state.stopped) (not (is_called e)) stopped
    by (inr none) = absurd cc
note_lets past Closed e lets = absurd cc

lets_from : (past : Past) (rest : History) (e : Entry) → let_follow_from past rest (Called 0 (Retain 0) reply.Done) ≡ true → let_follow_from past rest e ≡ true
unfolding let_follow_from
lets_from past [] e lets = refl
lets_from past (x ∷ rest) e lets =
    let both : (lets_follow past x (Called 0 (Retain 0) reply.Done) ≡ true) × (let_follow_from (step past x) rest (Called 0 (Retain 0) reply.Done) ≡ true) =
    and_parts (lets_follow past x (Called 0 (Retain 0) reply.Done)) (let_follow_from (step past x) rest (Called 0 (Retain 0) reply.Done)) lets in
    and_from (lets_follow past x e) (let_follow_from (step past x) rest e) (note_lets past x e both.0) (lets_from (step past x) rest e both.1)

-- an open device lets every entry follow
pub open_lets : (history : History) (e : Entry) → IsOpen history → let_follow history e ≡ true
unfolding let_follow
open_lets history e open_ = lets_from start history e (open_ 0 (Retain 0) reply.Done)

-- what leaves an open device open
pub called_is_open : (past : Past) → IsOpen past.seen → (actor : ℕ) (call : Call) (r : Reply) → IsOpen (past.seen ++ Called actor call r ∷ [])
called_is_open past open_ actor call r further next answer = follow_more past.seen (Called actor call r) (Called further next answer) (open_ further next answer) refl

pub finished_is_open : (past : Past) (t : ℕ) → IsOpen past.seen → IsOpen (past.seen ++ Finished t ∷ [])
finished_is_open past t open_ further next answer = follow_more past.seen (Finished t) (Called further next answer) (open_ further next answer) refl

pub left_is_open : (past : Past) (t : ℕ) → past ≡ after past.seen → IsOpen past.seen → has t past.state.stopped ≡ true → IsOpen (past.seen ++ Left t ∷ [])
left_is_open past t led open_ stopped further next answer =
    follow_more past.seen (Left t) (Called further next answer) (open_ further next answer)
    (subst (λ (p : Past). lets_follow p (Left t) (Called further next answer) ≡ true) led (or_left (has t past.state.stopped) false stopped))

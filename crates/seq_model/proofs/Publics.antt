-- How public counts move, and that nothing is held that is not there.
use Rattle.std.proofs.Common.{ℕ, ◌+◌, ◌-◌, ◌==◌, ◌≡◌, ◌≤◌, Bool, true, false, [], ◌∷◌, ◌++◌, None, refl, subst, arith}
use Rattle.std.specs.Prelude.{cond, count_by}
use Rattle.std.proofs.lemmas.Bool.{cond-false, cond-true, eqb-false, eqb-true}
use Rattle.std.proofs.lemmas.List.Sums.{sum_by_push}
use Rattle.dev_types.specs.declared.refusals.Refused.TheVariants.{NotHeld}
use Rattle.seq_model.proofs.Afters.{seen_is_history}
use Rattle.seq_model.proofs.Granted.{AllNone, all_none, does_not_apply, given}
use Rattle.seq_model.proofs.Prefixes.{in_place, prefix_is_legal}
use Rattle.seq_model.proofs.Afters.{grows_by}
use Rattle.seq_model.specs.Histories.{History, is_making, is_releasing, is_retaining, public}
use Rattle.seq_model.specs.Legal.{Legal}
use Rattle.seq_model.specs.Refusals.{own, refusal, refusals_of}
use Rattle.seq_model.specs.Steps.{Past, after}
use Rattle.seq_model.specs.declared.calls.Call.TheVariants.{Retain, Release}
use Rattle.seq_model.specs.declared.calls.Entry.{Entry}
use Rattle.seq_model.specs.declared.calls.Entry.TheVariants.{Called, Finished, Left, Closed}
use Rattle.seq_model.specs.declared.calls.Reply.TheVariants as reply

-- the three counts
abbrev made : ℕ → History → ℕ
made h history = count_by (is_making h) history

abbrev retained : ℕ → History → ℕ
retained h history = count_by (is_retaining h) history

abbrev released : ℕ → History → ℕ
released h history = count_by (is_releasing h) history

-- 1 where a test passes
abbrev one_if : Bool → ℕ
one_if t = cond t 1 0

made_more : (h : ℕ) (history : History) (e : Entry) → made h (history ++ e ∷ []) ≡ made h history + one_if (is_making h e)
made_more h history e = sum_by_push (λ x. cond (is_making h x) 1 0) history e

retained_more : (h : ℕ) (history : History) (e : Entry) → retained h (history ++ e ∷ []) ≡ retained h history + one_if (is_retaining h e)
retained_more h history e = sum_by_push (λ x. cond (is_retaining h x) 1 0) history e

released_more : (h : ℕ) (history : History) (e : Entry) → released h (history ++ e ∷ []) ≡ released h history + one_if (is_releasing h e)
released_more h history e = sum_by_push (λ x. cond (is_releasing h x) 1 0) history e

public_is : (history : History) (h : ℕ) → public history h ≡ made h history + retained h history - released h history
unfolding public
public_is history h = refl

-- a release that was done had something to release
held_before : (past : Past) (h : ℕ) → refusal past (Release h) ≡ None → 1 ≤ public past.seen h
unfolding refusal refusals_of
held_before past h none =
    let facts : AllNone (own past h) = all_none (own past h) none in
    let held : (public past.seen h == 0) ≡ false = does_not_apply (public past.seen h == 0) (NotHeld h) facts.1.0 in
    by (public past.seen h) held
  where
    by : (n : ℕ) → (n == 0) ≡ false → 1 ≤ n
    by n is = let apart : n ≡ 0 → ⊥ = eqb-false n 0 is in omega (arith, apart)

releases_one : (history : History) (e : Entry) (h : ℕ) → Legal (history ++ e ∷ []) → is_releasing h e ≡ true → 1 ≤ public history h
releases_one history (Called actor (Release k) reply.Done) h legal is =
    let same : k ≡ h = eqb-true k h is in
    let held : 1 ≤ public (after history).seen k = held_before (after history) k (given (after history) (Release k) reply.Done (in_place history (Called actor (Release k) reply.Done) [] legal).0 (λ refused is. cc)).0 in
    subst (λ k. 1 ≤ public history k) same (subst (λ seen. 1 ≤ public seen k) (seen_is_history history) held)
releases_one history (Called actor (Release k) (reply.Made made)) h legal is = absurd cc
releases_one history (Called actor (Release k) _) h legal is = absurd cc
releases_one history (Called actor (Retain k) r) h legal is = absurd cc
releases_one history (Called actor _ r) h legal is = absurd cc
releases_one history (Finished t) h legal is = absurd cc
releases_one history (Left t) h legal is = absurd cc
releases_one history Closed h legal is = absurd cc

-- so there are never more releases than references
pub releases_within : (h : ℕ) (history : History) → Legal history → released h history ≤ made h history + retained h history
releases_within h history = grows_by (λ history. Legal history → released h history ≤ made h history + retained h history) (λ legal. omega arith) more history
  where
    more : (history : History) (e : Entry) → (Legal history → released h history ≤ made h history + retained h history) →
        Legal (history ++ e ∷ []) → released h (history ++ e ∷ []) ≤ made h (history ++ e ∷ []) + retained h (history ++ e ∷ [])
    more history e now legal = by (is_releasing h e) refl
      where
        before : released h history ≤ made h history + retained h history
        before = now (prefix_is_legal history (e ∷ []) legal)

        by : (t : Bool) → is_releasing h e ≡ t → released h (history ++ e ∷ []) ≤ made h (history ++ e ∷ []) + retained h (history ++ e ∷ [])
        by true is =
            let one : one_if (is_releasing h e) ≡ 1 = cond-true (is_releasing h e) 1 0 is in
            let held : 1 ≤ public history h = releases_one history e h legal is in
            omega (arith, made_more h history e, retained_more h history e, released_more h history e, one, held, public_is history h)
        by false is =
            let none : one_if (is_releasing h e) ≡ 0 = cond-false (is_releasing h e) 1 0 is in
            omega (arith, made_more h history e, retained_more h history e, released_more h history e, none, before)

-- so the public count moves by what the entry does
pub public_moves : (history : History) (e : Entry) (h : ℕ) → Legal (history ++ e ∷ []) →
    public (history ++ e ∷ []) h + cond (is_releasing h e) 1 0 ≡ public history h + cond (is_making h e) 1 0 + cond (is_retaining h e) 1 0
public_moves history e h legal =
    let before : released h history ≤ made h history + retained h history = releases_within h history (prefix_is_legal history (e ∷ []) legal) in
    let now : released h (history ++ e ∷ []) ≤ made h (history ++ e ∷ []) + retained h (history ++ e ∷ []) = releases_within h (history ++ e ∷ []) legal in
    omega (arith, made_more h history e, retained_more h history e, released_more h history e, before, now, public_is history h, public_is (history ++ e ∷ []) h)

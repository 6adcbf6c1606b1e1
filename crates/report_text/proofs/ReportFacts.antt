-- Reports that grow: one more entry adds its line, and one more counts where it is meant.
use mir.Val.{bool_byte}
use Rattle.std.proofs.Common.{◌≡◌, ℕ, suc, ◌+◌, ◌<◌, Bool, true, false, List, [], ◌∷◌, ◌++◌, length, take, get_or, Some, ap, sym, ◌∙◌, add-one, append_assoc, arith}
use Rattle.std.specs.Prelude.{slice_get, count_by}
use Rattle.std.proofs.Math.Seq.{take-suc}
use Rattle.std.proofs.lemmas.List.{append-nil, length-take-le}
use Rattle.std.proofs.lemmas.List.Sums.{count_by_more_no, count_by_more_yes}
use Rattle.std.proofs.lemmas.Option.{get_or_from_slice_get, slice_get_within}
use Rattle.ppm_out.specs.Lines.{line}
use Rattle.report_text.specs.Reports.{entry_text, lines_from}
use Rattle.seq_model.specs.Histories.{History}
use Rattle.seq_model.specs.declared.calls.Entry.{Entry}

-- the lines of entries and of one more
lines_more : (place : ℕ) (entries : History) (e : Entry) →
    lines_from place (entries ++ e ∷ []) ≡ lines_from place entries ++ line (place + length entries) (entry_text e)
lines_more place [] e = let here : place + 0 ≡ place = omega arith in append-nil (line place (entry_text e)) ∙ ap (λ k. line k (entry_text e)) (sym here)
lines_more place (first ∷ entries) e =
    let later : place + 1 + length entries ≡ place + length (first ∷ entries) = omega arith in
    ap (λ rest. line place (entry_text first) ++ rest)
    (lines_more (place + 1) entries e ∙ ap (λ k. lines_from (place + 1) entries ++ line k (entry_text e)) later)
    ∙ sym (append_assoc (line place (entry_text first)) (lines_from (place + 1) entries) (line (place + length (first ∷ entries)) (entry_text e)))

-- the lines of the entries so far and that of the next
pub lines_next : (history : History) (i : ℕ) (e : Entry) (out new : List ℕ) → slice_get history i ≡ Some e →
    out ≡ lines_from 1 (take i history) → new ≡ out ++ line (i + 1) (entry_text e) → new ≡ lines_from 1 (take (i + 1) history)
lines_next history i e out new at written grown =
    let within : i < length history = slice_get_within history i e at in
    let same : get_or history i e ≡ e = get_or_from_slice_get history i e e at in
    let next : take (suc i) history ≡ take i history ++ e ∷ [] = take-suc history i e within ∙ ap (λ x. take i history ++ x ∷ []) same in
    let place : i + 1 ≡ 1 + length (take i history) = omega (arith, length-take-le i history (omega arith)) in
    grown ∙ ap (λ bytes. bytes ++ line (i + 1) (entry_text e)) written
    ∙ ap (λ k. lines_from 1 (take i history) ++ line k (entry_text e)) place
    ∙ sym (lines_more 1 (take i history) e) ∙ ap (lines_from 1) (sym next) ∙ ap (λ k. lines_from 1 (take k history)) (sym (add-one i))

-- one more is counted where it passes the test
pub counted_next : {X : Type 0} (test : X → Bool) (xs : List X) (i : ℕ) (x : X) (b : Bool) (count : ℕ) → slice_get xs i ≡ Some x → b ≡ test x →
    count ≡ count_by test (take i xs) → count + bool_byte b ≡ count_by test (take (i + 1) xs)
counted_next test xs i x true count at is counted =
    let within : i < length xs = slice_get_within xs i x at in
    let passes : test (get_or xs i x) ≡ true = ap test (get_or_from_slice_get xs i x x at) ∙ sym is in
    ap (λ n. n + 1) counted ∙ sym (count_by_more_yes test xs i x within passes)
counted_next test xs i x false count at is counted =
    let within : i < length xs = slice_get_within xs i x at in
    let fails : test (get_or xs i x) ≡ false = ap test (get_or_from_slice_get xs i x x at) ∙ sym is in
    let none : count + 0 ≡ count = omega arith in
    none ∙ counted ∙ sym (count_by_more_no test xs i x within fails)

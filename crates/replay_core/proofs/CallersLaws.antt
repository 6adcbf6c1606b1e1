-- The callers of a phase, whose passes are joined: each makes its calls at places of its own.
use Rattle.std.proofs.Common.{◌≡◌, ◌∙◌, ◌+◌, ◌≤◌, ℕ, suc, List, [], ◌∷◌, ◌++◌, Any, ap, arith, inl, inr, length, refl, ⊎_elim}
use mathlib.Core.Logic.{dite}
use native.Mathlib.Decide.{ℕ_discrete}
use Rattle.dev_types.specs.Counting.{times}
use Rattle.replay_core.specs.Follows.{PhaseCaller}
use Rattle.replay_core.specs.Runs.{EachMakesAt, Has, MakesAt, RanCaller, RanCallers}
use Rattle.replay_core.specs.declared.bindings.Binding.{Binding}
use Rattle.seq_model.specs.Histories.{History}
use Rattle.trace_text.specs.declared.calls.Caller.{Caller}
use Rattle.turn_lock.proofs.PlaceLaws.{extends-length, extends-later, rising-wider, times-merged}
use Rattle.turn_lock.specs.Histories.{AreRising, Extends, merged}

-- what a caller did is known in whatever is seen later
pub ran_later : (caller : PhaseCaller) (c : Caller) (seen : History) (mine : List ℕ) (seen1 seen' : History) (mine1 : List ℕ) (own : List Binding)
    → Extends seen1 seen' → RanCaller caller c.calls seen mine seen1 mine1 own → RanCaller caller c.calls seen mine seen' mine1 own
ran_later caller c seen mine seen1 seen' mine1 own later ran = record {
  at = ran.at;
  mine_is = ran.mine_is;
  rising = rising-wider (length seen) (length seen) (length seen1) (length seen') ran.at (omega arith) (extends-length seen1 seen' later) ran.rising;
  makes = λ history longer. ran.makes history (extends-later seen1 seen' history later longer);
}

none_make : (phase : ℕ) (known : List Binding) (history : History) (low high number : ℕ) → EachMakesAt phase known history low high number [] [] []
unfolding EachMakesAt
none_make phase known history low high number = (refl, refl)

one_makes : (phase : ℕ) (known : List Binding) (history : History) (low high number : ℕ) (caller : Caller) (callers : List Caller) (at : List ℕ) (rest : List (List ℕ)) (own others : List Binding)
    → AreRising low high at
    → MakesAt (record { phase = phase; number = number; known = known }) history caller.calls [] [] at own
    → EachMakesAt phase known history low high (number + 1) callers rest others
    → EachMakesAt phase known history low high number (caller ∷ callers) (at ∷ rest) (own ++ others)
unfolding EachMakesAt
one_makes phase known history low high number caller callers at rest own others rising makes each = (at, rest, own, others, refl, refl, rising, makes, each)

each_wider : (phase : ℕ) (known : List Binding) (history : History) (low high high' number : ℕ) (callers : List Caller) (each : List (List ℕ)) (bound : List Binding)
    → high ≤ high' → EachMakesAt phase known history low high number callers each bound → EachMakesAt phase known history low high' number callers each bound
unfolding EachMakesAt
each_wider phase known history low high high' number [] each bound le makes = makes
each_wider phase known history low high high' number (caller ∷ callers) each bound le (at, rest, own, others, each_is, bound_is, rising, makes, more) = (
  at,
  rest,
  own,
  others,
  each_is,
  bound_is,
  rising-wider low low high high' at (omega arith) le rising,
  makes,
  each_wider phase known history low high high' (number + 1) callers rest others le more,
)

-- no callers ran
pub ran_none : (phase : ℕ) (known : List Binding) (number : ℕ) (seen : History) (mine : List ℕ) → RanCallers phase known number [] seen mine seen mine []
ran_none phase known number seen mine = record {
  each = [];
  makes = λ history longer. none_make phase known history (length seen) (length seen) number;
  covers = λ p has. inl has;
}

any_here : (p : ℕ) (at : List ℕ) (each : List (List ℕ)) → Has p at → Any (Has p) (at ∷ each)
any_here p at each has = (0, at, omega arith, refl, has)

any_there : (p : ℕ) (at : List ℕ) (each : List (List ℕ)) → Any (Has p) each → Any (Has p) (at ∷ each)
any_there p at each has = (suc has.0, has.1, omega (arith, has.2), has.3, has.4)

-- a caller ran beside others, with a pass that was split off, and the passes were joined
pub ran_more : (phase : ℕ) (known : List Binding) (number : ℕ) (caller : Caller) (callers : List Caller) (seen : History) (mine : List ℕ) (seen1 seen2 seen' : History) (mine1 mine2 mine' : List ℕ) (own others : List Binding)
    → Extends seen1 seen' → Extends seen2 seen' → mine' ≡ merged mine2 mine1
    → RanCaller (record { phase = phase; number = number; known = known }) caller.calls seen [] seen1 mine1 own
    → RanCallers phase known (number + 1) callers seen mine seen2 mine2 others
    → RanCallers phase known number (caller ∷ callers) seen mine seen' mine' (own ++ others)
ran_more phase known number caller callers seen mine seen1 seen2 seen' mine1 mine2 mine' own others later1 later2 mine_is ran rest = record {
  each = ran.at ∷ rest.each;
  makes = λ history longer. one_makes phase known history (length seen) (length seen') number caller callers ran.at rest.each own others
      (rising-wider (length seen) (length seen) (length seen1) (length seen') ran.at (omega arith) (extends-length seen1 seen' later1) ran.rising)
      (ran.makes history (extends-later seen1 seen' history later1 longer))
      (each_wider phase known history (length seen) (length seen2) (length seen') (number + 1) callers rest.each others (extends-length seen2 seen' later2)
      (rest.makes history (extends-later seen2 seen' history later2 longer)));
  covers = λ p has.
      let counts = ap (times p) mine_is ∙ times-merged p mine2 mine1 in
      dite (ℕ_discrete (times p mine2) 0)
      (λ none. inr (any_here p ran.at rest.each (omega (arith, has, counts, none, ap (times p) ran.mine_is))))
      (λ some. ⊎_elim (λ (x : Has p mine). inl x) (λ (x : Any (Has p) rest.each). inr (any_there p ran.at rest.each x)) (rest.covers p (omega (arith, some))));
}

-- the callers ran beside a pass with which nothing was called, and the passes were joined
pub ran_beside : (phase : ℕ) (known : List Binding) (number : ℕ) (callers : List Caller) (seen : History) (mine : List ℕ) (seen2 seen' : History) (mine1 mine2 mine' : List ℕ) (bound : List Binding)
    → Extends seen2 seen' → mine' ≡ merged mine2 mine1 → mine1 ≡ []
    → RanCallers phase known number callers seen mine seen2 mine2 bound → RanCallers phase known number callers seen mine seen' mine' bound
ran_beside phase known number callers seen mine seen2 seen' mine1 mine2 mine' bound later mine_is none rest = record {
  each = rest.each;
  makes = λ history longer. each_wider phase known history (length seen) (length seen2) (length seen') number callers rest.each bound (extends-length seen2 seen' later)
      (rest.makes history (extends-later seen2 seen' history later longer));
  covers = λ p has. rest.covers p (omega (arith, has, ap (times p) mine_is ∙ times-merged p mine2 mine1, ap (times p) none));
}

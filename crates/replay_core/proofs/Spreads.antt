-- Elements at a stride, one after the other.
use Rattle.std.proofs.Common.{ℕ, ◌+◌, ◌-◌, ◌==◌, ◌<◌, ◌≡◌, ◌∙◌, Bool, true, false, List, [], ◌∷◌, ◌++◌, refl, sym, ap, append_assoc, length, get_or, drop, arith, length-drop}
use Rattle.std.specs.Prelude.{cond}
use Rattle.std.proofs.lemmas.Bool.{eq-eqb, eqb-true}
use Rattle.std.proofs.lemmas.List.{append-nil, drop_all, drop_more}
use Rattle.replay_core.specs.Labels.{spread}
use Rattle.seq_model.specs.Steps.{zeros}

-- what is added for an element before the rest
abbrev pub added : ℕ → List ℕ → Bool → List ℕ
added stride part is_last = part ++ cond is_last [] (zeros (stride - length part))

one_more : (stride : ℕ) (part : List ℕ) (rest : List (List ℕ)) (is_last : Bool) → (is_last ≡ true → rest ≡ []) → (is_last ≡ false → rest ≡ [] → ⊥) →
    spread stride (part ∷ rest) ≡ added stride part is_last ++ spread stride rest
one_more stride part [] true last more = sym (append-nil (part ++ []) ∙ append-nil part)
one_more stride part [] false last more = absurd (more refl refl)
one_more stride part (next ∷ rest) true last more = let none : next ∷ rest ≡ [] = last refl in absurd cc
one_more stride part (next ∷ rest) false last more = refl

last_is_false : (i n : ℕ) → (i + 1 == n) ≡ false → i + 1 ≡ n → ⊥
last_is_false i n is same = let yes : (i + 1 == n) ≡ true = eq-eqb (i + 1) n same in cc

pub spread_more : (stride : ℕ) (parts : List (List ℕ)) (i n : ℕ) (part bytes new all : List ℕ) → i < n → length parts ≡ n → get_or parts i [] ≡ part →
    new ≡ bytes ++ added stride part (i + 1 == n) → bytes ++ spread stride (drop i parts) ≡ all → new ++ spread stride (drop (i + 1) parts) ≡ all
spread_more stride parts i n part bytes new all below len at grown so_far =
    ap (λ bs. bs ++ spread stride (drop (i + 1) parts)) grown
    ∙ append_assoc bytes (added stride part (i + 1 == n)) (spread stride (drop (i + 1) parts))
    ∙ ap (λ bs. bytes ++ bs) (sym (one_more stride part (drop (i + 1) parts) (i + 1 == n) last more))
    ∙ ap (λ (p : List ℕ). bytes ++ spread stride (p ∷ drop (i + 1) parts)) (sym at)
    ∙ ap (λ (ps : List (List ℕ)). bytes ++ spread stride ps) (sym (drop_more parts i [] (omega (arith, below, len))))
    ∙ so_far
  where
    last : (i + 1 == n) ≡ true → drop (i + 1) parts ≡ []
    last is = let same : i + 1 ≡ n = eqb-true (i + 1) n is in drop_all (i + 1) parts (omega (arith, same, len))

    more : (i + 1 == n) ≡ false → drop (i + 1) parts ≡ [] → ⊥
    more is none =
        let left : length (drop (i + 1) parts) ≡ 0 = ap length none in
        let same : i + 1 ≡ n = omega (arith, left, length-drop (i + 1) parts, len, below) in
        last_is_false i n is same

pub spread_all : (stride : ℕ) (parts : List (List ℕ)) (i : ℕ) (bytes all : List ℕ) → length parts ≡ i → bytes ++ spread stride (drop i parts) ≡ all → bytes ≡ all
spread_all stride parts i bytes all len so_far =
    sym (append-nil bytes) ∙ ap (λ (ps : List (List ℕ)). bytes ++ spread stride ps) (sym (drop_all i parts (omega (arith, len)))) ∙ so_far

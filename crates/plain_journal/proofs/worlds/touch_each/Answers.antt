use Rattle.std.proofs.Common.{ℕ, zero, suc, ◌+◌, ◌≡◌, ◌∙◌, List, [], ◌∷◌, ◌++◌, refl, ap, get_or, set, map, take, drop, arith}
use Rattle.past_laws.specs.Worlds.{Use, touched_by}
use Rattle.plain_journal.proofs.worlds.touch_each.Goals as goal

told_next : {X : Type 0} (f : X → X) (xs : List X) (i : ℕ) (d : X) →
    set (map f (take i xs) ++ drop i xs) i (f (get_or (map f (take i xs) ++ drop i xs) i d)) ≡ map f (take (suc i) xs) ++ drop (suc i) xs
told_next f [] zero d = refl
told_next f [] (suc i) d = refl
told_next f (x ∷ xs) zero d = refl
told_next f (x ∷ xs) (suc i) d = ap (λ rest. f x ∷ rest) (told_next f xs i d)

told_one : (h : ℕ) (xs items : List (ℕ × Use)) (i : ℕ) (d new : ℕ × Use) → items ≡ map (λ entry. (entry.0, touched_by h entry.1)) (take i xs) ++ drop i xs →
    new ≡ ((get_or items i d).0, touched_by h (get_or items i d).1) →
    set items i new ≡ map (λ entry. (entry.0, touched_by h entry.1)) (take (i + 1) xs) ++ drop (i + 1) xs
told_one h xs items i d new is told =
    let next : suc i ≡ i + 1 = omega arith in
    ap (set items i) told ∙
    ap (λ (items : List (ℕ × Use)). set items i ((get_or items i d).0, touched_by h (get_or items i d).1)) is ∙
    told_next (λ (entry : ℕ × Use). (entry.0, touched_by h entry.1)) xs i d ∙
    ap (λ n. map (λ entry. (entry.0, touched_by h entry.1)) (take n xs) ++ drop n xs) next

pub loop-used-preserved : goal.loop-used-preserved
loop-used-preserved c =
    told_one c.args.h c.args.uses.now.items c.loop-used.used-items c.loop-used.used-index c.used-item.result c.touch.new.self c.loop-used.invariant c.touch.ensures
